use Rattle.std.proofs.Common.{rules, true, ap}
use Rattle.board.specs.declared.front.Front.{Front}
use Rattle.board.specs.declared.view.Role.TheVariants.{Reads}
use Rattle.board.proofs.Seats.{joins_as, beside_is, looks_as, pass_made}
use Rattle.board.proofs.board.Board.join.Goals as goal

pub join_seat-requires : goal.join_seat-requires
join_seat-requires g c = (search rules, search rules, search rules, search rules, joins_as g.T.Booked.lawful _ _ Reads _ _ _ _ _ _ tt c.one.invariant.0 c.other.invariant.0)

pub load-word-requires : goal.load-word-requires
load-word-requires g c = (search rules, search rules, looks_as g.T.Booked.lawful _ _ _ true _ _ _ _ (beside_is g.T.Booked.lawful Reads _ _ _ _ _ _ _ c.one.invariant.0 c.other.invariant.0 c.join_seat.ensures.2))

pub invariant_of-result : goal.invariant_of-result
invariant_of-result g c =
    let compares = beside_is g.T.Booked.lawful Reads _ _ _ _ _ _ _ c.one.invariant.0 c.other.invariant.0 c.join_seat.ensures.2 in
    pass_made g.T.Booked.lawful true _ _ _ _ _ _ _ _ compares (ap (λ (f : Front). f.count) c.shown_by.ensures) c.load-word.ensures.2
