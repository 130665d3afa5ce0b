use Rattle.std.proofs.Common.{rules}
use Rattle.board.specs.declared.view.Role.TheVariants.{Writes, Reads}
use Rattle.board.proofs.Seats.{copies_as, copy_is, joins_as, beside_is, meets_as, met_is, main_made}
use Rattle.board.proofs.board.Board.meet.Goals as goal

pub split_seat-copy-requires : goal.split_seat-copy-requires
split_seat-copy-requires g c = (search rules, search rules, copies_as g.T.Booked.lawful _ Reads _ _ _ tt c.pass.invariant.0)

pub join_seat-requires : goal.join_seat-requires
join_seat-requires g c =
    let copy = copy_is g.T.Booked.lawful Reads _ _ _ _ c.pass.invariant.0 c.split_seat-copy.ensures.4 in
    (search rules, search rules, search rules, search rules, joins_as g.T.Booked.lawful _ _ Writes _ _ _ _ _ _ tt c.main.invariant.0 copy)

pub load-requires : goal.load-requires
load-requires g c =
    let copy = copy_is g.T.Booked.lawful Reads _ _ _ _ c.pass.invariant.0 c.split_seat-copy.ensures.4 in
    (search rules, search rules, meets_as g.T.Booked.lawful _ _ _ _ _ _ _ (beside_is g.T.Booked.lawful Writes _ _ _ _ _ _ _ c.main.invariant.0 copy c.join_seat.ensures.2))

pub invariant_of-main : goal.invariant_of-main
invariant_of-main g c =
    let copy = copy_is g.T.Booked.lawful Reads _ _ _ _ c.pass.invariant.0 c.split_seat-copy.ensures.4 in
    let now = met_is g.T.Booked.lawful _ c.load.new.seat.me _ _ _ _ (beside_is g.T.Booked.lawful Writes _ _ _ _ _ _ _ c.main.invariant.0 copy c.join_seat.ensures.2) c.load.ensures.2.0 in
    main_made g.T.Booked.lawful _ _ c.main.inside.duty _ now c.main.invariant.1 c.main.invariant.2 c.main.invariant.3
