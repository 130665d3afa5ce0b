use Rattle.std.proofs.Common.{rules, false, ap}
use Rattle.board.specs.declared.front.Front.{Front}
use Rattle.board.proofs.Seats.{looks_as, pass_made}
use Rattle.board.proofs.board.Board.load.Goals as goal

pub load-word-requires : goal.load-word-requires
load-word-requires g c = (search rules, search rules, looks_as g.T.Booked.lawful _ _ _ false _ _ _ _ c.pass.invariant.0)

pub invariant_of-pass : goal.invariant_of-pass
invariant_of-pass g c = pass_made g.T.Booked.lawful false _ _ _ _ _ _ _ _ c.pass.invariant.0 (ap (λ (f : Front). f.count) c.shown_by-front.ensures) c.load-word.ensures.2
