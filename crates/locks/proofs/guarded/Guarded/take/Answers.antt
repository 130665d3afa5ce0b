use Rattle.std.proofs.Common.{rules}
use Rattle.locks.proofs.SlotSteps.{takes_it}
use Rattle.locks.proofs.guarded.Guarded.take.Goals as goal

pub swap_new_seat-found-requires : goal.swap_new_seat-found-requires
swap_new_seat-found-requires g c = (search rules, takes_it g.T.OfBoard.board _ _)
