use Rattle.std.proofs.Common.{rules}
use Rattle.board.specs.declared.view.Role.TheVariants.{Writes}
use Rattle.board.proofs.Seats.{copies_as}
use Rattle.board.proofs.board.Board.split.Goals as goal

pub split_seat-seat-requires : goal.split_seat-seat-requires
split_seat-seat-requires g c = (search rules, search rules, copies_as g.T.Booked.lawful _ Writes _ _ _ tt c.main.invariant.0)
