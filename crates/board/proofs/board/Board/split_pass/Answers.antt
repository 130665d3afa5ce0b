use Rattle.std.proofs.Common.{rules}
use Rattle.board.specs.declared.view.Role.TheVariants.{Reads}
use Rattle.board.proofs.Seats.{copies_as}
use Rattle.board.proofs.board.Board.split_pass.Goals as goal

pub split_seat-seat-requires : goal.split_seat-seat-requires
split_seat-seat-requires g c = (search rules, search rules, copies_as g.T.Booked.lawful _ Reads _ _ _ tt c.pass.invariant.0)
