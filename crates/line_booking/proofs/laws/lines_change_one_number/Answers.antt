use Rattle.line_booking.proofs.LineRows.{other_rows}
use Rattle.line_booking.proofs.laws.lines_change_one_number.Goals as goal

pub returns : goal.returns
returns c = other_rows
