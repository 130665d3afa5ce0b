use Rattle.line_booking.proofs.LineRows.{locked_stays}
use Rattle.line_booking.proofs.laws.locked_rows_stay.Goals as goal

pub returns : goal.returns
returns c = locked_stays
