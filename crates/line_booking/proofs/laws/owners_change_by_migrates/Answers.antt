use Rattle.line_booking.proofs.LineRows.{owner_changes}
use Rattle.line_booking.proofs.laws.owners_change_by_migrates.Goals as goal

pub returns : goal.returns
returns c = λ ranges table most company bytes tn old new small held then differ. owner_changes ranges table most company bytes tn old held new small then differ
