use Rattle.line_booking.proofs.LineRows.{unlocks, new_locked}
use Rattle.line_booking.proofs.laws.owners_unlock.Goals as goal

pub returns-clause-day : goal.returns-clause-day
returns-clause-day c = λ ranges table most company bytes tn old new held then differ some. unlocks ranges table most company bytes tn old held new then differ some

pub returns-clause-new : goal.returns-clause-new
returns-clause-new c = new_locked
