use Rattle.pair_world.proofs.OtherParts.{not_due_others}
use Rattle.pair_world.proofs.NeededRuns.{not_due_runs, not_due_breaks}
use Rattle.pair_world.proofs.needed.booked_is_needed.Goals as goal

pub returns-clause-not_due : goal.returns-clause-not_due
returns-clause-not_due g c e = not_due_others g.L.Entries.due e

pub returns-clause-not_due_runs : goal.returns-clause-not_due_runs
returns-clause-not_due_runs g c e = not_due_runs g.L.Entries.due g.L.Entries.form e

pub returns-clause-not_due_breaks : goal.returns-clause-not_due_breaks
returns-clause-not_due_breaks g c e = not_due_breaks g.L.Entries.due e
