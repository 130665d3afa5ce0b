use Rattle.pair_world.proofs.OtherParts.{not_current_others}
use Rattle.pair_world.proofs.NeededRuns.{not_current_runs, stray_breaks}
use Rattle.pair_world.proofs.needed.current_is_needed.Goals as goal

pub returns-clause-not_current : goal.returns-clause-not_current
returns-clause-not_current g c first stray d = not_current_others g.L.Entries.due first stray d

pub returns-clause-not_current_runs : goal.returns-clause-not_current_runs
returns-clause-not_current_runs g c first stray = not_current_runs g.L.Entries.due g.L.Entries.form first stray

pub returns-clause-stray_breaks : goal.returns-clause-stray_breaks
returns-clause-stray_breaks g c first stray = stray_breaks g.L.Entries.due first stray
