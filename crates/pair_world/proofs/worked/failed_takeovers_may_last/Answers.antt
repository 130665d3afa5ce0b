use Rattle.pair_world.proofs.WorkedRuns.{change_lost, change_lasted}
use Rattle.pair_world.proofs.worked.failed_takeovers_may_last.Goals as goal

pub returns-clause-change_lost : goal.returns-clause-change_lost
returns-clause-change_lost g c = change_lost g.L.Entries.due g.L.Entries.form

pub returns-clause-change_lasted : goal.returns-clause-change_lasted
returns-clause-change_lasted g c = change_lasted g.L.Entries.due g.L.Entries.form
