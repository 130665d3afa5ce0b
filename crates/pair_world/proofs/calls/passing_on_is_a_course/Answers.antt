use Rattle.pair_world.proofs.Passing.{acked_runs, cut_runs, behind_runs, stale_runs}
use Rattle.pair_world.proofs.calls.passing_on_is_a_course.Goals as goal

pub returns-clause-acked : goal.returns-clause-acked
returns-clause-acked g c bounds w k end reg can store is = acked_runs g.L.Entries.due g.L.Entries.form bounds w k reg can store end is

pub returns-clause-cut : goal.returns-clause-cut
returns-clause-cut g c bounds w k reg can store is = cut_runs g.L.Entries.due g.L.Entries.form bounds w k reg can store is

pub returns-clause-behind : goal.returns-clause-behind
returns-clause-behind g c bounds w k reg can behind = behind_runs g.L.Entries.due g.L.Entries.form bounds w k reg can behind

pub returns-clause-stale : goal.returns-clause-stale
returns-clause-stale g c bounds w k reg can = stale_runs g.L.Entries.due g.L.Entries.form bounds w k reg can
