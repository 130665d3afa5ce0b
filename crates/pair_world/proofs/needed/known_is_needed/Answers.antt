use Rattle.pair_world.proofs.OtherParts.{known_later_others}
use Rattle.pair_world.proofs.NeededRuns.{known_later_runs}
use Rattle.pair_world.proofs.needed.known_is_needed.Goals as goal

pub returns-clause-known_later : goal.returns-clause-known_later
returns-clause-known_later g c first stray d = known_later_others g.L.Entries.due first stray d

pub returns-clause-known_later_runs : goal.returns-clause-known_later_runs
returns-clause-known_later_runs g c first stray = known_later_runs g.L.Entries.due g.L.Entries.form first stray
