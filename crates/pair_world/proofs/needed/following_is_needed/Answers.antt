use Rattle.pair_world.proofs.OtherParts.{young_suffix_others}
use Rattle.pair_world.proofs.NeededRuns.{young_suffix_runs}
use Rattle.pair_world.proofs.needed.following_is_needed.Goals as goal

pub returns-clause-young_suffix : goal.returns-clause-young_suffix
returns-clause-young_suffix g c e = young_suffix_others g.L.Entries.due e

pub returns-clause-young_suffix_runs : goal.returns-clause-young_suffix_runs
returns-clause-young_suffix_runs g c e = young_suffix_runs g.L.Entries.due g.L.Entries.form e
