use Rattle.pair_world.proofs.OtherParts.{high_floor_others}
use Rattle.pair_world.proofs.NeededRuns.{high_floor_loses}
use Rattle.pair_world.proofs.needed.floored_is_needed.Goals as goal

pub returns-clause-high_floor : goal.returns-clause-high_floor
returns-clause-high_floor g c e d = high_floor_others g.L.Entries.due e d

pub returns-clause-high_floor_loses : goal.returns-clause-high_floor_loses
returns-clause-high_floor_loses g c e = high_floor_loses g.L.Entries.due g.L.Entries.form e
