use Rattle.pair_world.proofs.OtherParts.{not_mirrored_others}
use Rattle.pair_world.proofs.NeededRuns.{not_mirrored_loses}
use Rattle.pair_world.proofs.needed.mirrored_is_needed.Goals as goal

pub returns-clause-not_mirrored : goal.returns-clause-not_mirrored
returns-clause-not_mirrored g c e d = not_mirrored_others g.L.Entries.due e d

pub returns-clause-not_mirrored_loses : goal.returns-clause-not_mirrored_loses
returns-clause-not_mirrored_loses g c e = not_mirrored_loses (Unit {0}) g.L.Entries.due e
