use Rattle.pair_world.proofs.OtherParts.{not_stored_others}
use Rattle.pair_world.proofs.NeededRuns.{not_stored_loses}
use Rattle.pair_world.proofs.needed.acknowledged_is_needed.Goals as goal

pub returns-clause-not_stored : goal.returns-clause-not_stored
returns-clause-not_stored g c e d = not_stored_others g.L.Entries.due e d

pub returns-clause-not_stored_loses : goal.returns-clause-not_stored_loses
returns-clause-not_stored_loses g c e = not_stored_loses g.L.Entries.due g.L.Entries.form e
