use Rattle.pair_world.proofs.OtherParts.{agreement_follows}
use Rattle.pair_world.proofs.NeededRuns.{not_agreeing_loses}
use Rattle.pair_world.proofs.needed.agreement_follows.Goals as goal

pub returns-clause-agreement : goal.returns-clause-agreement
returns-clause-agreement g c w both alone = agreement_follows w both alone

pub returns-clause-not_agreeing : goal.returns-clause-not_agreeing
returns-clause-not_agreeing g c e f apart = not_agreeing_loses g.L.Entries.due g.L.Entries.form e f apart
