use Rattle.pair_world.proofs.SoundSteps.{step_alike, fault_comes_from, fault_is_sound}
use Rattle.pair_world.proofs.laws.faults_come_from_steps.Goals as goal

pub returns-clause-alike : goal.returns-clause-alike
returns-clause-alike g c bounds w event done choice s does = step_alike g.L.Entries.due bounds w s event done does choice

pub returns-clause-origin : goal.returns-clause-origin
returns-clause-origin g c bounds w v event choice s failed = fault_comes_from g.L.Entries.due bounds w s event v failed choice

pub returns-clause-parts : goal.returns-clause-parts
returns-clause-parts g c bounds w v event choice s failed = (fault_is_sound g.L.Entries.due bounds w s event v failed).parts choice
