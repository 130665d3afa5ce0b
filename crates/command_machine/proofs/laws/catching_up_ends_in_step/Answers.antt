use Rattle.command_machine.proofs.CaughtUp.{catches_up, told_in_step}
use Rattle.command_machine.proofs.laws.catching_up_ends_in_step.Goals as goal

pub returns-clause-complete : goal.returns-clause-complete
returns-clause-complete c m now told lawful can none steps = catches_up m now told lawful can none steps

pub returns-clause-in_step : goal.returns-clause-in_step
returns-clause-in_step c m now len lawful steps = told_in_step m now len lawful steps
