use Rattle.command_machine.proofs.Undoubted.{one_step}
use Rattle.command_machine.proofs.laws.undoubted_machines_answer_one_way.Goals as goal

pub returns : goal.returns
returns c = one_step
