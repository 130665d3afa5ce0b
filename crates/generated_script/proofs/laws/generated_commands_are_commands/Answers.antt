use Rattle.generated_script.proofs.Commands.{all_commands}
use Rattle.generated_script.proofs.laws.generated_commands_are_commands.Goals as goal

pub returns : goal.returns
returns c seed count some most = all_commands seed count most
