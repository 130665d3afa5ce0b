use Rattle.generated_script.proofs.Commands.{street_is}
use Rattle.generated_script.proofs.street.street_command.Goals as goal

pub returns-clause-lawful : goal.returns-clause-lawful
returns-clause-lawful c = street_is c.args.street c.requires.0 c.requires.1
