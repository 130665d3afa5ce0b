use Rattle.office_run.proofs.CommandTexts.{command_at-begins, begins-command_at}
use Rattle.office_run.proofs.laws.commands_are_read_as_spelled.Goals as goal

pub returns : goal.returns
returns c bytes command rest = (begins-command_at bytes command rest, command_at-begins bytes command rest)
