use Rattle.office_commands.proofs.CommandLines.{line_of-spelled, spelled-line_of}
use Rattle.office_commands.proofs.laws.command_lines_are_read_as_spelled.Goals as goal

pub returns : goal.returns
returns c text line = (spelled-line_of text line, line_of-spelled text line)
