use Rattle.std.proofs.Common.{sym, ◌∙◌}
use Rattle.command_desk.specs.MadeReply.{command_of}
use Rattle.office_run.proofs.CommandTexts.{command_at-parts, lawful-command_at}
use Rattle.office_run.proofs.command.first_command.Goals as goal

pub returns-clause-lawful : goal.returns-clause-lawful
returns-clause-lawful c =
    let bytes = c.args.bytes.now in
    let read = command_at-parts bytes c.line_at.result.0.now c.line_at.result.1.now c.in_ok-line.line c.line_at.ensures.line (sym c.read.ensures.line ∙ c.in_ok-line.was) in
    lawful-command_at (λ x. (command_of x.0, x.1.now)) c.command_of_line.result bytes (c.command_of_line.ensures.command ∙ sym read)
