use Rattle.command_desk.specs.MadeReply.{table_of}
use Rattle.command_desk.proofs.ToldRefused.{told_none}
use Rattle.command_desk.proofs.desk.Desk.refused_lines.Goals as goal

pub returns-in_default : goal.returns-in_default
returns-in_default g c =
    told_none (table_of c.args.self.now) c.args.self.now.job c.args.told.now c.in_default.not-Complete c.in_default.not-Finished
