use Rattle.std.proofs.Common.{ap, refl, subst, sym}
use Rattle.command_desk.specs.MadeReply.{Carries, command_of}
use Rattle.command_desk.proofs.Commanded.{carried_alone}
use Rattle.command_desk.proofs.desk.Desk.carry_out.Goals as goal
use Rattle.office_commands.specs.Commands as commands

pub returns-in-Ask-clause-carries : goal.returns-in-Ask-clause-carries
returns-in-Ask-clause-carries g c =
    carried_alone g.D.Disk.state c.args.self.now c.answer.new.self (commands.Ask c.in-Ask.ask.node c.in-Ask.ask.position c.in-Ask.ask.tn c.in-Ask.ask.since) (command_of c.args.command.now) c.answer.result c.alone.result
    (record { ends = λ m told. refl; told = λ m told. refl }) (ap command_of c.in-Ask.is) c.alone.ensures c.answer.ensures.leads

pub returns-in-Report-clause-carries : goal.returns-in-Report-clause-carries
returns-in-Report-clause-carries g c =
    carried_alone g.D.Disk.state c.args.self.now c.report.new.self (commands.Report c.in-Report.node c.in-Report.report) (command_of c.args.command.now) c.report.result c.alone-in-Report.result
    (record { ends = λ m told. refl; told = λ m told. refl }) (ap command_of c.in-Report.is) c.alone-in-Report.ensures c.report.ensures.leads

pub returns-in-File-clause-carries : goal.returns-in-File-clause-carries
returns-in-File-clause-carries g c =
    carried_alone g.D.Disk.state c.args.self.now c.read.new.self (commands.File c.in-File.content.now) (command_of c.args.command.now) c.read.result c.alone-in-File.result
    (record { ends = λ m told. refl; told = λ m told. refl }) (ap command_of c.in-File.is) c.alone-in-File.ensures c.read.ensures.leads

pub returns-in-Edit-clause-carries : goal.returns-in-Edit-clause-carries
returns-in-Edit-clause-carries g c =
    carried_alone g.D.Disk.state c.args.self.now c.read_edit.new.self (commands.Edit c.in-Edit.editor c.in-Edit.serial c.in-Edit.edit) (command_of c.args.command.now) c.read_edit.result c.alone-in-Edit.result
    (record { ends = λ m told. refl; told = λ m told. refl }) (ap command_of c.in-Edit.is) c.alone-in-Edit.ensures c.read_edit.ensures.leads

pub returns-in-Write-clause-carries : goal.returns-in-Write-clause-carries
returns-in-Write-clause-carries g c =
    carried_alone g.D.Disk.state c.args.self.now c.write_command.new.self (commands.Write c.in-Write.node) (command_of c.args.command.now) c.write_command.result c.alone-in-Write.result
    (record { ends = λ m told. refl; told = λ m told. refl }) (ap command_of c.in-Write.is) c.alone-in-Write.ensures c.write_command.ensures.leads

pub returns-in-Order-clause-carries : goal.returns-in-Order-clause-carries
returns-in-Order-clause-carries g c =
    carried_alone g.D.Disk.state c.args.self.now c.order.new.self (commands.Ordered c.in-Order.order) (command_of c.args.command.now) c.order.result c.alone-in-Order.result
    (record { ends = λ m told. refl; told = λ m told. refl }) (ap command_of c.in-Order.is) c.alone-in-Order.ensures c.order.ensures.leads

pub returns-in-Next-clause-carries : goal.returns-in-Next-clause-carries
returns-in-Next-clause-carries g c =
    subst (λ (command : commands.Command). Carries g.D.Disk.state c.args.self.now c.next.new.self command c.next.result) (sym (ap command_of c.in-Next.is)) c.next.ensures.carries

pub returns-in-Batch-clause-carries : goal.returns-in-Batch-clause-carries
returns-in-Batch-clause-carries g c =
    subst (λ (command : commands.Command). Carries g.D.Disk.state c.args.self.now c.batch.new.self command c.batch.result) (sym (ap command_of c.in-Batch.is)) c.batch.ensures.carries
