use Rattle.std.proofs.Common.{refl}
use Rattle.command_desk.proofs.Leading.{order_leads, order_refused}
use Rattle.command_desk.proofs.OrderLeads.{looked}
use Rattle.command_desk.proofs.OrderSwitches.{refused_switched, status_refused_switches, status_told_switches}
use Rattle.office_commands.specs.Commands as commands
use Rattle.office_commands.specs.declared.order.Order.TheVariants as order
use Rattle.pair_core.specs.PairAnswers.{report_told}
use Rattle.command_desk.proofs.desk.Desk.status.Goals as goal

pub returns-in-Ok-clause-leads : goal.returns-in-Ok-clause-leads
returns-in-Ok-clause-leads g c =
    let desk = c.args.self.now in
    order_leads g.D.Disk.state desk desk (looked g.D.Disk.state desk.pair) refl order.Status tt (report_told c.in-Ok.status) c.in-Ok.ensures.does

pub returns-in-Ok-clause-switches : goal.returns-in-Ok-clause-switches
returns-in-Ok-clause-switches g c =
    let desk = c.args.self.now in
    status_told_switches g.D.Disk.state desk c.in-Ok.status c.in-Ok.ensures.causes

pub returns-in-Err-clause-leads : goal.returns-in-Err-clause-leads
returns-in-Err-clause-leads g c =
    let desk = c.args.self.now in
    order_refused g.D.Disk.state desk desk (looked g.D.Disk.state desk.pair) refl order.Status tt c.in-Err.fault c.refused.result c.refused.ensures c.in-Err.ensures.does

pub returns-in-Err-clause-switches : goal.returns-in-Err-clause-switches
returns-in-Err-clause-switches g c =
    let desk = c.args.self.now in
    refused_switched g.D.Disk.state desk desk (commands.Ordered order.Status) c.in-Err.fault c.refused.result c.refused.ensures
    (λ some. status_refused_switches g.D.Disk.state desk c.in-Err.fault c.in-Err.ensures.causes)

pub returns-in-Ok-clause-keeps : goal.returns-in-Ok-clause-keeps
returns-in-Ok-clause-keeps g c = looked g.D.Disk.state c.args.self.now.pair

pub returns-in-Err-clause-keeps : goal.returns-in-Err-clause-keeps
returns-in-Err-clause-keeps g c = looked g.D.Disk.state c.args.self.now.pair
