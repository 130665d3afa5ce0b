use Rattle.std.proofs.Common.{refl, arith}
use Rattle.command_desk.proofs.Leading.{order_leads, order_refused}
use Rattle.command_desk.proofs.OrderSwitches.{refused_switched, deliver_refused_switches, delivered_switches}
use Rattle.command_desk.specs.declared.desk.Desk.{Desk}
use Rattle.office_commands.specs.Commands as commands
use Rattle.office_commands.specs.declared.order.Order.TheVariants as order
use Rattle.pair_core.specs.PairAnswers.{delivered_told}
use Rattle.command_desk.proofs.desk.Desk.deliver.Goals as goal

pub returns-in-Ok-clause-leads : goal.returns-in-Ok-clause-leads
returns-in-Ok-clause-leads g c =
    let old = c.args.self.now in
    let new : Desk g.row.D.Denot = record { pair = c.deliver.new.self; job = old.job } in
    order_leads g.D.Disk.state old new c.in-Ok.ensures.call refl (order.Deliver c.args.message) (c.requires, omega (arith, c.ranges.message)) (delivered_told (c.in-Ok.delivered, c.in-Ok.made)) c.in-Ok.ensures.does

pub returns-in-Ok-clause-switches : goal.returns-in-Ok-clause-switches
returns-in-Ok-clause-switches g c =
    let old = c.args.self.now in
    let new : Desk g.row.D.Denot = record { pair = c.deliver.new.self; job = old.job } in
    delivered_switches g.D.Disk.state old new c.args.message c.in-Ok.delivered c.in-Ok.made _ refl c.in-Ok.ensures.beside c.in-Ok.ensures.causes

pub returns-in-Err-clause-leads : goal.returns-in-Err-clause-leads
returns-in-Err-clause-leads g c =
    let old = c.args.self.now in
    let new : Desk g.row.D.Denot = record { pair = c.deliver.new.self; job = old.job } in
    order_refused g.D.Disk.state old new c.in-Err.ensures.call refl (order.Deliver c.args.message) (c.requires, omega (arith, c.ranges.message)) c.in-Err.fault c.refused.result c.refused.ensures c.in-Err.ensures.does

pub returns-in-Err-clause-switches : goal.returns-in-Err-clause-switches
returns-in-Err-clause-switches g c =
    let old = c.args.self.now in
    let new : Desk g.row.D.Denot = record { pair = c.deliver.new.self; job = old.job } in
    refused_switched g.D.Disk.state old new (commands.Ordered (order.Deliver c.args.message)) c.in-Err.fault c.refused.result c.refused.ensures
    (deliver_refused_switches g.D.Disk.state old new c.args.message c.in-Err.fault _ refl c.in-Err.ensures.beside c.in-Err.ensures.causes)
