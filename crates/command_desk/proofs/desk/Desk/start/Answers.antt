use Rattle.std.proofs.Common.{refl}
use Rattle.command_desk.proofs.Leading.{order_leads, order_refused}
use Rattle.command_desk.proofs.OrderSwitches.{refused_switched, start_refused_switches, started_switches}
use Rattle.command_desk.specs.declared.desk.Desk.{Desk}
use Rattle.office_commands.specs.Commands as commands
use Rattle.office_commands.specs.declared.order.Order.TheVariants as order
use Rattle.world_rows.specs.Told.{Started}
use Rattle.command_desk.proofs.desk.Desk.start.Goals as goal

pub returns-in-Ok-clause-leads : goal.returns-in-Ok-clause-leads
returns-in-Ok-clause-leads g c =
    let old = c.args.self.now in
    let new : Desk g.row.D.Denot = record { pair = c.start.new.self; job = old.job } in
    order_leads g.D.Disk.state old new c.in-Ok.ensures.call refl (order.Start c.args.node) tt (Started c.args.node c.in-Ok.started.len c.in-Ok.started.known) c.in-Ok.ensures.does

pub returns-in-Ok-clause-switches : goal.returns-in-Ok-clause-switches
returns-in-Ok-clause-switches g c =
    let old = c.args.self.now in
    let new : Desk g.row.D.Denot = record { pair = c.start.new.self; job = old.job } in
    started_switches g.D.Disk.state old new c.args.node c.in-Ok.ensures.beside c.in-Ok.started c.in-Ok.ensures.causes

pub returns-in-Err-clause-leads : goal.returns-in-Err-clause-leads
returns-in-Err-clause-leads g c =
    let old = c.args.self.now in
    let new : Desk g.row.D.Denot = record { pair = c.start.new.self; job = old.job } in
    order_refused g.D.Disk.state old new c.in-Err.ensures.call refl (order.Start c.args.node) tt c.in-Err.fault c.refused.result c.refused.ensures c.in-Err.ensures.does

pub returns-in-Err-clause-switches : goal.returns-in-Err-clause-switches
returns-in-Err-clause-switches g c =
    let old = c.args.self.now in
    let new : Desk g.row.D.Denot = record { pair = c.start.new.self; job = old.job } in
    refused_switched g.D.Disk.state old new (commands.Ordered (order.Start c.args.node)) c.in-Err.fault c.refused.result c.refused.ensures
    (λ some. start_refused_switches g.D.Disk.state old new c.args.node c.in-Err.ensures.beside c.in-Err.fault c.in-Err.ensures.causes)
