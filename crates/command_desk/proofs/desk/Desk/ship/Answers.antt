use Rattle.std.proofs.Common.{refl, arith}
use Rattle.command_desk.proofs.Leading.{order_leads, order_refused}
use Rattle.command_desk.proofs.OrderSwitches.{refused_switched, ship_refused_switches, shipped_switches}
use Rattle.command_desk.specs.declared.desk.Desk.{Desk}
use Rattle.office_commands.specs.Commands as commands
use Rattle.office_commands.specs.declared.order.Order.TheVariants as order
use Rattle.world_rows.specs.Told.{Sent}
use Rattle.command_desk.proofs.desk.Desk.ship.Goals as goal

pub returns-in-Ok-clause-leads : goal.returns-in-Ok-clause-leads
returns-in-Ok-clause-leads g c =
    let old = c.args.self.now in
    let new : Desk g.row.D.Denot = record { pair = c.ship.new.self; job = old.job } in
    order_leads g.D.Disk.state old new c.in-Ok.ensures.call refl (order.Ship c.args.node c.args.number) (c.requires, omega (arith, c.ranges.number)) (Sent c.in-Ok.message) c.in-Ok.ensures.does

pub returns-in-Ok-clause-switches : goal.returns-in-Ok-clause-switches
returns-in-Ok-clause-switches g c =
    let old = c.args.self.now in
    let new : Desk g.row.D.Denot = record { pair = c.ship.new.self; job = old.job } in
    shipped_switches g.D.Disk.state old new c.args.node c.args.number c.in-Ok.message c.in-Ok.ensures.beside c.in-Ok.ensures.causes

pub returns-in-Err-clause-leads : goal.returns-in-Err-clause-leads
returns-in-Err-clause-leads g c =
    let old = c.args.self.now in
    let new : Desk g.row.D.Denot = record { pair = c.ship.new.self; job = old.job } in
    order_refused g.D.Disk.state old new c.in-Err.ensures.call refl (order.Ship c.args.node c.args.number) (c.requires, omega (arith, c.ranges.number)) c.in-Err.fault c.refused.result c.refused.ensures c.in-Err.ensures.does

pub returns-in-Err-clause-switches : goal.returns-in-Err-clause-switches
returns-in-Err-clause-switches g c =
    let old = c.args.self.now in
    let new : Desk g.row.D.Denot = record { pair = c.ship.new.self; job = old.job } in
    refused_switched g.D.Disk.state old new (commands.Ordered (order.Ship c.args.node c.args.number)) c.in-Err.fault c.refused.result c.refused.ensures
    (ship_refused_switches g.D.Disk.state old new c.args.node c.args.number c.in-Err.fault c.in-Err.ensures.beside c.in-Err.ensures.causes)
