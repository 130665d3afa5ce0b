use Rattle.std.proofs.Common.{refl}
use Rattle.ali_base.specs.Duties.{next_duty}
use Rattle.ali_base.specs.declared.duty.Mode.TheVariants as modes
use Rattle.command_desk.proofs.Leading.{order_leads, order_refused}
use Rattle.command_desk.proofs.OrderSwitches.{refused_switched, change_refused_switches, changed_switches, quiet_alone, AloneRow}
use Rattle.command_desk.specs.declared.desk.Desk.{Desk}
use Rattle.office_commands.specs.Commands as commands
use Rattle.office_commands.specs.declared.order.Order.TheVariants as order
use Rattle.pair_core.specs.Pair.{count_of, duty_of}
use Rattle.pair_core.specs.PairRefusals.{holder}
use Rattle.world_rows.specs.Told.{On_duty}
use Rattle.command_desk.proofs.desk.Desk.go_alone.Goals as goal

pub returns-in-Ok-clause-leads : goal.returns-in-Ok-clause-leads
returns-in-Ok-clause-leads g c =
    let old = c.args.self.now in
    let new : Desk g.row.D.Denot = record { pair = c.alone.new.self; job = old.job } in
    order_leads g.D.Disk.state old new c.in-Ok.ensures.call refl order.Alone tt (On_duty c.in-Ok.duty) c.in-Ok.ensures.does

pub returns-in-Ok-clause-switches : goal.returns-in-Ok-clause-switches
returns-in-Ok-clause-switches g c =
    let old = c.args.self.now in
    let new : Desk g.row.D.Denot = record { pair = c.alone.new.self; job = old.job } in
    changed_switches g.D.Disk.state old new (commands.Ordered order.Alone) (AloneRow old.pair) (quiet_alone old.pair) refl refl (next_duty (duty_of old.pair) (holder old.pair) modes.Alone (count_of old.pair)) c.in-Ok.ensures.beside c.in-Ok.duty c.in-Ok.ensures.causes

pub returns-in-Err-clause-leads : goal.returns-in-Err-clause-leads
returns-in-Err-clause-leads g c =
    let old = c.args.self.now in
    let new : Desk g.row.D.Denot = record { pair = c.alone.new.self; job = old.job } in
    order_refused g.D.Disk.state old new c.in-Err.ensures.call refl order.Alone tt c.in-Err.fault c.refused.result c.refused.ensures c.in-Err.ensures.does

pub returns-in-Err-clause-switches : goal.returns-in-Err-clause-switches
returns-in-Err-clause-switches g c =
    let old = c.args.self.now in
    let new : Desk g.row.D.Denot = record { pair = c.alone.new.self; job = old.job } in
    refused_switched g.D.Disk.state old new (commands.Ordered order.Alone) c.in-Err.fault c.refused.result c.refused.ensures
    (λ some. change_refused_switches g.D.Disk.state old new (commands.Ordered order.Alone) (AloneRow old.pair) (quiet_alone old.pair) refl refl (next_duty (duty_of old.pair) (holder old.pair) modes.Alone (count_of old.pair)) c.in-Err.ensures.beside c.in-Err.fault c.in-Err.ensures.causes)
