use Rattle.std.proofs.Common.{refl, ap}
use Rattle.ali_base.specs.declared.duty.Duty.{Duty}
use Rattle.command_machine.specs.Replies as replies
use Rattle.command_desk.specs.declared.desk.Desk.{Desk}
use Rattle.command_desk.specs.declared.reply.Reply.TheVariants as reply
use Rattle.command_desk.proofs.EntriesWritten.{refusal_advances, write_plain, write_refused, write_told, written_advances, written_plain}
use Rattle.command_desk.proofs.desk.Desk.write.Goals as goal
use Rattle.world_rows.specs.Told as world

pub returns-in-Ok-clause-leads : goal.returns-in-Ok-clause-leads
returns-in-Ok-clause-leads g c =
    let old = c.args.self.now in
    let new : Desk g.row.D.Denot = record { pair = c.write.new.self; job = old.job } in
    let number = c.in-Ok.number in
    let epoch = ap (λ (d : Duty). replies.Told (world.Written number d.epoch)) c.duty-epoch.ensures in
    write_told g.D.Disk.state old new c.in-Ok.ensures.call refl c.args.n c.args.entry.now (reply.Written number (c.duty-epoch.result).epoch) _ epoch c.in-Ok.ensures.does

pub returns-in-Ok-clause-switches : goal.returns-in-Ok-clause-switches
returns-in-Ok-clause-switches g c =
    let old = c.args.self.now in
    let new : Desk g.row.D.Denot = record { pair = c.write.new.self; job = old.job } in
    written_plain g.D.Disk.state old new c.args.n c.args.entry.now c.requires c.in-Ok.ensures.beside c.in-Ok.number (c.duty-epoch.result).epoch c.in-Ok.ensures.causes

pub returns-in-Ok-clause-advances : goal.returns-in-Ok-clause-advances
returns-in-Ok-clause-advances g c =
    let old = c.args.self.now in
    let new : Desk g.row.D.Denot = record { pair = c.write.new.self; job = old.job } in
    written_advances g.D.Disk.state old new c.args.n c.args.entry.now c.requires c.in-Ok.ensures.beside c.in-Ok.number (c.duty-epoch.result).epoch c.in-Ok.ensures.causes

pub returns-in-Err-clause-leads : goal.returns-in-Err-clause-leads
returns-in-Err-clause-leads g c =
    let old = c.args.self.now in
    let new : Desk g.row.D.Denot = record { pair = c.write.new.self; job = old.job } in
    write_refused g.D.Disk.state old new c.in-Err.ensures.call refl c.args.n c.args.entry.now c.in-Err.fault c.refused.result c.refused.ensures c.in-Err.ensures.does

pub returns-in-Err-clause-switches : goal.returns-in-Err-clause-switches
returns-in-Err-clause-switches g c =
    let old = c.args.self.now in
    let new : Desk g.row.D.Denot = record { pair = c.write.new.self; job = old.job } in
    write_plain g.D.Disk.state old new c.args.n c.args.entry.now c.requires c.in-Err.ensures.beside c.in-Err.fault c.refused.result c.refused.ensures c.in-Err.ensures.causes

pub returns-in-Err-clause-advances : goal.returns-in-Err-clause-advances
returns-in-Err-clause-advances g c =
    let old = c.args.self.now in
    let new : Desk g.row.D.Denot = record { pair = c.write.new.self; job = old.job } in
    refusal_advances old new c.in-Err.fault c.refused.result c.refused.ensures
