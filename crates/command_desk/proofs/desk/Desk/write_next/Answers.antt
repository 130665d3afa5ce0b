use Rattle.std.proofs.Common.{◌≡◌, None, refl, arith}
use Rattle.std.proofs.lemmas.Grind.{common_steps}
use Rattle.command_machine.specs.CommandRows.{write_row}
use Rattle.command_machine.specs.Machine.{Machine}
use Rattle.command_desk.specs.MadeReply.{table_of}
use Rattle.command_desk.proofs.EntriesWritten.{advances_since, entry_missing, entry_written, none_advances, none_can_tell, none_plain, nothing_switched, nothing_written, stopped_advances, stopped_plain, switches_since, table_stops, without_job, write_undone, writer_ready, writes_then}
use Rattle.command_desk.proofs.Readying.{keeps_twice, ready_of, stopped_by, stopped_switches, went_on}
use Rattle.command_desk.proofs.desk.Desk.write_next.Goals as goal
use Rattle.pair_core.specs.Pair as pairs

pub returns-then-is_none-clause-leads : goal.returns-then-is_none-clause-leads
returns-then-is_none-clause-leads g c =
    let old = c.args.self.now in
    let none : old.job ≡ None = grind (arith, common_steps, c.is_none.ensures, c.if-is_none.true) in
    without_job g.D.Disk.state old c.args.n c.requires none

pub returns-then-is_none-clause-switches : goal.returns-then-is_none-clause-switches
returns-then-is_none-clause-switches g c = record { plain = tt; failed = tt; after = refl }

pub returns-in_err-reply-clause-leads : goal.returns-in_err-reply-clause-leads
returns-in_err-reply-clause-leads g c =
    write_undone g.D.Disk.state c.args.self.now c.ready.new.self (λ (m : Machine). write_row m c.args.n) c.from_residual.result c.from_residual.ensures.0 c.in_err-reply.ensures.leads

pub returns-in_err-reply-clause-switches : goal.returns-in_err-reply-clause-switches
returns-in_err-reply-clause-switches g c = nothing_switched g.D.Disk.state c.args.self.now c.ready.new.self c.from_residual.result c.from_residual.ensures.0

pub returns-in_err-reply-clause-advances : goal.returns-in_err-reply-clause-advances
returns-in_err-reply-clause-advances g c = nothing_written g.D.Disk.state c.args.self.now c.ready.new.self c.from_residual.result c.from_residual.ensures.0

pub returns-in-Some-clause-leads : goal.returns-in-Some-clause-leads
returns-in-Some-clause-leads g c =
    let state = g.D.Disk.state in
    let old = c.args.self.now in
    let new = c.ready.new.self in
    let n = c.args.n in
    let s = (pairs.table_of new.pair n).state in
    let some : old.job ≡ None → ⊥ = λ none. grind (arith, common_steps, none, c.is_none.ensures, c.if-is_none.false) in
    table_stops state old n c.requires new s _ some (stopped_by state old new n c.in_ok-reply.field-0 s c.in-Some.reply c.in-Some.is c.in_ok-reply.ensures.leads)

pub returns-in-Some-clause-switches : goal.returns-in-Some-clause-switches
returns-in-Some-clause-switches g c =
    let state = g.D.Disk.state in
    let old = c.args.self.now in
    let new = c.ready.new.self in
    let n = c.args.n in
    stopped_plain state old new n (writer_ready old n c.requires) c.in-Some.reply (stopped_switches state old new n c.in_ok-reply.field-0 c.in-Some.reply c.in-Some.is c.in_ok-reply.ensures.switches)

pub returns-in-Some-clause-advances : goal.returns-in-Some-clause-advances
returns-in-Some-clause-advances g c =
    let state = g.D.Disk.state in
    let old = c.args.self.now in
    let new = c.ready.new.self in
    let n = c.args.n in
    stopped_advances state old new n c.in-Some.reply (stopped_switches state old new n c.in_ok-reply.field-0 c.in-Some.reply c.in-Some.is c.in_ok-reply.ensures.switches)

pub write-requires : goal.write-requires
write-requires g c =
    let old = c.args.self.now in
    let mid = c.ready.new.self in
    let n = c.args.n in
    writes_then old n c.requires mid (ready_of g.D.Disk.state old mid n c.in_ok-reply.field-0 c.in_default.is c.in_ok-reply.ensures.switches c.in_ok-reply.ensures.learned)

pub returns-in-Ok-clause-leads : goal.returns-in-Ok-clause-leads
returns-in-Ok-clause-leads g c =
    let state = g.D.Disk.state in
    let old = c.args.self.now in
    let mid = c.ready.new.self in
    let n = c.args.n in
    let o = c.in_ok-reply.field-0 in
    let has = ready_of state old mid n o c.in_default.is c.in_ok-reply.ensures.switches c.in_ok-reply.ensures.learned in
    let ready = went_on state old mid n o (pairs.table_of mid.pair n).state c.in_default.is c.in_ok-reply.ensures.leads in
    entry_written state old n c.requires mid has c.in_ok-reply.ensures.job ready c.write.new.self c.in-Ok.entry c.write.result c.in-Ok.ensures c.write.ensures.leads

pub returns-in-Ok-clause-switches : goal.returns-in-Ok-clause-switches
returns-in-Ok-clause-switches g c =
    let state = g.D.Disk.state in
    let old = c.args.self.now in
    let mid = c.ready.new.self in
    let n = c.args.n in
    let o = c.in_ok-reply.field-0 in
    let has = ready_of state old mid n o c.in_default.is c.in_ok-reply.ensures.switches c.in_ok-reply.ensures.learned in
    switches_since state old mid c.write.new.self c.in_ok-reply.ensures.keeps.counts has.switches c.write.result c.write.ensures.switches

pub returns-in-Ok-clause-keeps : goal.returns-in-Ok-clause-keeps
returns-in-Ok-clause-keeps g c = keeps_twice g.D.Disk.state c.args.self.now c.ready.new.self c.write.new.self c.in_ok-reply.ensures.keeps c.write.ensures.keeps

pub returns-in-Ok-clause-advances : goal.returns-in-Ok-clause-advances
returns-in-Ok-clause-advances g c =
    let state = g.D.Disk.state in
    let old = c.args.self.now in
    let mid = c.ready.new.self in
    let n = c.args.n in
    let o = c.in_ok-reply.field-0 in
    let has = ready_of state old mid n o c.in_default.is c.in_ok-reply.ensures.switches c.in_ok-reply.ensures.learned in
    advances_since old mid c.write.new.self has.duty_same has.count c.write.result c.write.ensures.advances

pub returns-in-Err-clause-leads : goal.returns-in-Err-clause-leads
returns-in-Err-clause-leads g c =
    let state = g.D.Disk.state in
    let old = c.args.self.now in
    let mid = c.ready.new.self in
    let n = c.args.n in
    let o = c.in_ok-reply.field-0 in
    let has = ready_of state old mid n o c.in_default.is c.in_ok-reply.ensures.switches c.in_ok-reply.ensures.learned in
    let ready = went_on state old mid n o (pairs.table_of mid.pair n).state c.in_default.is c.in_ok-reply.ensures.leads in
    let some : old.job ≡ None → ⊥ = λ none. grind (arith, common_steps, none, c.is_none.ensures, c.if-is_none.false) in
    entry_missing state old n c.requires mid has c.in_ok-reply.ensures.job ready c.in-Err.reply some c.in-Err.ensures

pub returns-in-Err-clause-switches : goal.returns-in-Err-clause-switches
returns-in-Err-clause-switches g c =
    let state = g.D.Disk.state in
    let old = c.args.self.now in
    let mid = c.ready.new.self in
    let n = c.args.n in
    let o = c.in_ok-reply.field-0 in
    let has = ready_of state old mid n o c.in_default.is c.in_ok-reply.ensures.switches c.in_ok-reply.ensures.learned in
    none_plain state old mid has.switches c.in-Err.reply c.in-Err.ensures

pub returns-in-Err-clause-can_tell : goal.returns-in-Err-clause-can_tell
returns-in-Err-clause-can_tell g c = let mid = c.ready.new.self in none_can_tell (table_of mid) mid.job c.in-Err.reply c.in-Err.ensures

pub returns-in-Err-clause-advances : goal.returns-in-Err-clause-advances
returns-in-Err-clause-advances g c = let mid = c.ready.new.self in none_advances c.args.self.now mid (table_of mid) mid.job c.in-Err.reply c.in-Err.ensures
