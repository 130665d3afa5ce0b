use Rattle.std.proofs.Common.{◌≡◌, None, refl, arith}
use Rattle.std.proofs.lemmas.Grind.{common_steps}
use Rattle.command_desk.specs.MadeReply.{table_of}
use Rattle.command_desk.proofs.EntriesWritten.{stopped_plain}
use Rattle.command_desk.proofs.Finding.{complete_can_tell, found_nothing, found_stops, found_switches, found_undone, job_found, nothing_found}
use Rattle.command_desk.proofs.Readying.{held_ready, ready_of, stopped_by, stopped_switches, went_on}
use Rattle.command_desk.proofs.desk.Desk.finished.Goals as goal
use Rattle.pair_core.specs.Pair as pairs

pub returns-then-is_none-clause-leads : goal.returns-then-is_none-clause-leads
returns-then-is_none-clause-leads g c =
    let old = c.args.self.now in
    let none : old.job ≡ None = grind (arith, common_steps, c.is_none.ensures, c.if-is_none.true) in
    nothing_found g.D.Disk.state old c.requires (pairs.duty_of old.pair).holder refl none

pub returns-then-is_none-clause-switches : goal.returns-then-is_none-clause-switches
returns-then-is_none-clause-switches g c = (refl, refl, c.requires)

pub returns-in_err-reply-clause-leads : goal.returns-in_err-reply-clause-leads
returns-in_err-reply-clause-leads g c = found_undone g.D.Disk.state c.args.self.now c.ready.new.self c.from_residual.result c.from_residual.ensures.0 c.in_err-reply.ensures.leads

pub returns-in_err-reply-clause-switches : goal.returns-in_err-reply-clause-switches
returns-in_err-reply-clause-switches g c = found_nothing g.D.Disk.state c.args.self.now c.ready.new.self c.from_residual.result c.from_residual.ensures.0

pub returns-in-Some-clause-leads : goal.returns-in-Some-clause-leads
returns-in-Some-clause-leads g c =
    let state = g.D.Disk.state in
    let old = c.args.self.now in
    let new = c.ready.new.self in
    let n = c.holder.result in
    let s = (pairs.table_of new.pair n).state in
    let some : old.job ≡ None → ⊥ = λ none. grind (arith, common_steps, none, c.is_none.ensures, c.if-is_none.false) in
    found_stops state old c.requires n c.holder.ensures new s _ some (stopped_by state old new n c.in_ok-reply.field-0 s c.in-Some.reply c.in-Some.is c.in_ok-reply.ensures.leads)

pub returns-in-Some-clause-switches : goal.returns-in-Some-clause-switches
returns-in-Some-clause-switches g c =
    let state = g.D.Disk.state in
    let old = c.args.self.now in
    let new = c.ready.new.self in
    let n = c.holder.result in
    stopped_plain state old new n (held_ready old n c.holder.ensures c.requires) c.in-Some.reply (stopped_switches state old new n c.in_ok-reply.field-0 c.in-Some.reply c.in-Some.is c.in_ok-reply.ensures.switches)

pub returns-clause-leads : goal.returns-clause-leads
returns-clause-leads g c =
    let state = g.D.Disk.state in
    let old = c.args.self.now in
    let mid = c.ready.new.self in
    let n = c.holder.result in
    let o = c.in_ok-reply.field-0 in
    let has = ready_of state old mid n o c.in_default.is c.in_ok-reply.ensures.switches c.in_ok-reply.ensures.learned in
    let ready = went_on state old mid n o (pairs.table_of mid.pair n).state c.in_default.is c.in_ok-reply.ensures.leads in
    let some : old.job ≡ None → ⊥ = λ none. grind (arith, common_steps, none, c.is_none.ensures, c.if-is_none.false) in
    job_found state old c.requires n c.holder.ensures mid has c.in_ok-reply.ensures.job ready c.complete.result some c.complete.ensures

pub returns-clause-switches : goal.returns-clause-switches
returns-clause-switches g c =
    let state = g.D.Disk.state in
    let old = c.args.self.now in
    let mid = c.ready.new.self in
    let n = c.holder.result in
    let o = c.in_ok-reply.field-0 in
    let has = ready_of state old mid n o c.in_default.is c.in_ok-reply.ensures.switches c.in_ok-reply.ensures.learned in
    let ready = went_on state old mid n o (pairs.table_of mid.pair n).state c.in_default.is c.in_ok-reply.ensures.leads in
    found_switches state old c.requires n c.holder.ensures mid has c.in_ok-reply.ensures.job ready c.complete.result c.complete.ensures

pub returns-clause-can_tell : goal.returns-clause-can_tell
returns-clause-can_tell g c = let mid = c.ready.new.self in complete_can_tell (table_of mid) mid.job c.complete.result c.complete.ensures
