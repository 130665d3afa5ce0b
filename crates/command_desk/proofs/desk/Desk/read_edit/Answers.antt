use Rattle.std.proofs.Common.{◌≡◌, Some, refl, ap, ◌∙◌, subst}
use Rattle.std.specs.Result.{IsOk}
use Rattle.batch_desk.specs.EditJobs.{edit_standing}
use Rattle.batch_desk.specs.JobReplies.{read_of}
use Rattle.batch_desk.specs.SubmitFaults.{IsEditFault}
use Rattle.batch_desk.specs.declared.job.Job.{Job}
use Rattle.batch_desk.specs.declared.job.Job.TheVariants.{Edit}
use Rattle.command_desk.specs.MadeReply.{table_of}
use Rattle.command_desk.specs.declared.reply.Reply.TheVariants as reply
use Rattle.command_desk.proofs.Answering.{undone, untold}
use Rattle.command_desk.proofs.Readying.{ready_of, stopped_by, stopped_switches, went_on}
use Rattle.command_desk.proofs.JobsRead.{has_standing, read_refused, read_refused_switches, read_stops, read_stops_switches, read_taken, read_taken_switches}
use Rattle.command_desk.proofs.desk.Desk.read_edit.Goals as goal
use Rattle.office_commands.specs.Commands as commands
use Rattle.office_state.specs.OfficeState.{OfficeState}
use Rattle.pair_core.specs.Pair as pairs

pub returns-in_err-reply-clause-leads : goal.returns-in_err-reply-clause-leads
returns-in_err-reply-clause-leads g c =
    undone g.D.Disk.state c.args.self.now c.ready.new.self (commands.Edit c.args.editor c.args.serial c.args.edit) c.from_residual.result c.from_residual.ensures.0 c.in_err-reply.ensures.leads

pub returns-in_err-reply-clause-switches : goal.returns-in_err-reply-clause-switches
returns-in_err-reply-clause-switches g c =
    untold g.D.Disk.state c.args.self.now c.ready.new.self (commands.Edit c.args.editor c.args.serial c.args.edit) c.from_residual.result c.from_residual.ensures.0

pub returns-in-Some-clause-leads : goal.returns-in-Some-clause-leads
returns-in-Some-clause-leads g c =
    let state = g.D.Disk.state in
    let old = c.args.self.now in
    let new = c.ready.new.self in
    let n = c.holder.result in
    let s = (pairs.table_of new.pair n).state in
    read_stops state old n c.holder.ensures (Edit c.args.editor c.args.serial c.args.edit) refl new s _ (stopped_by state old new n c.in_ok-reply.field-0 s c.in-Some.reply c.in-Some.is c.in_ok-reply.ensures.leads)

pub returns-in-Some-clause-switches : goal.returns-in-Some-clause-switches
returns-in-Some-clause-switches g c =
    let state = g.D.Disk.state in
    let old = c.args.self.now in
    let new = c.ready.new.self in
    let n = c.holder.result in
    read_stops_switches state old n c.holder.ensures (Edit c.args.editor c.args.serial c.args.edit) refl new c.in-Some.reply (stopped_switches state old new n c.in_ok-reply.field-0 c.in-Some.reply c.in-Some.is c.in_ok-reply.ensures.switches)

pub returns-in-Ok-clause-leads : goal.returns-in-Ok-clause-leads
returns-in-Ok-clause-leads g c =
    let state = g.D.Disk.state in
    let old = c.args.self.now in
    let mid = c.ready.new.self in
    let n = c.holder.result in
    let job = Edit c.args.editor c.args.serial c.args.edit in
    let o = c.in_ok-reply.field-0 in
    let has = ready_of state old mid n o c.in_default.is c.in_ok-reply.ensures.switches c.in_ok-reply.ensures.learned in
    let ready = went_on state old mid n o (pairs.table_of mid.pair n).state c.in_default.is c.in_ok-reply.ensures.leads in
    let is : (c.in-Ok.job ≡ job) × IsOk (edit_standing (c.table.result.now).state c.args.editor c.args.serial c.args.edit) = c.in-Ok.ensures in
    let ok : IsOk (edit_standing (table_of mid) c.args.editor c.args.serial c.args.edit) = subst (λ (x : OfficeState). IsOk (edit_standing x.state c.args.editor c.args.serial c.args.edit)) c.table.ensures is.1 in
    let stands = has_standing (edit_standing (table_of mid) c.args.editor c.args.serial c.args.edit) ok in
    let has_job = c.take.ensures.job ∙ ap (λ (j : Job). Some j) is.0 in
    let told = c.take.ensures.told ∙ ap (λ (j : Job). reply.Read (read_of (table_of mid) j)) is.0 in
    read_taken state old n c.holder.ensures job refl mid has ready stands.0 stands.1 c.requires c.take.new.self c.take.result c.take.ensures.pair has_job told

pub returns-in-Ok-clause-switches : goal.returns-in-Ok-clause-switches
returns-in-Ok-clause-switches g c =
    let state = g.D.Disk.state in
    let old = c.args.self.now in
    let mid = c.ready.new.self in
    let n = c.holder.result in
    let job = Edit c.args.editor c.args.serial c.args.edit in
    let o = c.in_ok-reply.field-0 in
    let has = ready_of state old mid n o c.in_default.is c.in_ok-reply.ensures.switches c.in_ok-reply.ensures.learned in
    let ready = went_on state old mid n o (pairs.table_of mid.pair n).state c.in_default.is c.in_ok-reply.ensures.leads in
    let is : (c.in-Ok.job ≡ job) × IsOk (edit_standing (c.table.result.now).state c.args.editor c.args.serial c.args.edit) = c.in-Ok.ensures in
    let told = c.take.ensures.told ∙ ap (λ (j : Job). reply.Read (read_of (table_of mid) j)) is.0 in
    read_taken_switches state old n c.holder.ensures job refl mid has ready c.take.new.self c.take.result c.take.ensures.pair told

pub returns-in-Err-clause-leads : goal.returns-in-Err-clause-leads
returns-in-Err-clause-leads g c =
    let state = g.D.Disk.state in
    let old = c.args.self.now in
    let mid = c.ready.new.self in
    let n = c.holder.result in
    let job = Edit c.args.editor c.args.serial c.args.edit in
    let o = c.in_ok-reply.field-0 in
    let has = ready_of state old mid n o c.in_default.is c.in_ok-reply.ensures.switches c.in_ok-reply.ensures.learned in
    let ready = went_on state old mid n o (pairs.table_of mid.pair n).state c.in_default.is c.in_ok-reply.ensures.leads in
    let fault : IsEditFault (edit_standing (c.table.result.now).state c.args.editor c.args.serial c.args.edit) c.in-Err.fault = c.in-Err.ensures in
    let here = subst (λ (x : OfficeState). IsEditFault (edit_standing x.state c.args.editor c.args.serial c.args.edit) c.in-Err.fault) c.table.ensures fault in
    let why = c.not_read.ensures (edit_standing (table_of mid) c.args.editor c.args.serial c.args.edit) here in
    read_refused state old n c.holder.ensures job refl mid has ready why.0 c.not_read.result why.1 why.2

pub returns-in-Err-clause-switches : goal.returns-in-Err-clause-switches
returns-in-Err-clause-switches g c =
    let state = g.D.Disk.state in
    let old = c.args.self.now in
    let mid = c.ready.new.self in
    let n = c.holder.result in
    let job = Edit c.args.editor c.args.serial c.args.edit in
    let o = c.in_ok-reply.field-0 in
    let has = ready_of state old mid n o c.in_default.is c.in_ok-reply.ensures.switches c.in_ok-reply.ensures.learned in
    let ready = went_on state old mid n o (pairs.table_of mid.pair n).state c.in_default.is c.in_ok-reply.ensures.leads in
    let why = c.not_read.ensures (edit_standing (c.table.result.now).state c.args.editor c.args.serial c.args.edit) c.in-Err.ensures in
    read_refused_switches state old n c.holder.ensures job refl mid has ready why.0 c.not_read.result why.2
