use Rattle.std.proofs.Common.{Some, ap, ◌∙◌, subst}
use Rattle.std.specs.Result.{IsOk}
use Rattle.batch_desk.specs.FileJobs.{file_standing}
use Rattle.batch_desk.specs.JobReplies.{read_of}
use Rattle.batch_desk.specs.SubmitFaults.{IsJobOf, IsSubmitFault}
use Rattle.batch_desk.specs.declared.job.Job.{Job}
use Rattle.batch_desk.specs.declared.job.Job.TheVariants.{File}
use Rattle.command_desk.specs.MadeReply.{table_of}
use Rattle.command_desk.specs.declared.reply.Reply.TheVariants as reply
use Rattle.command_desk.proofs.Answering.{undone, untold}
use Rattle.command_desk.proofs.Readying.{ready_of, stays_ready, stopped_by, stopped_switches, went_on}
use Rattle.command_desk.proofs.JobsRead.{frame_stops, frame_switches, has_standing, is_not_read, is_read, not_framed, read_refused, read_refused_switches, read_stops, read_stops_switches, read_taken, read_taken_switches, standing_of_file}
use Rattle.command_desk.proofs.desk.Desk.read.Goals as goal
use Rattle.office_commands.specs.Commands as commands
use Rattle.office_state.specs.OfficeState.{OfficeState}
use Rattle.pair_core.specs.Pair as pairs

pub returns-in-Err-clause-leads : goal.returns-in-Err-clause-leads
returns-in-Err-clause-leads g c = frame_stops g.D.Disk.state c.args.self.now c.args.content.now c.in-Err.fault c.in-Err.ensures.read

pub returns-in-Err-clause-switches : goal.returns-in-Err-clause-switches
returns-in-Err-clause-switches g c = frame_switches g.D.Disk.state c.args.self.now c.args.content.now c.in-Err.fault c.in-Err.ensures.read

pub returns-in_err-reply-clause-leads : goal.returns-in_err-reply-clause-leads
returns-in_err-reply-clause-leads g c =
    undone g.D.Disk.state c.args.self.now c.ready.new.self (commands.File c.args.content.now) c.from_residual.result c.from_residual.ensures.0 c.in_err-reply.ensures.leads

pub returns-in_err-reply-clause-switches : goal.returns-in_err-reply-clause-switches
returns-in_err-reply-clause-switches g c =
    untold g.D.Disk.state c.args.self.now c.ready.new.self (commands.File c.args.content.now) c.from_residual.result c.from_residual.ensures.0

pub returns-in-Some-clause-leads : goal.returns-in-Some-clause-leads
returns-in-Some-clause-leads g c =
    let state = g.D.Disk.state in
    let old = c.args.self.now in
    let new = c.ready.new.self in
    let n = c.holder.result in
    let s = (pairs.table_of new.pair n).state in
    let framed = not_framed c.args.content.now c.in_default.ensures.read.sound in
    read_stops state old n c.holder.ensures (File c.args.content.now) framed new s _ (stopped_by state old new n c.in_ok-reply.field-0 s c.in-Some.reply c.in-Some.is c.in_ok-reply.ensures.leads)

pub returns-in-Some-clause-switches : goal.returns-in-Some-clause-switches
returns-in-Some-clause-switches g c =
    let state = g.D.Disk.state in
    let old = c.args.self.now in
    let new = c.ready.new.self in
    let n = c.holder.result in
    let framed = not_framed c.args.content.now c.in_default.ensures.read.sound in
    read_stops_switches state old n c.holder.ensures (File c.args.content.now) framed new c.in-Some.reply (stopped_switches state old new n c.in_ok-reply.field-0 c.in-Some.reply c.in-Some.is c.in_ok-reply.ensures.switches)

pub returns-in_err-job-clause-leads : goal.returns-in_err-job-clause-leads
returns-in_err-job-clause-leads g c =
    let state = g.D.Disk.state in
    let old = c.args.self.now in
    let new = c.ready.new.self in
    let n = c.holder.result in
    let r = c.from_residual-in_err-job in
    undone state old new (commands.File c.args.content.now) r.result r.ensures.0 (stays_ready state old new n c.in_ok-reply.field-0 (pairs.table_of new.pair n).state c.in_default-2.is c.in_ok-reply.ensures.leads)

pub returns-in_err-job-clause-switches : goal.returns-in_err-job-clause-switches
returns-in_err-job-clause-switches g c =
    let r = c.from_residual-in_err-job in
    untold g.D.Disk.state c.args.self.now c.ready.new.self (commands.File c.args.content.now) r.result r.ensures.0

pub not_read-requires : goal.not_read-requires
not_read-requires g c =
    let content = c.args.content.now in
    let office = c.table.result.now in
    let fault = is_not_read office.state content c.in_ok-job.field-0 c.in-Err-2.fault c.in-Err-2.is c.in_ok-job.ensures in
    (file_standing office.state content, standing_of_file office.state content c.in-Err-2.fault c.in_default.ensures.read.sound fault)

pub returns-in-Ok-clause-leads : goal.returns-in-Ok-clause-leads
returns-in-Ok-clause-leads g c =
    let state = g.D.Disk.state in
    let content = c.args.content.now in
    let old = c.args.self.now in
    let mid = c.ready.new.self in
    let n = c.holder.result in
    let sound = c.in_default.ensures.read.sound in
    let office = c.table.result.now in
    let o = c.in_ok-reply.field-0 in
    let has = ready_of state old mid n o c.in_default-2.is c.in_ok-reply.ensures.switches c.in_ok-reply.ensures.learned in
    let ready = went_on state old mid n o (pairs.table_of mid.pair n).state c.in_default-2.is c.in_ok-reply.ensures.leads in
    let is : IsJobOf office.state content c.in-Ok.job = is_read office.state content c.in_ok-job.field-0 c.in-Ok.job c.in-Ok.is c.in_ok-job.ensures in
    let ok : IsOk (file_standing (table_of mid) content) = subst (λ (x : OfficeState). IsOk (file_standing x.state content)) c.table.ensures is.2 in
    let stands = has_standing (file_standing (table_of mid) content) ok in
    let has_job = c.take.ensures.job ∙ ap (λ (j : Job). Some j) is.0 in
    let told = c.take.ensures.told ∙ ap (λ (j : Job). reply.Read (read_of (table_of mid) j)) is.0 in
    read_taken state old n c.holder.ensures (File content) (not_framed content sound) mid has ready stands.0 stands.1 sound c.take.new.self c.take.result c.take.ensures.pair has_job told

pub returns-in-Ok-clause-switches : goal.returns-in-Ok-clause-switches
returns-in-Ok-clause-switches g c =
    let state = g.D.Disk.state in
    let content = c.args.content.now in
    let old = c.args.self.now in
    let mid = c.ready.new.self in
    let n = c.holder.result in
    let office = c.table.result.now in
    let o = c.in_ok-reply.field-0 in
    let has = ready_of state old mid n o c.in_default-2.is c.in_ok-reply.ensures.switches c.in_ok-reply.ensures.learned in
    let ready = went_on state old mid n o (pairs.table_of mid.pair n).state c.in_default-2.is c.in_ok-reply.ensures.leads in
    let is : IsJobOf office.state content c.in-Ok.job = is_read office.state content c.in_ok-job.field-0 c.in-Ok.job c.in-Ok.is c.in_ok-job.ensures in
    let told = c.take.ensures.told ∙ ap (λ (j : Job). reply.Read (read_of (table_of mid) j)) is.0 in
    read_taken_switches state old n c.holder.ensures (File content) (not_framed content c.in_default.ensures.read.sound) mid has ready c.take.new.self c.take.result c.take.ensures.pair told

pub returns-in-Err-2-clause-leads : goal.returns-in-Err-2-clause-leads
returns-in-Err-2-clause-leads g c =
    let state = g.D.Disk.state in
    let content = c.args.content.now in
    let old = c.args.self.now in
    let mid = c.ready.new.self in
    let n = c.holder.result in
    let sound = c.in_default.ensures.read.sound in
    let office = c.table.result.now in
    let o = c.in_ok-reply.field-0 in
    let has = ready_of state old mid n o c.in_default-2.is c.in_ok-reply.ensures.switches c.in_ok-reply.ensures.learned in
    let ready = went_on state old mid n o (pairs.table_of mid.pair n).state c.in_default-2.is c.in_ok-reply.ensures.leads in
    let fault = is_not_read office.state content c.in_ok-job.field-0 c.in-Err-2.fault c.in-Err-2.is c.in_ok-job.ensures in
    let here = subst (λ (x : OfficeState). IsSubmitFault x.state content c.in-Err-2.fault) c.table.ensures fault in
    let why = c.not_read.ensures (file_standing (table_of mid) content) (standing_of_file (table_of mid) content c.in-Err-2.fault sound here) in
    read_refused state old n c.holder.ensures (File content) (not_framed content sound) mid has ready why.0 c.not_read.result why.1 why.2

pub returns-in-Err-2-clause-switches : goal.returns-in-Err-2-clause-switches
returns-in-Err-2-clause-switches g c =
    let state = g.D.Disk.state in
    let content = c.args.content.now in
    let old = c.args.self.now in
    let mid = c.ready.new.self in
    let n = c.holder.result in
    let sound = c.in_default.ensures.read.sound in
    let office = c.table.result.now in
    let o = c.in_ok-reply.field-0 in
    let has = ready_of state old mid n o c.in_default-2.is c.in_ok-reply.ensures.switches c.in_ok-reply.ensures.learned in
    let ready = went_on state old mid n o (pairs.table_of mid.pair n).state c.in_default-2.is c.in_ok-reply.ensures.leads in
    let fault = is_not_read office.state content c.in_ok-job.field-0 c.in-Err-2.fault c.in-Err-2.is c.in_ok-job.ensures in
    let why = c.not_read.ensures (file_standing office.state content) (standing_of_file office.state content c.in-Err-2.fault sound fault) in
    read_refused_switches state old n c.holder.ensures (File content) (not_framed content sound) mid has ready why.0 c.not_read.result why.2
