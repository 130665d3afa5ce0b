use Rattle.std.proofs.Common.{ℕ, List, Option, ap, sym, subst, ◌∙◌}
use Rattle.ali_base.specs.WholePuts.{Puts}
use Rattle.batch_desk.specs.JobReplies.{job_reply}
use Rattle.batch_desk.specs.declared.job.Job.{Job}
use Rattle.command_desk.specs.MadeReply.{table_of, reply_of, finished}
use Rattle.command_machine.specs.ReplyText.{reply_block}
use Rattle.command_desk.specs.declared.reply.Reply.{Reply}
use Rattle.command_desk.proofs.desk.Desk.put_block.Goals as goal
use Rattle.office_state.specs.OfficeState.{OfficeState}

pub returns-in-Some : goal.returns-in-Some
returns-in-Some g c =
    let sink = g.K.Sink in
    let desk = c.args.self.now in
    let s = table_of desk in
    let told = ap (λ (r : Reply). reply_block (reply_of s desk.job r)) c.in-Finished.is in
    let block = ap (λ (job : Option Job). reply_block (finished s job)) c.in-Some.is in
    let same = ap (λ (office : OfficeState). job_reply office.state c.in-Some.job) c.table.ensures ∙ sym (told ∙ block) in
    record { put = subst (λ (text : List ℕ). Puts sink.contents sink.faults c.args.sink.now c.put_reply.new.sink text c.put_reply.result) same c.put_reply.ensures.put }

pub returns-in-Answer : goal.returns-in-Answer
returns-in-Answer g c =
    let sink = g.K.Sink in
    let desk = c.args.self.now in
    let told = ap (λ (r : Reply). reply_block (reply_of (table_of desk) desk.job r)) c.in-Answer.is in
    record { put = subst (λ (text : List ℕ). Puts sink.contents sink.faults c.args.sink.now c.put_all-in-Answer.new.sink text c.put_all-in-Answer.result) (c.bytes.ensures.same ∙ sym told) c.put_all-in-Answer.ensures.put }

pub returns-in-Reported : goal.returns-in-Reported
returns-in-Reported g c =
    let sink = g.K.Sink in
    let desk = c.args.self.now in
    let told = ap (λ (r : Reply). reply_block (reply_of (table_of desk) desk.job r)) c.in-Reported.is in
    record { put = subst (λ (text : List ℕ). Puts sink.contents sink.faults c.args.sink.now c.put_all-in-Reported.new.sink text c.put_all-in-Reported.result) (c.deref.ensures.value ∙ sym told) c.put_all-in-Reported.ensures.put }
