use Rattle.std.proofs.Common.{◌≡◌, length, ap, sym, ◌∙◌, subst, Ok}
use Rattle.ali_base.proofs.Puts.{puts_then}
use Rattle.sequence_once.specs.declared.standing.Standing.TheVariants.{Complete}
use Rattle.batch_desk.specs.declared.job.Job.{Job}
use Rattle.batch_desk.specs.Jobs.{job_standing}
use Rattle.batch_desk.proofs.Files.{complete_length}
use Rattle.batch_desk.proofs.Replies.{reply-pieces}
use Rattle.batch_desk.proofs.desk.put_reply.Goals as goal

pub put_sized_errors-requires : goal.put_sized_errors-requires
put_sized_errors-requires g c =
    let s = c.args.office.now.state in
    let complete = subst (λ (job : Job). job_standing s job ≡ Ok Complete) c.in-File.is c.requires in
    ap length c.kept_codes.ensures ∙ complete_length s c.in-File.job complete ∙ sym (ap (λ file. file.count) c.file.ensures.value)

pub returns-in-File : goal.returns-in-File
returns-in-File g c =
    let s = c.args.office.now.state in
    let job = c.args.job.now in
    let is = reply-pieces s job c.in-File.job c.bytes.result.now c.job_done.result c.file.result c.kept_codes.result.now c.in-File.is (c.bytes.ensures.same ∙ c.done_line.ensures) c.job_done.ensures c.file.ensures.value c.kept_codes.ensures in
    record { put = puts_then is c.in_ok-put_all.ensures.put c.put_sized_errors.ensures.put }
