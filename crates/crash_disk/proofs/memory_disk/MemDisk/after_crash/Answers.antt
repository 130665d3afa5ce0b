use Rattle.std.proofs.Common.{◌≡◌, ◌++◌, sym, subst, ap, ◌∙◌}
use Rattle.crash_disk.specs.CallRecord.{MayLeave, content}
use Rattle.crash_disk.specs.CrashImages.{crash_image}
use Rattle.crash_disk.specs.Recording.{RecordState}
use Rattle.crash_disk.proofs.Images.{allowed}
use Rattle.crash_disk.proofs.memory_disk.MemDisk.after_crash.Goals as goal

pub returns-clause-allowed : goal.returns-clause-allowed
returns-clause-allowed c =
    let s = c.args.self.now in
    let start : c.append.new.bytes.items ≡ crash_image c.args.kept s.start s.calls =
    c.append.ensures.bytes ∙ (λ i. c.in_ok-start.ensures.items i ++ c.deref.ensures.value i) ∙ c.leave.ensures.image in
    let held = ap (λ (r : RecordState). content c.append.new.bytes.items r.calls) c.in_ok-new.ensures ∙ start in
    subst (MayLeave s.start s.calls) (sym held) (allowed c.args.kept s.start s.calls)
