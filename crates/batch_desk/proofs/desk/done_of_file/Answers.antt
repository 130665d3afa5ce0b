use Rattle.std.proofs.Common.{◌≡◌, length, ap, ◌∙◌, sym, arith}
use Rattle.batch_desk.proofs.Files.{complete_length}
use Rattle.batch_desk.proofs.desk.done_of_file.Goals as goal

pub count_refused-requires : goal.count_refused-requires
count_refused-requires c =
    let many : length c.kept_codes.result.now ≡ c.file-file.result.count = ap length c.kept_codes.ensures ∙ complete_length c.args.office.now.state c.args.job.now c.requires ∙ sym (ap (λ file. file.count) c.file-file.ensures.value) in
    omega (arith, c.count.ensures.limit, c.count.ensures.value)
