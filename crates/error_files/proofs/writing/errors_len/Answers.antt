use Rattle.std.proofs.Common.{◌≡◌, ◌+◌, ◌*◌, ◌≤◌, ◌==◌, not, ap, sym, ◌∙◌, arith}
use Rattle.std.proofs.Math.Nat.{mul-le-mul_left}
use Rattle.std.proofs.lemmas.List.Sums.{count_by-le-length}
use Rattle.batch_frame.specs.CarrierFile.{piece_size}
use Rattle.batch_frame.proofs.Records.{few}
use Rattle.error_files.proofs.Refusals.{error_file-length, small_pieces}
use Rattle.error_files.proofs.writing.errors_len.Goals as goal

pub count_refused-requires : goal.count_refused-requires
count_refused-requires c =
    let read = c.separator.ensures.sound in
    omega (arith, c.requires, few read.0 c.args.file.now read.1)

pub overflow_mul-result : goal.overflow_mul-result
overflow_mul-result c =
    let read = c.separator.ensures.sound in
    let count : c.count_refused.result ≤ 10_000 = omega (arith, count_by-le-length (λ code. not (code == 0)) c.args.codes.now, few read.0 c.args.file.now read.1) in
    let size : c.piece_size-size.result ≤ 514 = omega (arith, small_pieces c.separator.result) in
    omega (arith, mul-le-mul_left (c.count_refused.result + 2) size)

pub returns : goal.returns
returns c =
    let size : c.piece_size-size.result ≡ piece_size c.args.file.now.separator = c.piece_size-size.ensures.value ∙ ap piece_size c.separator.ensures.value in
    let turned : (c.count_refused.result + 2) * c.piece_size-size.result ≡ c.piece_size-size.result * (c.count_refused.result + 2) = omega arith in
    turned ∙ ap (λ p. p * (c.count_refused.result + 2)) size ∙ ap (λ n. piece_size c.args.file.now.separator * (n + 2)) c.count_refused.ensures
    ∙ sym (error_file-length c.args.file.now c.args.codes.now c.separator.ensures.sound c.requires)
