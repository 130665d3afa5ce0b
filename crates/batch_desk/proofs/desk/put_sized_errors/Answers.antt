use Rattle.std.proofs.Common.{refl, ◌∙◌}
use Rattle.ali_base.proofs.Puts.{puts_then, puts_stop}
use Rattle.error_files.specs.ErrorFile.{error_file}
use Rattle.batch_desk.proofs.Replies.{sized-pieces}
use Rattle.batch_desk.proofs.desk.put_sized_errors.Goals as goal

pub returns-in_err-put_error_file : goal.returns-in_err-put_error_file
returns-in_err-put_error_file g c =
    let errors = error_file c.args.file.now c.args.codes.now in
    let is = sized-pieces errors c.bytes.result.now c.errors_len.result (c.bytes.ensures.same ∙ c.errors_line.ensures) c.errors_len.ensures in
    record { put = puts_then is c.in_ok-put_all.ensures.put (puts_stop _ refl c.in_err-put_error_file.ensures.put c.from_residual-in_err-put_error_file.ensures.0) }

pub returns : goal.returns
returns g c =
    let errors = error_file c.args.file.now c.args.codes.now in
    let is = sized-pieces errors c.bytes.result.now c.errors_len.result (c.bytes.ensures.same ∙ c.errors_line.ensures) c.errors_len.ensures in
    record { put = puts_then is c.in_ok-put_all.ensures.put (puts_then refl c.in_ok-put_error_file.ensures.put c.put_all-2.ensures.put) }
