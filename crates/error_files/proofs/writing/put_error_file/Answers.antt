use Rattle.std.proofs.Common.{length, refl}
use Rattle.ali_base.proofs.Puts.{puts_then, puts_stop}
use Rattle.error_files.specs.ErrorFile.{refused_records, counted_trailer}
use Rattle.error_files.proofs.Refusals.{error_file-pieces}
use Rattle.error_files.proofs.writing.put_error_file.Goals as goal

pub returns-in_err-put_record : goal.returns-in_err-put_record
returns-in_err-put_record g c =
    let file = c.args.file.now in
    let codes = c.args.codes.now in
    let count = length (refused_records file.records codes) in
    let is = error_file-pieces file codes c.header.result.now file.trailer (counted_trailer file.trailer count) c.separator-separator.result file.separator count
    c.header.ensures.value c.separator-separator.ensures.value refl refl refl refl in
    record { put = puts_stop _ is c.in_err-put_record.ensures.put c.from_residual.ensures.0 }

pub returns-in_err-count : goal.returns-in_err-count
returns-in_err-count g c =
    let file = c.args.file.now in
    let codes = c.args.codes.now in
    let count = length (refused_records file.records codes) in
    let is = error_file-pieces file codes c.header.result.now file.trailer (counted_trailer file.trailer count) c.separator-separator.result file.separator count
    c.header.ensures.value c.separator-separator.ensures.value refl refl refl refl in
    record { put = puts_then is c.in_ok-put_record.ensures.put (puts_stop _ refl c.in_err-count.ensures.put c.from_residual-in_err-count.ensures.0) }

pub returns : goal.returns
returns g c =
    let is = error_file-pieces c.args.file.now c.args.codes.now c.header.result.now c.trailer.result.now c.counted_trailer-trailer.result c.separator-separator.result c.separator-separator.result c.in_ok-count.count
    c.header.ensures.value c.separator-separator.ensures.value c.separator-separator.ensures.value c.trailer.ensures c.in_ok-count.ensures.count.0 c.counted_trailer-trailer.ensures in
    record { put = puts_then is c.in_ok-put_record.ensures.put (puts_then refl c.in_ok-count.ensures.put c.put_record-2.ensures.put) }
