use Rattle.std.proofs.Common.{◌+◌, length, sym, ap, subst, arith}
use Rattle.ali_base.specs.WholePuts.{Puts}
use Rattle.ali_base.proofs.Puts.{PutsFront, front_more, front_stop}
use Rattle.batch_frame.specs.declared.separator.Separator.{Separator}
use Rattle.batch_frame.specs.CarrierFile.{separated}
use Rattle.error_files.specs.ErrorFile.{refused_records}
use Rattle.error_files.proofs.Refusals.{refused_from, refused_lent, accepted_step}
use Rattle.error_files.proofs.writing.put_refused.Goals as goal
use Rattle.error_files.proofs.writing.put_refused.Goals.{then-code-ne0+in_ok-put_record, else-code-ne0}

pub returns-in_err-put_record-clause-put : goal.returns-in_err-put_record-clause-put
returns-in_err-put_record-clause-put g c =
    let sink = g.K.Sink in
    let records = c.args.file.now.records in
    let codes = c.args.codes.now in
    let i = c.loop-i.i in
    let rest = separated c.separator-separator.result (refused_from records codes (i + 1)) in
    let is = refused_lent records codes i c.records.result.now c.refused_record-bytes.result (omega arith) (omega arith) c.if-code-ne0.true c.refused_record-bytes.ensures c.records.ensures in
    let P : Separator → Type 0 = λ s. Puts sink.contents sink.faults c.args.sink.now c.put_record.new.sink (separated s (refused_records records codes)) c.from_residual.result in
    subst P c.separator-separator.ensures.value (front_stop rest c.loop-i.invariant.put (ap (separated c.separator-separator.result) is) c.in_err-put_record.ensures.put c.from_residual.ensures.0)

pub loop-i-preserved : goal.loop-i-preserved
loop-i-preserved g c =
    let sink = g.K.Sink in
    let records = c.args.file.now.records in
    let codes = c.args.codes.now in
    let s = c.separator-separator.result in
    let i = c.loop-i.i in
    let all = separated s (refused_records records codes) in
    let rest = separated s (refused_from records codes (i + 1)) in
    elim c.if-code-ne0.branch [
      | then-code-ne0+in_ok-put_record w ↦ (
          let is = refused_lent records codes i w.records.result.now w.refused_record-bytes.result (omega arith) (omega arith) w.if-code-ne0.true w.refused_record-bytes.ensures w.records.ensures in
          record {
            counted = omega (arith, ap length is, w.refused-is);
            few = omega (arith, w.refused-is);
            put = subst (λ z. PutsFront sink.contents sink.faults c.args.sink.now z all rest) (sym w.sink-is) (front_more rest c.loop-i.invariant.put (ap (separated s) is) w.in_ok-put_record.ensures.put);
          })
      | else-code-ne0 w ↦ (
          let is = accepted_step records codes i (omega arith) (omega arith) w.if-code-ne0.false in
          record {
            counted = omega (arith, ap length is, w.refused-is);
            few = omega (arith, w.refused-is);
            put = subst (λ z. PutsFront sink.contents sink.faults c.args.sink.now z all rest) (sym w.sink-is) (subst (PutsFront sink.contents sink.faults c.args.sink.now c.loop-i.sink all) (ap (separated s) is) c.loop-i.invariant.put);
          })
    ]
