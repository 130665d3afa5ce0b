use Rattle.std.proofs.Common.{◌≡◌, ◌+◌, ◌≤◌, length}
use Rattle.ali_base.proofs.Puts.{PutsFront}
use Rattle.batch_frame.specs.CarrierFile.{separated}
use Rattle.error_files.specs.ErrorFile.{refused_records}
use Rattle.error_files.proofs.Refusals.{refused_from}
use Rattle.error_files.proofs.writing.put_refused.Given as goal

-- a front of the refused records was put and counted, and those from record i on are left
abbrev pub invariant-loop-i : goal.invariant-loop-i
invariant-loop-i g l =
    let sink = g.K.Sink in
    let left = refused_from l.file.records l.codes l.i in
    let all = refused_records l.file.records l.codes in
    record {
      counted : l.refused + length left ≡ length all;
      few : l.refused ≤ l.i;
      put : PutsFront sink.contents sink.faults l.fn.sink l.sink (separated l.separator all) (separated l.separator left);
    }
