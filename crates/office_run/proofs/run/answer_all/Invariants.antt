use Rattle.std.proofs.Common.{◌+◌, ◌≤◌, length}
use Rattle.office_run.proofs.Serving.{Served}
use Rattle.office_run.proofs.run.answer_all.Given as goal

abbrev pub invariant-loop-rest : goal.invariant-loop-rest
invariant-loop-rest g l =
    let contents = g.K.Sink.contents in
    record {
      served : Served g.D.Disk.state l.script (contents l.fn.sink) (contents l.sink) l.rest l.fn.desk l.desk l.count;
      small : l.count + length l.rest ≤ length l.script;
      later : g.K.Sink.faults l.fn.sink ≤ g.K.Sink.faults l.sink;
    }

abbrev pub decreases-loop-rest : goal.decreases-loop-rest
decreases-loop-rest g l = length l.rest
