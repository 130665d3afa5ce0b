use Rattle.std.proofs.Common.{◌≡◌, ◌≤◌, length}
use Rattle.ali_base.specs.Columns.{trimmed}
use Rattle.ali_base.proofs.fields.trimmed.Given as goal

abbrev pub invariant-loop-rest : goal.invariant-loop-rest
invariant-loop-rest l = record {
  same : trimmed l.rest ≡ trimmed l.bytes;
  shorter : length l.rest ≤ length l.bytes;
}

abbrev pub decreases-loop-rest : goal.decreases-loop-rest
decreases-loop-rest l = length l.rest
