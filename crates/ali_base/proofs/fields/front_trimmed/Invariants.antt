use Rattle.std.proofs.Common.{◌≡◌, ◌≤◌, length}
use Rattle.ali_base.specs.Columns.{front_trimmed}
use Rattle.ali_base.proofs.fields.front_trimmed.Given as goal

abbrev pub invariant-loop-rest : goal.invariant-loop-rest
invariant-loop-rest l = record {
  same : front_trimmed l.rest ≡ front_trimmed l.bytes;
  shorter : length l.rest ≤ length l.bytes;
}

abbrev pub decreases-loop-rest : goal.decreases-loop-rest
decreases-loop-rest l = length l.rest
