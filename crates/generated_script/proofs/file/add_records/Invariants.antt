use Rattle.std.proofs.Common.{◌≡◌, ◌++◌, ◌-◌, ◌*◌}
use Rattle.generated_script.specs.GeneratedScript.{record_lines, state_after}
use Rattle.generated_script.proofs.file.add_records.Given as goal

-- the records before record i + 1 are added, and the draws stand behind theirs
abbrev pub invariant-loop-i : goal.invariant-loop-i
invariant-loop-i l = record {
  text : l.bytes.items ≡ l.fn.bytes.items ++ record_lines l.fn.draws.seed l.fn.before (l.i - l.fn.before);
  seed : l.draws.seed ≡ l.fn.draws.seed;
  state : l.draws.state ≡ state_after l.fn.draws.seed (2 * l.i);
}
