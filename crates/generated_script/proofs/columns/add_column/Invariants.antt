use Rattle.std.proofs.Common.{◌≡◌, ◌++◌, ◌-◌, ◌≤◌, length, max, replicate}
use Rattle.generated_script.proofs.columns.add_column.Given as goal

-- the text, and spaces as far as the counter
abbrev pub invariant-loop : goal.invariant-loop
invariant-loop l = record {
  text : l.bytes.items ≡ (l.fn.bytes.items ++ l.text) ++ replicate (l.counter - length l.text) 32;
  end : l.counter ≤ max (length l.text) l.width;
}
