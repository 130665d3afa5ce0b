use Rattle.std.proofs.Common.{◌≡◌, ◌++◌, drop}
use Rattle.generated_script.specs.Columns.{columns_of}
use Rattle.generated_script.specs.GeneratedScript.{in_columns}
use Rattle.generated_script.proofs.columns.add_line.Given as goal

-- the columns that are left make the line whole
abbrev pub invariant-loop-width : goal.invariant-loop-width
invariant-loop-width l =
    l.bytes.items ++ in_columns (columns_of (drop l.width-index l.columns)) ≡ l.fn.bytes.items ++ in_columns (columns_of l.columns)
