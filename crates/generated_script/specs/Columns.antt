-- Columns that are lent.
use Rattle.std.specs.Prelude.{ℕ, List, map}
use Rattle.std.specs.Borrow.{Bor}

-- their widths and texts
abbrev pub columns_of : List (ℕ × Bor (List ℕ)) → List (ℕ × List ℕ)
columns_of columns = map (λ column. (column.0, column.1.now)) columns
