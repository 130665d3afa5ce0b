-- Words that are lent, one after the other.
use Rattle.std.specs.Prelude.{ℕ, ◌+◌, List, length, map}
use Rattle.std.specs.List.{sum_by}
use Rattle.std.specs.Borrow.{Bor}

-- the words' bytes
abbrev pub texts : List (Bor (List ℕ)) → List (List ℕ)
texts words = map (λ word. word.now) words

-- their bytes, and one byte for each word: a space or the end of the line
abbrev pub widths : List (Bor (List ℕ)) → ℕ
widths words = sum_by (λ word. length word.now + 1) words
