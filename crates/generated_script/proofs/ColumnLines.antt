-- Lines, column by column.
use Rattle.std.proofs.Common.{◌≡◌, ℕ, suc, ◌+◌, ◌<◌, ◌≤◌, List, [], ◌∷◌, ◌++◌, length, drop, get_or, replicate, refl, sym, ap, ◌∙◌, arith, append_assoc, append-nil}
use Rattle.std.proofs.Math.Seq.{drop-cons}
use Rattle.std.proofs.lemmas.List.{drop_all, replicate-append-replicate}
use Rattle.std.specs.Borrow.{Bor}
use Rattle.ali_base.specs.StreetKey.{padded_to}
use Rattle.text_line.specs.WordLines.{with_word}
use Rattle.generated_script.specs.Columns.{columns_of}
use Rattle.generated_script.specs.GeneratedScript.{in_columns, line_of}

-- one space more
pub space_more : (start : List ℕ) (n m : ℕ) → n + 1 ≡ m → (start ++ replicate n 32) ++ 32 ∷ [] ≡ start ++ replicate m 32
space_more start n m next =
    append_assoc start (replicate n 32) (32 ∷ [])
    ∙ ap (λ z. start ++ z) (replicate-append-replicate n 1 32 ∙ ap (λ k. replicate k 32) next)

-- what stands past the last column
abbrev pub no_column : ℕ × Bor (List ℕ)
no_column = (0, record { ref_ptr = (0, 0); now = [] })

-- the first of the columns that are left
columns_next : (columns : List (ℕ × Bor (List ℕ))) (i : ℕ) → i < length columns
    → in_columns (columns_of (drop i columns)) ≡ padded_to (get_or columns i no_column).0 (get_or columns i no_column).1.now ++ in_columns (columns_of (drop (i + 1) columns))
unfolding in_columns
columns_next columns i h =
    let next : suc i ≡ i + 1 = omega arith in
    ap (λ left. in_columns (columns_of left)) (drop-cons columns i no_column h ∙ ap (λ n. get_or columns i no_column ∷ drop n columns) next)

-- a column more
pub column_more : (columns : List (ℕ × Bor (List ℕ))) (i : ℕ) (bytes more : List ℕ) → i < length columns
    → more ≡ bytes ++ padded_to (get_or columns i no_column).0 (get_or columns i no_column).1.now
    → more ++ in_columns (columns_of (drop (i + 1) columns)) ≡ bytes ++ in_columns (columns_of (drop i columns))
column_more columns i bytes more h is =
    let text = padded_to (get_or columns i no_column).0 (get_or columns i no_column).1.now in
    let left = in_columns (columns_of (drop (i + 1) columns)) in
    ap (λ z. z ++ left) is ∙ append_assoc bytes text left ∙ ap (λ z. bytes ++ z) (sym (columns_next columns i h))

no_columns : in_columns [] ≡ []
unfolding in_columns
no_columns = refl

-- the line, where no column is left
pub line_whole : (columns : List (ℕ × Bor (List ℕ))) (i : ℕ) (start bytes : List ℕ) → length columns ≤ i
    → bytes ++ in_columns (columns_of (drop i columns)) ≡ start ++ in_columns (columns_of columns)
    → bytes ++ 10 ∷ [] ≡ start ++ line_of (columns_of columns)
line_whole columns i start bytes h is =
    let none : in_columns (columns_of (drop i columns)) ≡ [] = ap (λ left. in_columns (columns_of left)) (drop_all i columns h) ∙ no_columns in
    let all : bytes ≡ start ++ in_columns (columns_of columns) = sym (append-nil bytes) ∙ ap (λ z. bytes ++ z) (sym none) ∙ is in
    ap (λ z. z ++ 10 ∷ []) all ∙ append_assoc start (in_columns (columns_of columns)) (10 ∷ [])

-- a word with digits behind it
pub two_words : (word digits : List ℕ) → 0 < length word → 0 < length digits → with_word (with_word [] word) digits ≡ word ++ 32 ∷ digits
two_words [] digits h k = absurd (omega arith)
two_words (w ∷ ws) [] h k = absurd (omega arith)
two_words (w ∷ ws) (d ∷ ds) h k = refl
