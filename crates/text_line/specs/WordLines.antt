-- Lines of words.
use Rattle.std.specs.Prelude.{ℕ, List, [], ◌∷◌, ◌++◌, if◌then◌else◌}
use Rattle.ali_base.specs.Columns.{is_empty}

-- a line with one word more, after a space; an empty word is left out
abbrev pub with_word : List ℕ → List ℕ → List ℕ
with_word line word = if is_empty word then line else (if is_empty line then word else line ++ 32 ∷ word)

abbrev pub with_words : List ℕ → List (List ℕ) → List ℕ
with_words line [] = line
with_words line (word ∷ words) = with_words (with_word line word) words

-- the words, joined by one space, and the end of the line
abbrev pub line_of : List (List ℕ) → List ℕ
line_of words = with_words [] words ++ 10 ∷ []
