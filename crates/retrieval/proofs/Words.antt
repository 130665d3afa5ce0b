-- Lines of words that are lent.
use Rattle.std.proofs.Common.{◌≡◌, ℕ, ◌+◌, suc, ◌-◌, ◌<◌, ◌≤◌, max, List, [], ◌∷◌, length, drop, get_or, length-append, ap, ◌∙◌, arith}
use Rattle.std.proofs.Math.Seq.{drop-cons}
use Rattle.std.specs.Borrow.{Bor}
use Rattle.std.proofs.lemmas.List.Sums.{sum_by-cons}
use Rattle.text_line.specs.WordLines.{with_word, with_words, line_of}
use Rattle.retrieval.specs.WordLists.{texts, widths}

-- a word more; a line counts one byte less than its words' widths
width_more : (line word : List ℕ) (n : ℕ) → length line ≤ n - 1 → length (with_word line word) ≤ n + (length word + 1) - 1
width_more [] [] n h = omega arith
width_more [] (w ∷ word) n h = omega (arith, h)
width_more (x ∷ line) [] n h = omega (arith, h)
width_more (x ∷ line) (w ∷ word) n h = omega (arith, h, length-append (x ∷ line) (32 ∷ w ∷ word))

widths_all : (words : List (Bor (List ℕ))) (line : List ℕ) (n : ℕ) → length line ≤ n - 1 → length (with_words line (texts words)) ≤ n + widths words - 1
widths_all [] line n h = omega (arith, h)
widths_all (word ∷ words) line n h =
    omega (arith, widths_all words (with_word line word.now) (n + (length word.now + 1)) (width_more line word.now n h), sum_by-cons (λ (w : Bor (List ℕ)). length w.now + 1) word words)

-- the length of a line of words
pub line_width : (words : List (Bor (List ℕ))) → length (line_of (texts words)) ≤ max 1 (widths words)
line_width words = omega (arith, widths_all words [] 0 (omega arith), length-append (with_words [] (texts words)) (10 ∷ []))

-- what stands past the last word
abbrev no_word : Bor (List ℕ)
no_word = record { ref_ptr = (0, 0); now = [] }

-- the first of the words that are left
next_word : (words : List (Bor (List ℕ))) (i : ℕ) → i < length words → drop i words ≡ get_or words i no_word ∷ drop (i + 1) words
next_word words i h = let e : suc i ≡ i + 1 = omega arith in drop-cons words i no_word h ∙ ap (λ n. get_or words i no_word ∷ drop n words) e

pub widths_next : (words : List (Bor (List ℕ))) (i : ℕ) → i < length words → widths (drop i words) ≡ length (get_or words i no_word).now + 1 + widths (drop (i + 1) words)
widths_next words i h = ap widths (next_word words i h) ∙ sum_by-cons (λ (w : Bor (List ℕ)). length w.now + 1) (get_or words i no_word) (drop (i + 1) words)

pub line_next : (words : List (Bor (List ℕ))) (i : ℕ) (line : List ℕ) → i < length words
    → with_words line (texts (drop i words)) ≡ with_words (with_word line (get_or words i no_word).now) (texts (drop (i + 1) words))
line_next words i line h = ap (λ left. with_words line (texts left)) (next_word words i h)
