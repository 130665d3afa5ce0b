-- The lines that are left to be written.
use Rattle.std.proofs.Common.{◌≡◌, ℕ, zero, suc, ◌+◌, ◌-◌, ◌<◌, ◌==◌, Bool, true, false, cond, List, [], ◌∷◌, ◌++◌, length, drop, get_or, map, filter, flat_map, filter_map, Option, Some, None, option_map, refl, ap, sym, ◌∙◌, arith, append_assoc, slice_get, IfOk, Result, Ok, Err}
use Rattle.std.specs.Fmt.{signed_decimal}
use Rattle.std.specs.List.{cons_option, range_with_len}
use Rattle.std.proofs.lemmas.List.Concat.{flat_map-append}
use Rattle.ali_base.specs.CivilDay.{CivilDay, days_between}
use Rattle.number_life.specs.declared.row.Row.{Row}
use Rattle.sequence_once.specs.KeptCycles.{CycleRecord}
use Rattle.audit_reports.specs.CodeLines.{cycle_rows, line_fields}
use Rattle.audit_reports.specs.CsvLines.{csv_line}
use Rattle.audit_reports.specs.Listings.{row_fields, unlocked_fields}

-- a line more was written, and one less is left
pub line_more : (old now line left rest whole : List ℕ) → now ≡ old ++ line → left ≡ line ++ rest → old ++ left ≡ whole → now ++ rest ≡ whole
line_more old now line left rest whole n l w = ap (λ z. z ++ rest) n ∙ append_assoc old line rest ∙ ap (λ z. old ++ z) (sym l) ∙ w

-- three pieces were written, one after the other
pub three_written : (a b c d x y z : List ℕ) → a ≡ [] → b ≡ a ++ x → c ≡ b ++ y → d ≡ c ++ z → d ≡ [] ++ x ++ y ++ z
three_written a b c d x y z none first second third =
    third ∙ ap (λ w. w ++ z) (second ∙ ap (λ w. w ++ y) (first ∙ ap (λ w. w ++ x) none))

-- what holds of a text holds of what follows from it
pub if_ok : {A E : Type 0} {P Q : A → Type 0} (r : Result A E) → ((x : A) → P x → Q x) → IfOk r P → IfOk r Q
if_ok (Ok x) f h = f x h
if_ok (Err e) f h = h

-- a row that is unlocked is listed
pub unlocked_more : (day : CivilDay) (row : Row) (from : CivilDay) (rest : List Row) → row.unlocked ≡ Some from
    → flat_map csv_line (filter_map (unlocked_fields day) (row ∷ rest)) ≡ csv_line (row_fields row ++ signed_decimal (days_between from day) ∷ []) ++ flat_map csv_line (filter_map (unlocked_fields day) rest)
unlocked_more day row from rest h =
    ap (λ u. flat_map csv_line (cons_option (option_map (λ f. row_fields row ++ signed_decimal (days_between f day) ∷ []) u) (filter_map (unlocked_fields day) rest))) h

-- the item at a place, and those behind it
item_at : {A : Type 0} (xs : List A) (i : ℕ) (x : A) → slice_get xs i ≡ Some x → drop i xs ≡ x ∷ drop (i + 1) xs
item_at [] i x h = cc
item_at (y ∷ ys) zero x h = let same : y ≡ x = cc in ap (λ z. z ∷ ys) same
item_at (y ∷ ys) (suc i) x h = let next : suc (i + 1) ≡ suc i + 1 = omega arith in item_at ys i x h ∙ ap (λ n. x ∷ drop n (y ∷ ys)) next

-- the lines of the cycle at a place, and those of the cycles behind it
pub cycle_more : (code : ℕ) (kept : List CycleRecord) (i : ℕ) (k : CycleRecord) → slice_get kept i ≡ Some k
    → flat_map csv_line (flat_map (cycle_rows code) (drop i kept)) ≡ flat_map csv_line (cycle_rows code k) ++ flat_map csv_line (flat_map (cycle_rows code) (drop (i + 1) kept))
cycle_more code kept i k h =
    ap (λ ks. flat_map csv_line (flat_map (cycle_rows code) ks)) (item_at kept i k h)
    ∙ flat_map-append csv_line (cycle_rows code k) (flat_map (cycle_rows code) (drop (i + 1) kept))

-- past the last of them
pub none_left : {A : Type 0} (xs : List A) (i : ℕ) → slice_get xs i ≡ None → drop i xs ≡ []
none_left [] zero h = refl
none_left [] (suc i) h = refl
none_left (x ∷ xs) zero h = cc
none_left (x ∷ xs) (suc i) h = none_left xs i h

-- the lines of a cycle that are left behind so many
abbrev pub lines_behind : ℕ → CycleRecord → ℕ → List ℕ
lines_behind code k i =
    flat_map csv_line (map (line_fields code k) (filter (λ line. get_or k.codes (line - 1) 0 == code) (range_with_len (i + 1) (length k.codes - i))))

next_line : (i n : ℕ) → i < n → range_with_len (i + 1) (n - i) ≡ (i + 1) ∷ range_with_len (i + 1 + 1) (n - (i + 1))
next_line i n h = ap (range_with_len (i + 1)) (let more : n - i ≡ suc (n - (i + 1)) = omega (arith, h) in more)

by_code : (code : ℕ) (k : CycleRecord) (i : ℕ) (got : Bool) → i < length k.codes → (get_or k.codes i 0 == code) ≡ got
    → lines_behind code k i ≡ flat_map csv_line (map (line_fields code k) (cond got ((i + 1) ∷ []) [] ++ filter (λ line. get_or k.codes (line - 1) 0 == code) (range_with_len (i + 1 + 1) (length k.codes - (i + 1)))))
by_code code k i got inside is =
    let F : List ℕ → List ℕ = λ lines. flat_map csv_line (map (line_fields code k) lines) in
    let left = filter (λ line. get_or k.codes (line - 1) 0 == code) (range_with_len (i + 1 + 1) (length k.codes - (i + 1))) in
    let here : i + 1 - 1 ≡ i = omega arith in
    ap (λ lines. F (filter (λ line. get_or k.codes (line - 1) 0 == code) lines)) (next_line i (length k.codes) inside)
    ∙ ap (λ n. F (cond (get_or k.codes n 0 == code) ((i + 1) ∷ left) left)) here
    ∙ ap (λ b. F (cond b ((i + 1) ∷ left) left)) is
    ∙ chosen F got left
  where
    chosen : (F : List ℕ → List ℕ) (b : Bool) (left : List ℕ) → F (cond b ((i + 1) ∷ left) left) ≡ F (cond b ((i + 1) ∷ []) [] ++ left)
    chosen F true left = refl
    chosen F false left = refl

-- a line that got the code is written
pub code_more : (code : ℕ) (k : CycleRecord) (i : ℕ) → i < length k.codes → (get_or k.codes i 0 == code) ≡ true
    → lines_behind code k i ≡ csv_line (line_fields code k (i + 1)) ++ lines_behind code k (i + 1)
code_more code k i inside is = by_code code k i true inside is

-- another is not
pub code_skipped : (code : ℕ) (k : CycleRecord) (i : ℕ) → i < length k.codes → (get_or k.codes i 0 == code) ≡ false → lines_behind code k i ≡ lines_behind code k (i + 1)
code_skipped code k i inside is = by_code code k i false inside is
