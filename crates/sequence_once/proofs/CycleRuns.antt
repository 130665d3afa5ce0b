-- What is found by its number in a run of consecutive cycles.
use Rattle.std.proofs.Common.{◌≡◌, ℕ, zero, suc, ◌<◌, ◌≤◌, ◌==◌, Bool, true, false, cond, List, [], ◌∷◌, ◌++◌, drop, Option, Some, refl, ap, sym, subst, ◌∙◌, arith}
use Rattle.std.specs.List.{find, All, AllByRecursion}
use Rattle.std.proofs.lemmas.List.Elements.{All-head, All-tail}
use Rattle.std.proofs.lemmas.Bool.Decides.{nat_tests}
use Rattle.sequence_once.specs.KeptCycles.{CycleRecord, newest, is_finished, is_last_finished, IsRun, note_last}
use Rattle.sequence_once.specs.CycleStanding.{last_number}
use Rattle.sequence_once.proofs.Runs.{newest_more, rising}
use Rattle.sequence_once.proofs.TooOldFiles.{first_lowest}

-- the cycle with a number
abbrev pub found : ℕ → List CycleRecord → Option CycleRecord
found cycle xs = find (λ k. k.cycle == cycle) xs

pub found_number : (cycle : ℕ) (xs : List CycleRecord) (j : CycleRecord) → found cycle xs ≡ Some j → j.cycle ≡ cycle
found_number cycle [] j e = cc
found_number cycle (x ∷ xs) j e = at (x.cycle == cycle) refl (λ f. found_number cycle xs j f)
  where
    at : (b : Bool) → (x.cycle == cycle) ≡ b → (found cycle xs ≡ Some j → j.cycle ≡ cycle) → j.cycle ≡ cycle
    at true t later =
        let same : x ≡ j = (let here = rw t at e in cc) in
        let number : x.cycle ≡ cycle = grind (arith, nat_tests) in
        ap (λ (k : CycleRecord). k.cycle) (sym same) ∙ number
    at false t later = later (rw t at e)

-- the last cycle is found by its number
pub found_newest : (xs : List CycleRecord) (k : CycleRecord) → IsRun xs → newest xs ≡ Some k → found k.cycle xs ≡ Some k
found_newest [] k run e = cc
found_newest (x ∷ []) k run e =
    let same : x ≡ k = cc in
    let yes : (x.cycle == k.cycle) ≡ true = grind (arith, nat_tests, ap (λ (r : CycleRecord). r.cycle) same) in
    rw yes (ap (λ (r : CycleRecord). Some r) same)
found_newest (x ∷ y ∷ rest) k run e =
    let last : newest (y ∷ rest) ≡ Some k = sym (newest_more x y rest) ∙ e in
    let below : y.cycle ≤ k.cycle = omega (arith, first_lowest y rest run.1, ap last_number last) in
    let no : (x.cycle == k.cycle) ≡ false = grind (arith, nat_tests, run.0.0, below) in
    rw no (found_newest (y ∷ rest) k run.1 last)

-- an unfinished cycle is the last
pub found_unfinished : (cycle : ℕ) (xs : List CycleRecord) (k : CycleRecord) → IsRun xs → found cycle xs ≡ Some k → is_finished k ≡ false → newest xs ≡ Some k
found_unfinished cycle [] k run e undone = cc
found_unfinished cycle (x ∷ []) k run e undone = at (x.cycle == cycle) refl
  where
    at : (b : Bool) → (x.cycle == cycle) ≡ b → newest (x ∷ []) ≡ Some k
    at true t = rw t at e
    at false t = let none = rw t at e in cc
found_unfinished cycle (x ∷ y ∷ rest) k run e undone = at (x.cycle == cycle) refl (λ f. found_unfinished cycle (y ∷ rest) k run.1 f undone)
  where
    at : (b : Bool) → (x.cycle == cycle) ≡ b → (found cycle (y ∷ rest) ≡ Some k → newest (y ∷ rest) ≡ Some k) → newest (x ∷ y ∷ rest) ≡ Some k
    at true t later =
        let same : x ≡ k = (let here = rw t at e in cc) in
        absurd (let done : is_finished k ≡ true = ap is_finished (sym same) ∙ run.0.1 in cc)
    at false t later = newest_more x y rest ∙ later (rw t at e)

found_above : (a cycle : ℕ) (xs : List CycleRecord) (j : CycleRecord) → AllByRecursion (λ y. a < y.cycle) xs → found cycle xs ≡ Some j → a < cycle
found_above a cycle [] j h e = cc
found_above a cycle (x ∷ xs) j h e = at (x.cycle == cycle) refl (λ f. found_above a cycle xs j h.1 f)
  where
    at : (b : Bool) → (x.cycle == cycle) ≡ b → (found cycle xs ≡ Some j → a < cycle) → a < cycle
    at true t later = grind (arith, nat_tests, h.0)
    at false t later = later (rw t at e)

-- what is found among the later cycles of a run is found in the run
pub found_drop : (n cycle : ℕ) (xs : List CycleRecord) (j : CycleRecord) → IsRun xs → found cycle (drop n xs) ≡ Some j → found cycle xs ≡ Some j
found_drop zero cycle xs j run e = e
found_drop (suc n) cycle [] j run e = e
found_drop (suc n) cycle (x ∷ xs) j run e =
    let later : found cycle xs ≡ Some j = found_drop n cycle xs j run.1 e in
    let above : x.cycle < cycle = found_above x.cycle cycle xs j (rising x xs run) later in
    let no : (x.cycle == cycle) ≡ false = grind (arith, nat_tests, above) in
    rw no later

-- a cycle with another number is not found
pub found_push : (cycle : ℕ) (xs : List CycleRecord) (k : CycleRecord) → (k.cycle == cycle) ≡ false → found cycle (xs ++ k ∷ []) ≡ found cycle xs
found_push cycle [] k other = rw other refl
found_push cycle (x ∷ xs) k other = ap (cond (x.cycle == cycle) (Some x)) (found_push cycle xs k other)

-- a code under an unfinished last cycle changes no finished cycle
pub found_note : (cycle code : ℕ) (xs : List CycleRecord) → is_last_finished (newest xs) ≡ false → ((j : CycleRecord) → found cycle xs ≡ Some j → is_finished j ≡ true) → found cycle (note_last code xs) ≡ found cycle xs
found_note cycle code [] undone h = refl
found_note cycle code (x ∷ []) undone h = at (x.cycle == cycle) refl
  where
    at : (b : Bool) → (x.cycle == cycle) ≡ b → found cycle (note_last code (x ∷ [])) ≡ found cycle (x ∷ [])
    at true t = absurd (let done : is_finished x ≡ true = h x (rw t refl) in cc)
    at false t = rw t refl
found_note cycle code (x ∷ y ∷ rest) undone h =
    at (x.cycle == cycle) refl (λ g. found_note cycle code (y ∷ rest) (ap is_last_finished (sym (newest_more x y rest)) ∙ undone) g)
  where
    at : (b : Bool) → (x.cycle == cycle) ≡ b → (((j : CycleRecord) → found cycle (y ∷ rest) ≡ Some j → is_finished j ≡ true) → found cycle (note_last code (y ∷ rest)) ≡ found cycle (y ∷ rest)) → found cycle (note_last code (x ∷ y ∷ rest)) ≡ found cycle (x ∷ y ∷ rest)
    at true t later = rw t refl
    at false t later = rw t (later (λ j e. h j (rw t e)))

-- what holds of each cycle holds of the last
pub newest_holds : (P : CycleRecord → Type 0) (xs : List CycleRecord) (k : CycleRecord) → All P xs → newest xs ≡ Some k → P k
newest_holds P [] k h e = cc
newest_holds P (x ∷ []) k h e = let same : x ≡ k = cc in subst P same (All-head P x [] h)
newest_holds P (x ∷ y ∷ rest) k h e = newest_holds P (y ∷ rest) k (All-tail P x (y ∷ rest) h) (sym (newest_more x y rest) ∙ e)
