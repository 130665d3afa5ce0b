-- Where a company's cycles stand in the list, and what an edit at that place makes.
use Rattle.std.proofs.Common.{◌≡◌, ℕ, ◌+◌, ◌-◌, ◌<◌, ◌≤◌, ◌==◌, Bool, true, false, List, [], ◌∷◌, ◌++◌, length, take, drop, set, get_or, length-append, refl, ap, sym, ◌∙◌, arith, append_assoc, Some, if◌then◌else◌}
use Rattle.std.specs.List.{insert, remove}
use Rattle.std.specs.List.Sorted.{IsStrictlySortedBy}
use Rattle.std.proofs.Math.Seq.{take-append-add, take-append_seam, drop-append-add, drop-append_seam}
use Rattle.std.proofs.lemmas.List.{set-append_left, set-append_right, get_or_append_left, get_or-append_right}
use Rattle.std.proofs.lemmas.Option.{slice_get-get_or}
use Rattle.std.proofs.lemmas.List.Edits.{remove-append_right}
use Rattle.std.proofs.lemmas.Bool.Decides.{nat_tests}
use Rattle.sequence_once.specs.KeptCycles.{CycleRecord, cycle_order, of_company, before_company, after_company, with_company, last_of, last_eight, note_last}
use Rattle.sequence_once.proofs.Companies.{split}
use Rattle.sequence_once.proofs.Runs.{note_last_set}
use Rattle.sequence_once.specs.declared.cycles.TheConstants.{KEPT_CYCLES}

-- three lists, one after another
module _ {X : Type 0} (a b c : List X) where
  take_both : take (length a + length b) (a ++ (b ++ c)) ≡ a ++ b
  take_both = rw (take-append-add, take-append_seam) refl

  drop_both : drop (length a + length b) (a ++ (b ++ c)) ≡ c
  drop_both = rw (drop-append-add, drop-append_seam) refl

  pub middle : take (length b) (drop (length a) (a ++ (b ++ c))) ≡ b
  middle = rw (drop-append_seam, take-append_seam) refl

  pub insert_middle : (k : X) → insert (a ++ (b ++ c)) (length a + length b) k ≡ a ++ ((b ++ k ∷ []) ++ c)
  insert_middle k = rw (take_both, drop_both) (simp append_assoc)

  last_place : (i : ℕ) → i ≡ length a + length b - 1 → 0 < length b → i - length a ≡ length b - 1
  last_place i e some = omega arith

  pub set_middle : (i : ℕ) → i ≡ length a + length b - 1 → (v : X) → 0 < length b → set (a ++ (b ++ c)) i v ≡ a ++ (set b (length b - 1) v ++ c)
  set_middle i e v some =
      let place = last_place i e some in
      rw (set-append_right a (b ++ c) (length a) i v refl (omega arith), place, set-append_left b c (length b - 1) v (omega arith)) refl

  pub get_middle : (i : ℕ) → i ≡ length a + length b - 1 → (d : X) → 0 < length b → get_or (a ++ (b ++ c)) i d ≡ get_or b (length b - 1) d
  get_middle i e d some =
      let place = last_place i e some in
      rw (get_or-append_right a (b ++ c) (length a) i d refl (omega arith), place, get_or_append_left b c d (length b - 1) (omega arith)) refl

  pub remove_middle : (x : X) → remove (a ++ ((x ∷ b) ++ c)) (length a) ≡ a ++ (b ++ c)
  remove_middle x = rw (remove-append_right a ((x ∷ b) ++ c) (length a) (length a) refl (omega arith), self_less (length a)) refl
    where
      self_less : (n : ℕ) → n - n ≡ 0
      self_less n = omega arith

module _ (c : List ℕ) (xs : List CycleRecord) (sorted : IsStrictlySortedBy cycle_order xs) where
  -- a company's cycles begin behind those of the companies before it
  pub place_in_range : length (before_company c xs) + length (of_company c xs) ≤ length xs
  place_in_range = omega (arith, ap length (split c xs sorted), length-append (before_company c xs) (of_company c xs ++ after_company c xs), length-append (of_company c xs) (after_company c xs))

  -- and stand there one after another
  pub cycles_at : (from to : ℕ) → from ≡ length (before_company c xs) → to ≡ length (before_company c xs) + length (of_company c xs) → take (to - from) (drop from xs) ≡ of_company c xs
  cycles_at from to e f =
      let count : to - from ≡ length (of_company c xs) = omega (arith, e, f) in
      rw (count, e) (ap (λ ys. take (length (of_company c xs)) (drop (length (before_company c xs)) ys)) (split c xs sorted) ∙ middle (before_company c xs) (of_company c xs) (after_company c xs))

  -- a new cycle goes behind them, and the oldest goes where there are nine
  pub opened_at : (k : CycleRecord) → insert xs (length (before_company c xs) + length (of_company c xs)) k ≡ with_company c (of_company c xs ++ k ∷ []) xs
  opened_at k = ap (λ ys. insert ys (length (before_company c xs) + length (of_company c xs)) k) (split c xs sorted) ∙ insert_middle (before_company c xs) (of_company c xs) (after_company c xs) k

  pub noted_at : (i code : ℕ) (v k : CycleRecord) → i ≡ length (before_company c xs) + length (of_company c xs) - 1 → 0 < length (of_company c xs) → k ≡ get_or xs i k → v ≡ record k { codes = k.codes ++ code ∷ [] } → set xs i v ≡ with_company c (note_last code (of_company c xs)) xs
  noted_at i code v k e some read new =
      let read_own : k ≡ get_or (of_company c xs) (length (of_company c xs) - 1) k = read ∙ (ap (λ ys. get_or ys i k) (split c xs sorted) ∙ get_middle (before_company c xs) (of_company c xs) (after_company c xs) i e k some) in
      let last = note_last_set code (of_company c xs) k some in
      let put : set (of_company c xs) (length (of_company c xs) - 1) v ≡ note_last code (of_company c xs) = rw new (rw (← read_own) at (sym last)) in
      ap (λ ys. set ys i v) (split c xs sorted) ∙ set_middle (before_company c xs) (of_company c xs) (after_company c xs) i e v some ∙ ap (λ ys. before_company c xs ++ (ys ++ after_company c xs)) put

  -- the last of them is the company's last cycle
  pub read_at : (i : ℕ) (k : CycleRecord) → i ≡ length (before_company c xs) + length (of_company c xs) - 1 → 0 < length (of_company c xs) → k ≡ get_or xs i k → last_of c xs ≡ Some k
  read_at i k e some read =
      let own : k ≡ get_or (of_company c xs) (length (of_company c xs) - 1) k = read ∙ (ap (λ ys. get_or ys i k) (split c xs sorted) ∙ get_middle (before_company c xs) (of_company c xs) (after_company c xs) i e k some) in
      slice_get-get_or (of_company c xs) (length (of_company c xs) - 1) k (omega arith) ∙ ap Some (sym own)

-- nine cycles: the oldest is taken out
pub dropped : (c : List ℕ) (xs mine : List CycleRecord) (k : CycleRecord) → length mine ≡ KEPT_CYCLES → remove (with_company c (mine ++ k ∷ []) xs) (length (before_company c xs)) ≡ with_company c (last_eight (mine ++ k ∷ [])) xs
dropped c xs [] k e = absurd (omega arith)
dropped c xs (x ∷ rest) k e =
    let one : length ((x ∷ rest) ++ k ∷ []) - KEPT_CYCLES ≡ 1 = omega (arith, length-append (x ∷ rest) (k ∷ [])) in
    rw one (remove_middle (before_company c xs) (rest ++ k ∷ []) (after_company c xs) x)

-- fewer: all stay
pub kept_all : (mine : List CycleRecord) (k : CycleRecord) → length mine < KEPT_CYCLES → last_eight (mine ++ k ∷ []) ≡ mine ++ k ∷ []
kept_all mine k lt =
    let none : length (mine ++ k ∷ []) - KEPT_CYCLES ≡ 0 = omega (arith, length-append mine (k ∷ [])) in
    rw none refl

-- the list after an opening, as it is made: a cycle put in, and one taken out where there were eight
pub opened_list : (c : List ℕ) (xs : List CycleRecord) (sorted : IsStrictlySortedBy cycle_order xs) (k : CycleRecord) (from to : ℕ) → from ≡ length (before_company c xs) → to ≡ length (before_company c xs) + length (of_company c xs) → length (of_company c xs) ≤ KEPT_CYCLES → (if to - from == 8 then remove (insert xs to k) from else insert xs to k) ≡ with_company c (last_eight (of_company c xs ++ k ∷ [])) xs
opened_list c xs sorted k from to e f few =
    let count : to - from ≡ length (of_company c xs) = omega (arith, e, f) in
    rw (count, e, f, opened_at c xs sorted k) (at (length (of_company c xs) == KEPT_CYCLES) refl)
  where
    at : (b : Bool) → (length (of_company c xs) == KEPT_CYCLES) ≡ b → (if b then remove (with_company c (of_company c xs ++ k ∷ []) xs) (length (before_company c xs)) else with_company c (of_company c xs ++ k ∷ []) xs) ≡ with_company c (last_eight (of_company c xs ++ k ∷ [])) xs
    at true g = dropped c xs (of_company c xs) k (grind (arith, nat_tests))
    at false g = ap (λ ys. with_company c ys xs) (sym (kept_all (of_company c xs) k (grind (arith, nat_tests, few))))
