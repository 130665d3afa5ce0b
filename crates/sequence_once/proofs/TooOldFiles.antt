-- A file is too old exactly where its cycle is below the oldest kept cycle of its company.
use Rattle.std.proofs.Common.{◌≡◌, ℕ, ◌+◌, ◌<◌, ◌≤◌, ◌==◌, ◌&&◌, ◌||◌, not, nat_lt, Bool, true, false, List, [], ◌∷◌, length, Option, Some, None, Result, Ok, Err, refl, ap, arith, if◌then◌else◌, inl, inr, ◌↔◌}
use Rattle.std.specs.List.{find, AllByRecursion}
use Rattle.std.specs.Option.{is_some}
use Rattle.std.specs.Str.{bytes_eq}
use Rattle.std.proofs.lemmas.Bool.{cases_lt}
use Rattle.std.proofs.lemmas.Bool.Decides.{nat_tests}
use Rattle.sequence_once.specs.KeptCycles.{CycleRecord, newest, is_finished, is_last_finished, IsRun}
use Rattle.sequence_once.specs.CycleStanding.{last_number, oldest_number, is_next, is_beyond, earlier, standing_among}
use Rattle.sequence_once.specs.declared.standing.Standing.{Standing}
use Rattle.sequence_once.specs.declared.standing.Standing.TheVariants.{New, Resume, Complete}
use Rattle.sequence_once.specs.declared.standing.CycleFault.{CycleFault}
use Rattle.sequence_once.specs.declared.standing.CycleFault.TheVariants.{Gap, Differs, TooOld, CompaniesFull}
use Rattle.sequence_once.proofs.Lists.{each_weaker}
use Rattle.sequence_once.proofs.Runs.{newest_more, rising}

find_none : (cycle : ℕ) (xs : List CycleRecord) → AllByRecursion (λ k. cycle < k.cycle) xs → find (λ k. k.cycle == cycle) xs ≡ None
find_none cycle [] h = refl
find_none cycle (x ∷ xs) h =
    let differs : (x.cycle == cycle) ≡ false = grind (arith, nat_tests, h.0) in
    rw differs (find_none cycle xs h.1)

-- the first cycle of a run is its lowest
pub first_lowest : (x : CycleRecord) (rest : List CycleRecord) → IsRun (x ∷ rest) → x.cycle ≤ last_number (newest (x ∷ rest))
first_lowest x [] run = omega arith
first_lowest x (y ∷ rest) run = omega (arith, first_lowest y rest run.1, run.0.0, ap last_number (newest_more x y rest))

-- a run has every cycle from its first to its last
found : (cycle : ℕ) (x : CycleRecord) (rest : List CycleRecord) → IsRun (x ∷ rest) → x.cycle ≤ cycle → cycle ≤ last_number (newest (x ∷ rest)) → is_some (find (λ k. k.cycle == cycle) (x ∷ rest)) ≡ true
found cycle x [] run low high =
    let same : (x.cycle == cycle) ≡ true = grind (arith, nat_tests, low, high) in
    rw same refl
found cycle x (y ∷ rest) run low high = at (x.cycle == cycle) refl (λ more. found cycle y rest run.1 more (omega (arith, high, ap last_number (newest_more x y rest))))
  where
    at : (b : Bool) → (x.cycle == cycle) ≡ b → (y.cycle ≤ cycle → is_some (find (λ k. k.cycle == cycle) (y ∷ rest)) ≡ true) → is_some (find (λ k. k.cycle == cycle) (x ∷ y ∷ rest)) ≡ true
    at true e later = rw e refl
    at false e later = rw e (later (above run.0.0))
      where
        above : y.cycle ≡ x.cycle + 1 → y.cycle ≤ cycle
        above next = grind (arith, nat_tests, next, low, e)

old_only : (next full beyond : Bool) (l g o : ℕ) (rest : Result Standing CycleFault) → (if next then (if full then Err (CompaniesFull l) else Ok New) else (if beyond then Err (Gap g) else rest)) ≡ Err (TooOld o) → (next ≡ false) × (beyond ≡ false) × (rest ≡ Err (TooOld o))
old_only true true beyond l g o rest e = cc
old_only true false beyond l g o rest e = cc
old_only false full true l g o rest e = cc
old_only false full false l g o rest e = (refl, refl, e)

not_kept : (k : Option CycleRecord) (oldest : ℕ) (digest : List ℕ) → earlier k oldest digest ≡ Err (TooOld oldest) → is_some k ≡ false
not_kept None oldest digest e = refl
not_kept (Some k) oldest digest e = absurd (never (bytes_eq k.digest digest) (is_finished k) e)
  where
    never : (same done : Bool) → (if same then (if done then Ok Complete else Ok (Resume (length k.codes + 1))) else Err (Differs k.digest digest)) ≡ Err (TooOld oldest) → ⊥
    never true true e = cc
    never true false e = cc
    never false done e = cc

-- neither the next cycle nor beyond it: not above the last
pub not_above_last : (cycle last : ℕ) (finished : Bool) → ((cycle == last + 1) && finished) ≡ false → (nat_lt (last + 1) cycle || (not finished && nat_lt last cycle)) ≡ false → cycle ≤ last
not_above_last cycle last true e f = grind (arith, nat_tests)
not_above_last cycle last false e f = grind (arith, nat_tests)

pub not_next : (cycle last : ℕ) (finished : Bool) → cycle ≤ last → ((cycle == last + 1) && finished) ≡ false
not_next cycle last true h = grind (arith, nat_tests)
not_next cycle last false h = grind (arith, nat_tests)

pub not_beyond : (cycle last : ℕ) (finished : Bool) → cycle ≤ last → (nat_lt (last + 1) cycle || (not finished && nat_lt last cycle)) ≡ false
not_beyond cycle last true h = grind (arith, nat_tests)
not_beyond cycle last false h = grind (arith, nat_tests)

old_is_below : (mine : List CycleRecord) (full : Bool) (limit cycle : ℕ) (digest : List ℕ) → IsRun mine → 1 ≤ cycle → standing_among mine full limit cycle digest ≡ Err (TooOld (oldest_number mine)) → cycle < oldest_number mine
old_is_below [] full limit cycle digest run some e =
    let facts = old_only _ _ _ _ _ _ _ e in
    absurd (omega (arith, not_above_last cycle 0 true facts.0 facts.1))
old_is_below (x ∷ rest) full limit cycle digest run some e =
    let facts = old_only _ _ _ _ _ _ _ e in
    let none = not_kept _ _ digest facts.2 in
    let below = not_above_last cycle (last_number (newest (x ∷ rest))) (is_last_finished (newest (x ∷ rest))) facts.0 facts.1 in
    elim (cases_lt cycle x.cycle) [
      | inl lower ↦ lower
      | inr at_least ↦ absurd (let there = found cycle x rest run at_least below in cc)
    ]

below_is_old : (mine : List CycleRecord) (full : Bool) (limit cycle : ℕ) (digest : List ℕ) → IsRun mine → cycle < oldest_number mine → standing_among mine full limit cycle digest ≡ Err (TooOld (oldest_number mine))
below_is_old [] full limit cycle digest run below = absurd (omega arith)
below_is_old (x ∷ rest) full limit cycle digest run below =
    let low : cycle ≤ last_number (newest (x ∷ rest)) = omega (arith, first_lowest x rest run, below) in
    let next : is_next (newest (x ∷ rest)) cycle ≡ false = not_next cycle _ (is_last_finished (newest (x ∷ rest))) low in
    let beyond : is_beyond (newest (x ∷ rest)) cycle ≡ false = not_beyond cycle _ (is_last_finished (newest (x ∷ rest))) low in
    let none : find (λ k. k.cycle == cycle) (x ∷ rest) ≡ None = find_none cycle (x ∷ rest) (below, each_weaker _ _ (λ k h. omega (arith, h, below)) rest (rising x rest run)) in
    rw (next, beyond, none) refl

-- both ways
pub too_old : (mine : List CycleRecord) (full : Bool) (limit cycle : ℕ) (digest : List ℕ) → IsRun mine → 1 ≤ cycle → (standing_among mine full limit cycle digest ≡ Err (TooOld (oldest_number mine))) ↔ (cycle < oldest_number mine)
too_old mine full limit cycle digest run some = (old_is_below mine full limit cycle digest run some, below_is_old mine full limit cycle digest run)
