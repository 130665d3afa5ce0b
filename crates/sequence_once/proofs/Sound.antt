-- What holds of all kept cycles holds after an opening and after a line.
use Rattle.std.proofs.Common.{◌≡◌, ℕ, ◌+◌, ◌-◌, ◌<◌, ◌≤◌, ◌==◌, Bool, true, false, Option, Result, List, [], ◌∷◌, ◌++◌, length, Some, None, Ok, Err, length-append, length-drop, refl, arith, if◌then◌else◌}
use Rattle.std.specs.List.{All}
use Rattle.std.specs.List.Sorted.{IsStrictlySortedBy}
use Rattle.std.proofs.lemmas.List.Elements.{All-append, All-filter, All-drop, All-push}
use Rattle.std.proofs.lemmas.Bool.Decides.{nat_tests}
use Rattle.sequence_once.specs.KeptCycles.{CycleRecord, CyclesState, of_company, before_company, after_company, with_company, newest, last_of, is_finished, is_last_finished, known_companies, last_eight, opened, after_open, note_last, after_note, IsRun, IsSound}
use Rattle.std.specs.Str.{bytes_eq}
use Rattle.sequence_once.specs.CycleStanding.{is_next, is_full, earlier, standing_of}
use Rattle.sequence_once.specs.declared.standing.Standing.{Standing}
use Rattle.sequence_once.specs.declared.standing.Standing.TheVariants.{New, Resume, Complete}
use Rattle.sequence_once.specs.declared.standing.CycleFault.{CycleFault}
use Rattle.sequence_once.specs.declared.standing.CycleFault.TheVariants.{Gap, Differs, CompaniesFull}
use Rattle.sequence_once.proofs.Lists.{each_append}
use Rattle.std.proofs.lemmas.Cmp.{tied_itself, nat_list_cmp_total}
use Rattle.std.proofs.lemmas.Bool.{and_parts}
use Rattle.sequence_once.proofs.Companies.{AllOf, all_of_company, of_with, sorted_with, known_some}
use Rattle.sequence_once.proofs.Runs.{HasRoom, run_push, run_drop, each_drop, last_eight_few, sorted_run, note_last_length, note_last_own, run_note, counts_note}
use Rattle.sequence_once.specs.declared.cycles.TheConstants.{KEPT_CYCLES}

not_new : (o : Option CycleRecord) (oldest : ℕ) (digest : List ℕ) → earlier o oldest digest ≡ Ok New → ⊥
not_new None oldest digest e = cc
not_new (Some k) oldest digest e = repeated_not_new (bytes_eq k.digest digest) (is_finished k) e
  where
    repeated_not_new : (same done : Bool) → (if same then (if done then Ok Complete else Ok (Resume (length k.codes + 1))) else Err (Differs k.digest digest)) ≡ Ok New → ⊥
    repeated_not_new true true e = cc
    repeated_not_new true false e = cc
    repeated_not_new false done e = cc

new_only : (next full beyond : Bool) (l g : ℕ) (rest : Result Standing CycleFault) → (rest ≡ Ok New → ⊥) → (if next then (if full then Err (CompaniesFull l) else Ok New) else (if beyond then Err (Gap g) else rest)) ≡ Ok New → (next ≡ true) × (full ≡ false)
new_only true true beyond l g rest never e = cc
new_only true false beyond l g rest never e = (refl, refl)
new_only false full true l g rest never e = cc
new_only false full false l g rest never e = absurd (never e)

-- a new file has the next cycle, after a finished one, and finds room
pub new_means : (s : CyclesState) (c : List ℕ) (cycle : ℕ) (digest : List ℕ) → standing_of s c cycle digest ≡ Ok New → (is_next (last_of c s.kept) cycle ≡ true) × (is_full s c ≡ false)
unfolding standing_of
new_means s c cycle digest e = new_only _ _ _ _ _ _ (not_new _ _ digest) e

-- a company that is not full has room for one that is new
pub room_for : (s : CyclesState) (c : List ℕ) → IsSound s → is_full s c ≡ false → known_companies s.kept + (if length (of_company c s.kept) == 0 then 1 else 0) ≤ s.limit
room_for s c sound e = let within = sound.within in grind (arith, nat_tests)

same_number : (a b : ℕ) → (a == b) ≡ true → a ≡ b
same_number a b e = grind (arith, nat_tests)

-- an unfinished last cycle is one
pub undone_some : (xs : List CycleRecord) → is_last_finished (newest xs) ≡ false → 0 < length xs
undone_some [] e = cc
undone_some (k ∷ rest) e = omega arith

room_left_for : (s : CyclesState) (c : List ℕ) → IsSound s → 0 < length (of_company c s.kept) → known_companies s.kept + (if length (of_company c s.kept) == 0 then 1 else 0) ≤ s.limit
room_left_for s c sound some = let within = sound.within in grind (arith, nat_tests)

-- no cycles at all
pub sound_empty : (limit : ℕ) → IsSound (record { kept = []; limit = limit })
unfolding IsStrictlySortedBy
sound_empty limit = record { sorted = tt; runs = λ c. tt; eight = λ c. omega arith; counts = λ k d lt. absurd (omega arith); within = omega arith }

-- a company's cycles are replaced by a run of at most eight cycles, of which there is one, where there is room for the company
module _ (s : CyclesState) (sound : IsSound s) (c : List ℕ) (cycles : List CycleRecord) (own : AllOf c cycles) (run : IsRun cycles) (few : length cycles ≤ KEPT_CYCLES) (counts : All HasRoom cycles) (some : 0 < length cycles) (room : known_companies s.kept + (if length (of_company c s.kept) == 0 then 1 else 0) ≤ s.limit) where
  pub sound_replaced : IsSound (record s { kept = with_company c cycles s.kept })
  sound_replaced = record {
    sorted = sorted_with c cycles s.kept sound.sorted (sorted_run c cycles run own) own;
    runs = λ d. of_with c d IsRun cycles s.kept own run (sound.runs d);
    eight = λ d. of_with c d (λ xs. length xs ≤ KEPT_CYCLES) cycles s.kept own few (sound.eight d);
    counts = All-append HasRoom (before_company c s.kept) _ (All-filter _ HasRoom s.kept sound.counts) (All-append HasRoom cycles (after_company c s.kept) counts (All-filter _ HasRoom s.kept sound.counts));
    within = rw (known_some c cycles s.kept sound.sorted own some) room;
  }

module _ (s : CyclesState) (sound : IsSound s) (c : List ℕ) where
  pub own_push : (k : CycleRecord) → k.company ≡ c → AllOf c (of_company c s.kept ++ k ∷ [])
  own_push k e = each_append _ _ _ (all_of_company c s.kept) (rw e (tied_itself nat_list_cmp_total c), tt)

  -- an opening that is new
  pub sound_opened : (cycle count : ℕ) (digest : List ℕ) → standing_of s c cycle digest ≡ Ok New → IsSound (after_open s c cycle count digest)
  unfolding after_open
  sound_opened cycle count digest new =
      let k = opened c cycle count digest in
      let mine = of_company c s.kept in
      let facts = new_means s c cycle digest new in
      let next = and_parts _ _ facts.0 in
      sound_replaced s sound c (last_eight (mine ++ k ∷ []))
      (each_drop _ _ _ (own_push k refl))
      (run_drop _ _ (run_push mine k (sound.runs c) next.1 (same_number _ _ next.0)))
      (last_eight_few (mine ++ k ∷ []))
      (All-drop HasRoom _ _ (All-push HasRoom _ k (All-filter _ HasRoom s.kept sound.counts) (omega arith)))
      (omega (arith, length-drop (length (mine ++ k ∷ []) - KEPT_CYCLES) (mine ++ k ∷ []), length-append mine (k ∷ [])))
      (room_for s c sound facts.1)

  -- a line of an unfinished cycle
  pub sound_noted : (code : ℕ) → is_last_finished (last_of c s.kept) ≡ false → IsSound (after_note s c code)
  unfolding after_note
  sound_noted code undone =
      let mine = of_company c s.kept in
      let length_same = note_last_length code mine in
      let some : 0 < length mine = undone_some mine undone in
      sound_replaced s sound c (note_last code mine)
      (note_last_own c code mine (all_of_company c s.kept))
      (run_note code mine (sound.runs c))
      (omega (arith, sound.eight c))
      (counts_note code mine (All-filter _ HasRoom s.kept sound.counts) undone)
      (omega arith)
      (room_left_for s c sound some)
