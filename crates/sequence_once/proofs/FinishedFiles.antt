-- A finished cycle is as it is for as long as it is kept, and its file complete.
use Rattle.std.proofs.Common.{◌≡◌, ℕ, ◌+◌, ◌-◌, ◌≤◌, ◌==◌, true, false, List, [], ◌∷◌, ◌++◌, length, Some, None, IsSome, Option, Ok, refl, ap, sym, ◌∙◌, arith, option_map}
use Rattle.std.proofs.lemmas.Bool.Decides.{nat_tests}
use Rattle.sequence_once.specs.KeptCycles.{CycleRecord, CyclesState, IsSound, of_company, newest, last_of, is_finished, is_last_finished, opened, after_open, last_eight, note_last, after_note, codes_of}
use Rattle.sequence_once.specs.CycleStanding.{last_number, repeated, standing_of}
use Rattle.sequence_once.specs.declared.standing.Standing.TheVariants.{New, Complete}
use Rattle.sequence_once.proofs.CycleRuns.{found, found_drop, found_push, found_note}
use Rattle.sequence_once.proofs.KeptFiles.{opening_means, kept_file, kept_finished, standing_of_found}
use Rattle.sequence_once.proofs.Laws.{own_after_open, last_after_open, own_after_note, last_after_note}
use Rattle.sequence_once.proofs.Runs.{run_push}

-- the number is not above the company's last one, and no other cycle than k is found by it
pub record Keeps (cycle : ℕ) (k : CycleRecord) (own : List CycleRecord) : Type 0 where
  pub low : cycle ≤ last_number (newest own)
  pub only : (j : CycleRecord) → found cycle own ≡ Some j → j ≡ k

-- after an opening of the company
pub keeps_opened : (s : CyclesState) → IsSound s → (company : List ℕ) (next count : ℕ) (digest : List ℕ) → standing_of s company next digest ≡ Ok New → (cycle : ℕ) (k : CycleRecord) → Keeps cycle k (of_company company s.kept)
    → let later = after_open s company next count digest in Keeps cycle k (of_company company later.kept)
keeps_opened s sound company next count digest new cycle k keeps =
    let own = of_company company s.kept in
    let o = opened company next count digest in
    let means = opening_means s company next digest new in
    let above : next ≡ last_number (newest own) + 1 = means.0 in
    let low = keeps.low in
    let other : (next == cycle) ≡ false = grind (arith, nat_tests, low, above) in
    let later = after_open s company next count digest in
    let here : of_company company later.kept ≡ last_eight (own ++ o ∷ []) = own_after_open s sound company next count digest in
    let run = run_push own o (sound.runs company) means.1 above in
    let number : last_number (newest (of_company company later.kept)) ≡ next = ap last_number (last_after_open s sound company next count digest) in
    record {
      low = omega arith;
      only = λ j e.
          let there : found cycle (last_eight (own ++ o ∷ [])) ≡ Some j = sym (ap (found cycle) here) ∙ e in
          let whole : found cycle (own ++ o ∷ []) ≡ Some j = found_drop (length (own ++ o ∷ []) - 8) cycle (own ++ o ∷ []) j run there in
          keeps.only j (sym (found_push cycle own o other) ∙ whole);
    }

-- after a line of the company, whose last cycle is k'
pub keeps_noted : (s : CyclesState) (company : List ℕ) (code : ℕ) (last : CycleRecord) → last_of company s.kept ≡ Some last → is_finished last ≡ false → (cycle : ℕ) (k : CycleRecord) → is_finished k ≡ true → Keeps cycle k (of_company company s.kept)
    → let later = after_note s company code in Keeps cycle k (of_company company later.kept)
keeps_noted s company code last is undone cycle k finished keeps =
    let own = of_company company s.kept in
    let later = after_note s company code in
    let here : of_company company later.kept ≡ note_last code own = own_after_note s company code in
    let same : found cycle (note_last code own) ≡ found cycle own = found_note cycle code own (ap is_last_finished is ∙ undone) (λ j e. ap is_finished (keeps.only j e) ∙ finished) in
    let old : last_number (last_of company s.kept) ≡ last.cycle = ap last_number is in
    let new : last_number (last_of company later.kept) ≡ last.cycle = ap last_number (last_after_note s company code last is) in
    let low = keeps.low in
    record {
      low = omega arith;
      only = λ j e. keeps.only j (sym same ∙ sym (ap (found cycle) here) ∙ e);
    }

-- the cycle of a complete file is kept so
pub record IsFinishedFile (s : CyclesState) (company : List ℕ) (cycle : ℕ) (digest : List ℕ) (k : CycleRecord) : Type 0 where
  pub finished : is_finished k ≡ true
  pub stands : repeated k digest ≡ Ok Complete
  pub there : found cycle (of_company company s.kept) ≡ Some k
  pub keeps : Keeps cycle k (of_company company s.kept)

pub finished_file : (s : CyclesState) (company : List ℕ) (cycle : ℕ) (digest : List ℕ) → standing_of s company cycle digest ≡ Ok Complete → (k : CycleRecord) × IsFinishedFile s company cycle digest k
finished_file s company cycle digest complete =
    let file = kept_file s company cycle digest Complete (λ h. cc) complete in
    let there = file.there in (
      file.kept,
      record { finished = kept_finished file.kept digest file.stands; stands = file.stands; there = there; keeps = record { low = file.low; only = λ j e. cc } },
    )

some_codes : (o : Option CycleRecord) → IsSome (option_map (λ (j : CycleRecord). j.codes) o) → (j : CycleRecord) × (o ≡ Some j)
some_codes None some = absurd (cc some)
some_codes (Some j) some = (j, refl)

-- where a later state keeps the cycle, and no other by its number, the file is complete there too, with the same codes
pub still_complete : (s later : CyclesState) (company : List ℕ) (cycle : ℕ) (digest : List ℕ) (k : CycleRecord) → IsFinishedFile s company cycle digest k → Keeps cycle k (of_company company later.kept) → IsSome (codes_of company cycle later.kept)
    → (standing_of later company cycle digest ≡ Ok Complete) × (codes_of company cycle later.kept ≡ codes_of company cycle s.kept)
still_complete s later company cycle digest k file keeps some =
    let there = some_codes (found cycle (of_company company later.kept)) some in
    let is : found cycle (of_company company later.kept) ≡ Some k = there.1 ∙ ap (λ (j : CycleRecord). Some j) (keeps.only there.0 there.1) in (
      standing_of_found later company cycle k digest is keeps.low ∙ file.stands,
      ap (option_map (λ (j : CycleRecord). j.codes)) (is ∙ sym file.there),
    )
