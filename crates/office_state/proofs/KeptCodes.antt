-- A file that is complete in the state of a legal history is complete, with the same codes, for as long as its cycle is kept.
use Rattle.std.proofs.Common.{◌≡◌, ℕ, true, List, [], ◌∷◌, ◌++◌, IsSome, Ok, sym, subst, ◌⊎◌, inl, inr}
use Rattle.std.specs.List.{fold}
use Rattle.sequence_once.specs.KeptCycles.{CycleRecord, IsSound, of_company, last_of, is_finished, codes_of}
use Rattle.sequence_once.specs.CycleStanding.{standing_of}
use Rattle.sequence_once.specs.declared.standing.Standing.TheVariants.{Complete}
use Rattle.sequence_once.proofs.FinishedFiles.{Keeps, finished_file, keeps_opened, keeps_noted, still_complete}
use Rattle.office_entry.specs.declared.entry.Entry.{Entry}
use Rattle.office_entry.specs.declared.entry.Entry.TheVariants.{Open, Line, Edit}
use Rattle.office_state.specs.declared.limits.Limits.{Limits}
use Rattle.office_state.specs.OfficeState.{State, empty_state}
use Rattle.office_state.specs.Due.{IsDue}
use Rattle.office_state.specs.Verdict.{after, code_in}
use Rattle.office_state.specs.History.{AreDue, IsLegal, state}
use Rattle.office_state.proofs.Steps.{company_of, one_or_two, line_means, sound_after, others_after}
use Rattle.office_state.proofs.Histories.{due_first, due_rest, state_more, sound_legal}

-- no cycle but k is found by this number of the company
abbrev KeepsIn : State → List ℕ → ℕ → CycleRecord → Type 0
KeepsIn s company cycle k = Keeps cycle k (of_company company s.cycles.kept)

module _ (cycle : ℕ) (k : CycleRecord) (finished : is_finished k ≡ true) where
  keeps_own : (s : State) (e : Entry) → IsSound s.cycles → IsDue s e → KeepsIn s (company_of e) cycle k → KeepsIn (after s e) (company_of e) cycle k
  unfolding after
  keeps_own s (Open company next count day digest) sound due keeps = keeps_opened s.cycles sound company next count digest due cycle k keeps
  keeps_own s (Line company next line bytes) sound due keeps =
      let means = line_means (last_of company s.cycles.kept) next line due in
      keeps_noted s.cycles company (code_in s company bytes) means.kept means.is_last means.undone cycle k finished keeps
  keeps_own s (Edit editor serial edit) sound due keeps = keeps

  keeps_after : (s : State) (e : Entry) → IsSound s.cycles → IsDue s e → (company : List ℕ) → KeepsIn s company cycle k → KeepsIn (after s e) company cycle k
  keeps_after s e sound due company keeps = at (one_or_two company (company_of e))
    where
      at : company ≡ company_of e ⊎ (company ≡ company_of e → ⊥) → KeepsIn (after s e) company cycle k
      at (inl same) = subst (λ c. KeepsIn (after s e) c cycle k) (sym same) (keeps_own s e sound due (subst (λ c. KeepsIn s c cycle k) same keeps))
      at (inr differ) = subst (λ own. Keeps cycle k own) (sym (others_after s e sound company differ)) keeps

  -- and after any entries that are due
  keeps_fold : (s : State) (more : List Entry) → IsSound s.cycles → AreDue s more → (company : List ℕ) → KeepsIn s company cycle k → KeepsIn (fold after s more) company cycle k
  keeps_fold s [] sound due company keeps = keeps
  keeps_fold s (e ∷ more) sound due company keeps = keeps_fold (after s e) more (sound_after s e sound due.1) due.2 company (keeps_after s e sound due.1 company keeps)

-- a file is complete, with these codes
abbrev StaysComplete : State → State → List ℕ → ℕ → List ℕ → Type 0
StaysComplete old new company cycle digest =
    (standing_of new.cycles company cycle digest ≡ Ok Complete) × (codes_of company cycle new.cycles.kept ≡ codes_of company cycle old.cycles.kept)

stays : (s : State) (more : List Entry) → IsSound s.cycles → AreDue s more → (company : List ℕ) (cycle : ℕ) (digest : List ℕ) → standing_of s.cycles company cycle digest ≡ Ok Complete → let later = fold after s more in IsSome (codes_of company cycle later.cycles.kept) → StaysComplete s later company cycle digest
stays s more sound due company cycle digest complete some =
    let later = fold after s more in
    let file = finished_file s.cycles company cycle digest complete in
    still_complete s.cycles later.cycles company cycle digest file.0 file.1 (keeps_fold cycle file.0 file.1.finished s more sound due company file.1.keeps) some

-- in a legal history, for as long as the cycle is kept
pub stays_complete : (limits : Limits) (history more : List Entry) (company : List ℕ) (cycle : ℕ) (digest : List ℕ) → IsLegal limits (history ++ more)
    → let old = state limits history in let new = state limits (history ++ more) in standing_of old.cycles company cycle digest ≡ Ok Complete → IsSome (codes_of company cycle new.cycles.kept)
    → (standing_of new.cycles company cycle digest ≡ Ok Complete) × (codes_of company cycle new.cycles.kept ≡ codes_of company cycle old.cycles.kept)
stays_complete limits history more company cycle digest legal complete some =
    let old = state limits history in
    let e = state_more limits history more in
    let sound = sound_legal limits history (due_first (empty_state limits) history more legal) in
    let due = due_rest (empty_state limits) history more legal in
    let there = subst (λ (s : State). IsSome (codes_of company cycle s.cycles.kept)) e some in
    subst (λ (s : State). StaysComplete old s company cycle digest) (sym e) (stays old more sound due company cycle digest complete there)
