-- What every state of a legal history keeps.
use Rattle.std.proofs.Common.{◌≡◌, List, [], ◌∷◌, length, refl, ◌∙◌}
use Rattle.std.specs.List.{fold}
use Rattle.sequence_once.specs.KeptCycles.{IsSound}
use Rattle.sequence_once.proofs.Sound.{sound_empty}
use Rattle.office_entry.specs.declared.entry.Entry.{Entry}
use Rattle.office_state.specs.declared.limits.Limits.{Limits}
use Rattle.office_state.specs.OfficeState.{State, empty_state}
use Rattle.office_state.specs.Due.{IsDue}
use Rattle.office_state.specs.Verdict.{after}
use Rattle.office_state.specs.History.{AreDue, IsLegal, state}
use Rattle.office_state.proofs.Steps.{sound_after, editors_after}

-- sound cycles, and a place for each editor
pub record IsKept (s : State) : Type 0 where
  pub cycles : IsSound s.cycles
  pub editors : length s.edits ≡ 64

-- an entry that is due leaves it so
pub kept_after : (s : State) (e : Entry) → IsKept s → IsDue s e → IsKept (after s e)
kept_after s e kept due = record { cycles = sound_after s e kept.cycles due; editors = editors_after s e ∙ kept.editors }

kept_fold : (s : State) (history : List Entry) → IsKept s → AreDue s history → IsKept (fold after s history)
kept_fold s [] kept due = kept
kept_fold s (e ∷ history) kept due = kept_fold (after s e) history (kept_after s e kept due.1) due.2

-- and a legal history does
pub kept_state : (limits : Limits) (history : List Entry) → IsLegal limits history → IsKept (state limits history)
kept_state limits history legal = kept_fold (empty_state limits) history (record { cycles = sound_empty limits.companies; editors = refl }) legal
