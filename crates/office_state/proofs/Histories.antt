-- Legal histories, entry by entry.
use Rattle.std.proofs.Common.{◌≡◌, List, [], ◌∷◌, ◌++◌, length-append, ap, sym, ◌∙◌, subst, arith}
use Rattle.std.specs.List.{fold}
use Rattle.std.proofs.lemmas.List.Sums.{fold-append}
use Rattle.sequence_once.specs.KeptCycles.{IsSound}
use Rattle.sequence_once.proofs.Sound.{sound_empty}
use Rattle.office_entry.specs.Entries.{IsEntry}
use Rattle.office_entry.specs.declared.entry.Entry.{Entry}
use Rattle.office_state.specs.declared.limits.Limits.{Limits}
use Rattle.office_state.specs.OfficeState.{State, OfficeState, empty_state}
use Rattle.office_state.specs.declared.counts.Counts.{Counts}
use Rattle.office_state.specs.Booked.{with_entry}
use Rattle.office_state.specs.Counted.{counted}
use Rattle.office_state.specs.Due.{IsDue}
use Rattle.office_state.specs.Tallies.{AreCounts}
use Rattle.office_state.specs.Verdict.{verdict, after}
use Rattle.office_state.specs.History.{AreDue, IsLegal, Represents, state}
use Rattle.office_state.proofs.Counting.{counts_more}
use Rattle.office_state.proofs.Steps.{sound_after}

-- the entries of two lists are due where those of the second are due after the first
pub due_both : (s : State) (history more : List Entry) → AreDue s history → AreDue (fold after s history) more → AreDue s (history ++ more)
due_both s [] more first second = second
due_both s (e ∷ history) more first second = (first.0, first.1, due_both (after s e) history more first.2 second)

-- and then those of the first are due
pub due_first : (s : State) (history more : List Entry) → AreDue s (history ++ more) → AreDue s history
due_first s [] more due = tt
due_first s (e ∷ history) more due = (due.0, due.1, due_first (after s e) history more due.2)

-- and those of the second are, after the first
pub due_rest : (s : State) (history more : List Entry) → AreDue s (history ++ more) → AreDue (fold after s history) more
due_rest s [] more due = due
due_rest s (e ∷ history) more due = due_rest (after s e) history more due.2

-- the state after a longer history
pub state_more : (limits : Limits) (history more : List Entry) → state limits (history ++ more) ≡ fold after (state limits history) more
state_more limits history more = fold-append after (empty_state limits) history more

-- what holds of all kept cycles holds after entries that are due
pub sound_fold : (s : State) (history : List Entry) → IsSound s.cycles → AreDue s history → let later = fold after s history in IsSound later.cycles
sound_fold s [] sound due = sound
sound_fold s (e ∷ history) sound due = sound_fold (after s e) history (sound_after s e sound due.1) due.2

-- in a legal history it always holds
pub sound_legal : (limits : Limits) (history : List Entry) → IsLegal limits history → let later = state limits history in IsSound later.cycles
sound_legal limits history legal = sound_fold (empty_state limits) history (sound_empty limits.companies) legal

-- one entry more
pub represents_more : (limits : Limits) (old new : OfficeState) (history : List Entry) (e : Entry) → Represents limits old history → IsEntry e → IsDue old.state e → new ≡ with_entry old e → Represents limits new (history ++ e ∷ [])
represents_more limits old new history e before entry due more =
    let due_then : IsDue (state limits history) e = subst (λ (s : State). IsDue s e) before.same due in
    record {
      legal = due_both (empty_state limits) history (e ∷ []) before.legal (entry, due_then, tt);
      same = ap (λ (o : OfficeState). o.state) more ∙ ap (λ (s : State). after s e) before.same ∙ sym (state_more limits history (e ∷ []));
      entries = omega (arith, ap (λ (o : OfficeState). o.entries) more, before.entries, length-append history (e ∷ []));
      counts = subst (λ (c : Counts). AreCounts limits (history ++ e ∷ []) c)
          (sym (ap (λ (o : OfficeState). o.counts) more ∙ ap (λ (s : State). counted old.counts e (verdict s e).code) before.same))
          (counts_more limits history e old.counts before.counts);
    }
