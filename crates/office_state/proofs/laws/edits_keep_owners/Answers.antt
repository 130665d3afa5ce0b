use Rattle.std.proofs.Common.{◌≡◌, [], ◌∷◌, Some, is_none, sym, subst}
use Rattle.std.specs.FinMap.{get}
use Rattle.msag_edits.specs.Edits.{edit_verdict}
use Rattle.msag_edits.proofs.EditedRows.{rows_kept, numbers_kept}
use Rattle.office_entry.specs.declared.entry.Entry.TheVariants.{Edit}
use Rattle.office_state.specs.OfficeState.{State}
use Rattle.office_state.specs.Verdict.{after}
use Rattle.office_state.specs.History.{state}
use Rattle.office_state.proofs.Histories.{state_more}
use Rattle.office_state.proofs.SoundHistories.{sound_legal}
use Rattle.office_state.proofs.laws.edits_keep_owners.Goals as goal

pub returns-clause-rows : goal.returns-clause-rows
unfolding after
returns-clause-rows c = λ limits history tn old new editor serial edit legal has then.
    let s = state limits history in
    let later = subst (λ (s : State). get s.table tn ≡ Some new) (state_more limits history (Edit editor serial edit ∷ [])) then in
    let kept = rows_kept s.guide s.table edit (sound_legal limits history legal).sound tn old new has later in
    (kept.company, kept.lock)

pub returns-clause-numbers : goal.returns-clause-numbers
unfolding after
returns-clause-numbers c = λ limits history tn editor serial edit.
    let s = state limits history in
    subst (λ (later : State). is_none (get later.table tn) ≡ is_none (get s.table tn)) (sym (state_more limits history (Edit editor serial edit ∷ [])))
    (numbers_kept s.guide s.table edit (edit_verdict s.guide s.table edit).code tn)
