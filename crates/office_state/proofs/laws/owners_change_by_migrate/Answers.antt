use Rattle.std.proofs.Common.{◌≡◌, [], ◌∷◌, Some, subst}
use Rattle.std.specs.FinMap.{get}
use Rattle.line_booking.proofs.LineRows.{owner_changes}
use Rattle.office_entry.specs.declared.entry.Entry.TheVariants.{Line}
use Rattle.office_state.specs.OfficeState.{State}
use Rattle.office_state.specs.Verdict.{after}
use Rattle.office_state.specs.History.{state}
use Rattle.office_state.proofs.Histories.{state_more}
use Rattle.office_state.proofs.SoundHistories.{sound_legal}
use Rattle.office_state.proofs.laws.owners_change_by_migrate.Goals as goal

pub returns : goal.returns
unfolding after
returns c = λ limits history tn old new company cycle line bytes legal held then differ.
    let before = state limits history in
    let later = subst (λ (s : State). get s.table tn ≡ Some new) (state_more limits history (Line company cycle line bytes ∷ [])) then in
    owner_changes before.guide.ranges before.table before.most_numbers company bytes tn old held new (sound_legal limits history legal).digits later differ
