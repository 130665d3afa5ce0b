-- What every state of a legal history keeps.
use Rattle.std.proofs.Common.{◌≡◌, ℕ, ◌≤◌, true, false, List, [], ◌∷◌, Option, Some, None, is_none, refl, arith, ap, sym, ◌∙◌, subst, IfSome}
use Rattle.std.specs.List.{fold}
use Rattle.std.specs.FinMap.{get, len, get-empty, len-empty}
use Rattle.msag_ranges.specs.StreetGuide.{StreetGuide, IsSoundGuide}
use Rattle.msag_edits.specs.Edits.{edit_verdict}
use Rattle.msag_edits.specs.EditedTables.{rows_after}
use Rattle.msag_edits.specs.GuideSoundness.{AreSound, IsPlaced}
use Rattle.msag_edits.proofs.EditedGuides.{sound_edit, guide_kept}
use Rattle.msag_edits.proofs.EditedRows.{rows_kept, numbers_kept, len_kept}
use Rattle.msag_edits.proofs.GuideEdits.{HaveFiveDigits}
use Rattle.msag_edits.proofs.Soundness.{sound-from}
use Rattle.line_booking.proofs.LineTables.{HasNumber, HaveOwnNumbers, own_numbers, line_within}
use Rattle.line_booking.proofs.SoundLines.{sound_line}
use Rattle.number_life.specs.declared.row.Row.{Row}
use Rattle.number_table.specs.NumberTable.{NumberTable, no_numbers, tn_cmp}
use Rattle.office_entry.specs.declared.edit.Edit.{Edit as GuideEdit}
use Rattle.office_entry.specs.Entries.{IsEntry}
use Rattle.office_entry.specs.declared.entry.Entry.{Entry}
use Rattle.office_entry.specs.declared.entry.Entry.TheVariants.{Open, Line, Edit}
use Rattle.office_state.specs.declared.limits.Limits.{Limits}
use Rattle.office_state.specs.OfficeState.{State, empty_state, empty_guide}
use Rattle.office_state.specs.Verdict.{after}
use Rattle.office_state.specs.History.{AreDue, IsLegal, state}

-- what holds of the guide and the table of a legal history
pub record IsSoundState (s : State) : Type 0 where
  pub guide : IsSoundGuide s.guide.ranges s.guide.next s.guide.limit
  pub digits : HaveFiveDigits s.guide.ranges
  pub sound : AreSound s.guide s.table
  pub own : HaveOwnNumbers s.table
  pub room : len s.table ≤ s.most_numbers

-- an edit leaves each row its own number
own_edited : (g : StreetGuide) (rows : NumberTable) (edit : GuideEdit) → AreSound g rows → HaveOwnNumbers rows → HaveOwnNumbers (rows_after g rows edit (edit_verdict g rows edit).code)
own_edited g rows edit sound own = λ tn. at tn (get (rows_after g rows edit (edit_verdict g rows edit).code) tn) refl (get rows tn) refl (numbers_kept g rows edit (edit_verdict g rows edit).code tn)
  where
    later : NumberTable
    later = rows_after g rows edit (edit_verdict g rows edit).code

    at : (tn : List ℕ) (new : Option Row) → get later tn ≡ new → (old : Option Row) → get rows tn ≡ old → is_none (get later tn) ≡ is_none (get rows tn) → IfSome new (HasNumber tn)
    at tn None e old f same = tt
    at tn (Some new) e None f same = absurd (let h : false ≡ true = sym (ap is_none e) ∙ same ∙ ap is_none f in cc h)
    at tn (Some new) e (Some old) f same = (rows_kept g rows edit sound tn old new f e).number ∙ subst (λ o. IfSome o (HasNumber tn)) f (own tn)

sound_after : (s : State) (e : Entry) → IsEntry e → IsSoundState s → IsSoundState (after s e)
unfolding after
sound_after s (Open company cycle count day digest) is old = record { guide = old.guide; digits = old.digits; sound = old.sound; own = old.own; room = old.room }
sound_after s (Line company cycle line bytes) is old = record {
  guide = old.guide;
  digits = old.digits;
  sound = sound_line s.guide s.table s.most_numbers company bytes is old.sound old.digits;
  own = own_numbers s.guide.ranges s.table s.most_numbers company bytes old.digits old.own;
  room = line_within s.guide.ranges s.table s.most_numbers company bytes old.room;
}
sound_after s (Edit editor serial edit) is old =
    let kept = guide_kept s.guide s.table edit is.2 old.guide in
    record {
      guide = kept.0;
      digits = kept.1 old.digits;
      sound = sound_edit s.guide s.table edit is.2 old.guide old.sound;
      own = own_edited s.guide s.table edit old.sound old.own;
      room = omega (arith, old.room, len_kept s.guide s.table edit (edit_verdict s.guide s.table edit).code);
    }

sound_fold : (s : State) (history : List Entry) → IsSoundState s → AreDue s history → IsSoundState (fold after s history)
sound_fold s [] sound due = sound
sound_fold s (e ∷ history) sound due = sound_fold (after s e) history (sound_after s e due.0 sound) due.2

-- no ranges are a sound guide
no_ranges : (limit : ℕ) → IsSoundGuide [] 1 limit
no_ranges limit = record {
  ends = λ k d inside. absurd (omega arith);
  numbers = λ k d inside. absurd (omega arith);
  rising = λ i j d less inside. absurd (omega arith);
  known = λ k d inside. absurd (omega arith);
  first = omega arith;
  apart = λ i j d less inside. absurd (omega arith);
  within = omega arith;
}

-- and sound with no rows
pub sound_nothing : (limit : ℕ) → AreSound (empty_guide limit) no_numbers
sound_nothing limit = sound-from (empty_guide limit) no_numbers (no_ranges limit) (λ tn. subst (λ o. IfSome o (IsPlaced [])) (sym (get-empty tn_cmp tn)) tt)

sound_empty : (limits : Limits) → IsSoundState (empty_state limits)
sound_empty limits = record {
  guide = no_ranges limits.ranges;
  digits = λ k d inside. absurd (omega arith);
  sound = sound_nothing limits.ranges;
  own = λ tn. subst (λ o. IfSome o (HasNumber tn)) (sym (get-empty tn_cmp tn)) tt;
  room = omega (arith, len-empty tn_cmp Row);
}

-- each state of a legal history is sound
pub sound_legal : (limits : Limits) (history : List Entry) → IsLegal limits history → IsSoundState (state limits history)
sound_legal limits history legal = sound_fold (empty_state limits) history (sound_empty limits) legal
