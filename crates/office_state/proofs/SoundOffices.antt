-- Offices that are sound.
use Rattle.std.proofs.Common.{◌≡◌, ℕ, ◌+◌, ◌≤◌, ◌==◌, true, false, cond, List, [], ◌∷◌, Option, refl, ap, subst, sym, ◌∙◌, arith}
use Rattle.std.specs.List.{fold}
use Rattle.msag_ranges.specs.StreetGuide.{StreetGuide}
use Rattle.number_table.specs.NumberTable.{NumberTable, no_numbers}
use Rattle.sequence_once.specs.KeptCycles.{CyclesState, after_open, after_note}
use Rattle.sequence_once.specs.SerialStanding.{EditRecord, no_edits}
use Rattle.msag_edits.specs.Edits.{edit_verdict, edit_act, IsAnswered}
use Rattle.msag_edits.specs.declared.edit_verdict.EditVerdict.{EditVerdict}
use Rattle.msag_edits.specs.GuideSoundness.{AreSound}
use Rattle.office_entry.specs.declared.edit.Edit.{Edit as GuideEdit}
use Rattle.office_entry.specs.declared.entry.Entry.{Entry}
use Rattle.office_entry.specs.declared.entry.Entry.TheVariants.{Open, Line, Edit}
use Rattle.office_state.specs.declared.limits.Limits.{Limits}
use Rattle.office_state.specs.declared.counts.Counts.{Counts}
use Rattle.office_state.specs.Counted.{no_counts, AreSoundCounts}
use Rattle.office_state.specs.OfficeState.{State, office_of, without_spare, empty_guide, empty_state, empty_office, limits_of}
use Rattle.office_state.specs.Soundness.{IsSoundOffice}
use Rattle.office_state.specs.Verdict.{after}
use Rattle.office_state.specs.History.{state}
use Rattle.office_state.proofs.Counting.{sound_none}
use Rattle.office_state.proofs.EditSteps.{left_next}
use Rattle.office_state.proofs.SoundHistories.{sound_nothing}

-- the room of a guide is nothing to its soundness
pub sound_bare : (g : StreetGuide) (rows : NumberTable) → AreSound g rows → AreSound (without_spare g) rows
sound_bare g rows h = record { ends = h.ends; numbers = h.numbers; different = h.different; known = h.known; apart = h.apart; placed = h.placed }

pub sound_full : (g : StreetGuide) (rows : NumberTable) → AreSound (without_spare g) rows → AreSound g rows
sound_full g rows h = record { ends = h.ends; numbers = h.numbers; different = h.different; known = h.known; apart = h.apart; placed = h.placed }

-- an office without ranges and rows is sound
pub sound_empty : (g : StreetGuide) (table : NumberTable) (most limit : ℕ) (cycles : CyclesState) (edits : List (Option EditRecord)) (counts : Counts) → without_spare g ≡ empty_guide limit → table ≡ no_numbers → counts ≡ no_counts
    → IsSoundOffice (office_of table most g cycles edits 0 counts)
sound_empty g table most limit cycles edits counts guide none nothing = record {
  sound = subst (λ (t : NumberTable). AreSound (without_spare g) t) (sym none) (subst (λ (h : StreetGuide). AreSound h no_numbers) (sym guide) (sound_nothing limit));
  ids = omega (arith, ap (λ (h : StreetGuide). h.next) guide);
  counts = subst (λ (c : Counts). AreSoundCounts c 0) (sym nothing) sound_none;
}

-- all that is forgotten leaves the empty state
pub emptied : (g : StreetGuide) (table : NumberTable) (most limit : ℕ) (cycles : CyclesState) (edits : List (Option EditRecord)) (counts : Counts) (companies : ℕ) → without_spare g ≡ empty_guide limit → table ≡ no_numbers
    → cycles ≡ record { kept = []; limit = companies } → edits ≡ no_edits → counts ≡ no_counts
    → office_of table most g cycles edits 0 counts ≡ empty_office (record { companies = companies; numbers = most; ranges = limit })
emptied g table most limit cycles edits counts companies guide none no_cycles no_edit nothing =
    λ i. record { state = record { table = none i; most_numbers = most; guide = guide i; cycles = no_cycles i; edits = no_edit i }; entries = 0; counts = nothing i }

-- a line keeps guide and rows sound
pub sound_lined : (g : StreetGuide) (rows later : NumberTable) (most entries : ℕ) (cycles : CyclesState) (edits : List (Option EditRecord)) (old : CyclesState) (counts new_counts : Counts)
    → AreSound g later → AreSoundCounts new_counts (entries + 1) → IsSoundOffice (office_of rows most g old edits entries counts) → IsSoundOffice (office_of later most g cycles edits (entries + 1) new_counts)
sound_lined g rows later most entries cycles edits old counts new_counts sound counting was = record { sound = sound_bare g later sound; ids = omega (arith, was.ids); counts = counting }

-- an edit keeps guide and rows sound, and makes one range at most
pub sound_edited : (g h : StreetGuide) (rows later : NumberTable) (edit : GuideEdit) (v : EditVerdict) (most entries : ℕ) (cycles : CyclesState) (edits : List (Option EditRecord)) (counts : Counts) → IsAnswered edit g h rows later v
    → AreSound h later → g.next ≤ entries + 1 → AreSoundCounts counts (entries + 1) → IsSoundOffice (office_of later most h cycles edits (entries + 1) counts)
sound_edited g h rows later edit v most entries cycles edits counts left sound ids counting = record { sound = sound_bare h later sound; ids = omega (arith, ids, left_next edit g h rows later v left); counts = counting }

-- an entry leaves the limits
limits_after : (s : State) (e : Entry) → limits_of (after s e) ≡ limits_of s
unfolding after after_open after_note
limits_after s (Open company cycle count day digest) = refl
limits_after s (Line company cycle line bytes) = refl
limits_after s (Edit editor serial edit) =
    let code = (edit_verdict s.guide s.table edit).code in
    elim (code == 0) as (λ b. record { companies = s.cycles.limit; numbers = s.most_numbers; ranges = (cond b (record s.guide { ranges = (edit_act s.guide edit).ranges; next = (edit_act s.guide edit).next }) s.guide).limit } ≡ limits_of s) [ true ↦ refl | false ↦ refl ]

limits_fold : (s : State) (history : List Entry) → limits_of (fold after s history) ≡ limits_of s
limits_fold s [] = refl
limits_fold s (e ∷ history) = limits_fold (after s e) history ∙ limits_after s e

-- and so does a history
pub limits_kept : (limits : Limits) (history : List Entry) → limits_of (state limits history) ≡ limits
limits_kept limits history = limits_fold (empty_state limits) history
