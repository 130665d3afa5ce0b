-- What an edit that is carried out leaves.
use Rattle.std.proofs.Common.{◌≡◌, ◌≢◌, ℕ, ◌+◌, ◌≤◌, ◌==◌, true, false, cond, List, refl, ap, sym, ◌∙◌, arith, Option}
use Rattle.std.proofs.lemmas.Bool.Decides.{nat_tests}
use Rattle.msag_ranges.specs.StreetGuide.{StreetGuide}
use Rattle.number_table.specs.NumberTable.{NumberTable}
use Rattle.number_table.specs.HeldRows.{changed}
use Rattle.number_table.proofs.ChangedRows.{changed-only}
use Rattle.msag_edits.specs.EditRules.{EditAct}
use Rattle.msag_edits.specs.Edits.{edit_verdict, edit_act, IsAnswered}
use Rattle.msag_edits.specs.EditedTables.{guide_after, rows_after}
use Rattle.msag_edits.specs.declared.edit_verdict.EditVerdict.{EditVerdict}
use Rattle.msag_edits.proofs.EditedGuides.{next_after}
use Rattle.office_entry.specs.declared.edit.Edit.{Edit}
use Rattle.office_entry.specs.declared.edit.Edit.TheVariants.{Add, Retire, Split, Renumber, SetEsn}
use Rattle.office_entry.specs.EditBytes.{edit_digest}
use Rattle.office_entry.specs.declared.entry.Entry.TheVariants.{Edit as Edited}
use Rattle.sequence_once.specs.KeptCycles.{CyclesState}
use Rattle.sequence_once.specs.SerialStanding.{EditRecord, after_serial}
use Rattle.office_state.specs.declared.counts.Counts.{Counts}
use Rattle.office_state.specs.Counted.{counted}
use Rattle.office_state.specs.OfficeState.{office_of, without_spare}
use Rattle.office_state.specs.Booked.{with_entry}
use Rattle.office_state.specs.Verdict.{after}

-- the room of a guide is nothing to an edit
same_verdict : (g : StreetGuide) (rows : NumberTable) (edit : Edit) → edit_verdict (without_spare g) rows edit ≡ edit_verdict g rows edit
same_verdict g rows (Add key low high parity esn) = refl
same_verdict g rows (Retire id) = refl
same_verdict g rows (Split id at esn) = refl
same_verdict g rows (Renumber id by) = refl
same_verdict g rows (SetEsn id esn) = refl

same_act : (g : StreetGuide) (edit : Edit) → edit_act (without_spare g) edit ≡ edit_act g edit
same_act g (Add key low high parity esn) = refl
same_act g (Retire id) = refl
same_act g (Split id at esn) = refl
same_act g (Renumber id by) = refl
same_act g (SetEsn id esn) = refl

test_of : (n : ℕ) → ((n == 0) ≡ true → n ≡ 0) × ((n == 0) ≡ false → n ≢ 0)
test_of n = (λ t. grind (arith, nat_tests), λ t e. grind (arith, nat_tests))

-- guide and rows that an edit left
module _ (edit : Edit) (g h : StreetGuide) (rows later : NumberTable) (v : EditVerdict) (left : IsAnswered edit g h rows later v) where
  left_guide : without_spare h ≡ guide_after (without_spare g) edit v.code
  left_guide =
      elim (v.code == 0) as (λ b. (v.code == 0) ≡ b → without_spare h ≡ cond b (record g { ranges = (edit_act (without_spare g) edit).ranges; next = (edit_act (without_spare g) edit).next; spare = 0 }) (without_spare g)) [
        | true ↦ λ t. ap without_spare (left.done ((test_of v.code).0 t)).guide ∙ ap (λ (a : EditAct). record g { ranges = a.ranges; next = a.next; spare = 0 }) (sym (same_act g edit))
        | false ↦ λ t. ap without_spare (left.refused ((test_of v.code).1 t)).guide
      ] refl

  left_rows : later ≡ rows_after (without_spare g) rows edit v.code
  left_rows =
      elim (v.code == 0) as (λ b. (v.code == 0) ≡ b → later ≡ cond b (changed (edit_act (without_spare g) edit).row rows) rows) [
        | true ↦ λ t. changed-only (edit_act g edit).row rows later (left.done ((test_of v.code).0 t)).rows ∙ ap (λ (a : EditAct). changed a.row rows) (sym (same_act g edit))
        | false ↦ λ t. (left.refused ((test_of v.code).1 t)).rows
      ] refl

  -- one range at most is new
  pub left_next : h.next ≤ g.next + 1
  left_next =
      elim (v.code == 0) as (λ b. (v.code == 0) ≡ b → h.next ≤ g.next + 1) [
        | true ↦ λ t. omega (arith, ap (λ (x : StreetGuide). x.next) (left.done ((test_of v.code).0 t)).guide, next_after g edit)
        | false ↦ λ t. omega (arith, ap (λ (x : StreetGuide). x.next) (left.refused ((test_of v.code).1 t)).guide)
      ] refl

-- an edit that was carried out and noted is booked
pub edit_booked : (g h : StreetGuide) (rows later : NumberTable) (most entries : ℕ) (cycles : CyclesState) (edits noted : List (Option EditRecord)) (editor serial : ℕ) (edit : Edit) (digest : List ℕ) (v : EditVerdict) (counts new_counts : Counts)
    → IsAnswered edit g h rows later v → digest ≡ edit_digest edit → noted ≡ after_serial edits editor serial digest v.code v.detail → new_counts ≡ counted counts (Edited editor serial edit) v.code
    → office_of later most h cycles noted (entries + 1) new_counts ≡ with_entry (office_of rows most g cycles edits entries counts) (Edited editor serial edit)
unfolding after
edit_booked g h rows later most entries cycles edits noted editor serial edit digest v counts new_counts left of_edit note counting =
    let verdict : v ≡ edit_verdict (without_spare g) rows edit = left.verdict ∙ sym (same_verdict g rows edit) in
    let new_guide = left_guide edit g h rows later v left ∙ ap (λ (w : EditVerdict). guide_after (without_spare g) edit w.code) verdict in
    let new_rows = left_rows edit g h rows later v left ∙ ap (λ (w : EditVerdict). rows_after (without_spare g) rows edit w.code) verdict in
    let new_edits = note ∙ ap (λ d. after_serial edits editor serial d v.code v.detail) of_edit ∙ ap (λ (w : EditVerdict). after_serial edits editor serial (edit_digest edit) w.code w.detail) verdict in
    let new_counting = counting ∙ ap (λ (w : EditVerdict). counted counts (Edited editor serial edit) w.code) verdict in
    λ i. record { state = record { table = new_rows i; most_numbers = most; guide = new_guide i; cycles = cycles; edits = new_edits i }; entries = entries + 1; counts = new_counting i }
