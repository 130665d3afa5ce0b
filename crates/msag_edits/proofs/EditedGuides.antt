-- Guide and table after an edit, which a refused one leaves, are sound where they were.
use Rattle.std.proofs.Common.{◌≡◌, ℕ, ◌+◌, ◌≤◌, ◌==◌, Bool, true, false, cond, refl, arith, Option, Some, None}
use Rattle.std.specs.Option.{option_map_or}
use Rattle.std.proofs.lemmas.Bool.Decides.{nat_tests}
use Rattle.msag_ranges.specs.StreetGuide.{StreetGuide, IsSoundGuide, range_of}
use Rattle.msag_ranges.specs.declared.range.Range.{Range}
use Rattle.number_table.specs.NumberTable.{NumberTable}
use Rattle.number_table.specs.HeldRows.{changed}
use Rattle.number_table.proofs.ChangedRows.{get-changed}
use Rattle.msag_edits.specs.EditRules.{EditAct, nothing}
use Rattle.msag_edits.specs.Edits.{edit_verdict, edit_act}
use Rattle.msag_edits.specs.EditedTables.{guide_after, rows_after}
use Rattle.msag_edits.specs.GuideSoundness.{AreSound}
use Rattle.msag_edits.proofs.GuideEdits.{HaveFiveDigits, edit_keeps}
use Rattle.msag_edits.proofs.Soundness.{placed-kept, sound-from}
use Rattle.office_entry.specs.declared.edit.Edit.{Edit}
use Rattle.office_entry.specs.declared.edit.Edit.TheVariants.{Add, Retire, Split, Renumber, SetEsn}
use Rattle.office_entry.specs.Edits.{IsEdit}

-- what holds where a code is 0, and where it is not
pub whether : (code : ℕ) (P : Bool → Type 0) → (code ≡ 0 → P true) → P false → P (code == 0)
whether code P clear other = at (code == 0) refl
  where
    at : (b : Bool) → (code == 0) ≡ b → P b
    at true e = clear (grind (arith, nat_tests))
    at false e = other

-- an edit keeps a sound guide, and numbers of five digits
pub guide_kept : (g : StreetGuide) (rows : NumberTable) (edit : Edit) → IsEdit edit → IsSoundGuide g.ranges g.next g.limit
    → let new = guide_after g edit (edit_verdict g rows edit).code in IsSoundGuide new.ranges new.next new.limit × (HaveFiveDigits g.ranges → HaveFiveDigits new.ranges)
guide_kept g rows edit is guide =
    let done : StreetGuide = record g { ranges = (edit_act g edit).ranges; next = (edit_act g edit).next } in
    whether (edit_verdict g rows edit).code (λ b. let new = cond b done g in IsSoundGuide new.ranges new.next new.limit × (HaveFiveDigits g.ranges → HaveFiveDigits new.ranges))
    (edit_keeps g rows edit is guide) (guide, λ old. old)

-- an edit keeps guide and table sound
pub sound_edit : (g : StreetGuide) (rows : NumberTable) (edit : Edit) → IsEdit edit → IsSoundGuide g.ranges g.next g.limit → AreSound g rows
    → let code = (edit_verdict g rows edit).code in AreSound (guide_after g edit code) (rows_after g rows edit code)
sound_edit g rows edit is guide sound =
    let act = edit_act g edit in
    let done : StreetGuide = record g { ranges = act.ranges; next = act.next } in
    let later = changed act.row rows in
    whether (edit_verdict g rows edit).code (λ b. AreSound (cond b done g) (cond b later rows))
    (λ clear. sound-from done later (edit_keeps g rows edit is guide clear).0 (placed-kept g rows later edit sound clear (get-changed act.row rows))) sound

next_on : (g : StreetGuide) (found : Option Range) (act : Range → EditAct) → ((r : Range) → (act r).next ≤ g.next + 1) → (option_map_or act found (nothing g)).next ≤ g.next + 1
next_on g None act h = omega arith
next_on g (Some r) act h = h r

-- an edit makes one range at most
pub next_after : (g : StreetGuide) (edit : Edit) → (edit_act g edit).next ≤ g.next + 1
next_after g (Add key low high parity esn) = omega arith
next_after g (Retire id) = omega arith
next_after g (Split id at esn) = next_on g (range_of g.ranges id) _ (λ r. omega arith)
next_after g (Renumber id by) = next_on g (range_of g.ranges id) _ (λ r. omega arith)
next_after g (SetEsn id esn) = next_on g (range_of g.ranges id) _ (λ r. omega arith)
