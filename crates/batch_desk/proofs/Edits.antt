-- What the standing of an edit says of its editor's last one, and what becomes of that one.
use Rattle.std.proofs.Common.{◌≡◌, ℕ, ◌+◌, ◌-◌, ◌<◌, List, [], ◌∷◌, length, set, get_or, Option, Some, None, Ok, refl, ap, ◌∙◌, arith, ◌⊎◌, inl, inr}
use Rattle.std.specs.List.{fold}
use Rattle.std.proofs.lemmas.Bool.{cases_eq}
use Rattle.std.proofs.lemmas.Bool.Decides.{nat_tests}
use Rattle.std.proofs.lemmas.List.{get_or-set_same, get_or-set_other}
use Rattle.std.proofs.lemmas.Grind.{get_or-set_at}
use Rattle.std.proofs.lemmas.Slice.Eq.{bytes_eq-Decides}
use Rattle.ali_base.specs.Editors.{IsEditor}
use Rattle.sequence_once.specs.SerialStanding.{EditRecord, last_edit, last_serial, serial_standing}
use Rattle.sequence_once.specs.declared.standing.Standing.TheVariants.{New, Resume, Complete}
use Rattle.office_entry.specs.EditBytes.{edit_digest}
use Rattle.office_entry.specs.Entries.{IsEntry}
use Rattle.office_entry.specs.declared.edit.Edit.{Edit}
use Rattle.office_entry.specs.declared.entry.Entry.{Entry}
use Rattle.office_entry.specs.declared.entry.Entry.TheVariants as entry
use Rattle.office_state.specs.OfficeState.{State}
use Rattle.office_state.specs.Due.{IsDue}
use Rattle.office_state.specs.Verdict.{after}
use Rattle.office_state.specs.History.{AreDue}
use Rattle.batch_desk.specs.EditJobs.{edit_standing}
use Rattle.batch_desk.proofs.KeptStates.{IsKept, kept_after}

-- a new edit has the serial after the last
pub new_edit : (last : Option EditRecord) (serial : ℕ) (digest : List ℕ) → serial_standing last serial digest ≡ Ok New → serial ≡ last_serial last + 1
new_edit None serial digest e = grind (arith, nat_tests, e)
new_edit (Some r) serial digest e = grind (arith, nat_tests, e)

-- a complete one has the last serial
complete_edit : (last : Option EditRecord) (serial : ℕ) (digest : List ℕ) → serial_standing last serial digest ≡ Ok Complete → serial ≡ last_serial last
complete_edit None serial digest e = grind (arith, nat_tests, e)
complete_edit (Some r) serial digest e = grind (arith, nat_tests, e)

-- none is resumed
pub not_resumed : (last : Option EditRecord) (serial : ℕ) (digest : List ℕ) (line : ℕ) → serial_standing last serial digest ≡ Ok (Resume line) → ⊥
not_resumed None serial digest line e = grind (arith, nat_tests, e)
not_resumed (Some r) serial digest line e = grind (arith, nat_tests, e)

-- an edit that was noted is complete
noted_complete : (r : EditRecord) → serial_standing (Some r) r.serial r.digest ≡ Ok Complete
noted_complete r = grind (arith, nat_tests, bytes_eq-Decides r.digest r.digest)

noted_by : (edits : List (Option EditRecord)) (place : ℕ) (r : EditRecord) → place < length edits → serial_standing (get_or (set edits place (Some r)) place None) r.serial r.digest ≡ Ok Complete
noted_by edits place r within = ap (λ (last : Option EditRecord). serial_standing last r.serial r.digest) (get_or-set_same edits place (Some r) None within) ∙ noted_complete r

-- after it is booked an edit is complete
pub after_edit : (s : State) (editor serial : ℕ) (edit : Edit) → length s.edits ≡ 64 → IsEditor editor → edit_standing (after s (entry.Edit editor serial edit)) editor serial edit ≡ Ok Complete
unfolding after
after_edit s editor serial edit editors within = noted_by s.edits (editor - 1) _ (omega (arith, editors, within.0, within.1))

-- an editor's last edit is the same, or its serial is greater
abbrev StaysOrRises : Option EditRecord → Option EditRecord → Type 0
StaysOrRises old new = (new ≡ old) ⊎ (last_serial old < last_serial new)

stays_by : (edits : List (Option EditRecord)) (i j : ℕ) (r : EditRecord) → last_serial (get_or edits i None) < r.serial → i < length edits → StaysOrRises (get_or edits j None) (get_or (set edits i (Some r)) j None)
stays_by edits i j r up within = at (cases_eq j i)
  where
    at : (j ≡ i) ⊎ (j ≡ i → ⊥) → StaysOrRises (get_or edits j None) (get_or (set edits i (Some r)) j None)
    at (inl same) = inr (grind (arith, get_or-set_at))
    at (inr differ) = inl (get_or-set_other edits i j (Some r) None differ)

-- which an entry that is due leaves it to be
stays_after : (s : State) (e : Entry) → IsKept s → IsEntry e → IsDue s e → (editor : ℕ) → let later = after s e in StaysOrRises (last_edit editor s.edits) (last_edit editor later.edits)
unfolding after
stays_after s (entry.Open company cycle count day digest) kept is due editor = inl refl
stays_after s (entry.Line company cycle line bytes) kept is due editor = inl refl
stays_after s (entry.Edit own serial edit) kept is due editor = stays_by s.edits (own - 1) (editor - 1) _ (omega (arith, due)) (omega (arith, kept.editors, is.0.0, is.0.1))

stays_on : (a b c : Option EditRecord) → StaysOrRises a b → StaysOrRises b c → StaysOrRises a c
stays_on a b c (inl same) (inl again) = inl (again ∙ same)
stays_on a b c (inl same) (inr up) = inr (omega (arith, up, ap last_serial same))
stays_on a b c (inr up) (inl same) = inr (omega (arith, up, ap last_serial same))
stays_on a b c (inr up) (inr more) = inr (omega (arith, up, more))

stays_fold : (s : State) (more : List Entry) → IsKept s → AreDue s more → (editor : ℕ) → let later = fold after s more in StaysOrRises (last_edit editor s.edits) (last_edit editor later.edits)
stays_fold s [] kept due editor = inl refl
stays_fold s (e ∷ more) kept due editor = stays_on _ _ _ (stays_after s e kept due.0 due.1 editor) (stays_fold (after s e) more (kept_after s e kept due.1) due.2 editor)

-- an edit that is complete, and whose serial is later still its editor's last, is that one with the same answer
pub same_edit : (s : State) (more : List Entry) → IsKept s → AreDue s more → (editor serial : ℕ) (edit : Edit) → edit_standing s editor serial edit ≡ Ok Complete → let later = fold after s more in last_serial (last_edit editor later.edits) ≡ serial → last_edit editor later.edits ≡ last_edit editor s.edits
same_edit s more kept due editor serial edit first second = at (stays_fold s more kept due editor)
  where
    at : let later = fold after s more in StaysOrRises (last_edit editor s.edits) (last_edit editor later.edits) → last_edit editor later.edits ≡ last_edit editor s.edits
    at (inl same) = same
    at (inr up) = absurd (omega (arith, up, complete_edit (last_edit editor s.edits) serial (edit_digest edit) first, second))
