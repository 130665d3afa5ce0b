-- What an entry that is due says of its company's last cycle, and what it does to the cycles of each company and to the last edits.
use Rattle.std.proofs.Common.{◌≡◌, ℕ, ◌+◌, ◌<◌, ◌≤◌, ◌-◌, nat_lt, Bool, true, false, List, [], ◌∷◌, ◌++◌, length, set, get_or, Option, Some, None, refl, ap, sym, ◌∙◌, arith, ◌⊎◌, inl, inr, Less, Equal, Greater}
use Rattle.std.specs.declared.cmp.Ordering.{Ordering}
use Rattle.std.specs.Option.{unwrap_or}
use Rattle.std.proofs.lemmas.Bool.Decides.{nat_tests}
use Rattle.std.proofs.lemmas.Cmp.{tied_itself, nat_list_cmp_total}
use Rattle.std.proofs.lemmas.List.{length-set, get_or-set_same, get_or-set_other}
use Rattle.std.proofs.lemmas.Grind.{get_or-set_at}
use Rattle.ali_base.specs.CivilDay.{CivilDay}
use Rattle.ali_base.specs.Editors.{IsEditor}
use Rattle.sequence_once.specs.KeptCycles.{CycleRecord, IsSound, of_company, last_of, is_finished, is_last_finished, opened}
use Rattle.sequence_once.specs.SerialStanding.{EditRecord, last_edit, last_serial}
use Rattle.sequence_once.proofs.Order.{by_bytes, same_company}
use Rattle.sequence_once.proofs.Sound.{sound_opened, sound_noted}
use Rattle.sequence_once.proofs.Laws.{others_after_open, last_after_open, others_after_note, last_after_note}
use Rattle.office_entry.specs.Entries.{IsEntry}
use Rattle.office_entry.specs.declared.edit.Edit.{Edit as GuideEdit}
use Rattle.office_entry.specs.declared.entry.Entry.{Entry}
use Rattle.office_entry.specs.declared.entry.Entry.TheVariants.{Open, Line, Edit}
use Rattle.office_state.specs.OfficeState.{State}
use Rattle.office_state.specs.Due.{IsDue, line_of_last}
use Rattle.office_state.specs.Verdict.{after, code_in}

-- the company of an entry; an edit, which has none and changes no cycles, counts as one of the empty company
abbrev pub company_of : Entry → List ℕ
company_of (Open company cycle count day digest) = company
company_of (Line company cycle line bytes) = company
company_of (Edit editor serial edit) = []

-- two companies are one or not
pub one_or_two : (c d : List ℕ) → c ≡ d ⊎ (c ≡ d → ⊥)
one_or_two c d = at (by_bytes c d) refl
  where
    not_itself : (o : Ordering) → by_bytes c d ≡ o → (o ≡ Equal → ⊥) → c ≡ d → ⊥
    not_itself o e differ same = differ (sym e ∙ ap (λ (x : List ℕ). by_bytes c x) (sym same) ∙ tied_itself nat_list_cmp_total c)

    at : (o : Ordering) → by_bytes c d ≡ o → c ≡ d ⊎ (c ≡ d → ⊥)
    at Less e = inr (not_itself Less e (λ h. cc))
    at Equal e = inl (same_company c d e)
    at Greater e = inr (not_itself Greater e (λ h. cc))

-- the last cycle of a company, of which this line is the next
pub record NextLine (last : Option CycleRecord) (cycle line : ℕ) : Type 0 where
  pub kept : CycleRecord
  pub is_last : last ≡ Some kept
  pub number : kept.cycle ≡ cycle
  pub next : length kept.codes + 1 ≡ line
  pub room : line ≤ kept.count
  pub undone : is_finished kept ≡ false

-- a line that is due is the next of its company's last cycle
pub line_means : (last : Option CycleRecord) (cycle line : ℕ) → line_of_last last ≡ Some (cycle, line) → NextLine last cycle line
line_means None cycle line e = cc
line_means (Some k) cycle line e = at (nat_lt (length k.codes) k.count) refl
  where
    at : (b : Bool) → nat_lt (length k.codes) k.count ≡ b → NextLine (Some k) cycle line
    at true t =
        let next : ◌≡◌ {A = Option (ℕ × ℕ)} (Some (k.cycle, length k.codes + 1)) (Some (cycle, line)) = rw t at e in
        let place : ◌≡◌ {A = ℕ × ℕ} (k.cycle, length k.codes + 1) (cycle, line) = ap (λ (o : Option (ℕ × ℕ)). unwrap_or o (cycle, line)) next in
        let this : k.cycle ≡ cycle = ap (λ (p : ℕ × ℕ). p.0) place in
        let that : length k.codes + 1 ≡ line = ap (λ (p : ℕ × ℕ). p.1) place in
        let room : length k.codes < k.count = grind (arith, nat_tests) in
        record { kept = k; is_last = refl; number = this; next = that; room = omega (arith, room, that); undone = grind (arith, nat_tests, room) }
    at false t = let none = rw t at e in cc

-- which is then unfinished
pub line_undone : (last : Option CycleRecord) (cycle line : ℕ) → line_of_last last ≡ Some (cycle, line) → is_last_finished last ≡ false
line_undone last cycle line e = let h = line_means last cycle line e in ap is_last_finished h.is_last ∙ h.undone

-- what holds of all kept cycles holds after an entry that is due
pub sound_after : (s : State) (e : Entry) → IsSound s.cycles → IsDue s e → let later = after s e in IsSound later.cycles
unfolding after
sound_after s (Open company cycle count day digest) sound due = sound_opened s.cycles sound company cycle count digest due
sound_after s (Line company cycle line bytes) sound due = sound_noted s.cycles sound company (code_in s company bytes) (line_undone (last_of company s.cycles.kept) cycle line due)
sound_after s (Edit editor serial edit) sound due = sound

-- every other company keeps its cycles
pub others_after : (s : State) (e : Entry) → IsSound s.cycles → (d : List ℕ) → (d ≡ company_of e → ⊥) → let later = after s e in of_company d later.cycles.kept ≡ of_company d s.cycles.kept
unfolding after
others_after s (Open company cycle count day digest) sound d differ = others_after_open s.cycles sound company cycle count digest d differ
others_after s (Line company cycle line bytes) sound d differ = others_after_note s.cycles company (code_in s company bytes) d differ
others_after s (Edit editor serial edit) sound d differ = refl

-- the opened cycle is the last
pub last_opened : (s : State) → IsSound s.cycles → (company : List ℕ) (cycle count : ℕ) (day : CivilDay) (digest : List ℕ) → let later = after s (Open company cycle count day digest) in last_of company later.cycles.kept ≡ Some (opened company cycle count digest)
unfolding after
last_opened s sound company cycle count day digest = last_after_open s.cycles sound company cycle count digest

-- the last cycle has the code of a line
pub last_noted : (s : State) (company : List ℕ) (cycle line : ℕ) (bytes : List ℕ) (k : CycleRecord) → last_of company s.cycles.kept ≡ Some k → let later = after s (Line company cycle line bytes) in last_of company later.cycles.kept ≡ Some (record k { codes = k.codes ++ code_in s company bytes ∷ [] })
unfolding after
last_noted s company cycle line bytes k e = last_after_note s.cycles company (code_in s company bytes) k e

-- there stays a place for each editor
pub editors_after : (s : State) (e : Entry) → let later = after s e in length later.edits ≡ length s.edits
unfolding after
editors_after s (Open company cycle count day digest) = refl
editors_after s (Line company cycle line bytes) = refl
editors_after s (Edit editor serial edit) = length-set s.edits (editor - 1) _

-- the serial of an edit is its editor's last
pub serial_noted : (s : State) (editor serial : ℕ) (edit : GuideEdit) → length s.edits ≡ 64 → IsEditor editor → let later = after s (Edit editor serial edit) in last_serial (last_edit editor later.edits) ≡ serial
unfolding after
serial_noted s editor serial edit editors within =
    let place : editor - 1 < length s.edits = omega (arith, editors, within.0, within.1) in
    ap last_serial (get_or-set_same s.edits (editor - 1) _ None place)

rises : (edits : List (Option EditRecord)) (i j : ℕ) (e : EditRecord) → last_serial (get_or edits i None) ≤ e.serial → i < length edits → last_serial (get_or edits j None) ≤ last_serial (get_or (set edits i (Some e)) j None)
rises edits i j e up within = grind (arith, get_or-set_at, get_or-set_other)

-- no editor's last serial falls
pub serials_rise : (s : State) (e : Entry) → length s.edits ≡ 64 → IsEntry e → IsDue s e → (editor : ℕ) → let later = after s e in last_serial (last_edit editor s.edits) ≤ last_serial (last_edit editor later.edits)
unfolding after
serials_rise s (Open company cycle count day digest) editors entry due editor = omega arith
serials_rise s (Line company cycle line bytes) editors entry due editor = omega arith
serials_rise s (Edit own serial edit) editors entry due editor = rises s.edits (own - 1) (editor - 1) _ (omega (arith, due)) (omega (arith, editors, entry.0.0, entry.0.1))
