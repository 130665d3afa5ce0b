-- The bytes of an entry, of which there are 631.
use Rattle.std.specs.Prelude.{◌≡◌, ℕ, ◌^◌, ◌<◌, ◌≤◌, true, List, ◌∷◌, ◌++◌, length}
use Rattle.ali_base.specs.CivilDay.{IsDay, day_text}
use Rattle.ali_base.specs.Company.{is_company}
use Rattle.ali_base.specs.Editors.{IsEditor, IsSerial}
use Rattle.ali_base.specs.declared.cycle.TheConstants.{LAST_CYCLE}
use Rattle.ali_base.specs.Fronts.{number_bytes, zero_filled}
use Rattle.office_entry.specs.EditBytes.{edit_bytes}
use Rattle.office_entry.specs.Edits.{IsEdit}
use Rattle.office_entry.specs.declared.entry.Entry.{Entry}
use Rattle.office_entry.specs.declared.entry.Entry.TheVariants.{Open, Line, Edit}

-- a cycle: 1 to 999,999
abbrev pub IsCycle : ℕ → Type 0
IsCycle cycle = (1 ≤ cycle) × (cycle ≤ LAST_CYCLE)

-- each field of the entry is in its range; a count and a line are any number of four bytes
abbrev pub IsInRange : Entry → Type 0
IsInRange (Open company cycle count day digest) = (is_company company ≡ true) × IsCycle cycle × (count < 2 ^ 32) × IsDay day × (length digest ≡ 32)
IsInRange (Line company cycle line bytes) = (is_company company ≡ true) × IsCycle cycle × (line < 2 ^ 32) × (length bytes ≡ 512)
IsInRange (Edit editor serial edit) = IsEditor editor × IsSerial serial × IsEdit edit

-- a letter for its kind, O, L or E, and its fields; numbers have four bytes, the highest first, an editor one, and a day six digits
abbrev pub entry_fields : Entry → List ℕ
entry_fields (Open company cycle count day digest) = 79 ∷ company ++ number_bytes cycle ++ number_bytes count ++ day_text day ++ digest
entry_fields (Line company cycle line bytes) = 76 ∷ company ++ number_bytes cycle ++ number_bytes line ++ bytes
entry_fields (Edit editor serial edit) = 69 ∷ editor ∷ number_bytes serial ++ edit_bytes edit

-- the bytes of an entry
unfoldable pub entry_bytes : Entry → List ℕ
entry_bytes entry = zero_filled 631 (entry_fields entry)
