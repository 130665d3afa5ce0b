-- Entries of the booked history.
use Rattle.std.specs.Prelude.{◌≡◌, length}
use Rattle.ali_base.specs.Editors.{IsEditor, IsSerial}
use Rattle.office_entry.specs.Edits.{IsEdit}
use Rattle.office_entry.specs.declared.entry.Entry.{Entry}
use Rattle.office_entry.specs.declared.entry.Entry.TheVariants.{Open, Line, Edit}

-- what an entry has: 512 bytes in a line; an editor, a serial and an edit in their ranges
abbrev pub IsEntry : Entry → Type 0
IsEntry (Open company cycle count day digest) = Unit {0}
IsEntry (Line company cycle line bytes) = length bytes ≡ 512
IsEntry (Edit editor serial edit) = IsEditor editor × IsSerial serial × IsEdit edit
