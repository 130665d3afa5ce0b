-- Reading the bytes of an entry from their front.
use Rattle.std.specs.Prelude.{ℕ, ◌==◌, ◌&&◌, Bool, nat_le, List, [], ◌∷◌, Option, None, if◌then◌else◌}
use Rattle.ali_base.specs.CivilDay.{day_of}
use Rattle.ali_base.specs.Company.{company_of}
use Rattle.ali_base.specs.declared.cycle.TheConstants.{LAST_CYCLE}
use Rattle.ali_base.specs.declared.editor.TheConstants.{EDITORS, LAST_SERIAL}
use Rattle.ali_base.specs.Fronts.{are_zeros, front, number_at}
use Rattle.ali_base.specs.Steps.{◌>>=◌, when}
use Rattle.office_entry.specs.BytesReading.{edit_from}
use Rattle.office_entry.specs.declared.entry.Entry.{Entry}
use Rattle.office_entry.specs.declared.entry.Entry.TheVariants.{Open, Line, Edit}

-- the number, where it lies from low to high
abbrev pub number_within : ℕ → ℕ → ℕ → Option ℕ
number_within low high n = when (nat_le low n && nat_le n high) n

-- the fields of an opening, in their ranges; here and below only zeros may be left after them
unfoldable pub open_from : List ℕ → Option Entry
open_from bytes = do
  company ← front 5 bytes
  cycle ← number_at company.1
  count ← number_at cycle.1
  day ← front 6 count.1
  digest ← front 32 day.1
  c ← company_of company.0
  n ← number_within 1 LAST_CYCLE cycle.0
  d ← day_of day.0
  when (are_zeros digest.1) (Open c n count.0 d digest.0)

-- the fields of a line
unfoldable pub line_from : List ℕ → Option Entry
line_from bytes = do
  company ← front 5 bytes
  cycle ← number_at company.1
  line ← number_at cycle.1
  sent ← front 512 line.1
  c ← company_of company.0
  n ← number_within 1 LAST_CYCLE cycle.0
  when (are_zeros sent.1) (Line c n line.0 sent.0)

-- how many bytes an edit has, by its letter, with which the bytes begin; 0 for any other letter
abbrev pub edit_width : List ℕ → ℕ
edit_width [] = 0
edit_width (letter ∷ fields) =
    if letter == 65 then 116 else
    (if letter == 82 then 5 else
    (if letter == 83 then 13 else
    (if letter == 78 then 9 else
    (if letter == 87 then 9 else 0))))

-- the fields of an editor's edit
unfoldable pub edit_entry_from : List ℕ → Option Entry
edit_entry_from [] = None
edit_entry_from (editor ∷ bytes) = do
  serial ← number_at bytes
  fields ← front (edit_width serial.1) serial.1
  i ← number_within 1 EDITORS editor
  n ← number_within 1 LAST_SERIAL serial.0
  edit ← edit_from fields.0
  when (are_zeros fields.1) (Edit i n edit)

-- the entry that these bytes are
unfoldable pub entry_from : List ℕ → Option Entry
entry_from [] = None
entry_from (kind ∷ fields) =
    if kind == 79 then open_from fields else
    (if kind == 76 then line_from fields else
    (if kind == 69 then edit_entry_from fields else None))
