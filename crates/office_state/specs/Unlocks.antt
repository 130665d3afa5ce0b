-- The entry that unlocks a row.
use Rattle.std.specs.Prelude.{◌≡◌, ℕ, List}
use Rattle.line_booking.specs.LineLaws.{IsUnlocked}
use Rattle.number_life.specs.declared.row.Row.{Row}
use Rattle.office_entry.specs.declared.entry.Entry.{Entry}
use Rattle.office_entry.specs.declared.entry.Entry.TheVariants.{Line}

-- the entry is a line in the file of the row's owner that unlocks its number, and the row keeps its record
pub record IsOwnersUnlock (e : Entry) (tn : List ℕ) (old new : Row) : Type 0 where
  pub company : List ℕ
  pub cycle : ℕ
  pub line : ℕ
  pub bytes : List ℕ
  pub entry : e ≡ Line company cycle line bytes
  pub unlocks : IsUnlocked company bytes tn old new
