-- What the laws on lines say of a row that a line changes.
use Rattle.std.specs.Prelude.{◌≡◌, ℕ, List, None, IsSome}
use Rattle.ali_base.specs.CivilDay.{day_of}
use Rattle.ali_record.specs.Functions.{function_of}
use Rattle.ali_record.specs.Layout.{field_of, byte_of}
use Rattle.ali_record.specs.declared.field.Field.TheVariants as field
use Rattle.ali_record.specs.declared.function.Function.TheVariants.{Unlock, Migrate}
use Rattle.number_life.specs.declared.row.Row.{Row}
use Rattle.number_life.specs.NumberLife.{owner}

-- the record of the company's file migrates the number: its row was unlocked, and is that company's now, and locked
pub record IsMigrated (company bytes : List ℕ) (old new : Row) : Type 0 where
  pub unlocked : IsSome old.unlocked
  pub migrates : function_of (byte_of bytes field.Function) ≡ Migrate
  pub new_owner : owner new ≡ company
  pub locked : new.unlocked ≡ None

-- the record of the owner's file unlocks its number: the row was locked, and has its extract date as the day now, and the record that it had
pub record IsUnlocked (company bytes tn : List ℕ) (old new : Row) : Type 0 where
  pub number : field_of bytes field.TelephoneNumber ≡ tn
  pub unlocks : function_of (byte_of bytes field.Function) ≡ Unlock
  pub old_owner : owner old ≡ company
  pub locked : old.unlocked ≡ None
  pub day : new.unlocked ≡ day_of (field_of bytes field.ExtractDate)
  pub kept : new.rec ≡ old.rec
