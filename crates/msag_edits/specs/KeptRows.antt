-- What a row keeps when an edit of the guide changes it.
use Rattle.std.specs.Prelude.{◌≡◌}
use Rattle.ali_record.specs.Layout.{field_of}
use Rattle.ali_record.specs.declared.field.Field.TheVariants.{TelephoneNumber}
use Rattle.number_life.specs.declared.row.Row.{Row}
use Rattle.number_life.specs.NumberLife.{owner}

-- its owner, its lock with the day of unlocking, and the number in its columns
pub record IsSameNumber (old new : Row) : Type 0 where
  pub company : owner new ≡ owner old
  pub lock : new.unlocked ≡ old.unlocked
  pub number : field_of new.rec TelephoneNumber ≡ field_of old.rec TelephoneNumber
