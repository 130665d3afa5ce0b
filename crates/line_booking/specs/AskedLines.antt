-- What is asked for by a line that is accepted.
use Rattle.std.specs.Prelude.{◌≡◌, ℕ, List, length, Ok}
use Rattle.msag_ranges.specs.declared.range.Range.{Range}
use Rattle.ali_record.specs.Layout.{field_of}
use Rattle.ali_record.specs.declared.field.Field.TheVariants.{TelephoneNumber}
use Rattle.number_table.specs.NumberTable.{NumberTable}
use Rattle.line_booking.specs.declared.judging.Asked.{Asked}
use Rattle.line_booking.specs.LineVerdict.{record_act, stored}
use Rattle.line_booking.specs.Rooms.{HasRoom}

-- its number, its record as it is stored, and its act, for which the table has room
pub record IsAsked (ranges : List Range) (table : NumberTable) (most : ℕ) (company bytes : List ℕ) (asked : Asked) : Type 0 where
  pub tn : asked.tn ≡ field_of bytes TelephoneNumber
  pub rec : asked.rec ≡ stored ranges bytes
  pub size : length asked.rec ≡ 512
  pub act : record_act ranges table most company bytes ≡ Ok asked.act
  pub room : HasRoom table asked.tn asked.act
