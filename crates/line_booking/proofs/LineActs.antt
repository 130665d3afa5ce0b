-- What a line asks for, once its record is read and its number's life has an act.
use Rattle.std.proofs.Common.{◌≡◌, ◌<◌, ◌^◌, ℕ, ◌==◌, ◌&&◌, nat_le, Bool, true, false, cond, List, ap, sym, ◌∙◌, Option, Some, None, Ok, Err, Result, MatchResult}
use Rattle.std.specs.Result.{IsErrAnd}
use Rattle.std.specs.FinMap.{get, len}
use Rattle.msag_ranges.specs.declared.range.Range.{Range}
use Rattle.ali_record.specs.Layout.{field_of, byte_of}
use Rattle.ali_record.specs.RecordReading.{reading_code}
use Rattle.ali_record.specs.declared.field.Field.TheVariants as field
use Rattle.number_life.specs.declared.act.LifeAct.{LifeAct}
use Rattle.number_life.specs.declared.row.Row.{Row}
use Rattle.number_life.specs.NumberLife.{life_of}
use Rattle.number_table.specs.NumberTable.{NumberTable}
use Rattle.line_booking.specs.Rooms.{HasRoom}
use Rattle.line_booking.specs.LineVerdict.{record_act, address_fault, stored, where_placed, within_limit}
use Rattle.line_booking.proofs.Rooms.{has_room}

-- an error is all that there is
pub by_error : {T E : Type 0} (r : Result T E) (P : T → Type 0) (Q R : E → Type 0) → IsErrAnd r R → ((e : E) → R e → Q e) → MatchResult r P Q
by_error (Ok x) P Q R is h = absurd is
by_error (Err e) P Q R is h = h e is

-- a record that was read of these bytes, and the row that was found of its number
module _ (ranges : List Range) (table : NumberTable) (most : ℕ) (company bytes rec : List ℕ) (found : Option Row) (act : LifeAct) (same : rec ≡ bytes) (read : reading_code company bytes ≡ 0)
    (row : found ≡ get table (field_of bytes field.TelephoneNumber)) (judged : life_of found rec ≡ Ok act) where
  abbrev letter : ℕ
  letter = byte_of bytes field.Function

  abbrev is_full : Bool
  is_full = (byte_of rec field.Function == 73) && nat_le most (len table)

  life : life_of (get table (field_of bytes field.TelephoneNumber)) bytes ≡ Ok act
  life = ap (λ o. life_of o bytes) (sym row) ∙ ap (life_of found) (sym same) ∙ judged

  by_fault : (fault : Option ℕ) → address_fault ranges rec ≡ fault → record_act ranges table most company bytes ≡ within_limit table most letter (where_placed fault (Ok act))
  unfolding record_act
  by_fault fault placed =
      ap (λ n. cond (n == 0) (within_limit table most letter (where_placed (address_fault ranges bytes) (life_of (get table (field_of bytes field.TelephoneNumber)) bytes))) (Err n)) read
      ∙ ap (λ r. within_limit table most letter (where_placed (address_fault ranges bytes) r)) life
      ∙ ap (λ z. within_limit table most letter (where_placed (address_fault ranges z) (Ok act))) (sym same)
      ∙ ap (λ f. within_limit table most letter (where_placed f (Ok act))) placed

  limit : (b : Bool) → is_full ≡ b → ((letter == 73) && nat_le most (len table)) ≡ b
  limit b full = ap (λ z. (byte_of z field.Function == 73) && nat_le most (len table)) (sym same) ∙ full

  -- the guide has no place for its address
  pub misplaced : (code : ℕ) → address_fault ranges rec ≡ Some code → record_act ranges table most company bytes ≡ Err code
  misplaced code fault = by_fault (Some code) fault

  -- it is an insert, and the table is at its limit
  pub too_many : address_fault ranges rec ≡ None → is_full ≡ true → record_act ranges table most company bytes ≡ Err 509
  too_many placed full = by_fault None placed ∙ ap (λ b. cond b (Err 509) (Ok act)) (limit true full)

  -- it is carried out
  pub carried_out : address_fault ranges rec ≡ None → is_full ≡ false → record_act ranges table most company bytes ≡ Ok act
  carried_out placed room = by_fault None placed ∙ ap (λ b. cond b (Err 509) (Ok act)) (limit false room)

  -- and has room
  pub with_room : is_full ≡ false → most < 2 ^ 32 → HasRoom table (field_of bytes field.TelephoneNumber) act
  with_room room small = has_room table bytes most act life (limit false room) small

  pub as_stored : (filled : List ℕ) → filled ≡ stored ranges rec → filled ≡ stored ranges bytes
  as_stored filled is = is ∙ ap (stored ranges) same
