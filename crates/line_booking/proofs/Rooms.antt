-- Room for a record that is stored.
use Rattle.std.proofs.Common.{◌≡◌, ◌⊎◌, inl, inr, ℕ, ◌<◌, ◌^◌, ◌==◌, ◌&&◌, nat_le, Bool, true, false, cond, List, refl, ap, sym, ◌∙◌, arith, Option, Some, None, IsSome, Ok, Err}
use Rattle.std.specs.Option.{option_map_or}
use Rattle.std.specs.FinMap.{get, len}
use Rattle.std.proofs.lemmas.Bool.Decides.{nat_tests}
use Rattle.ali_base.specs.CivilDay.{CivilDay, day_of}
use Rattle.ali_record.specs.Layout.{field_of, byte_of}
use Rattle.ali_record.specs.declared.field.Field.TheVariants as field
use Rattle.ali_record.specs.Functions.{function_of}
use Rattle.ali_record.specs.declared.function.Function.{Function}
use Rattle.ali_record.specs.declared.function.Function.TheVariants as function
use Rattle.number_life.specs.declared.act.LifeAct.{LifeAct}
use Rattle.number_life.specs.declared.act.LifeAct.TheVariants.{Store, Remove, Unlock}
use Rattle.number_life.specs.declared.number_standing.NumberStanding.TheVariants.{Absent}
use Rattle.number_life.specs.declared.row.Row.{Row}
use Rattle.number_life.specs.NumberLife.{life, life_of}
use Rattle.number_table.specs.NumberTable.{NumberTable}
use Rattle.line_booking.specs.Rooms.{HasRoom}

-- a number without a row is stored by an insert alone
only_inserts : (f : Function) (day : CivilDay) → life f Absent day ≡ Ok Store → f ≡ function.Insert
only_inserts function.Insert day h = refl
only_inserts function.Change day h = absurd (cc h)
only_inserts function.Delete day h = absurd (cc h)
only_inserts function.Unlock day h = absurd (cc h)
only_inserts function.Migrate day h = absurd (cc h)

insert_first : (a b c d : Bool) → cond a function.Insert (cond b function.Change (cond c function.Delete (cond d function.Unlock function.Migrate))) ≡ function.Insert → a ≡ true
insert_first true b c d h = refl
insert_first false true c d h = absurd (cc h)
insert_first false false true d h = absurd (cc h)
insert_first false false false true h = absurd (cc h)
insert_first false false false false h = absurd (cc h)

stored_new : (bytes : List ℕ) → life_of None bytes ≡ Ok Store → (byte_of bytes field.Function == 73) ≡ true
unfolding life_of
stored_new bytes h = by_day (day_of (field_of bytes field.ExtractDate)) h
  where
    byte : ℕ
    byte = byte_of bytes field.Function

    by_day : (day : Option CivilDay) → option_map_or (λ day. life (function_of byte) Absent day) day (Err 107) ≡ Ok Store → (byte == 73) ≡ true
    by_day None h = absurd (cc h)
    by_day (Some day) h = insert_first (byte == 73) (byte == 67) (byte == 68) (byte == 85) (only_inserts (function_of byte) day h)

-- a record is stored over a row, or below the limit of numbers
pub stored_within : (table : NumberTable) (found : Option Row) (bytes : List ℕ) (most : ℕ) → life_of found bytes ≡ Ok Store → ((byte_of bytes field.Function == 73) && nat_le most (len table)) ≡ false → IsSome found ⊎ (len table < most)
stored_within table (Some row) bytes most h full = inl refl
stored_within table None bytes most h full =
    let below : nat_le most (len table) ≡ false = sym (ap (λ b. b && nat_le most (len table)) (stored_new bytes h)) ∙ full in
    inr (grind (arith, nat_tests, below))

-- where the limit of numbers is not reached, a record that is stored has room
pub has_room : (table : NumberTable) (bytes : List ℕ) (most : ℕ) (act : LifeAct) → life_of (get table (field_of bytes field.TelephoneNumber)) bytes ≡ Ok act
    → ((byte_of bytes field.Function == 73) && nat_le most (len table)) ≡ false → most < 2 ^ 32 → HasRoom table (field_of bytes field.TelephoneNumber) act
has_room table bytes most Store h full small =
    elim (stored_within table (get table (field_of bytes field.TelephoneNumber)) bytes most h full) [ inl there ↦ inl there | inr below ↦ inr (omega (arith, below, small)) ]
has_room table bytes most Remove h full small = tt
has_room table bytes most (Unlock day) h full small = tt
