-- What the record of a line gets, over the ranges of the guide, the table and the most numbers that it may hold; and what it leaves of the table.
use Rattle.std.specs.Prelude.{ℕ, ◌==◌, ◌&&◌, nat_le, List, Option, Some, None, Result, Ok, Err, if◌then◌else◌}
use Rattle.std.specs.Option.{option_map_or}
use Rattle.std.specs.FinMap.{get, insert, remove, len}
use Rattle.msag_ranges.specs.declared.range.Range.{Range}
use Rattle.ali_record.specs.Layout.{field_of, byte_of}
use Rattle.ali_record.specs.RecordReading.{reading_code, sends_address}
use Rattle.ali_record.specs.FieldChanges.{with_esn}
use Rattle.ali_record.specs.declared.field.Field.TheVariants.{TelephoneNumber, Function}
use Rattle.address_check.specs.RecordPlace.{place_of_record}
use Rattle.number_life.specs.declared.act.LifeAct.{LifeAct}
use Rattle.number_life.specs.declared.act.LifeAct.TheVariants.{Store, Remove, Unlock}
use Rattle.number_life.specs.NumberLife.{life_of}
use Rattle.number_table.specs.NumberTable.{NumberTable}

-- the code of an address check, where it has one
abbrev pub place_fault : Option (Result (ℕ × ℕ) ℕ) → Option ℕ
place_fault None = None
place_fault (Some (Ok place)) = None
place_fault (Some (Err code)) = Some code

-- the code of the address check of a record, which is asked of I, C and M
abbrev pub address_fault : List Range → List ℕ → Option ℕ
address_fault ranges bytes = if sends_address (byte_of bytes Function) then place_fault (place_of_record ranges bytes) else None

-- what is done to the number, unless the address check has a code
abbrev pub where_placed : Option ℕ → Result LifeAct ℕ → Result LifeAct ℕ
where_placed fault (Err code) = Err code
where_placed None (Ok act) = Ok act
where_placed (Some code) (Ok act) = Err code

-- what is done to the number, or 509 where an insert finds the table at its limit
abbrev pub within_limit : NumberTable → ℕ → ℕ → Result LifeAct ℕ → Result LifeAct ℕ
within_limit table most function (Err code) = Err code
within_limit table most function (Ok act) = if (function == 73) && nat_le most (len table) then Err 509 else Ok act

-- the act of a record in a company's file, or its code: the first of that of its reading, that of its number's life, that of the address check, and 509
unfoldable pub record_act : List Range → NumberTable → ℕ → List ℕ → List ℕ → Result LifeAct ℕ
record_act ranges table most company bytes =
    if reading_code company bytes == 0
    then within_limit table most (byte_of bytes Function) (where_placed (address_fault ranges bytes) (life_of (get table (field_of bytes TelephoneNumber)) bytes))
    else Err (reading_code company bytes)

-- 0 where there is something to be done
abbrev pub code_of : Result LifeAct ℕ → ℕ
code_of (Ok act) = 0
code_of (Err code) = code

-- a record with the emergency service number of its place as five digits
abbrev pub filled : List ℕ → Option (Result (ℕ × ℕ) ℕ) → List ℕ
filled bytes None = bytes
filled bytes (Some (Ok place)) = with_esn bytes place.1
filled bytes (Some (Err code)) = bytes

-- a record as it is stored: with the emergency service number of the range that holds its address
abbrev pub stored : List Range → List ℕ → List ℕ
stored ranges bytes = if sends_address (byte_of bytes Function) then filled bytes (place_of_record ranges bytes) else bytes

-- the table after an act on a number: the record is its row, locked; or the row is gone; or it stays and is unlocked
abbrev pub acted : NumberTable → List ℕ → List ℕ → LifeAct → NumberTable
acted table tn rec Store = insert table tn (record { rec = rec; unlocked = None })
acted table tn rec Remove = remove table tn
acted table tn rec (Unlock day) = option_map_or (λ row. insert table tn (record row { unlocked = Some day })) (get table tn) table

-- the table after a line, which a refused one leaves
abbrev pub table_after : List Range → NumberTable → List ℕ → Result LifeAct ℕ → NumberTable
table_after ranges table bytes (Err code) = table
table_after ranges table bytes (Ok act) = acted table (field_of bytes TelephoneNumber) (stored ranges bytes) act

-- the code of a line, 0 where it is accepted
abbrev pub line_code : List Range → NumberTable → ℕ → List ℕ → List ℕ → ℕ
line_code ranges table most company bytes = code_of (record_act ranges table most company bytes)

-- the table with a line of a company's file
abbrev pub table_with_line : List Range → NumberTable → ℕ → List ℕ → List ℕ → NumberTable
table_with_line ranges table most company bytes = table_after ranges table bytes (record_act ranges table most company bytes)
