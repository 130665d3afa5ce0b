-- The rows whose address a range of the street guide holds, and what a change of theirs makes of them.
use Rattle.std.specs.Prelude.{◌≡◌, ℕ, ℤ, Bool, false, List, length, map, filter, find, Option, if◌then◌else◌}
use Rattle.std.specs.Option.{option_map, option_map_or}
use Rattle.std.specs.FinMap.{get, entries, from_entries}
use Rattle.ali_base.specs.HouseNumber.{house_of}
use Rattle.msag_ranges.specs.StreetGuide.{holds}
use Rattle.msag_ranges.specs.declared.range.Range.{Range}
use Rattle.ali_record.specs.Address.{record_key}
use Rattle.ali_record.specs.FieldChanges.{with_house, with_esn}
use Rattle.ali_record.specs.Layout.{field_of}
use Rattle.ali_record.specs.declared.field.Field.TheVariants.{HouseNumber}
use Rattle.number_life.specs.declared.row.Row.{Row}
use Rattle.number_table.specs.NumberTable.{NumberTable}
use Rattle.number_table.specs.HouseArithmetic.{added}

-- the house number of a record
abbrev pub record_house : List ℕ → Option ℕ
record_house bytes = house_of (field_of bytes HouseNumber)

-- the range holds the address of the record
abbrev pub holds_record : Range → List ℕ → Bool
holds_record r bytes = option_map_or (λ n. holds r (record_key bytes) n) (record_house bytes) false

-- the range holds the row
abbrev pub holds_row : Range → Row → Bool
holds_row r row = holds_record r row.rec

-- the numbers and rows that the range holds, in the order of the numbers
abbrev pub held_rows : NumberTable → Range → List (List ℕ × Row)
held_rows rows r = filter (λ e. holds_row r e.1) (entries rows)

-- how many they are
abbrev pub count_held : NumberTable → Range → ℕ
count_held rows r = length (held_rows rows r)

-- the least number of a row that the range holds: the first in the order of the numbers
abbrev pub least_held : NumberTable → Range → Option (List ℕ)
least_held rows r = option_map (λ e. e.0) (find (λ e. holds_row r e.1) (entries rows))

-- the house number of a record with the difference added
abbrev pub shifted_house : ℤ → List ℕ → ℕ
shifted_house by bytes = option_map_or (λ n. added n by) (record_house bytes) 0

-- the row with the difference added to its house number, where the range holds it
abbrev pub shifted_row : Range → ℤ → Row → Row
shifted_row r by row = if holds_row r row then record row { rec = with_house row.rec (shifted_house by row.rec) } else row

-- the row with this emergency service number, where the range holds it
abbrev pub esn_row : Range → ℕ → Row → Row
esn_row r esn row = if holds_row r row then record row { rec = with_esn row.rec esn } else row

-- each number has the row that it had, changed so, and no other number has one
abbrev pub AreChanged : (Row → Row) → NumberTable → NumberTable → Type 0
AreChanged change old new = (tn : List ℕ) → get new tn ≡ option_map change (get old tn)

-- the table with each of its rows changed so
unfoldable pub changed : (Row → Row) → NumberTable → NumberTable
changed change rows = from_entries (map (λ e. (e.0, change e.1)) (entries rows))
