-- Guide and rows are sound together.
use Rattle.std.specs.Prelude.{◌≡◌, ◌≢◌, ℕ, ◌<◌, ◌≤◌, true, List, length, All, AllPairs, IfSome, Contains}
use Rattle.std.specs.FinMap.{get}
use Rattle.ali_base.specs.Numbers.{zero_padded}
use Rattle.ali_base.specs.declared.house.TheConstants.{HIGHEST_HOUSE}
use Rattle.msag_ranges.specs.StreetGuide.{StreetGuide, HasSoundEnds, Overlap}
use Rattle.msag_ranges.specs.declared.range.Range.{Range}
use Rattle.ali_record.specs.Layout.{field_of}
use Rattle.ali_record.specs.declared.field.Field.TheVariants.{Esn}
use Rattle.number_life.specs.declared.row.Row.{Row}
use Rattle.number_table.specs.NumberTable.{NumberTable}
use Rattle.number_table.specs.HeldRows.{holds_row}

-- the row has 512 bytes, a range holds its address, and that range's emergency service number stands in its columns as five digits
pub record IsPlaced (ranges : List Range) (row : Row) : Type 0 where
  pub size : length row.rec ≡ 512
  pub range : Range
  pub live : Contains ranges range
  pub held : holds_row range row ≡ true
  pub esn : field_of row.rec Esn ≡ zero_padded 5 range.esn

-- each row is placed
abbrev pub ArePlaced : List Range → NumberTable → Type 0
ArePlaced ranges rows = (tn : List ℕ) → IfSome (get rows tn) (λ row. IsPlaced ranges row)

-- low is at most high and high at most 999,999, and the ends are of the parity; ids differ and are below the next id; no number of a street is held by two ranges; each row is placed
pub record AreSound (g : StreetGuide) (rows : NumberTable) : Type 0 where
  pub ends : All HasSoundEnds g.ranges
  pub numbers : All (λ r. r.high ≤ HIGHEST_HOUSE) g.ranges
  pub different : AllPairs (λ r s. r.id ≢ s.id) g.ranges
  pub known : All (λ r. r.id < g.next) g.ranges
  pub apart : AllPairs (λ r s. Overlap r s → ⊥) g.ranges
  pub placed : ArePlaced g.ranges rows
