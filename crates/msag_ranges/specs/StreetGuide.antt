-- The street guide: ranges of house numbers, each with its street and its emergency service number.
use Rattle.std.specs.Prelude.{◌≡◌, ℕ, ◌+◌, ◌-◌, ◌%◌, ◌<◌, ◌≤◌, ◌==◌, ◌&&◌, Bool, true, not, nat_le, min, List, [], ◌∷◌, length, map, filter, find, All, AllPairs, Option, Some, None, if◌then◌else◌}
use Rattle.std.specs.List.{list_any, range_with_len}
use Rattle.std.specs.Option.{option_map_or}
use Rattle.ali_base.specs.StreetKey.{same_key}
use Rattle.ali_base.specs.declared.parity.Parity.{Parity}
use Rattle.ali_base.specs.declared.parity.Parity.TheVariants.{Odd, Even, Both}
use Rattle.msag_ranges.specs.declared.range.Range.{Range}
use Rattle.ali_base.specs.declared.street_key.StreetKey.{StreetKey}
use Rattle.ali_base.specs.declared.house.TheConstants.{HIGHEST_HOUSE}

-- the number has the parity
abbrev pub has_parity : Parity → ℕ → Bool
has_parity Odd n = n % 2 == 1
has_parity Even n = n % 2 == 0
has_parity Both n = true

-- the number is from the low end to the high end
abbrev pub is_between_ends : Range → ℕ → Bool
is_between_ends r n = nat_le r.low n && nat_le n r.high

-- the number is one of the range's
abbrev pub is_held : Range → ℕ → Bool
is_held r n = is_between_ends r n && has_parity r.parity n

-- the range holds this number of this street
abbrev pub holds : Range → StreetKey → ℕ → Bool
holds r key n = same_key r.key key && is_held r n

-- the range that holds a number of a street; in a guide no two do
abbrev pub holder : List Range → StreetKey → ℕ → Option Range
holder ranges key n = find (λ r. holds r key n) ranges

-- the range of this id
abbrev pub range_of : List Range → ℕ → Option Range
range_of ranges id = find (λ r. r.id == id) ranges

-- why no range holds a number of a street: 201 no range has the street, 203 one of the street has the number between its ends, 202 otherwise
abbrev pub nearest_fault : List Range → StreetKey → ℕ → ℕ
nearest_fault ranges key n =
    if list_any (λ r. same_key r.key key) ranges
    then (if list_any (λ r. same_key r.key key && is_between_ends r n) ranges then 203 else 202)
    else 201

-- two ranges overlap: both hold some number of one street
abbrev pub Overlap : Range → Range → Type 0
Overlap r s = (key : StreetKey) × (n : ℕ) × (holds r key n ≡ true) × (holds s key n ≡ true)

-- some number is held by both, found by trying each from end to end
unfoldable pub share_number : Range → Range → Bool
share_number r s = list_any (λ n. is_held r n && is_held s n) (range_with_len r.low (r.high + 1 - r.low))

-- overlap as a test
abbrev pub overlaps : Range → Range → Bool
overlaps r s = same_key r.key s.key && share_number r s

-- the least number of a list
abbrev pub least : List ℕ → Option ℕ
least [] = None
least (x ∷ xs) = Some (option_map_or (min x) (least xs) x)

-- the id is not the excepted one
abbrev pub is_other : Option ℕ → ℕ → Bool
is_other None id = true
is_other (Some except) id = not (id == except)

-- the least id of the ranges, other than the excepted one, that a range overlaps
abbrev pub least_overlap : List Range → Range → Option ℕ → Option ℕ
least_overlap ranges r except = least (map (λ s. s.id) (filter (λ s. is_other except s.id && overlaps r s) ranges))

-- the ends are in order and of the range's parity
pub record HasSoundEnds (r : Range) : Type 0 where
  pub ordered : r.low ≤ r.high
  pub low_parity : has_parity r.parity r.low ≡ true
  pub high_parity : has_parity r.parity r.high ≡ true

-- a range may stand among others: its ends are sound, and it overlaps none of them but the excepted one
pub record MayStand (ranges : List Range) (r : Range) (except : Option ℕ) : Type 0 where
  pub ends : HasSoundEnds r
  pub free : least_overlap ranges r except ≡ None

-- ranges: in the order of their ids. next: the id that the next new range gets. limit: the most ranges. spare: how many can be added without memory
pub record StreetGuide : Type 0 where
  pub ranges : List Range
  pub next : ℕ
  pub limit : ℕ
  pub spare : ℕ

-- what every guide keeps: the ends of each range are sound and at most 999,999, the ids rise from 1 and are below the next, no number of a street is held by two ranges, and there are at most the limit
pub record IsSoundGuide (ranges : List Range) (next limit : ℕ) : Type 0 where
  pub ends : All HasSoundEnds ranges
  pub numbers : All (λ r. r.high ≤ HIGHEST_HOUSE) ranges
  pub rising : AllPairs (λ r s. r.id < s.id) ranges
  pub known : All (λ r. (1 ≤ r.id) × (r.id < next)) ranges
  pub first : 1 ≤ next
  pub apart : AllPairs (λ r s. Overlap r s → ⊥) ranges
  pub within : length ranges ≤ limit

-- the new range of this id
abbrev pub new_range : ℕ → StreetKey → ℕ → ℕ → Parity → ℕ → Range
new_range id key low high parity esn = record { id = id; key = key; low = low; high = high; parity = parity; esn = esn }

-- the range with other ends and another number
abbrev pub moved : Range → ℕ → ℕ → ℕ → Range
moved r low high esn = record r { low = low; high = high; esn = esn }

-- the ranges after the one of this id got other ends and another number
abbrev pub with_moved : List Range → ℕ → ℕ → ℕ → ℕ → List Range
with_moved ranges id low high esn = map (λ r. if r.id == id then moved r low high esn else r) ranges

-- the ranges without the one of this id
abbrev pub without : List Range → ℕ → List Range
without ranges id = filter (λ r. not (r.id == id)) ranges
