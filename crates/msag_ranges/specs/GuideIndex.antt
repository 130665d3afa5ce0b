-- The index of a street guide: where its ranges begin, by street and number.
use Rattle.std.specs.Prelude.{◌≡◌, ℕ, ◌*◌, ◌%◌, ◌<◌, ◌≤◌, ◌==◌, ◌&&◌, Bool, true, false, nat_le, min, List, length, slice_index_or, All, AllPairs, Contains, ◌↔◌, Option, Some, None, if◌then◌else◌}
use Rattle.std.specs.Option.{option_map_or}
use Rattle.std.specs.Ordering.{is_lt, nat_cmp, bool_cmp, ordering_then}
use Rattle.std.specs.declared.cmp.Ordering.{Ordering}
use Rattle.std.specs.Cmp.Lexicographic.{slice_cmp}
use Rattle.ali_base.specs.declared.parity.Parity.{Parity}
use Rattle.ali_base.specs.declared.parity.Parity.TheVariants.{Odd, Even}
use Rattle.ali_base.specs.declared.street_key.StreetKey.{StreetKey}
use Rattle.msag_ranges.specs.StreetGuide.{has_parity, overlaps, is_other, range_of, IsSoundGuide}
use Rattle.msag_ranges.specs.HeldNumbers.{least_from}
use Rattle.msag_ranges.specs.declared.range.Range.{Range}
use Rattle.msag_ranges.specs.declared.place.Place.{Place}
use Rattle.msag_ranges.specs.declared.place.Entry.{Entry}

-- streets are ordered by their fields
abbrev pub key_cmp : StreetKey → StreetKey → Ordering
key_cmp a b =
    ordering_then (slice_cmp nat_cmp a.community b.community)
    (ordering_then (slice_cmp nat_cmp a.state b.state)
    (ordering_then (slice_cmp nat_cmp a.prefix b.prefix)
    (ordering_then (slice_cmp nat_cmp a.name b.name)
    (ordering_then (slice_cmp nat_cmp a.suffix b.suffix)
    (slice_cmp nat_cmp a.post b.post)))))

-- places are ordered by street, then even before odd, then by number
abbrev pub place_cmp : Place → Place → Ordering
place_cmp a b =
    ordering_then (key_cmp a.key b.key)
    (ordering_then (bool_cmp a.odd b.odd)
    (nat_cmp a.number b.number))

-- a place comes before another
unfoldable pub before : Place → Place → Bool
before a b = is_lt (place_cmp a b)

-- the entries are in the order of their places, no two at one place
abbrev pub Rises : List Entry → Type 0
Rises entries = AllPairs (λ a b. before a.place b.place ≡ true) entries

abbrev pub is_odd : ℕ → Bool
is_odd n = n % 2 == 1

-- the place of a number of a street
abbrev pub place_of : StreetKey → ℕ → Place
place_of key n = record { key = key; odd = is_odd n; number = n }

-- the parity of the odd numbers, or of the even ones
abbrev pub class_of : Bool → Parity
class_of true = Odd
class_of false = Even

-- the first odd number, or the first even one, from the range's low end on
abbrev pub first_of : Range → Bool → ℕ
first_of r odd = least_from (class_of odd) r.low

-- the range holds an odd number, or an even one
abbrev pub has_class : Range → Bool → Bool
has_class r odd = nat_le (first_of r odd) r.high && has_parity r.parity (first_of r odd)

-- the range's entry for its odd numbers, or for its even ones
abbrev pub entry_of : Range → Bool → Entry
entry_of r odd = record {
  place = record { key = r.key; odd = odd; number = first_of r odd };
  id = r.id;
}

-- the same, where the range holds any of them
abbrev pub class_entry : Range → Bool → Option Entry
class_entry r odd = if has_class r odd then Some (entry_of r odd) else None

-- the entry is the range's for this class
abbrev pub IsClassEntry : Range → Bool → Entry → Type 0
IsClassEntry r odd e = (has_class r odd ≡ true) × (e ≡ entry_of r odd)

-- the entry is one of the range's
abbrev pub IsEntryOf : Range → Entry → Type 0
IsEntryOf r e = (odd : Bool) × IsClassEntry r odd e

-- the entry is one of a range of these
abbrev pub IsEntryAmong : List Range → Entry → Type 0
IsEntryAmong ranges e = (r : Range) × Contains ranges r × IsEntryOf r e

-- the index of these ranges: their entries and no others, in the order of their places
pub record IsIndexOf (entries : List Entry) (ranges : List Range) : Type 0 where
  pub rising : Rises entries
  pub among : (e : Entry) → Contains entries e ↔ IsEntryAmong ranges e

-- what a guide keeps: it is sound, its index is that of its ranges, with room for two entries of each
pub record IsIndexedGuide (ranges : List Range) (entries : List Entry) (next limit room : ℕ) : Type 0 where
  pub sound : IsSoundGuide ranges next limit
  pub index : IsIndexOf entries ranges
  pub roomy : 2 * length ranges ≤ room

-- the entry of this number begins after the place
abbrev pub is_after : List Entry → ℕ → Entry → Place → Bool
is_after entries k d place = before place (slice_index_or entries k d).place

-- the first so many entries begin at the place or before it, and the others after it
pub record IsSplitAt (entries : List Entry) (place : Place) (count : ℕ) : Type 0 where
  pub within : count ≤ length entries
  pub upto : (k : ℕ) (d : Entry) → k < count → is_after entries k d place ≡ false
  pub after : (k : ℕ) (d : Entry) → count ≤ k → k < length entries → is_after entries k d place ≡ true

-- an entry stands at this index, of this street
abbrev pub IsOf : List Entry → ℕ → StreetKey → Type 0
IsOf entries at key = (at < length entries) × ((d : Entry) → (slice_index_or entries at d).place.key ≡ key)

-- no entry stands at this place
abbrev pub IsFree : List Entry → Place → Type 0
IsFree entries place = All (λ e. e.place ≡ place → ⊥) entries

-- the lesser of two numbers, where there are both
abbrev pub lesser : Option ℕ → Option ℕ → Option ℕ
lesser None b = b
lesser (Some m) b = Some (option_map_or (min m) b m)

-- the range of this id is not the excepted one, and overlaps r
abbrev pub overlaps_id : List Range → Range → Option ℕ → ℕ → Bool
overlaps_id ranges r except id =
    option_map_or (λ s. is_other except s.id && overlaps r s) (range_of ranges id) false
