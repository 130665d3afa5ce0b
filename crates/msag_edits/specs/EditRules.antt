-- The edits of the street guide: the verdict of each, and what one with code 0 does to guide and rows.
use Rattle.std.specs.Prelude.{ℕ, ◌+◌, ◌&&◌, ◌||◌, Bool, not, nat_le, ℤ, List, [], ◌∷◌, ◌++◌, length, Option, Some, None, if◌then◌else◌}
use Rattle.std.specs.Option.{option_map_or, unwrap_or}
use Rattle.ali_base.specs.Digits.{digits_number}
use Rattle.msag_ranges.specs.StreetGuide.{StreetGuide, has_parity, least_overlap, range_of, new_range, moved, with_moved, without}
use Rattle.msag_ranges.specs.HeldNumbers.{greatest_to, least_from}
use Rattle.ali_base.specs.declared.parity.Parity.{Parity}
use Rattle.msag_ranges.specs.declared.range.Range.{Range}
use Rattle.ali_base.specs.declared.street_key.StreetKey.{StreetKey}
use Rattle.ali_base.specs.declared.esn.TheConstants.{HIGHEST_ESN}
use Rattle.msag_edits.specs.declared.edit_verdict.EditVerdict.{EditVerdict}
use Rattle.number_table.specs.HouseArithmetic.{added, stays_house}
use Rattle.msag_edits.specs.HouseArithmetic.{is_odd, is_one_parity}
use Rattle.number_life.specs.declared.row.Row.{Row}
use Rattle.number_table.specs.NumberTable.{NumberTable}
use Rattle.number_table.specs.HeldRows.{count_held, least_held, esn_row, shifted_row}

-- this code, and this detail
abbrev pub verdict_of : ℕ → ℕ → EditVerdict
verdict_of code detail = record { code = code; detail = detail }

-- the edit is done
abbrev pub done : ℕ → EditVerdict
done detail = verdict_of 0 detail

-- the edit is refused, and there is nothing more to say
abbrev pub refused : ℕ → EditVerdict
refused code = verdict_of code 0

-- an emergency service number: 1 to 99,999
abbrev pub is_esn : ℕ → Bool
is_esn esn = nat_le 1 esn && nat_le esn HIGHEST_ESN

-- the ends are in order and of the parity
abbrev pub are_sound_ends : Parity → ℕ → ℕ → Bool
are_sound_ends parity low high = nat_le low high && has_parity parity low && has_parity parity high

-- 502 with the id of a range that is in the way, or what follows
abbrev pub unless_overlap : Option ℕ → EditVerdict → EditVerdict
unless_overlap None next = next
unless_overlap (Some id) next = verdict_of 502 id

-- 509 where the guide holds its limit of ranges, or its next id
abbrev pub new_id : StreetGuide → EditVerdict
new_id g = if nat_le g.limit (length g.ranges) then refused 509 else done g.next

-- 501 where no range has the id, or what follows for the one that does
abbrev pub for_range : Option Range → (Range → EditVerdict) → EditVerdict
for_range None next = refused 501
for_range (Some r) next = next r

-- ADD: 503 low above high or an end of the wrong parity, 508 no emergency service number, 502 overlap, 509 the guide is full; the detail is the new id
abbrev pub add_verdict : StreetGuide → StreetKey → ℕ → ℕ → Parity → ℕ → EditVerdict
add_verdict g key low high parity esn =
    if not (are_sound_ends parity low high) then refused 503 else
    (if not (is_esn esn) then refused 508 else
    unless_overlap (least_overlap g.ranges (new_range g.next key low high parity esn) None) (new_id g))

-- the number that the digits of a telephone number spell
abbrev pub tn_number : List ℕ → ℕ
tn_number tn = unwrap_or (digits_number tn) 0

-- 504 with the least number of a row that the range holds; 0 where it holds none
abbrev pub unused : Option (List ℕ) → EditVerdict
unused None = done 0
unused (Some tn) = verdict_of 504 (tn_number tn)

-- RETIRE: 501 no such range, 504 in use
abbrev pub retire_verdict : StreetGuide → NumberTable → ℕ → EditVerdict
retire_verdict g rows id = for_range (range_of g.ranges id) (λ r. unused (least_held rows r))

-- the range holds no number up to `at`, or none above it
abbrev pub has_empty_part : Range → ℕ → Bool
has_empty_part r at = not (nat_le r.low at) || nat_le r.high at

-- SPLIT: 501 no such range, 505 a part holds no number, 508 no emergency service number, 509 the guide is full; the detail is the new id
abbrev pub split_verdict : StreetGuide → ℕ → ℕ → ℕ → EditVerdict
split_verdict g id at esn = for_range (range_of g.ranges id) (λ r.
    if has_empty_part r at then refused 505 else
    (if not (is_esn esn) then refused 508 else new_id g))

-- the range with the difference added to its ends
abbrev pub shifted : Range → ℤ → Range
shifted r by = moved r (added r.low by) (added r.high by) r.esn

-- RENUMBER: 501 no such range, 507 an odd difference on odd or even numbers, 506 an end past 0 or 999,999, 502 overlap with another range; the detail is how many rows it moves
abbrev pub renumber_verdict : StreetGuide → NumberTable → ℕ → ℤ → EditVerdict
renumber_verdict g rows id by = for_range (range_of g.ranges id) (λ r.
    if is_one_parity r.parity && is_odd by then refused 507 else
    (if not (stays_house r.low by && stays_house r.high by) then refused 506 else
    unless_overlap (least_overlap g.ranges (shifted r by) (Some id)) (done (count_held rows r))))

-- SETESN: 501 no such range, 508 no emergency service number; the detail is how many rows it writes
abbrev pub set_esn_verdict : StreetGuide → NumberTable → ℕ → ℕ → EditVerdict
set_esn_verdict g rows id esn = for_range (range_of g.ranges id) (λ r.
    if not (is_esn esn) then refused 508 else done (count_held rows r))

-- what an edit with code 0 leaves: the ranges, the next id, and the change of each row
pub record EditAct : Type 0 where
  pub ranges : List Range
  pub next : ℕ
  pub row : Row → Row

-- nothing is changed
abbrev pub nothing : StreetGuide → EditAct
nothing g = record { ranges = g.ranges; next = g.next; row = λ row. row }

-- what is done to the range of an id
abbrev pub on_range : StreetGuide → ℕ → (Range → EditAct) → EditAct
on_range g id act = option_map_or act (range_of g.ranges id) (nothing g)

-- ADD: a new range with the next id
abbrev pub add_act : StreetGuide → StreetKey → ℕ → ℕ → Parity → ℕ → EditAct
add_act g key low high parity esn = record {
  ranges = g.ranges ++ new_range g.next key low high parity esn ∷ [];
  next = g.next + 1;
  row = λ row. row;
}

-- RETIRE: the range is gone
abbrev pub retire_act : StreetGuide → ℕ → EditAct
retire_act g id = record { ranges = without g.ranges id; next = g.next; row = λ row. row }

-- the part of the range up to `at`
abbrev pub lower_part : Range → ℕ → Range
lower_part r at = moved r r.low (greatest_to r.parity at) r.esn

-- the part of the range above `at`, as a range of this id
abbrev pub upper_part : Range → ℕ → ℕ → ℕ → Range
upper_part r id at esn = new_range id r.key (least_from r.parity (at + 1)) r.high r.parity esn

-- SPLIT: the range keeps its numbers up to `at`; those above become a new range with the emergency service number, which the rows of that part get
abbrev pub split_act : StreetGuide → ℕ → ℕ → ℕ → EditAct
split_act g id at esn = on_range g id (λ r. record {
  ranges = with_moved g.ranges id r.low (greatest_to r.parity at) r.esn ++ upper_part r g.next at esn ∷ [];
  next = g.next + 1;
  row = esn_row (upper_part r g.next at esn) esn;
})

-- RENUMBER: the difference is added to both ends and to the house number of each row that the range holds
abbrev pub renumber_act : StreetGuide → ℕ → ℤ → EditAct
renumber_act g id by = on_range g id (λ r. record {
  ranges = with_moved g.ranges id (added r.low by) (added r.high by) r.esn;
  next = g.next;
  row = shifted_row r by;
})

-- SETESN: the range, and each row that it holds, gets the emergency service number
abbrev pub set_esn_act : StreetGuide → ℕ → ℕ → EditAct
set_esn_act g id esn = on_range g id (λ r. record {
  ranges = with_moved g.ranges id r.low r.high esn;
  next = g.next;
  row = esn_row r esn;
})
