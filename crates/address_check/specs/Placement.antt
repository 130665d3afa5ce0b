-- Where the street guide places an address.
use Rattle.std.specs.Prelude.{ℕ, ◌==◌, ◌||◌, Bool, List, [], ◌∷◌, Option, Some, None, Result, Ok, Err, if◌then◌else◌}
use Rattle.std.specs.Fmt.{decimal}
use Rattle.std.specs.Str.{bytes_eq}
use Rattle.ali_base.specs.Columns.{trimmed, front_trimmed, is_blank}
use Rattle.msag_ranges.specs.StreetGuide.{holder, nearest_fault}
use Rattle.msag_ranges.specs.declared.range.Range.{Range}
use Rattle.ali_base.specs.declared.street_key.StreetKey.{StreetKey}

-- without the zeros at the front
abbrev pub zeros_cut : List ℕ → List ℕ
zeros_cut [] = []
zeros_cut (x ∷ xs) = if x == 48 then zeros_cut xs else x ∷ xs

-- the columns of an emergency service number agree with a number: they are blank, or its digits once spaces at either end and then leading zeros are cut
abbrev pub esn_agrees : List ℕ → ℕ → Bool
esn_agrees field esn = is_blank field || bytes_eq (zeros_cut (trimmed (front_trimmed field))) (decimal esn)

-- the id and the number of a range that holds the address, or 204 where the columns sent do not agree with it
abbrev pub place_in : Range → List ℕ → Result (ℕ × ℕ) ℕ
place_in r field = if esn_agrees field r.esn then Ok (r.id, r.esn) else Err 204

-- what the range that holds an address answers, or the fault where none does
abbrev pub place_by : Option Range → ℕ → List ℕ → Result (ℕ × ℕ) ℕ
place_by None fault field = Err fault
place_by (Some r) fault field = place_in r field

-- the place of a house number of a street, with the columns of the number that were sent
abbrev pub place : List Range → StreetKey → ℕ → List ℕ → Result (ℕ × ℕ) ℕ
place ranges key n field = place_by (holder ranges key n) (nearest_fault ranges key n) field
