-- Where the street guide places the address of a record.
use Rattle.std.specs.Prelude.{ℕ, List, Option, Result}
use Rattle.std.specs.Option.{option_map}
use Rattle.ali_base.specs.HouseNumber.{house_of}
use Rattle.address_check.specs.Placement.{place}
use Rattle.msag_ranges.specs.declared.range.Range.{Range}
use Rattle.ali_record.specs.Address.{record_key}
use Rattle.ali_record.specs.Layout.{field_of}
use Rattle.ali_record.specs.declared.field.Field.TheVariants.{HouseNumber, Esn}

-- the place of a record's address: the id and the ESN of the range that holds it, or a code; none where the house number cannot be read
abbrev pub place_of_record : List Range → List ℕ → Option (Result (ℕ × ℕ) ℕ)
place_of_record ranges b = option_map (λ n. place ranges (record_key b) n (field_of b Esn)) (house_of (field_of b HouseNumber))
