-- The form that answers a request: lines of words.
use Rattle.std.specs.Prelude.{ℕ, List, [], ◌∷◌, ◌++◌, Option, Some, None, codes, if◌then◌else◌, unwrap_or}
use Rattle.std.specs.Fmt.{decimal}
use Rattle.ali_base.specs.CivilDay.{CivilDay}
use Rattle.ali_base.specs.Columns.{trimmed, is_blank}
use Rattle.ali_base.specs.HouseNumber.{house_of}
use Rattle.ali_record.specs.Layout.{field_of}
use Rattle.ali_record.specs.declared.field.Field.{Field}
use Rattle.ali_record.specs.declared.field.Field.TheVariants.{TelephoneNumber, HouseNumber, HouseSuffix, PrefixDirectional, StreetName, StreetSuffix, PostDirectional, Community, State, Location, CustomerName, ClassOfService, TypeOfService, Esn, Company}
use Rattle.number_life.specs.declared.row.Row.{Row}
use Rattle.text_line.specs.WordLines.{line_of}

-- a field as it is printed: without the spaces at its end
abbrev pub printed : List ℕ → Field → List ℕ
printed bytes field = trimmed (field_of bytes field)

-- the house number as it is printed: a decimal number, left out where its columns are blank
abbrev pub printed_house : List ℕ → List ℕ
printed_house bytes =
    if is_blank (field_of bytes HouseNumber)
    then []
    else decimal (unwrap_or (house_of (field_of bytes HouseNumber)) 0)

abbrev pub number_line : List ℕ → List ℕ
number_line b = line_of (codes "TN" ∷ printed b TelephoneNumber ∷ codes "CLASS" ∷ printed b ClassOfService ∷ codes "TYPE" ∷ printed b TypeOfService ∷ [])

abbrev pub name_line : List ℕ → List ℕ
name_line b = line_of (codes "NAME" ∷ printed b CustomerName ∷ [])

abbrev pub address_line : List ℕ → List ℕ
address_line b = line_of (codes "ADDR" ∷ printed_house b ∷ printed b HouseSuffix ∷ printed b PrefixDirectional ∷ printed b StreetName ∷ printed b StreetSuffix ∷ printed b PostDirectional ∷ [])

abbrev pub city_line : List ℕ → List ℕ
city_line b = line_of (codes "CITY" ∷ printed b Community ∷ printed b State ∷ [])

abbrev pub location_line : List ℕ → List ℕ
location_line b = line_of (codes "LOC" ∷ printed b Location ∷ [])

-- a row is locked until it has a day of unlocking
abbrev pub lock_word : Option CivilDay → List ℕ
lock_word None = codes "LOCKED"
lock_word (Some day) = codes "UNLOCKED"

abbrev pub company_line : Row → List ℕ
company_line row = line_of (codes "ESN" ∷ printed row.rec Esn ∷ codes "CO" ∷ printed row.rec Company ∷ lock_word row.unlocked ∷ [])

-- the form of a row: six lines
unfoldable pub row_form : Row → List ℕ
row_form row = number_line row.rec ++ name_line row.rec ++ address_line row.rec ++ city_line row.rec ++ location_line row.rec ++ company_line row

-- the form of a number that has no row
abbrev pub missing_line : List ℕ → List ℕ
missing_line tn = line_of (codes "TN" ∷ tn ∷ codes "NO" ∷ codes "RECORD" ∷ codes "FOUND" ∷ [])

-- the form of a number, where it has this row or none
unfoldable pub form : Option Row → List ℕ → List ℕ
form None tn = missing_line tn
form (Some row) tn = row_form row
