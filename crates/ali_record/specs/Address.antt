-- The address in a record, and the emergency service number (ESN) sent with it.
use Rattle.std.specs.Prelude.{ℕ, List, Option, None, if◌then◌else◌}
use Rattle.ali_base.specs.Columns.{trimmed, front_trimmed, is_blank}
use Rattle.ali_base.specs.Digits.{digits_number}
use Rattle.ali_base.specs.StreetKey.{street_key}
use Rattle.ali_base.specs.declared.street_key.StreetKey.{StreetKey}
use Rattle.ali_record.specs.Layout.{field_of}
use Rattle.ali_record.specs.declared.field.Field.TheVariants.{PrefixDirectional, StreetName, StreetSuffix, PostDirectional, Community, State}

-- the street key of a record
abbrev pub record_key : List ℕ → StreetKey
record_key b =
    street_key (field_of b Community) (field_of b State) (field_of b PrefixDirectional) (field_of b StreetName) (field_of b StreetSuffix) (field_of b PostDirectional)

-- the number that the columns of an ESN write: none where they are blank; otherwise spaces at either end are cut, and what is left is digits alone
abbrev pub esn_number : List ℕ → Option ℕ
esn_number field = if is_blank field then None else digits_number (trimmed (front_trimmed field))
