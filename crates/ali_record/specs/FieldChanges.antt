-- Records with another text in one field.
use Rattle.std.specs.Prelude.{ℕ, ◌-◌, List, ◌++◌, take, drop}
use Rattle.ali_base.specs.HouseNumber.{house_text}
use Rattle.ali_base.specs.Numbers.{zero_padded}
use Rattle.ali_record.specs.Layout.{field_columns}
use Rattle.ali_record.specs.declared.field.Field.{Field}
use Rattle.ali_record.specs.declared.field.Field.TheVariants.{HouseNumber, Esn}

-- the record with this text in the columns of a field, and all else as it was
abbrev pub with_field : List ℕ → Field → List ℕ → List ℕ
with_field bytes field text = take ((field_columns field).0 - 1) bytes ++ text ++ drop (field_columns field).1 bytes

-- with this house number: the decimal number at the left, then spaces
abbrev pub with_house : List ℕ → ℕ → List ℕ
with_house bytes house = with_field bytes HouseNumber (house_text house)

-- with this emergency service number: five digits
abbrev pub with_esn : List ℕ → ℕ → List ℕ
with_esn bytes esn = with_field bytes Esn (zero_padded 5 esn)
