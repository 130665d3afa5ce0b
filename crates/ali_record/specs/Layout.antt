-- The layout of a record of 512 bytes: the columns of each field, counted from 1.
use Rattle.std.specs.Prelude.{ℕ, List, slice_index, ◌-◌}
use Rattle.ali_base.specs.Columns.{columns}
use Rattle.ali_record.specs.declared.field.Field.{Field}
use Rattle.ali_record.specs.declared.field.Field.TheVariants.{Function, TelephoneNumber, HouseNumber, HouseSuffix, PrefixDirectional, StreetName, StreetSuffix, PostDirectional, Community, State, Location, CustomerName, ClassOfService, TypeOfService, Exchange, Esn, MainNumber, OrderNumber, ExtractDate, County, Company, Source, PostalCode, Reserve, EndMark}

-- the first and the last column
abbrev pub field_columns : Field → ℕ × ℕ
field_columns Function = (1, 1)
field_columns TelephoneNumber = (2, 11)
field_columns HouseNumber = (12, 21)
field_columns HouseSuffix = (22, 25)
field_columns PrefixDirectional = (26, 27)
field_columns StreetName = (28, 87)
field_columns StreetSuffix = (88, 91)
field_columns PostDirectional = (92, 93)
field_columns Community = (94, 125)
field_columns State = (126, 127)
field_columns Location = (128, 187)
field_columns CustomerName = (188, 219)
field_columns ClassOfService = (220, 220)
field_columns TypeOfService = (221, 221)
field_columns Exchange = (222, 225)
field_columns Esn = (226, 230)
field_columns MainNumber = (231, 240)
field_columns OrderNumber = (241, 250)
field_columns ExtractDate = (251, 256)
field_columns County = (257, 260)
field_columns Company = (261, 265)
field_columns Source = (266, 266)
field_columns PostalCode = (267, 275)
field_columns Reserve = (276, 511)
field_columns EndMark = (512, 512)

-- the bytes of a field
abbrev pub field_of : List ℕ → Field → List ℕ
field_of record_bytes field = columns record_bytes (field_columns field).0 (field_columns field).1

-- the byte of a field of one column
abbrev pub byte_of : List ℕ → Field → ℕ
byte_of record_bytes field = slice_index record_bytes ((field_columns field).0 - 1)
