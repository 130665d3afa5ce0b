-- Reports that list rows of the table, in the order of their numbers.
use Rattle.std.specs.Prelude.{◌≡◌, ℕ, Bool, List, [], ◌∷◌, ◌++◌, codes, map, filter, filter_map, Option, option_map, unwrap_or}
use Rattle.std.specs.Option.{option_map_or}
use Rattle.std.specs.Fmt.{decimal, signed_decimal}
use Rattle.std.specs.FinMap.{values}
use Rattle.std.specs.Str.{bytes_eq}
use Rattle.ali_base.specs.CivilDay.{CivilDay, days_between}
use Rattle.ali_base.specs.Numbers.{zero_padded}
use Rattle.ali_record.specs.Layout.{field_of}
use Rattle.ali_record.specs.declared.field.Field.TheVariants.{TelephoneNumber, PrefixDirectional, StreetName, StreetSuffix, PostDirectional, Community, State, Esn, Company}
use Rattle.msag_ranges.specs.StreetGuide.{range_of}
use Rattle.msag_ranges.specs.declared.range.Range.{Range}
use Rattle.number_life.specs.NumberLife.{owner}
use Rattle.number_life.specs.declared.row.Row.{Row}
use Rattle.number_table.specs.HeldRows.{holds_row, record_house}
use Rattle.office_state.specs.OfficeState as office
use Rattle.retrieval.specs.AnswerForm.{printed, lock_word}
use Rattle.text_line.specs.WordLines.{with_words}
use Rattle.audit_reports.specs.CsvLines.{csv_text}
use Rattle.audit_reports.specs.declared.listed.Listed.{Listed}
use Rattle.audit_reports.specs.declared.listed.Listed.TheVariants as listed

-- the columns of a listing
abbrev pub row_names : List (List ℕ)
row_names = codes "tn" ∷ codes "company" ∷ codes "state" ∷ codes "esn" ∷ codes "house" ∷ codes "street" ∷ codes "community" ∷ []

abbrev pub unlocked_names : List (List ℕ)
unlocked_names = row_names ++ codes "days" ∷ []

-- the house number of a row; blank columns count as 0
abbrev pub row_house : Row → ℕ
row_house row = unwrap_or (record_house row.rec) 0

-- prefix, name, suffix and post of the street, joined by a space; what is empty is left out
abbrev pub street_text : List ℕ → List ℕ
street_text b = with_words [] (printed b PrefixDirectional ∷ printed b StreetName ∷ printed b StreetSuffix ∷ printed b PostDirectional ∷ [])

-- community and state, joined by a space
abbrev pub community_text : List ℕ → List ℕ
community_text b = with_words [] (printed b Community ∷ printed b State ∷ [])

-- the fields of a row
abbrev pub row_fields : Row → List (List ℕ)
row_fields row =
    printed row.rec TelephoneNumber ∷ printed row.rec Company ∷ lock_word row.unlocked ∷ printed row.rec Esn
    ∷ decimal (row_house row) ∷ street_text row.rec ∷ community_text row.rec ∷ []

-- of an unlocked row also the days from the day of unlocking to this one, negative where this one lies before it
abbrev pub unlocked_fields : CivilDay → Row → Option (List (List ℕ))
unlocked_fields day row = option_map (λ from. row_fields row ++ signed_decimal (days_between from day) ∷ []) row.unlocked

-- which rows are listed: those of a company, those with an emergency service number, or those that a range of the street guide holds
abbrev pub is_listed : Listed → Row → Bool
is_listed (listed.Company company) row = bytes_eq (owner row) company
is_listed (listed.Esn esn) row = bytes_eq (field_of row.rec Esn) (zero_padded 5 esn)
is_listed (listed.InRange range) row = holds_row range row

-- the rows of a state, in the order of their numbers
abbrev pub rows_of : office.State → List Row
rows_of s = values s.table

-- the rows that are listed
abbrev pub listed_rows : Listed → office.State → List Row
listed_rows which s = filter (is_listed which) (rows_of s)

-- their listing
abbrev pub listing : List Row → List ℕ
listing rows = csv_text row_names (map row_fields rows)

-- the rows of the range with this id; none where no range has it
abbrev pub rows_in_range : ℕ → office.State → List Row
rows_in_range id s = option_map_or (λ range. listed_rows (listed.InRange range) s) (range_of s.guide.ranges id) []

-- the unlocked rows
abbrev pub unlocked_listing : CivilDay → office.State → List ℕ
unlocked_listing day s = csv_text unlocked_names (filter_map (unlocked_fields day) (rows_of s))
