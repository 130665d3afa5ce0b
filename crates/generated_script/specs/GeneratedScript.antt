-- The generated script: the edits of a hundred streets of one town, and one company's records, whose houses and streets are drawn, in files of a thousand; after each file both nodes are asked for its last number.
use Rattle.std.specs.Prelude.{ℕ, suc, zero, ◌+◌, ◌-◌, ◌*◌, ◌/◌, ◌%◌, ◌^◌, min, List, [], ◌∷◌, ◌++◌, codes}
use Rattle.std.specs.Fmt.{decimal}
use Rattle.std.specs.List.{flat_map}
use Rattle.ali_base.specs.Numbers.{zero_padded}
use Rattle.ali_base.specs.StreetKey.{padded_to, street_key}
use Rattle.ali_base.specs.declared.names.NodeName.TheVariants.{A, B}
use Rattle.ali_base.specs.declared.parity.Parity.TheVariants.{Both}
use Rattle.ali_base.specs.declared.street_key.StreetKey.{StreetKey}
use Rattle.office_commands.specs.Commands.{Command, Ask, Batch, Edit, File}
use Rattle.office_entry.specs.declared.edit.Edit.{Edit as GuideEdit}
use Rattle.office_entry.specs.declared.edit.Edit.TheVariants.{Add}
use Rattle.generated_script.specs.declared.script.TheConstants.{FILE_RECORDS, STREETS}

-- the generator of draws, whose state begins as the seed: one step
abbrev pub next_state : ℕ → ℕ
next_state x = (x * 6_364_136_223_846_793_005 + 1_442_695_040_888_963_407) % 2 ^ 64

-- its state after so many steps
unfoldable pub state_after : (seed steps : ℕ) → ℕ
state_after seed zero = seed
state_after seed (suc n) = next_state (state_after seed n)

-- what a state draws below a bound
abbrev pub drawn : (state bound : ℕ) → ℕ
drawn state bound = (state / 2 ^ 33) % bound

-- record i, counted from 1, has two draws: its house number, and then its street
abbrev pub house_of : (seed i : ℕ) → ℕ
house_of seed i = drawn (state_after seed (2 * i - 1)) 12_000

abbrev pub street_of : (seed i : ℕ) → ℕ
street_of seed i = drawn (state_after seed (2 * i)) 110 + 1

-- the number of record i: 3000000000 + i
abbrev pub number_of : ℕ → List ℕ
number_of i = codes "3" ++ zero_padded 9 i

-- texts, each with spaces behind it up to its width
unfoldable pub in_columns : List (ℕ × List ℕ) → List ℕ
in_columns columns = flat_map (λ column. padded_to column.0 column.1) columns

-- a line of 512 bytes
abbrev pub line_of : List (ℕ × List ℕ) → List ℕ
line_of columns = in_columns columns ++ 10 ∷ []

-- a record: function and number, house, street and suffix, community, state, customer, class and type, main number, date, company, end mark
abbrev pub record_columns : (i house street : ℕ) → List (ℕ × List ℕ)
record_columns i house street =
    (1, codes "I")
    ∷ (10, number_of i)
    ∷ (16, decimal house)
    ∷ (60, codes "STREET " ++ decimal street)
    ∷ (6, codes "ST")
    ∷ (32, codes "TESTTOWN")
    ∷ (62, codes "CO")
    ∷ (32, codes "CUSTOMER " ++ decimal i)
    ∷ (11, codes "10")
    ∷ (20, number_of i)
    ∷ (10, codes "010124")
    ∷ (251, codes "GENCO")
    ∷ (1, codes "*")
    ∷ []

unfoldable pub record_text : (i house street : ℕ) → List ℕ
record_text i house street = line_of (record_columns i house street)

-- record i, at the house and in the street that are drawn for it
abbrev pub record_line : (seed i : ℕ) → List ℕ
record_line seed i = record_text i (house_of seed i) (street_of seed i)

-- the header of file j, with its cycle and the profile
abbrev pub header_columns : ℕ → List (ℕ × List ℕ)
header_columns j = (14, codes "UHL010124GENCO") ∷ (6, zero_padded 6 j) ∷ (491, codes "1") ∷ (1, codes "*") ∷ []

unfoldable pub header_line : ℕ → List ℕ
header_line j = line_of (header_columns j)

-- a trailer with the count of its records
abbrev pub trailer_columns : ℕ → List (ℕ × List ℕ)
trailer_columns n = (14, codes "UTL010124GENCO") ∷ (497, zero_padded 9 n) ∷ (1, codes "*") ∷ []

unfoldable pub trailer_line : ℕ → List ℕ
trailer_line n = line_of (trailer_columns n)

-- so many records after the first ones
unfoldable pub record_lines : (seed before n : ℕ) → List ℕ
record_lines seed before zero = []
record_lines seed before (suc n) = record_lines seed before n ++ record_line seed (before + suc n)

-- how many records the first j files have
abbrev pub records_in : (count j : ℕ) → ℕ
records_in count j = min count (FILE_RECORDS * j)

-- a file: its header, so many records after the first ones, and its trailer
abbrev pub file_of : (seed j before n : ℕ) → List ℕ
file_of seed j before n = header_line j ++ (record_lines seed before n ++ trailer_line n)

-- file j, counted from 1: a thousand records, the last file what is left of them
unfoldable pub file_text : (seed count j : ℕ) → List ℕ
file_text seed count j = let before = records_in count (j - 1) in file_of seed j before (records_in count j - before)

-- the key of street s
abbrev pub key_of_street : ℕ → StreetKey
key_of_street s = street_key (codes "TESTTOWN") (codes "CO") [] (codes "STREET " ++ decimal s) (codes "ST") []

-- its edit: all its houses, with the number of the street as the ESN
abbrev pub street_edit : ℕ → GuideEdit
street_edit s = Add (key_of_street s) 0 9_999 Both s

-- the commands of street s, which editor 1 edits with serial s
abbrev pub street_commands : ℕ → List Command
street_commands s = Edit 1 s (street_edit s) ∷ Batch ∷ []

-- the commands of file j: it is read and booked, and position 1 at node a and position 2 at node b ask for its last number
abbrev pub file_commands : (seed count j : ℕ) → List Command
file_commands seed count j =
    let last = number_of (records_in count j) in
    File (file_text seed count j) ∷ Batch ∷ Ask A 1 last 0 ∷ Ask B 2 last 0 ∷ []

-- the commands of the first streets, and of the first files
unfoldable pub streets : ℕ → List Command
streets zero = []
streets (suc s) = streets s ++ street_commands (suc s)

unfoldable pub files : (seed count n : ℕ) → List Command
files seed count zero = []
files seed count (suc j) = files seed count j ++ file_commands seed count (suc j)

-- how many files so many records make
abbrev pub files_for : ℕ → ℕ
files_for count = (count + FILE_RECORDS - 1) / FILE_RECORDS

-- the whole script for a seed and a count of records
abbrev pub generated : (seed count : ℕ) → List Command
generated seed count = streets STREETS ++ files seed count (files_for count)
