-- House numbers.
use Rattle.std.specs.Prelude.{ℕ, ◌==◌, ◌-◌, ◌++◌, List, length, nat_le, replicate, Option, Some, None, if◌then◌else◌}
use Rattle.std.specs.Fmt.{decimal}
use Rattle.ali_base.specs.Columns.{trimmed, front_trimmed}
use Rattle.ali_base.specs.Digits.{digits_number}
use Rattle.ali_base.specs.declared.house.TheConstants.{HIGHEST_HOUSE}

-- the number, where there is one and it is at most the limit
abbrev pub at_most : ℕ → Option ℕ → Option ℕ
at_most limit None = None
at_most limit (Some n) = if nat_le n limit then Some n else None

-- the number in a field of columns: spaces at either end are cut, nothing left is 0, and otherwise it is digits alone; at most 999,999
unfoldable pub house_number : List ℕ → Option ℕ
house_number field = at_most HIGHEST_HOUSE (digits_number (trimmed (front_trimmed field)))

-- the house number of ten columns
abbrev pub house_of : List ℕ → Option ℕ
house_of bytes = if length bytes == 10 then house_number bytes else None

-- ten columns: the number, then spaces
abbrev pub house_text : ℕ → List ℕ
house_text n = decimal n ++ replicate (10 - length (decimal n)) 32
