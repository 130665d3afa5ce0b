-- Numbers in decimal digits.
use Rattle.std.specs.Prelude.{ℕ, Bool, not, ◌==◌, ◌&&◌, ◌||◌, nat_le, List, length, slice_index, Option}
use Rattle.std.specs.Char.{is_ascii_digit}
use Rattle.std.specs.List.{list_all}
use Rattle.std.specs.Str.Parse.{digits_value}
use Rattle.ali_base.specs.Columns.{is_empty}
use Rattle.ali_base.specs.Steps.{when}

-- digits alone, one or more, the first no 0 unless it is alone
abbrev pub is_number : List ℕ → Bool
is_number text = not (is_empty text) && list_all is_ascii_digit text
    && (not (slice_index text 0 == 48) || length text == 1)

-- the number that the digits write, up to the most
abbrev pub number_up_to : ℕ → List ℕ → Option ℕ
number_up_to most text = when (is_number text && nat_le (digits_value 10 text) most) (digits_value 10 text)
