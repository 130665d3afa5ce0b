-- Differences of house numbers.
use Rattle.std.specs.Prelude.{ℕ, zero, suc, ◌+◌, Bool, nat_le, ℤ, pos, negsuc, Option, Some, None}
use Rattle.ali_base.specs.Steps.{when}
use Rattle.office_entry.specs.declared.edit.TheConstants.{HIGHEST_SENT}

-- how far a difference is from 0
abbrev pub magnitude : ℤ → ℕ
magnitude (pos n) = n
magnitude (negsuc n) = n + 1

-- from -999,999 to 999,999
abbrev pub is_small_difference : ℤ → Bool
is_small_difference d = nat_le (magnitude d) HIGHEST_SENT

-- the difference, where it is small
abbrev pub small_difference : ℤ → Option ℤ
small_difference d = when (is_small_difference d) d

-- the number n below 0; there is none for 0, which has one text
abbrev pub negative : ℕ → Option ℤ
negative zero = None
negative (suc n) = Some (negsuc n)
