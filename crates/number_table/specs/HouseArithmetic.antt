-- House numbers with a difference added.
use Rattle.std.specs.Prelude.{ℕ, ◌+◌, ◌-◌, Bool, nat_le, ℤ, pos, negsuc}
use Rattle.ali_base.specs.declared.house.TheConstants.{HIGHEST_HOUSE}

-- the number with the difference added; 0 where that is below 0
abbrev pub added : ℕ → ℤ → ℕ
added n (pos d) = n + d
added n (negsuc d) = n - (d + 1)

-- with the difference added, a number up to 999,999 is from 0 to 999,999
abbrev pub stays_house : ℕ → ℤ → Bool
stays_house n (pos d) = nat_le (n + d) HIGHEST_HOUSE
stays_house n (negsuc d) = nat_le (d + 1) n
