-- Differences that keep the parity of house numbers.
use Rattle.std.specs.Prelude.{◌+◌, ◌%◌, ◌==◌, Bool, true, false, ℤ, pos, negsuc}
use Rattle.ali_base.specs.declared.parity.Parity.{Parity}
use Rattle.ali_base.specs.declared.parity.Parity.TheVariants.{Odd, Even, Both}

-- the difference is odd
abbrev pub is_odd : ℤ → Bool
is_odd (pos d) = d % 2 == 1
is_odd (negsuc d) = (d + 1) % 2 == 1

-- every number of the range has the same parity
abbrev pub is_one_parity : Parity → Bool
is_one_parity Odd = true
is_one_parity Even = true
is_one_parity Both = false
