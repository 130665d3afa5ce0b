-- Numbers of fixed width.
use Rattle.std.specs.Prelude.{ℕ, ◌-◌, ◌==◌, ◌&&◌, nat_le, List, ◌++◌, length, replicate, Option, None, if◌then◌else◌}
use Rattle.std.specs.Fmt.{decimal}
use Rattle.ali_base.specs.Steps.{◌>>=◌, when}
use Rattle.ali_base.specs.Digits.{digits_number}
use Rattle.ali_base.specs.declared.cycle.TheConstants.{LAST_CYCLE}
use Rattle.ali_base.specs.declared.esn.TheConstants.{HIGHEST_ESN}

-- the decimal number, with zeros before it up to this width
abbrev pub zero_padded : ℕ → ℕ → List ℕ
zero_padded width n = replicate (width - length (decimal n)) 48 ++ decimal n

-- the number that exactly so many digits write, where it lies from low to high
unfoldable pub fixed_number : ℕ → ℕ → ℕ → List ℕ → Option ℕ
fixed_number width low high bytes =
    if length bytes == width
    then (digits_number bytes >>= λ n. when (nat_le low n && nat_le n high) n)
    else None

-- a cycle: six digits, 1 to 999,999
abbrev pub cycle_of : List ℕ → Option ℕ
cycle_of bytes = fixed_number 6 1 LAST_CYCLE bytes

-- an emergency service number: five digits, 1 to 99,999
abbrev pub esn_of : List ℕ → Option ℕ
esn_of bytes = fixed_number 5 1 HIGHEST_ESN bytes
