-- Telephone numbers.
use Rattle.std.specs.Prelude.{◌≡◌, ℕ, ◌≤◌, ◌==◌, ◌&&◌, List, length, All, Option, Some, None, if◌then◌else◌}
use Rattle.std.specs.List.{list_all}
use Rattle.std.specs.Char.{is_ascii_digit}

abbrev pub IsDigit : ℕ → Type 0
IsDigit byte = (48 ≤ byte) × (byte ≤ 57)

-- ten digits
abbrev pub IsTn : List ℕ → Type 0
IsTn bytes = (length bytes ≡ 10) × All IsDigit bytes

-- the telephone number that these bytes are
unfoldable pub tn_of : List ℕ → Option (List ℕ)
tn_of bytes = if (length bytes == 10) && list_all is_ascii_digit bytes then Some bytes else None
