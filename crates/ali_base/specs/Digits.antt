-- Digits, and the number that they spell.
use Rattle.std.specs.Prelude.{ℕ, List, Option, Some, None, if◌then◌else◌}
use Rattle.std.specs.Str.{all_ascii_digits}
use Rattle.std.specs.Str.Parse.{digits_value}

-- the number that digits spell, leading zeros allowed; no digits spell 0
unfoldable pub digits_number : List ℕ → Option ℕ
digits_number bytes = if all_ascii_digits bytes then Some (digits_value 10 bytes) else None
