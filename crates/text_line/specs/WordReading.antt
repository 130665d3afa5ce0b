-- Reading words and numbers.
use Rattle.std.specs.Prelude.{ℕ, ◌+◌, ◌^◌, ◌==◌, ◌&&◌, ◌||◌, Bool, not, nat_le, nat_lt, List, length, take, drop, slice_index, Option, Some, None, if◌then◌else◌}
use Rattle.std.specs.List.{position}
use Rattle.ali_base.specs.Steps.{◌>>=◌, when}
use Rattle.ali_base.specs.Digits.{digits_number}

-- one to ten bytes, the first no 0 unless it is alone
abbrev pub is_short : List ℕ → Bool
is_short bytes = nat_lt 0 (length bytes) && nat_le (length bytes) 10 && (not (slice_index bytes 0 == 48) || (length bytes == 1))

-- a number below 2 ^ 32 without a sign or a needless leading zero
unfoldable pub number_of : List ℕ → Option ℕ
number_of bytes = if is_short bytes then (digits_number bytes >>= λ n. when (nat_lt n (2 ^ 32)) n) else None

-- the bytes before the first of this mark, and those after it
unfoldable pub split_once : ℕ → List ℕ → Option (List ℕ × List ℕ)
split_once mark bytes = do
  at ← position (λ byte. byte == mark) bytes
  Some (take at bytes, drop (at + 1) bytes)
