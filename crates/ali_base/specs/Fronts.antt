-- Reading bytes from their front: fields of a fixed width, and numbers of four bytes.
use Rattle.std.specs.Prelude.{ℕ, ◌-◌, ◌^◌, ◌<◌, ◌==◌, Bool, nat_lt, List, ◌++◌, take, drop, length, replicate, Option, Some, None, if◌then◌else◌}
use Rattle.std.specs.Int.{w32, to_be_bytes, from_be_bytes}
use Rattle.std.specs.List.{All, list_all}
use Rattle.ali_base.specs.Steps.{◌>>=◌}

-- each is below 256
abbrev pub AreBytes : List ℕ → Type 0
AreBytes bytes = All (λ byte. byte < 2 ^ 8) bytes

-- the first bytes, so many, and what is left after them
unfoldable pub front : ℕ → List ℕ → Option (List ℕ × List ℕ)
front width bytes = if nat_lt (length bytes) width then None else Some (take width bytes, drop width bytes)

-- four bytes, the highest first
abbrev pub number_bytes : ℕ → List ℕ
number_bytes n = to_be_bytes w32 n

-- the bytes, and zeros after them up to this width
abbrev pub zero_filled : ℕ → List ℕ → List ℕ
zero_filled width bytes = bytes ++ replicate (width - length bytes) 0

-- nothing but zeros
abbrev pub are_zeros : List ℕ → Bool
are_zeros bytes = list_all (λ byte. byte == 0) bytes

-- a number of four bytes, and what is left after it
unfoldable pub number_at : List ℕ → Option (ℕ × List ℕ)
number_at bytes = do
  number ← front 4 bytes
  Some (from_be_bytes w32 number.0, number.1)
