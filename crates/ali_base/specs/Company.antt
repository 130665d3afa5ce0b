-- Companies: five bytes.
use Rattle.std.specs.Prelude.{ℕ, ◌==◌, ◌&&◌, ◌||◌, Bool, not, nat_le, List, length, Option}
use Rattle.std.specs.List.{list_all}
use Rattle.ali_base.specs.Steps.{when}
use Rattle.ali_base.specs.Columns.{trimmed, is_blank}

-- a letter A to Z or a digit
abbrev pub is_company_byte : ℕ → Bool
is_company_byte byte = (nat_le 65 byte && nat_le byte 90) || (nat_le 48 byte && nat_le byte 57)

-- five bytes: letters and digits, at least one, and then only spaces
unfoldable pub is_company : List ℕ → Bool
is_company bytes = (length bytes == 5) && not (is_blank bytes) && list_all is_company_byte (trimmed bytes)

-- the company that these bytes are
abbrev pub company_of : List ℕ → Option (List ℕ)
company_of bytes = when (is_company bytes) bytes
