-- Reading the text of an edit from its front.
use Rattle.std.specs.Prelude.{ℕ, ◌==◌, nat_le, ℤ, pos, List, [], ◌∷◌, length, codes, Option, Some, None, if◌then◌else◌}
use Rattle.std.specs.Str.{bytes_eq}
use Rattle.ali_base.specs.Steps.{◌>>=◌, when}
use Rattle.ali_base.specs.Parity.{parity_of}
use Rattle.ali_base.specs.StreetKey.{street_key}
use Rattle.ali_base.specs.declared.street_key.StreetKey.{StreetKey}
use Rattle.text_line.specs.WordReading.{number_of, split_once}
use Rattle.office_entry.specs.declared.edit.Edit.{Edit}
use Rattle.office_entry.specs.declared.edit.Edit.TheVariants.{Add, Retire, Split, Renumber, SetEsn}
use Rattle.office_entry.specs.Differences.{negative}
use Rattle.office_entry.specs.EditKeys.{edit_key}
use Rattle.office_entry.specs.Edits.{small_number}

-- a number of at most 999,999
unfoldable pub small_of : List ℕ → Option ℕ
small_of bytes = number_of bytes >>= small_number

-- `+` or `-` and a number of at most 999,999; zero is `+0` alone
unfoldable pub difference_of : List ℕ → Option ℤ
difference_of [] = None
difference_of (sign ∷ digits) = small_of digits >>= λ n. if sign == 43 then Some (pos n) else (if sign == 45 then negative n else None)

-- the bytes before the first `|`, at most so many, and those after it
unfoldable pub field_at : ℕ → List ℕ → Option (List ℕ × List ℕ)
field_at width bytes = do
  field ← split_once 124 bytes
  when (nat_le (length field.0) width) field

-- the key that six texts name, and what is left after the `|` behind them
unfoldable pub street_at : List ℕ → Option (StreetKey × List ℕ)
street_at bytes = do
  community ← field_at 32 bytes
  state ← field_at 2 community.1
  prefix ← field_at 2 state.1
  name ← field_at 60 prefix.1
  suffix ← field_at 4 name.1
  post ← field_at 2 suffix.1
  Some (street_key community.0 state.0 prefix.0 name.0 suffix.0 post.0, post.1)

-- what follows `ADD`
unfoldable pub add_of : List ℕ → Option Edit
add_of bytes = do
  street ← street_at bytes
  low ← split_once 124 street.1
  high ← split_once 124 low.1
  parity ← split_once 124 high.1
  key ← edit_key street.0
  l ← small_of low.0
  h ← small_of high.0
  p ← parity_of parity.0
  esn ← small_of parity.1
  Some (Add key l h p esn)

-- what follows `RETIRE`
unfoldable pub retire_of : List ℕ → Option Edit
retire_of bytes = do
  id ← number_of bytes
  Some (Retire id)

-- what follows `SPLIT`
unfoldable pub split_of : List ℕ → Option Edit
split_of bytes = do
  id ← split_once 32 bytes
  at ← split_once 32 id.1
  i ← number_of id.0
  a ← small_of at.0
  esn ← small_of at.1
  Some (Split i a esn)

-- what follows `RENUMBER`
unfoldable pub renumber_of : List ℕ → Option Edit
renumber_of bytes = do
  id ← split_once 32 bytes
  i ← number_of id.0
  by ← difference_of id.1
  Some (Renumber i by)

-- what follows `SETESN`
unfoldable pub set_esn_of : List ℕ → Option Edit
set_esn_of bytes = do
  id ← split_once 32 bytes
  i ← number_of id.0
  esn ← small_of id.1
  Some (SetEsn i esn)

-- what follows the first word
abbrev pub by_word : List ℕ → List ℕ → Option Edit
by_word word rest =
    if bytes_eq word (codes "ADD") then add_of rest else
    (if bytes_eq word (codes "RETIRE") then retire_of rest else
    (if bytes_eq word (codes "SPLIT") then split_of rest else
    (if bytes_eq word (codes "RENUMBER") then renumber_of rest else
    (if bytes_eq word (codes "SETESN") then set_esn_of rest else None))))

-- the edit of a text
unfoldable pub edit_of_text : List ℕ → Option Edit
edit_of_text bytes = do
  word ← split_once 32 bytes
  by_word word.0 word.1
