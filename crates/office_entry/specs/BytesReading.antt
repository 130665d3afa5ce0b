-- Reading the bytes of an edit from their front.
use Rattle.std.specs.Prelude.{ℕ, ◌==◌, List, [], ◌∷◌, Option, Some, None, if◌then◌else◌}
use Rattle.std.specs.Int.{w32, cast_signed}
use Rattle.ali_base.specs.Steps.{◌>>=◌, when}
use Rattle.ali_base.specs.Columns.{is_empty}
use Rattle.ali_base.specs.Fronts.{front, number_at}
use Rattle.ali_base.specs.Parity.{parity_of}
use Rattle.ali_base.specs.declared.street_key.StreetKey.{StreetKey}
use Rattle.office_entry.specs.declared.edit.Edit.{Edit}
use Rattle.office_entry.specs.declared.edit.Edit.TheVariants.{Add, Retire, Split, Renumber, SetEsn}
use Rattle.office_entry.specs.Differences.{small_difference}
use Rattle.office_entry.specs.EditKeys.{edit_key}
use Rattle.office_entry.specs.Edits.{small_number}

-- the six fields of a key, and what is left after them
unfoldable pub key_at : List ℕ → Option (StreetKey × List ℕ)
key_at bytes = do
  community ← front 32 bytes
  state ← front 2 community.1
  prefix ← front 2 state.1
  name ← front 60 prefix.1
  suffix ← front 4 name.1
  post ← front 2 suffix.1
  Some (record { community = community.0; state = state.0; prefix = prefix.0; name = name.0; suffix = suffix.0; post = post.0 }, post.1)

-- the fields of an ADD, in their ranges; here and below nothing may be left after them
unfoldable pub add_from : List ℕ → Option Edit
add_from bytes = do
  street ← key_at bytes
  low ← number_at street.1
  high ← number_at low.1
  parity ← front 1 high.1
  esn ← number_at parity.1
  key ← edit_key street.0
  l ← small_number low.0
  h ← small_number high.0
  p ← parity_of parity.0
  e ← small_number esn.0
  when (is_empty esn.1) (Add key l h p e)

-- the fields of a RETIRE
unfoldable pub retire_from : List ℕ → Option Edit
retire_from bytes = do
  id ← number_at bytes
  when (is_empty id.1) (Retire id.0)

-- the fields of a SPLIT
unfoldable pub split_from : List ℕ → Option Edit
split_from bytes = do
  id ← number_at bytes
  at ← number_at id.1
  esn ← number_at at.1
  a ← small_number at.0
  e ← small_number esn.0
  when (is_empty esn.1) (Split id.0 a e)

-- the fields of a RENUMBER
unfoldable pub renumber_from : List ℕ → Option Edit
renumber_from bytes = do
  id ← number_at bytes
  by ← number_at id.1
  d ← small_difference (cast_signed w32 by.0)
  when (is_empty by.1) (Renumber id.0 d)

-- the fields of a SETESN
unfoldable pub set_esn_from : List ℕ → Option Edit
set_esn_from bytes = do
  id ← number_at bytes
  esn ← number_at id.1
  e ← small_number esn.0
  when (is_empty esn.1) (SetEsn id.0 e)

-- the edit that these bytes are
unfoldable pub edit_from : List ℕ → Option Edit
edit_from [] = None
edit_from (letter ∷ fields) =
    if letter == 65 then add_from fields else
    (if letter == 82 then retire_from fields else
    (if letter == 83 then split_from fields else
    (if letter == 78 then renumber_from fields else
    (if letter == 87 then set_esn_from fields else None))))
