-- The streets of edits.
use Rattle.std.specs.Prelude.{◌≡◌, ℕ, ◌==◌, ◌&&◌, Bool, true, not, nat_le, length, Option}
use Rattle.std.specs.List.{list_all}
use Rattle.ali_base.specs.Steps.{when}
use Rattle.ali_base.specs.Columns.{is_printable}
use Rattle.ali_base.specs.declared.street_key.StreetKey.{StreetKey}

-- a byte of a street in an edit: from the space to the tilde, and neither `|` nor a-z
abbrev pub is_street_byte : ℕ → Bool
is_street_byte byte = is_printable byte && not (byte == 124) && not (nat_le 97 byte && nat_le byte 122)

-- an edit may have the key: each byte of its six fields is a street byte
abbrev pub is_edit_key : StreetKey → Bool
is_edit_key key =
    list_all is_street_byte key.community
    && list_all is_street_byte key.state
    && list_all is_street_byte key.prefix
    && list_all is_street_byte key.name
    && list_all is_street_byte key.suffix
    && list_all is_street_byte key.post

-- the key, where an edit may have it
abbrev pub edit_key : StreetKey → Option StreetKey
edit_key key = when (is_edit_key key) key

-- a key that an edit may have, each field of its width
pub record IsEditKey (key : StreetKey) : Type 0 where
  pub bytes : is_edit_key key ≡ true
  pub community : length key.community ≡ 32
  pub state : length key.state ≡ 2
  pub prefix : length key.prefix ≡ 2
  pub name : length key.name ≡ 60
  pub suffix : length key.suffix ≡ 4
  pub post : length key.post ≡ 2
