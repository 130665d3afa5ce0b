-- Street keys: the six fields that name a street.
use Rattle.std.specs.Prelude.{ℕ, ◌-◌, ◌&&◌, Bool, nat_le, List, ◌++◌, map, length, replicate, if◌then◌else◌}
use Rattle.std.specs.Str.{bytes_eq}
use Rattle.ali_base.specs.Columns.{trimmed}
use Rattle.ali_base.specs.declared.street_key.StreetKey.{StreetKey}

-- a-z as A-Z
abbrev pub upper : ℕ → ℕ
upper byte = if nat_le 97 byte && nat_le byte 122 then byte - 32 else byte

-- a text with spaces after it up to this width
abbrev pub padded_to : ℕ → List ℕ → List ℕ
padded_to width text = text ++ replicate (width - length text) 32

-- a field of a key: trailing spaces are cut, a-z are read as A-Z, and it is padded with spaces again
abbrev pub key_field : ℕ → List ℕ → List ℕ
key_field width text = padded_to width (map upper (trimmed text))

-- the key that six texts name
abbrev pub street_key : List ℕ → List ℕ → List ℕ → List ℕ → List ℕ → List ℕ → StreetKey
street_key community state prefix name suffix post = record {
  community = key_field 32 community;
  state = key_field 2 state;
  prefix = key_field 2 prefix;
  name = key_field 60 name;
  suffix = key_field 4 suffix;
  post = key_field 2 post;
}

-- all six fields are the same
abbrev pub same_key : StreetKey → StreetKey → Bool
same_key a b =
    bytes_eq a.community b.community
    && bytes_eq a.state b.state
    && bytes_eq a.prefix b.prefix
    && bytes_eq a.name b.name
    && bytes_eq a.suffix b.suffix
    && bytes_eq a.post b.post
