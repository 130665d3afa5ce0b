-- The bytes of an edit.
use Rattle.std.specs.Prelude.{ℕ, ℤ, List, ◌∷◌, ◌++◌}
use Rattle.std.specs.Int.{w32, cast_unsigned}
use Rattle.sha2.specs.Sha256.{sha256}
use Rattle.ali_base.specs.Fronts.{number_bytes}
use Rattle.ali_base.specs.Parity.{parity_text}
use Rattle.ali_base.specs.declared.street_key.StreetKey.{StreetKey}
use Rattle.office_entry.specs.declared.edit.Edit.{Edit}
use Rattle.office_entry.specs.declared.edit.Edit.TheVariants.{Add, Retire, Split, Renumber, SetEsn}

-- a signed number as the four bytes of its two's complement
abbrev pub difference_bytes : ℤ → List ℕ
difference_bytes d = number_bytes (cast_unsigned w32 d)

-- the six fields, one after the other
abbrev pub key_bytes : StreetKey → List ℕ
key_bytes key = key.community ++ key.state ++ key.prefix ++ key.name ++ key.suffix ++ key.post

-- a letter for what it does, A, R, S, N or W, and its fields
abbrev pub edit_bytes : Edit → List ℕ
edit_bytes (Add key low high parity esn) = 65 ∷ key_bytes key ++ number_bytes low ++ number_bytes high ++ parity_text parity ++ number_bytes esn
edit_bytes (Retire id) = 82 ∷ number_bytes id
edit_bytes (Split id at esn) = 83 ∷ number_bytes id ++ number_bytes at ++ number_bytes esn
edit_bytes (Renumber id by) = 78 ∷ number_bytes id ++ difference_bytes by
edit_bytes (SetEsn id esn) = 87 ∷ number_bytes id ++ number_bytes esn

-- the digest of an edit: the SHA-256 of its bytes
abbrev pub edit_digest : Edit → List ℕ
edit_digest edit = sha256 (edit_bytes edit)
