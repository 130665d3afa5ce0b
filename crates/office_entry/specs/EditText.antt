-- The text of an edit.
use Rattle.std.specs.Prelude.{◌≡◌, ℕ, ◌+◌, ◌==◌, ◌≤◌, ◌&&◌, Bool, true, not, ℤ, pos, negsuc, List, ◌∷◌, ◌++◌, length, codes}
use Rattle.std.specs.Fmt.{decimal}
use Rattle.std.specs.List.{list_all}
use Rattle.ali_base.specs.Columns.{is_printable}
use Rattle.ali_base.specs.Parity.{parity_text}
use Rattle.ali_base.specs.StreetKey.{street_key}
use Rattle.ali_base.specs.declared.parity.Parity.{Parity}
use Rattle.ali_base.specs.declared.street_key.StreetKey.{StreetKey}
use Rattle.office_entry.specs.declared.edit.Edit.{Edit}
use Rattle.office_entry.specs.declared.edit.Edit.TheVariants.{Add, Retire, Split, Renumber, SetEsn}
use Rattle.office_entry.specs.Edits.{IsEdit}

-- from the space to the tilde, other than `|`
abbrev pub is_sent_byte : ℕ → Bool
is_sent_byte byte = is_printable byte && not (byte == 124)

-- a text for a field of a street: as written it has at most the field's width
pub record IsSentText (width : ℕ) (text : List ℕ) : Type 0 where
  pub fits : length text ≤ width
  pub bytes : list_all is_sent_byte text ≡ true

-- the six texts of a street as written
pub record StreetTexts : Type 0 where
  pub community : List ℕ
  pub state : List ℕ
  pub prefix : List ℕ
  pub name : List ℕ
  pub suffix : List ℕ
  pub post : List ℕ

-- each is a text for its field
pub record AreStreetTexts (texts : StreetTexts) : Type 0 where
  pub community : IsSentText 32 texts.community
  pub state : IsSentText 2 texts.state
  pub prefix : IsSentText 2 texts.prefix
  pub name : IsSentText 60 texts.name
  pub suffix : IsSentText 4 texts.suffix
  pub post : IsSentText 2 texts.post

-- the key that they name: in each, trailing spaces are cut, a-z are read as A-Z, and it is padded
abbrev pub key_of : StreetTexts → StreetKey
key_of texts = street_key texts.community texts.state texts.prefix texts.name texts.suffix texts.post

-- `community|state|prefix|name|suffix|post`, and what follows behind another `|`
abbrev pub street_text : StreetTexts → List ℕ → List ℕ
street_text texts rest =
    texts.community ++ 124 ∷ (texts.state ++ 124 ∷ (texts.prefix ++ 124 ∷ (texts.name ++ 124 ∷ (texts.suffix ++ 124 ∷ (texts.post ++ 124 ∷ rest)))))

-- a sign and the number; zero is `+0`
abbrev pub difference_text : ℤ → List ℕ
difference_text (pos n) = codes "+" ++ decimal n
difference_text (negsuc n) = codes "-" ++ decimal (n + 1)

-- `ADD community|state|prefix|name|suffix|post|low|high|parity|esn`
abbrev pub add_text : StreetTexts → ℕ → ℕ → Parity → ℕ → List ℕ
add_text texts low high parity esn =
    codes "ADD" ++ 32 ∷ street_text texts (decimal low ++ 124 ∷ (decimal high ++ 124 ∷ (parity_text parity ++ 124 ∷ decimal esn)))

-- six texts name the key, and the bytes are these texts and the numbers
pub record IsAddText (bytes : List ℕ) (key : StreetKey) (low high : ℕ) (parity : Parity) (esn : ℕ) : Type 0 where
  pub texts : StreetTexts
  pub lawful : AreStreetTexts texts
  pub named : key ≡ key_of texts
  pub spelled : bytes ≡ add_text texts low high parity esn

-- the bytes spell the edit: `RETIRE id`, `SPLIT id at esn`, `RENUMBER id d`, `SETESN id esn`; numbers are decimal without a sign or a needless leading zero
abbrev pub Spells : List ℕ → Edit → Type 0
Spells bytes (Add key low high parity esn) = IsAddText bytes key low high parity esn
Spells bytes (Retire id) = bytes ≡ codes "RETIRE" ++ 32 ∷ decimal id
Spells bytes (Split id at esn) = bytes ≡ codes "SPLIT" ++ 32 ∷ (decimal id ++ 32 ∷ (decimal at ++ 32 ∷ decimal esn))
Spells bytes (Renumber id by) = bytes ≡ codes "RENUMBER" ++ 32 ∷ (decimal id ++ 32 ∷ difference_text by)
Spells bytes (SetEsn id esn) = bytes ≡ codes "SETESN" ++ 32 ∷ (decimal id ++ 32 ∷ decimal esn)

-- the bytes are the text of this edit
pub record IsEditText (bytes : List ℕ) (edit : Edit) : Type 0 where
  pub lawful : IsEdit edit
  pub spelled : Spells bytes edit
