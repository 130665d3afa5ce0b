-- A carrier's file: records of 512 bytes, of which the first is the header and the last the trailer.
use Rattle.std.specs.Prelude.{◌≡◌, ℕ, zero, suc, ◌+◌, ◌*◌, ◌/◌, ◌==◌, ◌&&◌, ◌⊎◌, List, [], ◌∷◌, ◌++◌, length, take, drop, slice_index, if◌then◌else◌}
use Rattle.std.specs.List.{flat_map, All}
use Rattle.ali_base.specs.CivilDay.{CivilDay}
use Rattle.batch_frame.specs.declared.separator.Separator.{Separator}
use Rattle.batch_frame.specs.declared.separator.Separator.TheVariants.{Bare, Lf, CrLf}

-- what follows each record: nothing, LF, or CR LF
abbrev pub separator_bytes : Separator → List ℕ
separator_bytes Bare = []
separator_bytes Lf = 10 ∷ []
separator_bytes CrLf = 13 ∷ 10 ∷ []

-- byte 513 is LF
abbrev pub FollowedByLf : List ℕ → Type 0
FollowedByLf bytes = slice_index bytes 512 ≡ 10

-- bytes 513 and 514 are CR LF
abbrev pub FollowedByCrLf : List ℕ → Type 0
FollowedByCrLf bytes = (slice_index bytes 512 ≡ 13) × (slice_index bytes 513 ≡ 10)

-- the separator is LF where byte 513 is LF, CR LF where bytes 513 and 514 are, and otherwise the file is bare
abbrev pub separator_of : List ℕ → Separator
separator_of bytes =
    if slice_index bytes 512 == 10
    then Lf
    else (if (slice_index bytes 512 == 13) && (slice_index bytes 513 == 10) then CrLf else Bare)

-- a record has 512 bytes
abbrev pub IsRecord : List ℕ → Type 0
IsRecord bytes = length bytes ≡ 512

-- the header, the records and the trailer, in this order
abbrev pub all_records : List ℕ → List (List ℕ) → List ℕ → List (List ℕ)
all_records header records trailer = header ∷ (records ++ trailer ∷ [])

-- records one after the other, each followed by the separator
abbrev pub separated : Separator → List (List ℕ) → List ℕ
separated s records = flat_map (λ bytes. bytes ++ separator_bytes s) records

-- the bytes are these records, each followed by the separator; the last separator may be missing
abbrev pub Spells : List ℕ → Separator → List (List ℕ) → Type 0
Spells bytes s records = (bytes ≡ separated s records) ⊎ (bytes ++ separator_bytes s ≡ separated s records)

-- the grammar of a carrier's file
pub record IsFile (bytes : List ℕ) (s : Separator) (header : List ℕ) (records : List (List ℕ)) (trailer : List ℕ) : Type 0 where
  pub separator : separator_of bytes ≡ s
  pub widths : All IsRecord (all_records header records trailer)
  pub text : Spells bytes s (all_records header records trailer)

-- a bare file in which what follows the header looks like a separator
abbrev pub LooksSeparated : List ℕ → Separator → Type 0
LooksSeparated bytes s = (s ≡ Bare) × (FollowedByLf bytes ⊎ FollowedByCrLf bytes)

-- the bytes of a record with its separator
abbrev pub piece_size : Separator → ℕ
piece_size s = 512 + length (separator_bytes s)

-- how many records so many bytes hold, the last separator there or not
abbrev pub record_count : Separator → ℕ → ℕ
record_count s len = (len + length (separator_bytes s)) / piece_size s

-- the record at this place, from 0
abbrev pub record_at : Separator → ℕ → List ℕ → List ℕ
record_at s place bytes = take 512 (drop (piece_size s * place) bytes)

-- so many records, one after the other
abbrev pub records_in : Separator → ℕ → List ℕ → List (List ℕ)
records_in s zero bytes = []
records_in s (suc count) bytes = take 512 bytes ∷ records_in s count (drop (piece_size s) bytes)

-- what a read file tells: its parts, and of the header the company, the cycle and the date; count is the number of the records
pub record CarrierFile : Type 0 where
  pub separator : Separator
  pub header : List ℕ
  pub records : List (List ℕ)
  pub trailer : List ℕ
  pub company : List ℕ
  pub cycle : ℕ
  pub day : CivilDay
  pub count : ℕ

-- the file in these bytes, by its separator, its count and what its header tells
abbrev pub file_in : List ℕ → Separator → ℕ → List ℕ → ℕ → CivilDay → CarrierFile
file_in bytes s count company cycle day = record {
  separator = s;
  header = record_at s 0 bytes;
  records = records_in s count (drop (piece_size s) bytes);
  trailer = record_at s (count + 1) bytes;
  company = company;
  cycle = cycle;
  day = day;
  count = count;
}
