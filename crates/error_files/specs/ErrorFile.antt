-- The error file, which goes back to the carrier: the refused records, each with its code.
use Rattle.std.specs.Prelude.{ℕ, ◌-◌, ◌==◌, ◌%◌, List, [], ◌∷◌, ◌++◌, length, take, drop, if◌then◌else◌}
use Rattle.ali_base.specs.Numbers.{zero_padded}
use Rattle.batch_frame.specs.CarrierFile.{CarrierFile, all_records, separated}

-- the bytes with this text in columns i to j, counted from 1
abbrev pub overwritten : List ℕ → ℕ → ℕ → List ℕ → List ℕ
overwritten bytes i j text = take (i - 1) bytes ++ text ++ drop j bytes

-- a record as sent, with the last three decimal digits of its code in columns 509 to 511
abbrev pub refused_record : List ℕ → ℕ → List ℕ
refused_record bytes code = overwritten bytes 509 511 (zero_padded 3 (code % 1000))

-- the records whose code is not 0, in order
abbrev pub refused_records : List (List ℕ) → List ℕ → List (List ℕ)
refused_records [] codes = []
refused_records (bytes ∷ rest) [] = []
refused_records (bytes ∷ rest) (code ∷ codes) =
    if code == 0 then refused_records rest codes else refused_record bytes code ∷ refused_records rest codes

-- those of a file
abbrev pub refused_in : CarrierFile → List ℕ → List (List ℕ)
refused_in file codes = refused_records file.records codes

-- a trailer as sent, with nine digits of this count in columns 15 to 23
abbrev pub counted_trailer : List ℕ → ℕ → List ℕ
counted_trailer bytes count = overwritten bytes 15 23 (zero_padded 9 count)

-- the header, the refused records, and the trailer with their number; each is followed by the file's separator
abbrev pub error_file : CarrierFile → List ℕ → List ℕ
error_file file codes =
    let refused = refused_in file codes in
    separated file.separator (all_records file.header refused (counted_trailer file.trailer (length refused)))
