-- The faults of a carrier's file, in the order in which they are tested.
use Rattle.std.specs.Prelude.{◌≡◌, ◌≤◌, ℕ, zero, suc, ◌+◌, ◌-◌, ◌*◌, ◌/◌, ◌%◌, ◌==◌, ◌&&◌, ◌||◌, not, Bool, nat_le, List, [], ◌∷◌, length, take, drop, Option, Some, None, is_some, option_map, unwrap_or, codes, if◌then◌else◌}
use Rattle.std.specs.Str.{bytes_eq}
use Rattle.ali_base.specs.Steps.{◌>>=◌, when}
use Rattle.ali_base.specs.Columns.{columns}
use Rattle.ali_base.specs.Digits.{digits_number}
use Rattle.ali_base.specs.Numbers.{cycle_of}
use Rattle.ali_base.specs.Company.{company_of}
use Rattle.ali_base.specs.CivilDay.{CivilDay, day_of}
use Rattle.batch_frame.specs.declared.separator.Separator.{Separator}
use Rattle.batch_frame.specs.declared.fault.FrameFault.{FrameFault}
use Rattle.batch_frame.specs.declared.fault.FrameFault.TheVariants as faults
use Rattle.batch_frame.specs.declared.fault.TheConstants.{MOST_RECORDS}
use Rattle.batch_frame.specs.CarrierFile.{CarrierFile, IsFile, separator_bytes, separator_of, piece_size, record_count, record_at, file_in}

-- the first fault of a list
abbrev pub first_of : List (Option FrameFault) → Option FrameFault
first_of [] = None
first_of (None ∷ rest) = first_of rest
first_of (Some fault ∷ rest) = Some fault

-- the least of so many numbers, from `number` on, that fails the test
abbrev pub least_failing : (ℕ → Bool) → ℕ → ℕ → Option ℕ
least_failing test number zero = None
least_failing test number (suc count) = if test number then least_failing test (number + 1) count else Some number

-- the first test, numbered from `number` on, that fails
abbrev pub first_failing : ℕ → List Bool → Option ℕ
first_failing number [] = None
first_failing number (passed ∷ rest) = if passed then first_failing (number + 1) rest else Some number

-- so many bytes are whole records with their separators; the last separator may be missing
abbrev pub is_whole : Separator → ℕ → Bool
is_whole s len = (len % piece_size s == 0) || ((len + length (separator_bytes s)) % piece_size s == 0)

-- at least 1,024 bytes, and whole records alone: these are two or more, a header and a trailer among them
unfoldable pub length_fault : List ℕ → Option FrameFault
length_fault bytes =
    let len = length bytes in
    if nat_le 1_024 len && is_whole (separator_of bytes) len then None else Some (faults.Length len)

-- the records between header and trailer
abbrev pub found : List ℕ → ℕ
found bytes = record_count (separator_of bytes) (length bytes) - 2

unfoldable pub too_many_fault : List ℕ → Option FrameFault
too_many_fault bytes = if nat_le (found bytes) MOST_RECORDS then None else Some (faults.TooMany (found bytes))

-- record `number`, from 1, is followed by the separator
abbrev pub is_followed : Separator → List ℕ → ℕ → Bool
is_followed s bytes number =
    bytes_eq (take (length (separator_bytes s)) (drop (piece_size s * (number - 1) + 512) bytes)) (separator_bytes s)

-- the first record not followed by the separator; a last separator that is missing is not asked for
unfoldable pub separator_fault : List ℕ → Option FrameFault
separator_fault bytes =
    let s = separator_of bytes in
    option_map faults.Separator (least_failing (is_followed s bytes) 1 (length bytes / piece_size s))

-- the first record
abbrev pub header_of : List ℕ → List ℕ
header_of bytes = record_at (separator_of bytes) 0 bytes

-- the last record
abbrev pub trailer_of : List ℕ → List ℕ
trailer_of bytes = record_at (separator_of bytes) (found bytes + 1) bytes

-- the first wrong field: 1 name, 2 date, 3 company, 4 cycle, 5 profile, 6 end mark
unfoldable pub header_fault : List ℕ → Option ℕ
header_fault header = first_failing 1
    (bytes_eq (columns header 1 3) (codes "UHL")
    ∷ is_some (day_of (columns header 4 9))
    ∷ is_some (company_of (columns header 10 14))
    ∷ is_some (cycle_of (columns header 15 20))
    ∷ bytes_eq (columns header 21 21) (codes "1")
    ∷ bytes_eq (columns header 512 512) (codes "*")
    ∷ [])

-- the first wrong field: 1 name, 2 date, 3 company, 4 a count that is not nine digits, 5 end mark
unfoldable pub trailer_fault : List ℕ → Option ℕ
trailer_fault trailer = first_failing 1
    (bytes_eq (columns trailer 1 3) (codes "UTL")
    ∷ is_some (day_of (columns trailer 4 9))
    ∷ is_some (company_of (columns trailer 10 14))
    ∷ is_some (digits_number (columns trailer 15 23))
    ∷ bytes_eq (columns trailer 512 512) (codes "*")
    ∷ [])

-- the two companies differ
unfoldable pub company_fault : List ℕ → List ℕ → Option FrameFault
company_fault header trailer = do
  sent ← company_of (columns header 10 14)
  told ← company_of (columns trailer 10 14)
  when (not (bytes_eq sent told)) (faults.Company sent told)

-- the count told is not that of the records found
unfoldable pub count_fault : ℕ → List ℕ → Option FrameFault
count_fault found trailer = do
  told ← digits_number (columns trailer 15 23)
  when (not (told == found)) (faults.Count told found)

-- the first fault of all the bytes of a file
unfoldable pub frame_fault : List ℕ → Option FrameFault
frame_fault bytes = first_of
    (length_fault bytes
    ∷ too_many_fault bytes
    ∷ separator_fault bytes
    ∷ option_map faults.Header (header_fault (header_of bytes))
    ∷ option_map faults.Trailer (trailer_fault (trailer_of bytes))
    ∷ company_fault (header_of bytes) (trailer_of bytes)
    ∷ count_fault (found bytes) (trailer_of bytes)
    ∷ [])

-- the day where there is none to be told
abbrev pub first_day : CivilDay
first_day = record { year = 2000; month = 1; day = 1 }

-- the file in bytes without a fault: its parts, and what its header tells
unfoldable pub file_of : List ℕ → CarrierFile
file_of bytes =
    let header = header_of bytes in
    file_in bytes (separator_of bytes) (found bytes) (columns header 10 14) (unwrap_or (cycle_of (columns header 15 20)) 0) (unwrap_or (day_of (columns header 4 9)) first_day)

-- parts without a fault of their own
pub record AreSound (header : List ℕ) (records : List (List ℕ)) (trailer : List ℕ) : Type 0 where
  pub sound_header : header_fault header ≡ None
  pub sound_trailer : trailer_fault trailer ≡ None
  pub one_company : company_fault header trailer ≡ None
  pub true_count : count_fault (length records) trailer ≡ None
  pub few : length records ≤ MOST_RECORDS

-- the bytes are a carrier's file without a fault, and this is what it tells
pub record IsRead (bytes : List ℕ) (file : CarrierFile) : Type 0 where
  pub parts : IsFile bytes file.separator file.header file.records file.trailer
  pub sound : frame_fault bytes ≡ None
  pub company : company_of (columns file.header 10 14) ≡ Some file.company
  pub cycle : cycle_of (columns file.header 15 20) ≡ Some file.cycle
  pub day : day_of (columns file.header 4 9) ≡ Some file.day
  pub count : file.count ≡ length file.records

-- some bytes are read so
abbrev pub IsSomeFile : CarrierFile → Type 0
IsSomeFile file = (bytes : List ℕ) × IsRead bytes file
