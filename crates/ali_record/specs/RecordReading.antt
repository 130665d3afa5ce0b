-- Reading a record of a company's file: a list of conditions over the whole record, of which the first that holds decides.
use Rattle.std.specs.Prelude.{◌≡◌, ℕ, ◌==◌, ◌&&◌, ◌||◌, Bool, true, not, nat_le, List, [], ◌∷◌, Option, Some, None, is_none, if◌then◌else◌}
use Rattle.std.specs.List.{list_all}
use Rattle.std.specs.Option.{option_map_or}
use Rattle.std.specs.Str.{bytes_eq}
use Rattle.ali_base.specs.Columns.{is_printable}
use Rattle.ali_base.specs.TelephoneNumber.{tn_of}
use Rattle.ali_base.specs.HouseNumber.{house_of}
use Rattle.ali_base.specs.CivilDay.{day_of}
use Rattle.ali_base.specs.Company.{is_company}
use Rattle.ali_record.specs.Layout.{field_of, byte_of}
use Rattle.ali_record.specs.declared.field.Field.TheVariants.{Function, TelephoneNumber, HouseNumber, ExtractDate, ClassOfService, TypeOfService, Company, EndMark}
use Rattle.ali_record.specs.declared.reading_fault.ReadingFault.{ReadingFault}
use Rattle.ali_record.specs.declared.reading_fault.ReadingFault.TheVariants as fault

-- a function: I, C, D, U or M
abbrev pub is_function : ℕ → Bool
is_function byte = (byte == 73) || (byte == 67) || (byte == 68) || (byte == 85) || (byte == 77)

-- a type of service: 0 to 9
abbrev pub is_type_of_service : ℕ → Bool
is_type_of_service byte = nat_le 48 byte && nat_le byte 57

-- a class of service: 0 to 9 or A to Z
abbrev pub is_class_of_service : ℕ → Bool
is_class_of_service byte = (nat_le 48 byte && nat_le byte 57) || (nat_le 65 byte && nat_le byte 90)

-- I, C and M send an address; what D and U have in its columns is not read
abbrev pub sends_address : ℕ → Bool
sends_address function = (function == 73) || (function == 67) || (function == 77)

-- the code of a fault
abbrev pub fault_code : ReadingFault → ℕ
fault_code fault.Function = 101
fault_code fault.TelephoneNumber = 102
fault_code fault.HouseNumber = 103
fault_code fault.ClassOfService = 104
fault_code fault.TypeOfService = 105
fault_code fault.Company = 106
fault_code fault.ExtractDate = 107
fault_code fault.EndMark = 108
fault_code fault.Unprintable = 109

-- the conditions, each with its fault, in the order in which they are tested; company is the five bytes of the file's header
unfoldable pub conditions : List ℕ → List ℕ → List (Bool × ReadingFault)
conditions company b =
    -- the record does not end with `*`
    (not (byte_of b EndMark == 42), fault.EndMark)
    -- a byte is not one from the space to the tilde
    ∷ (not (list_all is_printable b), fault.Unprintable)
    -- the function is none of the five
    ∷ (not (is_function (byte_of b Function)), fault.Function)
    -- the telephone number is not ten digits
    ∷ (is_none (tn_of (field_of b TelephoneNumber)), fault.TelephoneNumber)
    -- the company is not the file's
    ∷ (not (bytes_eq (field_of b Company) company), fault.Company)
    -- the extract date is no civil day of 2000 to 2099
    ∷ (is_none (day_of (field_of b ExtractDate)), fault.ExtractDate)
    -- the house number of an address cannot be read
    ∷ (sends_address (byte_of b Function) && is_none (house_of (field_of b HouseNumber)), fault.HouseNumber)
    ∷ (sends_address (byte_of b Function) && not (is_class_of_service (byte_of b ClassOfService)), fault.ClassOfService)
    ∷ (sends_address (byte_of b Function) && not (is_type_of_service (byte_of b TypeOfService)), fault.TypeOfService)
    ∷ []

-- the fault of the first condition that holds
abbrev pub first_fault : List (Bool × ReadingFault) → Option ReadingFault
first_fault [] = None
first_fault (c ∷ cs) = if c.0 then Some c.1 else first_fault cs

-- the code of a record in a file of this company that is read alone; 0 where it is accepted
unfoldable pub reading_code : List ℕ → List ℕ → ℕ
reading_code company b = option_map_or fault_code (first_fault (conditions company b)) 0

-- a record that a file of its own company may hold
pub record IsAccepted (b : List ℕ) : Type 0 where
  pub company : is_company (field_of b Company) ≡ true
  pub reading : reading_code (field_of b Company) b ≡ 0
