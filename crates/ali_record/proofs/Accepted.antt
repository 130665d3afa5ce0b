-- What reading says of a record that it accepts.
use Rattle.std.proofs.Common.{◌≡◌, ℕ, ◌==◌, ◌&&◌, Bool, true, false, List, [], ◌∷◌, length, refl, ap, sym, ◌∙◌, not, Option, Some, None, is_none, IsSome, if◌then◌else◌}
use Rattle.std.specs.List.{AllByRecursion, list_all}
use Rattle.std.specs.Option.{option_map_or}
use Rattle.std.specs.Char.{is_ascii_digit}
use Rattle.std.specs.Str.{bytes_eq}
use Rattle.ali_base.specs.Columns.{is_printable}
use Rattle.ali_base.specs.HouseNumber.{house_of}
use Rattle.ali_base.specs.TelephoneNumber.{tn_of}
use Rattle.ali_base.specs.CivilDay.{day_of}
use Rattle.ali_base.specs.Company.{is_company}
use Rattle.ali_record.specs.Layout.{field_of, byte_of}
use Rattle.ali_record.specs.RecordReading.{IsAccepted, reading_code, conditions, fault_code, first_fault, is_function, sends_address, is_class_of_service, is_type_of_service}
use Rattle.ali_record.specs.declared.field.Field.TheVariants.{Function, TelephoneNumber, HouseNumber, ExtractDate, ClassOfService, TypeOfService, Company, EndMark}
use Rattle.ali_record.specs.declared.reading_fault.ReadingFault.{ReadingFault}
use Rattle.ali_record.specs.declared.reading_fault.ReadingFault.TheVariants as fault

-- each fault has a code
pub has_code : (fault : ReadingFault) → fault_code fault ≡ 0 → ⊥
has_code fault.Function h = cc
has_code fault.TelephoneNumber h = cc
has_code fault.HouseNumber h = cc
has_code fault.ClassOfService h = cc
has_code fault.TypeOfService h = cc
has_code fault.Company h = cc
has_code fault.ExtractDate h = cc
has_code fault.EndMark h = cc
has_code fault.Unprintable h = cc

none_holds : (cs : List (Bool × ReadingFault)) → option_map_or fault_code (first_fault cs) 0 ≡ 0 → AllByRecursion (λ c. c.0 ≡ false) cs
none_holds [] h = tt
none_holds ((true, fault) ∷ cs) h = absurd (has_code fault h)
none_holds ((false, fault) ∷ cs) h = (refl, none_holds cs h)

-- none of the conditions holds of a record that is read
pub read-none : (company b : List ℕ) → reading_code company b ≡ 0 → AllByRecursion (λ c. c.0 ≡ false) (conditions company b)
unfolding reading_code
read-none company b h = none_holds (conditions company b) h

-- nor of a record that is accepted
pub accepted-none : (b : List ℕ) → IsAccepted b → AllByRecursion (λ c. c.0 ≡ false) (conditions (field_of b Company) b)
accepted-none b h = read-none (field_of b Company) b h.reading

some_of : {A : Type 0} (o : Option A) → is_none o ≡ false → IsSome o
some_of None h = cc
some_of (Some x) h = refl

-- its telephone number is one
pub accepted-tn : (b : List ℕ) → IsAccepted b → IsSome (tn_of (field_of b TelephoneNumber))
unfolding conditions
accepted-tn b h =
    let none = accepted-none b h in
    some_of (tn_of (field_of b TelephoneNumber)) none.1.1.1.0

-- its extract date is one
pub accepted-day : (b : List ℕ) → IsAccepted b → IsSome (day_of (field_of b ExtractDate))
unfolding conditions
accepted-day b h =
    let none = accepted-none b h in
    some_of (day_of (field_of b ExtractDate)) none.1.1.1.1.1.0

-- a telephone number is its bytes
pub tn_of-same : (bytes tn : List ℕ) → tn_of bytes ≡ Some tn → tn ≡ bytes
unfolding tn_of
tn_of-same bytes tn h = by_test ((length bytes == 10) && list_all is_ascii_digit bytes) h
  where
    by_test : (b : Bool) → (if b then Some bytes else None) ≡ Some tn → tn ≡ bytes
    by_test true h = cc
    by_test false h = cc

none_of : (cs : List (Bool × ReadingFault)) → AllByRecursion (λ c. c.0 ≡ false) cs → option_map_or fault_code (first_fault cs) 0 ≡ 0
none_of [] h = refl
none_of (c ∷ cs) h = rw h.0 (none_of cs h.1)

-- a record that is like an accepted one in what the conditions read is accepted
pub accepted-like : (b c : List ℕ) → IsAccepted b
    → byte_of c EndMark ≡ byte_of b EndMark → list_all is_printable c ≡ true → byte_of c Function ≡ byte_of b Function
    → field_of c TelephoneNumber ≡ field_of b TelephoneNumber → field_of c Company ≡ field_of b Company → field_of c ExtractDate ≡ field_of b ExtractDate
    → (sends_address (byte_of b Function) && is_none (house_of (field_of c HouseNumber))) ≡ false
    → byte_of c ClassOfService ≡ byte_of b ClassOfService → byte_of c TypeOfService ≡ byte_of b TypeOfService → IsAccepted c
unfolding reading_code conditions
accepted-like b c h end printed function tn company day house class type =
    let old = accepted-none b h in
    record {
      company = ap is_company company ∙ h.company;
      reading = none_of (conditions (field_of c Company) c) (
        ap (λ z. not (z == 42)) end ∙ old.0,
        (
          ap not printed,
          (
            ap (λ z. not (is_function z)) function ∙ old.1.1.0,
            (
              ap (λ z. is_none (tn_of z)) tn ∙ old.1.1.1.0,
              (
                ap (λ z. not (bytes_eq z z)) company ∙ old.1.1.1.1.0,
                (
                  ap (λ z. is_none (day_of z)) day ∙ old.1.1.1.1.1.0,
                  (
                    ap (λ z. sends_address z && is_none (house_of (field_of c HouseNumber))) function ∙ house,
                    (
                      ap (λ z. sends_address z && not (is_class_of_service (byte_of c ClassOfService))) function ∙ ap (λ z. sends_address (byte_of b Function) && not (is_class_of_service z)) class ∙ old.1.1.1.1.1.1.1.0,
                      (
                        ap (λ z. sends_address z && not (is_type_of_service (byte_of c TypeOfService))) function ∙ ap (λ z. sends_address (byte_of b Function) && not (is_type_of_service z)) type ∙ old.1.1.1.1.1.1.1.1.0,
                        tt,
                      ),
                    ),
                  ),
                ),
              ),
            ),
          ),
        ),
      );
    }

-- its bytes can be printed, and the house number of its address is read
pub accepted-printed : (b : List ℕ) → IsAccepted b → list_all is_printable b ≡ true
unfolding conditions
accepted-printed b h = not_false (list_all is_printable b) (accepted-none b h).1.0
  where
    not_false : (x : Bool) → not x ≡ false → x ≡ true
    not_false true h = refl
    not_false false h = cc

pub accepted-house : (b : List ℕ) → IsAccepted b → (sends_address (byte_of b Function) && is_none (house_of (field_of b HouseNumber))) ≡ false
unfolding conditions
accepted-house b h = (accepted-none b h).1.1.1.1.1.1.0

-- the house number of an address is read
pub accepted-address : (b : List ℕ) → IsAccepted b → sends_address (byte_of b Function) ≡ true → IsSome (house_of (field_of b HouseNumber))
accepted-address b h sends = some_of (house_of (field_of b HouseNumber)) (sym (ap (λ x. x && is_none (house_of (field_of b HouseNumber))) sends) ∙ accepted-house b h)

-- a house number that is read breaks no condition
pub house_read : (b : Bool) (house : Option ℕ) → IsSome house → (b && is_none house) ≡ false
house_read true None h = cc
house_read true (Some n) h = refl
house_read false house h = refl
