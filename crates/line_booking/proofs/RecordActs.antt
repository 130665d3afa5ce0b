-- What it says of a record that it is read, and that something is done with it.
use Rattle.std.proofs.Common.{◌≡◌, ℕ, ◌≤◌, ◌==◌, ◌&&◌, nat_lt, nat_le, Bool, true, false, cond, List, length, refl, ap, sym, ◌∙◌, arith, Option, Some, None, is_none, IsSome, Result, Ok, Err, get_or}
use Rattle.std.specs.FinMap.{get, len}
use Rattle.std.proofs.lemmas.Bool.{not-false}
use Rattle.std.proofs.lemmas.Bool.Decides.{nat_tests}
use Rattle.std.proofs.lemmas.List.{get_or_past}
use Rattle.std.proofs.lemmas.Slice.Eq.{bytes_eq-Decides}
use Rattle.ali_base.specs.HouseNumber.{house_of}
use Rattle.ali_record.specs.Layout.{field_of, byte_of}
use Rattle.ali_record.specs.RecordReading.{reading_code, conditions, is_function, sends_address}
use Rattle.ali_record.specs.declared.field.Field.TheVariants.{Function, TelephoneNumber, HouseNumber, Company}
use Rattle.ali_record.proofs.Accepted.{read-none}
use Rattle.number_life.specs.declared.act.LifeAct.{LifeAct}
use Rattle.number_life.specs.NumberLife.{life_of}
use Rattle.number_table.specs.NumberTable.{NumberTable}
use Rattle.msag_ranges.specs.declared.range.Range.{Range}
use Rattle.line_booking.specs.LineVerdict.{record_act, address_fault, where_placed, within_limit}

-- column 512 is there where it has the end mark
long_enough : (bytes : List ℕ) → get_or bytes 511 0 ≡ 42 → 512 ≤ length bytes
long_enough bytes h = at (nat_lt 511 (length bytes)) refl
  where
    at : (b : Bool) → nat_lt 511 (length bytes) ≡ b → 512 ≤ length bytes
    at true e = grind (arith, nat_tests)
    at false e =
        let short : length bytes ≤ 511 = grind (arith, nat_tests) in
        absurd (omega (arith, h, get_or_past bytes 511 0 short))

is_some : {A : Type 0} (o : Option A) → is_none o ≡ false → IsSome o
is_some None h = absurd cc
is_some (Some x) h = refl

-- a record that is read in a company's file
pub record IsRead (company bytes : List ℕ) : Type 0 where
  pub of_company : field_of bytes Company ≡ company
  pub long : 512 ≤ length bytes
  pub function : is_function (byte_of bytes Function) ≡ true
  pub house : sends_address (byte_of bytes Function) ≡ true → IsSome (house_of (field_of bytes HouseNumber))

-- what reading says of a record with code 0
pub read_tells : (company bytes : List ℕ) → reading_code company bytes ≡ 0 → IsRead company bytes
unfolding conditions
read_tells company bytes h =
    let none = read-none company bytes h in
    record {
      of_company = (bytes_eq-Decides (field_of bytes Company) company).0 (not-false _ none.1.1.1.1.0);
      long = long_enough bytes (let mark : (get_or bytes 511 0 == 42) ≡ true = not-false _ none.0 in grind (arith, nat_tests));
      function = not-false _ none.1.1.0;
      house = λ sends. is_some _ (sym (ap (λ b. b && is_none (house_of (field_of bytes HouseNumber))) sends) ∙ none.1.1.1.1.1.1.0);
    }

-- a record with which this is done is read, the life of its number says so, its address has no fault, and no insert finds the table at its limit
pub record IsJudged (ranges : List Range) (table : NumberTable) (most : ℕ) (company bytes : List ℕ) (act : LifeAct) : Type 0 where
  pub reading : reading_code company bytes ≡ 0
  pub life : life_of (get table (field_of bytes TelephoneNumber)) bytes ≡ Ok act
  pub placed : address_fault ranges bytes ≡ None
  pub room : ((byte_of bytes Function == 73) && nat_le most (len table)) ≡ false

in_limit : (table : NumberTable) (most letter : ℕ) (r : Result LifeAct ℕ) (act : LifeAct) → within_limit table most letter r ≡ Ok act → (r ≡ Ok act) × (((letter == 73) && nat_le most (len table)) ≡ false)
in_limit table most letter (Err code) act h = absurd (cc h)
in_limit table most letter (Ok done) act h = by_test ((letter == 73) && nat_le most (len table)) h
  where
    by_test : (full : Bool) → ◌≡◌ {A = Result LifeAct ℕ} (cond full (Err 509) (Ok done)) (Ok act) → (◌≡◌ {A = Result LifeAct ℕ} (Ok done) (Ok act)) × (full ≡ false)
    by_test true h = absurd (cc h)
    by_test false h = (h, refl)

is_placed : (fault : Option ℕ) (r : Result LifeAct ℕ) (act : LifeAct) → where_placed fault r ≡ Ok act → (r ≡ Ok act) × (fault ≡ None)
is_placed None (Ok done) act h = (h, refl)
is_placed (Some code) (Ok done) act h = absurd cc
is_placed fault (Err code) act h = absurd cc

-- what it says that something is done with a record
pub judged : (ranges : List Range) (table : NumberTable) (most : ℕ) (company bytes : List ℕ) (act : LifeAct) → record_act ranges table most company bytes ≡ Ok act → IsJudged ranges table most company bytes act
unfolding record_act
judged ranges table most company bytes act h = at (reading_code company bytes == 0) refl h
  where
    fault : Option ℕ
    fault = address_fault ranges bytes

    life : Result LifeAct ℕ
    life = life_of (get table (field_of bytes TelephoneNumber)) bytes

    at : (b : Bool) → (reading_code company bytes == 0) ≡ b → cond b (within_limit table most (byte_of bytes Function) (where_placed fault life)) (Err (reading_code company bytes)) ≡ Ok act → IsJudged ranges table most company bytes act
    at true e h =
        let within = in_limit table most (byte_of bytes Function) (where_placed fault life) act h in
        let parts = is_placed fault life act within.0 in
        record { reading = grind (arith, nat_tests); life = parts.0; placed = parts.1; room = within.1 }
    at false e h = absurd cc
