-- Decimal digits, and the numbers of records.
use Rattle.std.proofs.Common.{◌≡◌, ℕ, zero, suc, ◌-◌, ◌^◌, ◌<◌, ◌&&◌, true, List, [], ◌∷◌, ◌++◌, length, replicate, Some, refl, ap, ◌∙◌, arith, append-nil, length-append}
use Rattle.std.specs.Char.{is_ascii_digit}
use Rattle.std.specs.Fmt.{decimal}
use Rattle.std.specs.List.{list_all, All, AllByRecursion}
use Rattle.std.specs.Str.{all_ascii_digits}
use Rattle.std.proofs.lemmas.Bool.{and_parts}
use Rattle.std.proofs.lemmas.Bool.Decides.{nat_tests}
use Rattle.std.proofs.lemmas.Fmt.{digits_decimal, length-decimal-le}
use Rattle.std.proofs.lemmas.List.{length-replicate}
use Rattle.std.proofs.lemmas.List.Elements.{All-append, All-from_recursion}
use Rattle.ali_base.specs.Numbers.{zero_padded}
use Rattle.ali_base.specs.TelephoneNumber.{IsDigit, IsTn, tn_of}
use Rattle.ali_base.proofs.Digits.{own}
use Rattle.office_commands.proofs.AskTexts.{tn_of-number}
use Rattle.office_entry.specs.EditText.{is_sent_byte}
use Rattle.generated_script.specs.GeneratedScript.{number_of}

digit_is : (x : ℕ) → is_ascii_digit x ≡ true → IsDigit x
digit_is x h = grind (arith, nat_tests)

digits_are : (xs : List ℕ) → all_ascii_digits xs ≡ true → AllByRecursion IsDigit xs
digits_are [] h = tt
digits_are (x ∷ xs) h = let d = and_parts (is_ascii_digit x) (all_ascii_digits xs) h in (digit_is x d.0, digits_are xs d.1)

decimal_digits : (n : ℕ) → n < 2 ^ 64 → All IsDigit (decimal n)
decimal_digits n small = All-from_recursion IsDigit (decimal n) (digits_are (decimal n) (digits_decimal own n small))

zero_digits : (n : ℕ) → AllByRecursion IsDigit (replicate n 48)
zero_digits zero = tt
zero_digits (suc n) = ((omega arith, omega arith), zero_digits n)

-- a number of fixed width has it
pub length-zero_padded : (width n : ℕ) → 0 < width → n < 10 ^ width → n < 2 ^ 64 → length (zero_padded width n) ≡ width
length-zero_padded width n some fits small =
    omega (arith, length-append (replicate (width - length (decimal n)) 48) (decimal n), length-replicate {A = ℕ} (width - length (decimal n)) 48, length-decimal-le width n some fits small)

padded_digits : (width n : ℕ) → n < 2 ^ 64 → All IsDigit (zero_padded width n)
padded_digits width n small =
    let zeros = replicate (width - length (decimal n)) 48 in
    All-append IsDigit zeros (decimal n) (All-from_recursion IsDigit zeros (zero_digits (width - length (decimal n)))) (decimal_digits n small)

-- the number of a record is a telephone number
pub number_is : (i : ℕ) → i < 10 ^ 9 → IsTn (number_of i)
number_is i small =
    let width = length-zero_padded 9 i (omega arith) small (omega arith) in
    (omega (arith, width), All-append IsDigit (51 ∷ []) (zero_padded 9 i) (All-from_recursion IsDigit (51 ∷ []) ((omega arith, omega arith), tt)) (padded_digits 9 i (omega arith)))

digit_sent : (x : ℕ) → is_ascii_digit x ≡ true → is_sent_byte x ≡ true
digit_sent x h = grind (arith, nat_tests)

digits_sent : (xs : List ℕ) → all_ascii_digits xs ≡ true → list_all is_sent_byte xs ≡ true
digits_sent [] h = refl
digits_sent (x ∷ xs) h =
    let d = and_parts (is_ascii_digit x) (all_ascii_digits xs) h in
    ap (λ b. b && list_all is_sent_byte xs) (digit_sent x d.0) ∙ digits_sent xs d.1

-- the digits of a number may be sent
pub decimal_sent : (n : ℕ) → n < 2 ^ 64 → list_all is_sent_byte (decimal n) ≡ true
decimal_sent n small = digits_sent (decimal n) (digits_decimal own n small)

-- the digits of a record's number are read as it
pub number_read : (digits : List ℕ) (i : ℕ) → i < 10 ^ 9 → digits ≡ zero_padded 9 i → tn_of (51 ∷ (digits ++ [])) ≡ Some (number_of i)
number_read digits i small is =
    let same : 51 ∷ (digits ++ []) ≡ number_of i = ap (λ z. 51 ∷ z) (append-nil digits ∙ is) in
    ap tn_of same ∙ tn_of-number (number_of i) (number_is i small)
