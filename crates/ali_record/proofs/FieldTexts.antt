-- The texts that are written over a field.
use Rattle.std.proofs.Common.{◌≡◌, ℕ, ◌-◌, ◌^◌, ◌<◌, ◌≤◌, Bool, true, false, cond, ◌&&◌, ◌==◌, nat_le, List, [], ◌∷◌, ◌++◌, length, refl, ap, ◌∙◌, arith, Some, None, zero, suc, length-append}
use Rattle.std.specs.Prelude.{replicate}
use Rattle.std.specs.Fmt.{decimal}
use Rattle.std.specs.List.{list_all, AllByRecursion}
use Rattle.std.specs.Char.{is_ascii_digit}
use Rattle.std.specs.Str.{all_ascii_digits}
use Rattle.std.specs.Str.Parse.{digits_value}
use Rattle.std.proofs.lemmas.Bool.Decides.{nat_tests}
use Rattle.std.proofs.lemmas.Str.Parse.{IsNumeralModel, numerals_by_value, tells_all_ascii_digits}
use Rattle.std.proofs.lemmas.Fmt.{digits_decimal, digits_value-decimal, decimal_nonempty, length-decimal-le}
use Rattle.std.proofs.lemmas.List.Folds.{list_all-append}
use Rattle.std.proofs.lemmas.Bool.{and_parts}
use Rattle.ali_base.specs.Columns.{is_space, is_empty, is_printable, trimmed, front_trimmed}
use Rattle.ali_base.specs.Digits.{digits_number}
use Rattle.ali_base.specs.HouseNumber.{at_most, house_number, house_of, house_text}
use Rattle.ali_base.specs.Numbers.{zero_padded}
use Rattle.ali_base.specs.declared.house.TheConstants.{HIGHEST_HOUSE}
use Rattle.ali_base.specs.declared.esn.TheConstants.{HIGHEST_ESN}

own : IsNumeralModel (λ ds. all_ascii_digits ds ≡ true) (digits_value 10)
own = numerals_by_value _ tells_all_ascii_digits

-- no byte is a space
abbrev Spaceless : List ℕ → Type 0
Spaceless xs = AllByRecursion (λ x. is_space x ≡ false) xs

no_space : (x : ℕ) → is_ascii_digit x ≡ true → is_space x ≡ false
no_space x h = grind (arith, nat_tests)

printed : (x : ℕ) → is_ascii_digit x ≡ true → is_printable x ≡ true
printed x h = grind (arith, nat_tests)

digits_spaceless : (xs : List ℕ) → all_ascii_digits xs ≡ true → Spaceless xs
digits_spaceless [] h = tt
digits_spaceless (x ∷ xs) h = let d = and_parts (is_ascii_digit x) (all_ascii_digits xs) h in (no_space x d.0, digits_spaceless xs d.1)

digits_printed : (xs : List ℕ) → all_ascii_digits xs ≡ true → list_all is_printable xs ≡ true
digits_printed [] h = refl
digits_printed (x ∷ xs) h =
    let d = and_parts (is_ascii_digit x) (all_ascii_digits xs) h in
    ap (λ b. b && list_all is_printable xs) (printed x d.0) ∙ digits_printed xs d.1

length-replicate : (k x : ℕ) → length (replicate k x) ≡ k
length-replicate zero x = refl
length-replicate (suc k) x = omega (arith, length-replicate k x)

all_replicated : (test : ℕ → Bool) (k x : ℕ) → test x ≡ true → list_all test (replicate k x) ≡ true
all_replicated test zero x h = refl
all_replicated test (suc k) x h = ap (λ b. b && list_all test (replicate k x)) h ∙ all_replicated test k x h

-- spaces alone
trimmed-spaces : (k : ℕ) → trimmed (replicate k 32) ≡ []
trimmed-spaces zero = refl
trimmed-spaces (suc k) = ap (λ z. cond (is_empty z) [] (32 ∷ z)) (trimmed-spaces k)

-- a text without spaces, and then spaces
trimmed-padded : (xs : List ℕ) (k : ℕ) → Spaceless xs → trimmed (xs ++ replicate k 32) ≡ xs
trimmed-padded [] k h = trimmed-spaces k
trimmed-padded (x ∷ xs) k h =
    ap (λ b. cond (b && is_empty (trimmed (xs ++ replicate k 32))) [] (x ∷ trimmed (xs ++ replicate k 32))) h.0
    ∙ ap (λ z. x ∷ z) (trimmed-padded xs k h.1)

front_trimmed-kept : (xs ys : List ℕ) → 0 < length xs → Spaceless xs → front_trimmed (xs ++ ys) ≡ xs ++ ys
front_trimmed-kept [] ys some h = absurd (omega arith)
front_trimmed-kept (x ∷ xs) ys some h = ap (λ b. cond b (front_trimmed (xs ++ ys)) (x ∷ (xs ++ ys))) h.0

digits_number-decimal : (n : ℕ) → n < 2 ^ 32 → digits_number (decimal n) ≡ Some n
unfolding digits_number
digits_number-decimal n small =
    ap (λ b. cond b (Some (digits_value 10 (decimal n))) None) (digits_decimal own n (omega arith)) ∙ ap Some (digits_value-decimal own n (omega arith))

pub length-house_text : (n : ℕ) → n ≤ HIGHEST_HOUSE → length (house_text n) ≡ 10
length-house_text n small =
    let short : length (decimal n) ≤ 6 = length-decimal-le 6 n (omega arith) (omega arith) (omega arith) in
    omega (arith, length-append (decimal n) (replicate (10 - length (decimal n)) 32), length-replicate (10 - length (decimal n)) 32)

-- a house number is read again from its text
pub house_of-text : (n : ℕ) → n ≤ HIGHEST_HOUSE → house_of (house_text n) ≡ Some n
unfolding house_number
house_of-text n small =
    let len : length (house_text n) ≡ 10 = length-house_text n small in
    let ten : (length (house_text n) == 10) ≡ true = grind (arith, nat_tests) in
    let k = 10 - length (decimal n) in
    let clear = digits_spaceless (decimal n) (digits_decimal own n (omega arith)) in
    let some : 0 < length (decimal n) = decimal_nonempty n (omega arith) in
    let below : nat_le n HIGHEST_HOUSE ≡ true = grind (arith, nat_tests) in
    ap (λ b. cond b (house_number (house_text n)) None) ten
    ∙ ap (λ z. at_most HIGHEST_HOUSE (digits_number (trimmed z))) (front_trimmed-kept (decimal n) (replicate k 32) some clear)
    ∙ ap (λ z. at_most HIGHEST_HOUSE (digits_number z)) (trimmed-padded (decimal n) k clear)
    ∙ ap (at_most HIGHEST_HOUSE) (digits_number-decimal n (omega arith)) ∙ ap (λ b. cond b (Some n) None) below

pub printed-house_text : (n : ℕ) → n ≤ HIGHEST_HOUSE → list_all is_printable (house_text n) ≡ true
printed-house_text n small =
    list_all-append is_printable (decimal n) (replicate (10 - length (decimal n)) 32)
    ∙ ap (λ b. b && list_all is_printable (replicate (10 - length (decimal n)) 32)) (digits_printed (decimal n) (digits_decimal own n (omega arith)))
    ∙ all_replicated is_printable (10 - length (decimal n)) 32 refl

pub length-esn_text : (n : ℕ) → n ≤ HIGHEST_ESN → length (zero_padded 5 n) ≡ 5
length-esn_text n small =
    let short : length (decimal n) ≤ 5 = length-decimal-le 5 n (omega arith) (omega arith) (omega arith) in
    omega (arith, length-append (replicate (5 - length (decimal n)) 48) (decimal n), length-replicate (5 - length (decimal n)) 48)

pub printed-esn_text : (n : ℕ) → n ≤ HIGHEST_ESN → list_all is_printable (zero_padded 5 n) ≡ true
printed-esn_text n small =
    list_all-append is_printable (replicate (5 - length (decimal n)) 48) (decimal n)
    ∙ ap (λ b. b && list_all is_printable (decimal n)) (all_replicated is_printable (5 - length (decimal n)) 48 refl)
    ∙ digits_printed (decimal n) (digits_decimal own n (omega arith))
