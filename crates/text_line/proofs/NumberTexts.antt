-- Numbers and their spelling.
use Rattle.std.proofs.Common.{◌≡◌, ◌≢◌, ℕ, ◌^◌, ◌<◌, ◌≤◌, ◌⊎◌, inl, inr, Bool, true, false, cond, nat_lt, List, length, get_or, refl, ap, sym, ◌∙◌, subst, arith, Option, Some, None, option_and_then, zero, suc}
use Rattle.std.specs.Fmt.{decimal}
use Rattle.std.specs.Str.{all_ascii_digits}
use Rattle.std.specs.Str.Parse.{digits_value}
use Rattle.std.proofs.lemmas.Bool.Decides.{nat_tests}
use Rattle.std.proofs.lemmas.Fmt.{decimal-digits_value, digits_decimal, digits_value-decimal, decimal_nonempty, length-decimal-le, first_decimal, decimal_digit}
use Rattle.ali_base.specs.Steps.{when}
use Rattle.ali_base.specs.Digits.{digits_number}
use Rattle.ali_base.proofs.Digits.{own}
use Rattle.text_line.specs.WordReading.{number_of, is_short}

short_from : (bytes : List ℕ) → 0 < length bytes → length bytes ≤ 10 → (get_or bytes 0 0 ≢ 48) ⊎ (length bytes ≡ 1) → is_short bytes ≡ true
short_from bytes some ten (inl other) = grind (arith, nat_tests)
short_from bytes some ten (inr one) = grind (arith, nat_tests)

short-decimal : (n : ℕ) → n < 2 ^ 32 → is_short (decimal n) ≡ true
short-decimal zero small =
    let one : length (decimal 0) ≡ 1 = ap length (decimal_digit 0 (omega arith)) in
    short_from (decimal 0) (omega arith) (omega arith) (inr one)
short-decimal (suc n) small =
    let some : 0 < length (decimal (suc n)) = decimal_nonempty (suc n) (omega arith) in
    let ten : length (decimal (suc n)) ≤ 10 = length-decimal-le 10 (suc n) (omega arith) (omega arith) (omega arith) in
    let first : 48 < get_or (decimal (suc n)) 0 0 = first_decimal (suc n) (omega arith) (omega arith) in
    short_from (decimal (suc n)) some ten (inl (omega arith))

digits_number-decimal : (n : ℕ) → n < 2 ^ 32 → digits_number (decimal n) ≡ Some n
unfolding digits_number
digits_number-decimal n small =
    ap (λ b. cond b (Some (digits_value 10 (decimal n))) None) (digits_decimal own n (omega arith)) ∙ ap Some (digits_value-decimal own n (omega arith))

-- the text of a number is read as it
pub number_of-decimal : (n : ℕ) → n < 2 ^ 32 → number_of (decimal n) ≡ Some n
unfolding number_of
number_of-decimal n small =
    let below : nat_lt n (2 ^ 32) ≡ true = grind (arith, nat_tests) in
    ap (λ b. cond b (option_and_then (λ m. when (nat_lt m (2 ^ 32)) m) (digits_number (decimal n))) None) (short-decimal n small)
    ∙ ap (λ o. option_and_then (λ m. when (nat_lt m (2 ^ 32)) m) o) (digits_number-decimal n small)
    ∙ ap (λ b. cond b (Some n) None) below

when_some : (b : Bool) (m n : ℕ) → when b m ≡ Some n → (b ≡ true) × (m ≡ n)
when_some true m n h = (refl, cc)
when_some false m n h = cc

digits_parts : (bytes : List ℕ) (n : ℕ) → digits_number bytes ≡ Some n → (all_ascii_digits bytes ≡ true) × (digits_value 10 bytes ≡ n)
unfolding digits_number
digits_parts bytes n h = when_some (all_ascii_digits bytes) (digits_value 10 bytes) n h

number_parts : (b : Bool) (o : Option ℕ) (n : ℕ) → cond b (option_and_then (λ m. when (nat_lt m (2 ^ 32)) m) o) None ≡ Some n → (b ≡ true) × (o ≡ Some n) × (nat_lt n (2 ^ 32) ≡ true)
number_parts false o n h = cc
number_parts true None n h = cc
number_parts true (Some m) n h =
    let p = when_some (nat_lt m (2 ^ 32)) m n h in
    (refl, ap Some p.1, subst (λ (k : ℕ). nat_lt k (2 ^ 32) ≡ true) p.1 p.0)

short_parts : (bytes : List ℕ) → is_short bytes ≡ true → (0 < length bytes) × (get_or bytes 0 0 ≡ 48 → length bytes ≡ 1)
short_parts bytes h = (grind (arith, nat_tests), λ zero. grind (arith, nat_tests))

-- and what is read as a number is its text
pub decimal-number_of : (bytes : List ℕ) (n : ℕ) → number_of bytes ≡ Some n → (bytes ≡ decimal n) × (n < 2 ^ 32)
unfolding number_of
decimal-number_of bytes n h =
    let p = number_parts (is_short bytes) (digits_number bytes) n h in
    let d = digits_parts bytes n p.1 in
    let s = short_parts bytes p.0 in
    let below : n < 2 ^ 32 = grind (arith, nat_tests) in
    (sym (decimal-digits_value own bytes d.0 s.0 s.1 (omega (arith, d.1))) ∙ ap decimal d.1, below)
