-- Digits, and the number that they spell.
use Rattle.std.proofs.Common.{◌≡◌, ℕ, ◌+◌, ◌^◌, ◌<◌, ◌≤◌, Bool, true, false, cond, ◌&&◌, List, [], ◌∷◌, length, take, get_or, refl, ap, ◌∙◌, arith, zero, suc, Some, None, subst}
use Rattle.std.specs.Char.{is_ascii_digit, digit_value}
use Rattle.std.specs.Str.{all_ascii_digits}
use Rattle.std.specs.Str.Parse.{digits_value, AllDigits}
use Rattle.std.proofs.lemmas.Str.Parse.{IsNumeralModel, numerals_by_value, tells_all_ascii_digits}
use Rattle.std.proofs.Math.Nat.{pow-le-pow_right}
use Rattle.std.proofs.lemmas.List.{length-take-le, take_all}
use Rattle.std.proofs.lemmas.Int.Digits.{digits_value-lt}
use Rattle.std.proofs.lemmas.Str.{digit_value_digit}
use Rattle.ali_base.specs.Digits.{digits_number}

pub own : IsNumeralModel (λ ds. all_ascii_digits ds ≡ true) (digits_value 10)
own = numerals_by_value _ tells_all_ascii_digits

and-false : (b : Bool) → (b && false) ≡ false
and-false true = refl
and-false false = refl

pub other_at : (bs : List ℕ) (i : ℕ) → i < length bs → is_ascii_digit (get_or bs i 0) ≡ false → all_ascii_digits bs ≡ false
other_at [] i h e = absurd (omega arith)
other_at (x ∷ xs) zero h e = ap (λ b. b && all_ascii_digits xs) e
other_at (x ∷ xs) (suc i) h e = ap (λ b. is_ascii_digit x && b) (other_at xs i (omega arith) e) ∙ and-false (is_ascii_digit x)

pub digits_number-none : (bs : List ℕ) (i : ℕ) → i < length bs → is_ascii_digit (get_or bs i 0) ≡ false → digits_number bs ≡ None
unfolding digits_number
digits_number-none bs i h e = ap (λ b. cond b (Some (digits_value 10 bs)) None) (other_at bs i h e)

pub digits_number-some : (bs : List ℕ) → AllDigits 10 bs → digits_number bs ≡ Some (digits_value 10 bs)
unfolding digits_number
digits_number-some bs h = ap (λ b. cond b (Some (digits_value 10 bs)) None) (own.from bs h)

-- up to eighteen digits
pub below_power : (bs : List ℕ) (i : ℕ) → i ≤ length bs → i ≤ 18 → AllDigits 10 (take i bs) → digits_value 10 (take i bs) < 10 ^ 18
below_power bs i inside le h =
    let P : ℕ → Type 0 = λ k. digits_value 10 (take i bs) < 10 ^ k in
    let lt : digits_value 10 (take i bs) < 10 ^ i = subst P (length-take-le i bs inside) (digits_value-lt 10 (take i bs) h) in
    let up : 10 ^ i ≤ 10 ^ 18 = pow-le-pow_right {n = 10} (omega arith) {i = i} {j = 18} le in
    omega arith

pub digit_here : (bs : List ℕ) (i : ℕ) → is_ascii_digit (get_or bs i 0) ≡ true → (digit_value (get_or bs i 0) + 48 ≡ get_or bs i 0) × (digit_value (get_or bs i 0) < 10)
digit_here bs i h =
    let parts = tells_all_ascii_digits.parts (get_or bs i 0) [] (ap (λ b. b && true) h) in
    let value = digit_value_digit (get_or bs i 0) parts.0 in
    (value, omega arith)

pub all_taken : (bs : List ℕ) (i : ℕ) → length bs ≤ i → AllDigits 10 (take i bs) → (AllDigits 10 bs) × (digits_value 10 (take i bs) ≡ digits_value 10 bs)
all_taken bs i le h =
    let whole : take i bs ≡ bs = take_all i bs le in
    (subst (AllDigits 10) whole h, ap (digits_value 10) whole)
