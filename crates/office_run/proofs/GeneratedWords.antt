-- What words that are of the form `generate DIR SEED COUNT` say of the count.
use Rattle.std.proofs.Common.{◌≡◌, ℕ, ◌+◌, ◌-◌, ◌^◌, ◌≤◌, Bool, true, false, ◌&&◌, nat_le, nat_lt, if◌then◌else◌, List, [], ◌∷◌, Option, Some, None, refl, sym, ◌∙◌, ap, subst, arith}
use Rattle.std.specs.Prelude.{unwrap_or}
use Rattle.std.proofs.lemmas.Bool.Decides.{nat_tests}
use Rattle.std.specs.Str.Parse.{digits_value}
use Rattle.ali_base.specs.Steps.{◌>>=◌, when}
use Rattle.office_words.specs.Numbers.{is_number, number_up_to}
use Rattle.office_words.specs.Words.{form_of, generated, is_format, is_generate, is_run}
use Rattle.office_words.specs.declared.form.Form.{Form}
use Rattle.office_words.specs.declared.form.Form.TheVariants.{Format, Generate, Run}
use Rattle.office_words.specs.declared.form.TheConstants.{MOST_RECORDS}

when_is : {A : Type 0} (b : Bool) (x y : A) → when b x ≡ Some y → (b ≡ true) × (x ≡ y)
when_is true x y is = (refl, ap (λ o. unwrap_or o x) is)
when_is false x y is = absurd (cc is)

second : (a b : Bool) → (a && b) ≡ true → b ≡ true
second true b is = is
second false b is = absurd (cc is)

below : (a b : ℕ) → nat_lt a b ≡ true → a + 1 ≤ b
below a b is = grind (arith, nat_tests)

up_to : (a b : ℕ) → nat_le a b ≡ true → a ≤ b
up_to a b is = grind (arith, nat_tests)

abbrev count_in : Form → ℕ
count_in Run = 0
count_in Format = 0
count_in (Generate seed count) = count

abbrev seed_in : Form → ℕ
seed_in Run = 0
seed_in Format = 0
seed_in (Generate seed count) = seed

-- a form tells its numbers
pub same_numbers : (form : Option Form) (s n t m : ℕ) → form ≡ Some (Generate s n) → form ≡ Some (Generate t m) → (s ≡ t) × (n ≡ m)
same_numbers form s n t m one other =
    let both = sym one ∙ other in
    (ap (λ o. seed_in (unwrap_or o Run)) both, ap (λ o. count_in (unwrap_or o Run)) both)

of_numbers : (x y : Option ℕ) (s n : ℕ) → (x >>= λ a. y >>= λ b. when (nat_lt 0 b) (Generate a b)) ≡ Some (Generate s n) → (y ≡ Some n) × (nat_lt 0 n ≡ true)
of_numbers None y s n is = absurd (cc is)
of_numbers (Some a) None s n is = absurd (cc is)
of_numbers (Some a) (Some b) s n is =
    let found = when_is (nat_lt 0 b) (Generate a b) (Generate s n) is in
    let same : b ≡ n = ap count_in found.1 in
    (ap Some same, subst (λ z. nat_lt 0 z ≡ true) same found.0)

of_words : (words : List (List ℕ)) (s n : ℕ) → generated words ≡ Some (Generate s n) → (1 ≤ n) × (n ≤ MOST_RECORDS)
of_words [] s n is = absurd (cc is)
of_words (a ∷ []) s n is = absurd (cc is)
of_words (a ∷ b ∷ []) s n is = absurd (cc is)
of_words (a ∷ b ∷ c ∷ []) s n is = absurd (cc is)
of_words (a ∷ b ∷ c ∷ d ∷ []) s n is =
    let found = of_numbers (number_up_to (2 ^ 64 - 1) c) (number_up_to MOST_RECORDS d) s n is in
    let value = digits_value 10 d in
    let within = when_is (is_number d && nat_le value MOST_RECORDS) value n found.0 in
    (below 0 n found.1, omega (arith, up_to value MOST_RECORDS (second (is_number d) (nat_le value MOST_RECORDS) within.0), within.1))
of_words (a ∷ b ∷ c ∷ d ∷ e ∷ more) s n is = absurd (cc is)

picked : (a b c : Bool) (o : Option Form) (s n : ℕ) → (if a then Some Run else if b then Some Format else if c then o else None) ≡ Some (Generate s n) → o ≡ Some (Generate s n)
picked true b c o s n is = absurd (cc is)
picked false true c o s n is = absurd (cc is)
picked false false true o s n is = is
picked false false false o s n is = absurd (cc is)

-- from 1 to the most
pub count_within : (words : List (List ℕ)) (s n : ℕ) → form_of words ≡ Some (Generate s n) → (1 ≤ n) × (n ≤ MOST_RECORDS)
count_within words s n is = of_words words s n (picked (is_run words) (is_format words) (is_generate words) (generated words) s n is)
