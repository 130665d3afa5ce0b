-- Numbers in decimal digits, as `parse` reads them.
use Rattle.std.proofs.Common.{◌≡◌, ◌≢◌, ◌∙◌, ℕ, ◌^◌, ◌<◌, inl, inr, true, not, nat_eq, nat_le, ◌&&◌, refl, ap, sym, arith, List, [], ◌∷◌, length, slice_index, slice_index_or, None, Err}
use Rattle.std.specs.Char.{is_ascii_digit}
use Rattle.std.specs.List.{list_all}
use Rattle.std.specs.Str.{all_ascii_digits}
use Rattle.std.specs.Str.Parse.{ParsesUnsigned, digits_value}
use Rattle.std.proofs.lemmas.Bool.{and_parts, cases_lt, lt-leb, ne_eqb, true≢false}
use Rattle.std.proofs.lemmas.Str.Parse.{IsNumeralModel, numerals_by_value, parse_digits, tells_all_ascii_digits}
use Rattle.ali_base.specs.Steps.{when}
use Rattle.office_words.specs.Numbers.{is_number, number_up_to}

own : IsNumeralModel (λ ds. all_ascii_digits ds ≡ true) (digits_value 10)
own = numerals_by_value _ tells_all_ascii_digits

digits : (text : List ℕ) → list_all is_ascii_digit text ≡ all_ascii_digits text
digits [] = refl
digits (d ∷ ds) = ap (λ b. is_ascii_digit d && b) (digits ds)

number_digits : (text : List ℕ) → is_number text ≡ true → all_ascii_digits text ≡ true
number_digits text h =
    let outer = and_parts _ _ h in
    let inner = and_parts _ _ outer.0 in
    sym (digits text) ∙ inner.1

number_long : (text : List ℕ) → is_number text ≡ true → 0 < length text
number_long [] h = absurd (true≢false (sym h))
number_long (d ∷ ds) h = omega arith

-- the first digit is no 0
pub number_begins : (text : List ℕ) → 0 < length text → list_all is_ascii_digit text ≡ true → slice_index text 0 ≢ 48 → not (nat_eq (slice_index_or text 0 0) 48) ≡ is_number text
number_begins [] some all other = absurd (omega arith)
number_begins (d ∷ ds) some all other = rw (all, ne_eqb d 48 other) refl

module _ {E : Type 0} (most : ℕ) (text : List ℕ) (number : is_number text ≡ true) where
  pub refused : (e : E) → ParsesUnsigned {E = E} 64 10 text (Err e) → most < 2 ^ 64 → number_up_to most text ≡ None
  refused e h low =
      let large = parse_digits own {E = E} 64 text (Err e) h (number_digits text number) in
      elim (cases_lt (digits_value 10 text) (2 ^ 64)) [
        | inl small ↦ absurd (large (number_long text number, small))
        | inr above ↦
            ap (λ b. when (b && nat_le (digits_value 10 text) most) (digits_value 10 text)) number
            ∙ ap (λ b. when b (digits_value 10 text)) (lt-leb (digits_value 10 text) most (omega arith))
      ]
