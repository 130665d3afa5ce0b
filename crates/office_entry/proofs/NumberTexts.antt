-- Numbers and their spelling.
use Rattle.std.proofs.Common.{◌≡◌, ℕ, ◌≤◌, inl, inr, List, [], ◌∷◌, ◌+◌, ◌==◌, ℤ, pos, negsuc, refl, ap, ◌∙◌, subst, arith, Some, None, zero, suc}
use Rattle.std.specs.Fmt.{decimal}
use Rattle.std.proofs.lemmas.Bool.Decides.{nat_tests}
use Rattle.office_entry.specs.Differences.{magnitude, negative}
use Rattle.office_entry.specs.Edits.{small_number}
use Rattle.office_entry.specs.EditText.{difference_text}
use Rattle.ali_base.proofs.Steps.{bind_ok, bind_some, some_is}
use Rattle.office_entry.proofs.Options.{choose, small_is, small_again}
use Rattle.office_entry.specs.EditReading.{small_of, difference_of}
use Rattle.office_entry.specs.declared.edit.TheConstants.{HIGHEST_SENT}
use Rattle.text_line.specs.WordReading.{number_of}
use Rattle.text_line.proofs.NumberTexts.{number_of-decimal, decimal-number_of}

pub small-small_of : (bytes : List ℕ) (n : ℕ) → small_of bytes ≡ Some n → (bytes ≡ decimal n) × (n ≤ HIGHEST_SENT)
unfolding small_of
small-small_of bytes n h =
    let a = bind_ok (number_of bytes) small_number n h in
    let s = small_is a.0 n a.2 in
    let p = decimal-number_of bytes a.0 a.1 in
    (p.0 ∙ ap decimal s.0, s.1)

pub small_of-decimal : (n : ℕ) → n ≤ HIGHEST_SENT → small_of (decimal n) ≡ Some n
unfolding small_of
small_of-decimal n h = bind_some (number_of (decimal n)) n small_number (Some n) (number_of-decimal n (omega arith)) (small_again n h)

pub difference-difference_of : (bytes : List ℕ) (d : ℤ) → difference_of bytes ≡ Some d → (bytes ≡ difference_text d) × (magnitude d ≤ HIGHEST_SENT)
unfolding difference_of
difference-difference_of [] d h = cc
difference-difference_of (sign ∷ digits) d h =
    let a = bind_ok (small_of digits) _ d h in
    let s = small-small_of digits a.0 a.1 in
    elim (choose (sign == 43) (Some (pos a.0)) _ d a.2) [
      | inl b ↦ (let same : sign ≡ 43 = grind (arith, nat_tests, b.0) in
          subst (λ (z : ℤ). (sign ∷ digits ≡ difference_text z) × (magnitude z ≤ HIGHEST_SENT)) (some_is (pos a.0) d b.1) (ap (λ z. z ∷ digits) same ∙ ap (λ z. 43 ∷ z) s.0, s.1))
      | inr b ↦ (elim (choose (sign == 45) (negative a.0) None d b.1) [
        | inl c ↦ (let same : sign ≡ 45 = grind (arith, nat_tests, c.0) in
            below a.0 d digits sign same s.0 s.1 c.1)
        | inr c ↦ absurd cc
      ])
    ]
  where
    below : (n : ℕ) (d : ℤ) (digits : List ℕ) (sign : ℕ) → sign ≡ 45 → digits ≡ decimal n → n ≤ HIGHEST_SENT → negative n ≡ Some d → (sign ∷ digits ≡ difference_text d) × (magnitude d ≤ HIGHEST_SENT)
    below zero d digits sign same text le h = cc
    below (suc n) d digits sign same text le h =
        let next : suc n ≡ n + 1 = omega arith in
        subst (λ (z : ℤ). (sign ∷ digits ≡ difference_text z) × (magnitude z ≤ HIGHEST_SENT)) (some_is (negsuc n) d h) (ap (λ z. z ∷ digits) same ∙ ap (λ z. 45 ∷ z) (text ∙ ap decimal next), omega arith)

pub difference_of-text : (d : ℤ) → magnitude d ≤ HIGHEST_SENT → difference_of (difference_text d) ≡ Some d
unfolding difference_of
difference_of-text (pos n) h = bind_some (small_of (decimal n)) n _ (Some (pos n)) (small_of-decimal n h) refl
difference_of-text (negsuc n) h =
    let next : n + 1 ≡ suc n = omega arith in
    bind_some (small_of (decimal (n + 1))) (n + 1) _ (Some (negsuc n)) (small_of-decimal (n + 1) h) (ap negative next)
