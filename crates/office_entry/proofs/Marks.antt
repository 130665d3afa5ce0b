-- Fields between marks.
use Rattle.std.proofs.Common.{◌≡◌, ℕ, ◌≤◌, true, cond, List, ◌∷◌, ◌++◌, length, ap, ◌∙◌, arith, Some, None, nat_le}
use Rattle.std.proofs.lemmas.Bool.Decides.{nat_tests}
use Rattle.text_line.specs.WordReading.{split_once}
use Rattle.text_line.proofs.Splits.{Clear, split_again, split_is}
use Rattle.office_entry.specs.EditReading.{field_at}
use Rattle.std.proofs.lemmas.Option.{cond_some}
use Rattle.ali_base.proofs.Steps.{bind_ok, bind_some}
use Rattle.office_entry.proofs.Options.{when_true}

pub field_is : (width : ℕ) (bytes : List ℕ) (x : List ℕ × List ℕ) → field_at width bytes ≡ Some x → (bytes ≡ x.0 ++ 124 ∷ x.1) × (length x.0 ≤ width)
unfolding field_at
field_is width bytes x h =
    let a = bind_ok (split_once 124 bytes) (λ field. cond (nat_le (length field.0) width) (Some field) None) x h in
    let w = cond_some (nat_le (length a.0.0) width) a.0 x a.2 in
    let test : nat_le (length a.0.0) width ≡ true = w.0 in
    let le : length a.0.0 ≤ width = grind (arith, nat_tests) in
    let same : length a.0.0 ≡ length x.0 = ap (λ (p : List ℕ × List ℕ). length p.0) w.1 in
    (split_is 124 bytes a.0 a.1 ∙ ap (λ (p : List ℕ × List ℕ). p.0 ++ 124 ∷ p.1) w.1, omega (arith, same, le))

pub field_again : (width : ℕ) (w r : List ℕ) → Clear 124 w → length w ≤ width → field_at width (w ++ 124 ∷ r) ≡ Some (w, r)
unfolding field_at
field_again width w r clear le =
    let test : nat_le (length w) width ≡ true = grind (arith, nat_tests) in
    bind_some (split_once 124 (w ++ 124 ∷ r)) (w, r) (λ field. cond (nat_le (length field.0) width) (Some field) None) (Some (w, r)) (split_again 124 w r clear) (when_true (nat_le (length w) width) (w, r) test)
