-- Steps that may give nothing.
use Rattle.std.proofs.Common.{◌≡◌, ◌⊎◌, inl, inr, Bool, true, false, cond, Option, Some, refl, ap, ℕ, ◌≤◌, nat_le, arith}
use Rattle.std.proofs.lemmas.Bool.Decides.{nat_tests}
use Rattle.std.proofs.lemmas.Option.{cond_some}
use Rattle.ali_base.specs.Steps.{when}
use Rattle.office_entry.specs.Edits.{small_number}
use Rattle.office_entry.specs.declared.edit.TheConstants.{HIGHEST_SENT}

pub when_true : {A : Type 0} (b : Bool) (x : A) → b ≡ true → when b x ≡ Some x
when_true b x h = ap (λ z. when z x) h

-- which of two gave it
pub choose : {A : Type 0} (b : Bool) (x y : Option A) (e : A) → cond {A = Option A} b x y ≡ Some e → ((b ≡ true) × (x ≡ Some e)) ⊎ ((b ≡ false) × (y ≡ Some e))
choose true x y e h = inl (refl, h)
choose false x y e h = inr (refl, h)

pub small_is : (n m : ℕ) → small_number n ≡ Some m → (n ≡ m) × (m ≤ HIGHEST_SENT)
small_is n m h =
    let w = cond_some (nat_le n HIGHEST_SENT) n m h in
    let test : nat_le n HIGHEST_SENT ≡ true = w.0 in
    let le : n ≤ HIGHEST_SENT = grind (arith, nat_tests) in
    (w.1, omega (arith, w.1))

pub small_again : (n : ℕ) → n ≤ HIGHEST_SENT → small_number n ≡ Some n
small_again n h = let test : nat_le n HIGHEST_SENT ≡ true = grind (arith, nat_tests) in when_true (nat_le n HIGHEST_SENT) n test
