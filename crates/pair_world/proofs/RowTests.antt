-- A row of refusals is passed exactly where the event can be done.
use Rattle.std.proofs.Common.{◌≡◌, ℕ, ◌<◌, ◌≤◌, ◌⊎◌, inl, inr, Bool, true, false, not, ◌&&◌, nat_lt, nat_le, List, [], ◌∷◌, refl, ap, sym, ◌∙◌, arith, Option, Some, None}
use Rattle.std.proofs.lemmas.Bool.Decides.{nat_tests}
use Rattle.ali_base.specs.Steps.{when}
use Rattle.ali_base.specs.declared.names.NodeName.{NodeName}
use Rattle.ali_base.specs.declared.duty.Mode.{Mode}
use Rattle.ali_base.specs.declared.duty.Mode.TheVariants.{Both, Alone}
use Rattle.pair_world.specs.Frames.{Frame}
use Rattle.pair_world.specs.World.{is_node}
use Rattle.pair_world.specs.Refusals.{Refusal, Item, Test, Next, IsRefused, IsPassed, is_alone}
use Rattle.pair_world.proofs.Terms.{same_node, node_same}
use Rattle.pair_world.proofs.Items.{some_is}

module _ {E : Type 0} (due : List E → E → Type 0) (history : List (Frame E)) where
  not_both : (told : Option Refusal) (r : Refusal) → told ≡ Some r → told ≡ None → ⊥
  not_both told r a b = absurd (let e = sym a ∙ b in cc)

  pub one_refusal : (row : List (Item E)) (r s : Refusal) → IsRefused due history row r → IsRefused due history row s → r ≡ s
  one_refusal [] r s f g = absurd f
  one_refusal (Test told ∷ row) r s (inl a) (inl b) = some_is r s (sym a ∙ b)
  one_refusal (Test told ∷ row) r s (inl a) (inr b) = absurd (not_both told r a b.0)
  one_refusal (Test told ∷ row) r s (inr a) (inl b) = absurd (not_both told s b a.0)
  one_refusal (Test told ∷ row) r s (inr a) (inr b) = one_refusal row r s a.1 b.1
  one_refusal (Next e ∷ row) r s (inl a) (inl b) = sym a.1 ∙ b.1
  one_refusal (Next e ∷ row) r s (inl a) (inr b) = absurd (a.0 b.0)
  one_refusal (Next e ∷ row) r s (inr a) (inl b) = absurd (b.0 a.0)
  one_refusal (Next e ∷ row) r s (inr a) (inr b) = one_refusal row r s a.1 b.1

  pub none_refused : (row : List (Item E)) (r : Refusal) → IsPassed due history row → IsRefused due history row r → ⊥
  none_refused [] r p f = f
  none_refused (Test told ∷ row) r p (inl a) = not_both told r a p.0
  none_refused (Test told ∷ row) r p (inr a) = none_refused row r p.1 a.1
  none_refused (Next e ∷ row) r p (inl a) = a.0 p.0
  none_refused (Next e ∷ row) r p (inr a) = none_refused row r p.1 a.1

-- a test that tells nothing does not hold
pub passed : (b : Bool) (r : Refusal) → when b r ≡ None → b ≡ false
passed false r is = refl
passed true r is = absurd (cc)

pub passes : (b : Bool) (r : Refusal) → b ≡ false → when b r ≡ None
passes b r is = ap (λ z. when z r) is

pub not_false : (b : Bool) → not b ≡ false → b ≡ true
not_false true is = refl
not_false false is = absurd (cc)

pub is_true : (b : Bool) → b ≡ true → not b ≡ false
is_true b is = ap not is

pub up_passed : (b : Bool) (r : Refusal) → when (not b) r ≡ None → b ≡ true
up_passed b r is = not_false b (passed (not b) r is)

pub up_passes : (b : Bool) (r : Refusal) → b ≡ true → when (not b) r ≡ None
up_passes b r is = passes (not b) r (is_true b is)

pub lt_passed : (m n : ℕ) (r : Refusal) → when (nat_lt m n) r ≡ None → n ≤ m
lt_passed m n r is = let e = passed (nat_lt m n) r is in grind (arith, nat_tests)

pub lt_passes : (m n : ℕ) (r : Refusal) → n ≤ m → when (nat_lt m n) r ≡ None
lt_passes m n r less = passes (nat_lt m n) r (let e = less in grind (arith, nat_tests))

pub le_passed : (m n : ℕ) (r : Refusal) → when (nat_le m n) r ≡ None → n < m
le_passed m n r is = let e = passed (nat_le m n) r is in grind (arith, nat_tests)

pub le_passes : (m n : ℕ) (r : Refusal) → n < m → when (nat_le m n) r ≡ None
le_passes m n r less = passes (nat_le m n) r (let e = less in grind (arith, nat_tests))

pub both_passed : (m : Mode) (r : Refusal) → when (is_alone m) r ≡ None → m ≡ Both
both_passed Both r is = refl
both_passed Alone r is = absurd (cc)

pub both_passes : (m : Mode) (r : Refusal) → m ≡ Both → when (is_alone m) r ≡ None
both_passes m r is = passes (is_alone m) r (ap is_alone is)

pub alone_passed : (m : Mode) (r : Refusal) → when (not (is_alone m)) r ≡ None → m ≡ Alone
alone_passed Alone r is = refl
alone_passed Both r is = absurd (cc)

pub alone_passes : (m : Mode) (r : Refusal) → m ≡ Alone → when (not (is_alone m)) r ≡ None
alone_passes m r is = passes (not (is_alone m)) r (ap (λ z. not (is_alone z)) is)

-- in duty: the holder, or in mode Both
pub in_duty_passed : (m : Mode) (n h : NodeName) (r : Refusal) → when (is_alone m && not (is_node n h)) r ≡ None → (n ≡ h) ⊎ (m ≡ Both)
in_duty_passed Both n h r is = inr refl
in_duty_passed Alone n h r is = inl (same_node n h (not_false (is_node n h) (passed (not (is_node n h)) r is)))

pub in_duty_passes : (m : Mode) (n h : NodeName) (r : Refusal) → (n ≡ h) ⊎ (m ≡ Both) → when (is_alone m && not (is_node n h)) r ≡ None
in_duty_passes Both n h r g = refl
in_duty_passes Alone n h r (inl same) = passes (not (is_node n h)) r (is_true (is_node n h) (node_same n h same))
in_duty_passes Alone n h r (inr both) = absurd (cc)

-- stored: in mode Both the acknowledged number is large enough
pub stored_passed : (m : Mode) (acked n : ℕ) (r : Refusal) → when (not (is_alone m) && nat_le acked n) r ≡ None → m ≡ Both → n < acked
stored_passed Both acked n r is both = le_passed acked n r is
stored_passed Alone acked n r is both = absurd (cc)

pub stored_passes : (m : Mode) (acked n : ℕ) (r : Refusal) → (m ≡ Both → n < acked) → when (not (is_alone m) && nat_le acked n) r ≡ None
stored_passes Both acked n r g = le_passes acked n r (g refl)
stored_passes Alone acked n r g = refl
