-- Lists: what holds of each element, and what filters keep.
use Rattle.std.proofs.Common.{◌≡◌, Bool, true, false, List, [], ◌∷◌, ◌++◌, refl, ap, arith}
use Rattle.std.specs.List.{filter, AllByRecursion}
use Rattle.std.specs.List.Sorted.{IsStrictlySortedBy}
use Rattle.std.specs.declared.cmp.Ordering.{Ordering}
use Rattle.std.proofs.Common.{Less}
use Rattle.std.proofs.lemmas.List.Elements.{recursion_from_All, filter_passes}

module _ {X : Type 0} where
  pub each_weaker : (P Q : X → Type 0) → ((x : X) → P x → Q x) → (xs : List X) → AllByRecursion P xs → AllByRecursion Q xs
  each_weaker P Q w [] h = tt
  each_weaker P Q w (x ∷ xs) h = (w x h.0, each_weaker P Q w xs h.1)

  pub each_append : (P : X → Type 0) (xs ys : List X) → AllByRecursion P xs → AllByRecursion P ys → AllByRecursion P (xs ++ ys)
  each_append P [] ys h k = k
  each_append P (x ∷ xs) ys h k = (h.0, each_append P xs ys h.1 k)

  pub each_passes : (p : X → Bool) (xs : List X) → AllByRecursion (λ x. p x ≡ true) (filter p xs)
  each_passes p xs = recursion_from_All _ _ (filter_passes p xs)

  pub filter_none : (p : X → Bool) (xs : List X) → AllByRecursion (λ x. p x ≡ false) xs → filter p xs ≡ []
  filter_none p [] h = refl
  filter_none p (x ∷ xs) h = rw h.0 (filter_none p xs h.1)

  pub filter_all : (p : X → Bool) (xs : List X) → AllByRecursion (λ x. p x ≡ true) xs → filter p xs ≡ xs
  filter_all p [] h = refl
  filter_all p (x ∷ xs) h = rw h.0 (ap (λ ys. x ∷ ys) (filter_all p xs h.1))

  -- a filter after a wider one
  pub filter_wider : (p q : X → Bool) → ((x : X) → p x ≡ true → q x ≡ true) → (xs : List X) → filter p (filter q xs) ≡ filter p xs
  filter_wider p q wider [] = refl
  filter_wider p q wider (x ∷ xs) = grind (arith, wider x, filter_wider p q wider xs)

  -- each of the first stands before each of the second
  pub sorted_append : (R : X → X → Ordering) (xs ys : List X) → IsStrictlySortedBy R xs → IsStrictlySortedBy R ys → AllByRecursion (λ x. AllByRecursion (λ y. R x y ≡ Less) ys) xs → IsStrictlySortedBy R (xs ++ ys)
  unfolding IsStrictlySortedBy
  sorted_append R [] ys h k c = k
  sorted_append R (x ∷ xs) ys h k c = (each_append _ xs ys h.0 c.0, sorted_append R xs ys h.1 k c.1)

  pub each_pair : (P Q : X → Type 0) (R : X → X → Type 0) → ((x y : X) → P x → Q y → R x y) → (xs ys : List X) → AllByRecursion P xs → AllByRecursion Q ys → AllByRecursion (λ x. AllByRecursion (R x) ys) xs
  each_pair P Q R rel [] ys h k = tt
  each_pair P Q R rel (x ∷ xs) ys h k = (each_weaker Q (R x) (λ y. rel x y h.0) ys k, each_pair P Q R rel xs ys h.1 k)
