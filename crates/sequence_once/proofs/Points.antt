-- Where a test stops passing in a list in order: how many cycles are of the companies before one, and through it.
use Rattle.std.proofs.Common.{◌≡◌, ℕ, suc, zero, ◌+◌, ◌<◌, ◌≤◌, Bool, true, false, List, [], ◌∷◌, length, get_or, refl, ap, sym, ◌∙◌, arith, ◌⊎◌, inl, inr, Less, Equal, Greater}
use Rattle.std.specs.List.{filter}
use Rattle.std.specs.List.Sorted.{IsStrictlySortedBy, IsPartitionedBy, IsPartitionPoint}
use Rattle.std.specs.declared.cmp.Ordering.{Ordering}
use Rattle.std.specs.Ordering.{is_lt, is_le}
use Rattle.std.proofs.lemmas.Bool.{cases_lt}
use Rattle.std.proofs.lemmas.Map.Keys.{Less-from_sorted}
use Rattle.sequence_once.specs.KeptCycles.{CycleRecord, company_order, cycle_order, of_company, before_company}
use Rattle.sequence_once.proofs.Order.{none_below, all_above}

module _ {X : Type 0} (p : X → Bool) where
  -- the partition point of a test is the length of the filtered list
  pub point_counts : (xs : List X) (i : ℕ) → i ≤ length xs → IsPartitionPoint (λ x. p x ≡ true) (λ x. p x ≡ false) xs i → i ≡ length (filter p xs)
  point_counts [] i bound point = omega (arith, bound)
  point_counts (x ∷ xs) zero bound point =
      let fails : p x ≡ false = point.1 0 x (omega arith) (omega arith) in
      rw fails (point_counts xs zero (omega arith) ((λ k d a b. absurd (omega (arith, b))), λ k d a l. point.1 (suc k) d (omega arith) (omega (arith, l))))
  point_counts (x ∷ xs) (suc i) bound point =
      let passes : p x ≡ true = point.0 0 x (omega arith) (omega arith) in
      rw passes (ap suc (point_counts xs i (omega (arith, bound)) ((λ k d a l. point.0 (suc k) d (omega arith) (omega (arith, l))), λ k d a l. point.1 (suc k) d (omega (arith, a)) (omega (arith, l)))))

  -- a list in order is parted by a test that passes for nothing behind what it fails for
  pub sorted_parted : (R : X → X → Ordering) → ((x y : X) → R x y ≡ Less → p x ≡ false → p y ≡ false) → (xs : List X) → IsStrictlySortedBy R xs → IsPartitionedBy p xs
  sorted_parted R stays xs sorted i j d le lt passes = by_place (cases_lt i j)
    where
      at : (b : Bool) → p (get_or xs i d) ≡ b → i < j → b ≡ true
      at true e l = refl
      at false e l = absurd (let fails = stays _ _ (Less-from_sorted R xs i j d sorted l lt) e in let no : false ≡ true = sym fails ∙ passes in cc)

      by_place : (i < j) ⊎ (j ≤ i) → p (get_or xs i d) ≡ true
      by_place (inl l) = at _ refl l
      by_place (inr g) = let same : i ≡ j = omega (arith, le, g) in rw same passes

not_lt_or_eq : (o : Ordering) → is_le o ≡ false → o ≡ Greater
not_lt_or_eq Less e = cc
not_lt_or_eq Equal e = cc
not_lt_or_eq Greater e = refl

module _ (c : List ℕ) (xs : List CycleRecord) where
  -- the companies before this one and this one itself
  pub through_both : length (filter (λ k. is_le (company_order k c)) xs) ≡ length (before_company c xs) + length (of_company c xs)
  through_both = count xs
    where
      step : (x : CycleRecord) (ys : List CycleRecord) (o : Ordering) → company_order x c ≡ o → length (filter (λ k. is_le (company_order k c)) ys) ≡ length (before_company c ys) + length (of_company c ys) → length (filter (λ k. is_le (company_order k c)) (x ∷ ys)) ≡ length (before_company c (x ∷ ys)) + length (of_company c (x ∷ ys))
      step x ys Less e rest = rw e (omega (arith, rest))
      step x ys Equal e rest = rw e (omega (arith, rest))
      step x ys Greater e rest = rw e rest

      count : (ys : List CycleRecord) → length (filter (λ k. is_le (company_order k c)) ys) ≡ length (before_company c ys) + length (of_company c ys)
      count [] = refl
      count (x ∷ ys) = step x ys _ refl (count ys)

  pub before_parted : IsStrictlySortedBy cycle_order xs → IsPartitionedBy (λ k. is_lt (company_order k c)) xs
  before_parted sorted = sorted_parted _ cycle_order (λ x y l e. none_below x y c l e) xs sorted

  pub through_parted : IsStrictlySortedBy cycle_order xs → IsPartitionedBy (λ k. is_le (company_order k c)) xs
  through_parted sorted = sorted_parted _ cycle_order (λ x y l e. ap is_le (all_above x y c l (not_lt_or_eq _ e))) xs sorted
