-- The cycles of one company among the kept cycles.
use Rattle.std.proofs.Common.{◌≡◌, ℕ, ◌+◌, ◌<◌, zero-add, ◌==◌, Bool, true, false, not, List, [], ◌∷◌, ◌++◌, length, append-nil, refl, ap, sym, subst, ◌∙◌, arith, Less, Equal, Greater, if◌then◌else◌, ◌⊎◌, inl, inr}
use Rattle.std.specs.List.{AllByRecursion}
use Rattle.std.specs.List.Sorted.{IsStrictlySortedBy}
use Rattle.std.specs.declared.cmp.Ordering.{Ordering}
use Rattle.std.specs.Ordering.{is_lt, is_eq, is_gt}
use Rattle.std.proofs.lemmas.List.Elements.{filter-append}
use Rattle.std.proofs.lemmas.Bool.Decides.{nat_tests}
use Rattle.std.proofs.lemmas.List.Kept.{IsStrictlySortedBy-filter}
use Rattle.sequence_once.specs.KeptCycles.{CycleRecord, company_order, cycle_order, of_company, before_company, after_company, with_company, is_known, known_companies}
use Rattle.sequence_once.proofs.Lists.{each_weaker, each_passes, each_append, filter_none, filter_all, filter_wider, sorted_append, each_pair}
use Rattle.sequence_once.proofs.Order.{by_bytes, reversed, same_company, less_less, lt_is, eq_is, gt_is, greater_back, none_below, all_above}

-- each of these cycles is of the company
abbrev pub AllOf : List ℕ → List CycleRecord → Type 0
AllOf c cycles = AllByRecursion (λ k. company_order k c ≡ Equal) cycles

pub all_of_company : (c : List ℕ) (xs : List CycleRecord) → AllOf c (of_company c xs)
all_of_company c xs = each_weaker _ _ (λ k h. eq_is _ h) _ (each_passes _ xs)

pub all_before : (c : List ℕ) (xs : List CycleRecord) → AllByRecursion (λ k. company_order k c ≡ Less) (before_company c xs)
all_before c xs = each_weaker _ _ (λ k h. lt_is _ h) _ (each_passes _ xs)

pub all_after : (c : List ℕ) (xs : List CycleRecord) → AllByRecursion (λ k. company_order k c ≡ Greater) (after_company c xs)
all_after c xs = each_weaker _ _ (λ k h. gt_is _ h) _ (each_passes _ xs)

-- behind a cycle that is not of a company before, none is
nothing_below : (x : CycleRecord) (xs : List CycleRecord) (c : List ℕ) → AllByRecursion (λ y. cycle_order x y ≡ Less) xs → is_lt (company_order x c) ≡ false → before_company c xs ≡ []
nothing_below x xs c h k = filter_none _ xs (each_weaker _ _ (λ y e. none_below x y c e k) xs h)

-- behind a cycle of a company after it, none is of the company
nothing_of : (x : CycleRecord) (xs : List CycleRecord) (c : List ℕ) → AllByRecursion (λ y. cycle_order x y ≡ Less) xs → company_order x c ≡ Greater → of_company c xs ≡ []
nothing_of x xs c h k = filter_none _ xs (each_weaker _ _ (λ y e. ap is_eq (all_above x y c e k)) xs h)

split_step : (c : List ℕ) (x : CycleRecord) (xs : List CycleRecord) → AllByRecursion (λ y. cycle_order x y ≡ Less) xs → xs ≡ with_company c (of_company c xs) xs → (o : Ordering) → company_order x c ≡ o → x ∷ xs ≡ with_company c (of_company c (x ∷ xs)) (x ∷ xs)
split_step c x xs behind rest Less e = rw e (ap (λ ys. x ∷ ys) rest)
split_step c x xs behind rest Equal e =
    let none : before_company c xs ≡ [] = nothing_below x xs c behind (ap is_lt e) in
    let same : xs ≡ of_company c xs ++ after_company c xs = rw none at rest in
    rw (e, none) (ap (λ ys. x ∷ ys) same)
split_step c x xs behind rest Greater e =
    let none : before_company c xs ≡ [] = nothing_below x xs c behind (ap is_lt e) in
    let no : of_company c xs ≡ [] = nothing_of x xs c behind e in
    let same : xs ≡ after_company c xs = rw (none, no) at rest in
    rw (e, none, no) (ap (λ ys. x ∷ ys) same)

-- a list in order is the companies before, the company, and the companies after
pub split : (c : List ℕ) (xs : List CycleRecord) → IsStrictlySortedBy cycle_order xs → xs ≡ with_company c (of_company c xs) xs
unfolding IsStrictlySortedBy
split c [] sorted = refl
split c (x ∷ xs) sorted = split_step c x xs sorted.0 (split c xs sorted.1) (company_order x c) refl

-- cycles whose companies all stand otherwise to c than by the test are left out
module _ (c : List ℕ) where
  of_before : (xs : List CycleRecord) → of_company c (before_company c xs) ≡ []
  of_before xs = filter_none _ _ (each_weaker _ _ (λ k h. ap is_eq h) _ (all_before c xs))

  of_after : (xs : List CycleRecord) → of_company c (after_company c xs) ≡ []
  of_after xs = filter_none _ _ (each_weaker _ _ (λ k h. ap is_eq h) _ (all_after c xs))

  of_own : (cycles : List CycleRecord) → AllOf c cycles → of_company c cycles ≡ cycles
  of_own cycles h = filter_all _ _ (each_weaker _ _ (λ k e. ap is_eq e) _ h)

  -- the company then has these cycles
  pub of_with_same : (cycles xs : List CycleRecord) → AllOf c cycles → of_company c (with_company c cycles xs) ≡ cycles
  of_with_same cycles xs h = rw (filter-append, filter-append, of_before xs, of_after xs, of_own cycles h) (append-nil cycles)

-- any other company keeps its cycles
module _ (c d : List ℕ) where
  pub of_other : by_bytes c d ≡ Less ⊎ by_bytes c d ≡ Greater → (cycles : List CycleRecord) → AllOf c cycles → of_company d cycles ≡ []
  of_other differ cycles h = filter_none _ _ (each_weaker _ _ (λ k e. not_equal k (same_company _ _ e)) _ h)
    where
      not_equal : (k : CycleRecord) → k.company ≡ c → is_eq (company_order k d) ≡ false
      not_equal k e = rw e (elim differ [ inl l ↦ ap is_eq l | inr g ↦ ap is_eq g ])

  -- d stands before c
  lower_before : by_bytes d c ≡ Less → (xs : List CycleRecord) → of_company d (before_company c xs) ≡ of_company d xs
  lower_before l xs = filter_wider _ _ (λ k e. let same : k.company ≡ d = same_company _ _ (eq_is _ e) in rw same (ap is_lt l)) xs

  lower_after : by_bytes d c ≡ Less → (xs : List CycleRecord) → of_company d (after_company c xs) ≡ []
  lower_after l xs = filter_none _ _ (each_weaker _ _ (λ k e. lower k (company_order k d) refl e) _ (all_after c xs))
    where
      lower : (k : CycleRecord) (o : Ordering) → company_order k d ≡ o → company_order k c ≡ Greater → is_eq (company_order k d) ≡ false
      lower k Less e f = ap is_eq e
      lower k Equal e f = absurd (let same : k.company ≡ d = same_company _ _ e in let g : by_bytes d c ≡ Greater = rw same at f in cc)
      lower k Greater e f = ap is_eq e

  -- d stands after c
  upper_before : by_bytes d c ≡ Greater → (xs : List CycleRecord) → of_company d (before_company c xs) ≡ []
  upper_before l xs = filter_none _ _ (each_weaker _ _ (λ k e. upper k (company_order k d) refl e) _ (all_before c xs))
    where
      upper : (k : CycleRecord) (o : Ordering) → company_order k d ≡ o → company_order k c ≡ Less → is_eq (company_order k d) ≡ false
      upper k Less e f = ap is_eq e
      upper k Equal e f = absurd (let same : k.company ≡ d = same_company _ _ e in let g : by_bytes d c ≡ Less = rw same at f in cc)
      upper k Greater e f = ap is_eq e

  upper_after : by_bytes d c ≡ Greater → (xs : List CycleRecord) → of_company d (after_company c xs) ≡ of_company d xs
  upper_after l xs = filter_wider _ _ (λ k e. let same : k.company ≡ d = same_company _ _ (eq_is _ e) in rw same (ap is_gt l)) xs

  pub of_with_lower : by_bytes d c ≡ Less → (cycles xs : List CycleRecord) → AllOf c cycles → of_company d (with_company c cycles xs) ≡ of_company d xs
  of_with_lower l cycles xs h =
      let differ : by_bytes c d ≡ Greater = grind (arith, reversed c d) in
      rw (filter-append, filter-append, lower_before l xs, lower_after l xs, of_other (inr differ) cycles h) (append-nil (of_company d xs))

  pub of_with_upper : by_bytes d c ≡ Greater → (cycles xs : List CycleRecord) → AllOf c cycles → of_company d (with_company c cycles xs) ≡ of_company d xs
  of_with_upper l cycles xs h =
      let differ : by_bytes c d ≡ Less = grind (arith, reversed c d) in
      rw (filter-append, filter-append, upper_before l xs, upper_after l xs, of_other (inl differ) cycles h) refl

  -- a fact of these cycles, and of the cycles that d has, holds of the cycles that d has afterwards
  pub of_with : (P : List CycleRecord → Type 0) (cycles xs : List CycleRecord) → AllOf c cycles → P cycles → P (of_company d xs) → P (of_company d (with_company c cycles xs))
  of_with P cycles xs h new old = at (by_bytes d c) refl
    where
      at : (o : Ordering) → by_bytes d c ≡ o → P (of_company d (with_company c cycles xs))
      at Less e = subst P (sym (of_with_lower e cycles xs h)) old
      at Greater e = subst P (sym (of_with_upper e cycles xs h)) old
      at Equal e = rw (same_company d c e, of_with_same c cycles xs h) new

-- how many companies stand in two lists with no common company
known_append : (xs ys : List CycleRecord) → AllByRecursion (λ x. of_company x.company ys ≡ []) xs → known_companies (xs ++ ys) ≡ known_companies xs + known_companies ys
known_append [] ys h = sym (zero-add (known_companies ys))
known_append (x ∷ xs) ys h =
    let one : of_company x.company (xs ++ ys) ≡ of_company x.company xs = filter-append _ xs ys ∙ (rw h.0 (append-nil (of_company x.company xs))) in
    rw (ap length one) (omega (arith, known_append xs ys h.1))

some : (j : CycleRecord) (rest : List CycleRecord) → not (length (j ∷ rest) == 0) ≡ true
some j rest = grind (arith, nat_tests)

-- cycles of one company are of one company
known_own : (c : List ℕ) (k : CycleRecord) (cycles : List CycleRecord) → AllOf c (k ∷ cycles) → known_companies (k ∷ cycles) ≡ 1
known_own c k [] h = refl
known_own c k (j ∷ rest) h =
    let same : k.company ≡ c = same_company _ _ h.0 in
    let own : of_company k.company (j ∷ rest) ≡ j ∷ rest = subst (λ (d : List ℕ). of_company d (j ∷ rest) ≡ j ∷ rest) (sym same) (of_own c (j ∷ rest) h.1) in
    let known : is_known k.company (j ∷ rest) ≡ true = ap (λ (ys : List CycleRecord). not (length ys == 0)) own ∙ some j rest in
    let tail = known_own c j rest h.1 in
    ap (λ (b : Bool). (if b then 0 else 1) + known_companies (j ∷ rest)) known ∙ omega (arith, tail)

-- a cycle of the company stands before those of companies after it
own_first : (x y : CycleRecord) (c : List ℕ) → company_order x c ≡ Equal → company_order y c ≡ Greater → cycle_order x y ≡ Less
own_first x y c h k =
    let same : x.company ≡ c = same_company _ _ h in
    let l : by_bytes x.company y.company ≡ Less = rw same (greater_back y.company c k) in
    rw l refl

-- a cycle of a company before it stands before those of this and of companies after it
before_first : (x y : CycleRecord) (c : List ℕ) → company_order x c ≡ Less → is_lt (company_order y c) ≡ false → cycle_order x y ≡ Less
before_first x y c h k = at (company_order y c) refl
  where
    at : (o : Ordering) → company_order y c ≡ o → cycle_order x y ≡ Less
    at Less e = absurd (let t : is_lt (company_order y c) ≡ true = ap is_lt e in cc)
    at Equal e =
        let same : y.company ≡ c = same_company y.company c e in
        let l : by_bytes x.company y.company ≡ Less = rw same h in
        rw l refl
    at Greater e =
        let l : by_bytes x.company y.company ≡ Less = less_less x.company c y.company h (greater_back y.company c e) in
        rw l refl

-- cycles of no other company are none of this one
not_among : (x y : CycleRecord) (c : List ℕ) → company_order x c ≡ Less → is_lt (company_order y c) ≡ false → is_eq (company_order y x.company) ≡ false
not_among x y c l h = at (company_order y x.company) refl
  where
    at : (o : Ordering) → company_order y x.company ≡ o → is_eq (company_order y x.company) ≡ false
    at Less e = ap is_eq e
    at Greater e = ap is_eq e
    at Equal e = absurd (let same : y.company ≡ x.company = same_company _ _ e in let g : is_lt (by_bytes x.company c) ≡ false = rw same at h in let t : is_lt (by_bytes x.company c) ≡ true = ap is_lt l in cc)

not_own_after : (x y : CycleRecord) (c : List ℕ) → company_order x c ≡ Equal → company_order y c ≡ Greater → is_eq (company_order y x.company) ≡ false
not_own_after x y c l h = let same : x.company ≡ c = same_company _ _ l in rw same (ap is_eq h)

-- the companies are those before, this one where it has cycles, and those after
pub known_with : (c : List ℕ) (cycles xs : List CycleRecord) → AllOf c cycles → known_companies (with_company c cycles xs) ≡ known_companies (before_company c xs) + (known_companies cycles + known_companies (after_company c xs))
known_with c cycles xs own =
    let behind : AllByRecursion (λ y. is_lt (company_order y c) ≡ false) (cycles ++ after_company c xs) = each_append _ _ _ (each_weaker _ _ (λ y e. ap is_lt e) _ own) (each_weaker _ _ (λ y e. ap is_lt e) _ (all_after c xs)) in
    let first : known_companies (with_company c cycles xs) ≡ known_companies (before_company c xs) + known_companies (cycles ++ after_company c xs) = known_append _ _ (each_weaker _ _ (λ x l. filter_none _ _ (each_weaker _ _ (λ y h. not_among x y c l h) _ behind)) _ (all_before c xs)) in
    let second : known_companies (cycles ++ after_company c xs) ≡ known_companies cycles + known_companies (after_company c xs) = known_append _ _ (each_weaker _ _ (λ x l. filter_none _ _ (each_weaker _ _ (λ y h. not_own_after x y c l h) _ (all_after c xs))) _ own) in
    first ∙ ap (λ n. known_companies (before_company c xs) + n) second

-- one company more where it was new
known_replaced : (c : List ℕ) (k : CycleRecord) (cycles xs : List CycleRecord) → IsStrictlySortedBy cycle_order xs → AllOf c (k ∷ cycles) → known_companies (with_company c (k ∷ cycles) xs) ≡ known_companies xs + (if length (of_company c xs) == 0 then 1 else 0)
known_replaced c k cycles xs sorted own = at (of_company c xs) refl
  where
    new : known_companies (with_company c (k ∷ cycles) xs) ≡ known_companies (before_company c xs) + (1 + known_companies (after_company c xs))
    new = rw (known_with c (k ∷ cycles) xs own, known_own c k cycles own) refl

    old : known_companies xs ≡ known_companies (before_company c xs) + (known_companies (of_company c xs) + known_companies (after_company c xs))
    old = ap known_companies (split c xs sorted) ∙ known_with c (of_company c xs) xs (all_of_company c xs)

    at : (mine : List CycleRecord) → of_company c xs ≡ mine → known_companies (with_company c (k ∷ cycles) xs) ≡ known_companies xs + (if length (of_company c xs) == 0 then 1 else 0)
    at [] e = let n : known_companies (of_company c xs) ≡ 0 = ap known_companies e in rw e (omega (arith, new, old, n))
    at (j ∷ rest) e =
        let own_old : AllOf c (j ∷ rest) = subst (AllOf c) e (all_of_company c xs) in
        let n : known_companies (of_company c xs) ≡ 1 = ap known_companies e ∙ known_own c j rest own_old in
        let no : (length (j ∷ rest) == 0) ≡ false = grind (arith, nat_tests) in
        rw (e, no) (omega (arith, new, old, n))

pub known_some : (c : List ℕ) (cycles xs : List CycleRecord) → IsStrictlySortedBy cycle_order xs → AllOf c cycles → 0 < length cycles → known_companies (with_company c cycles xs) ≡ known_companies xs + (if length (of_company c xs) == 0 then 1 else 0)
known_some c [] xs sorted own some = absurd (omega arith)
known_some c (k ∷ rest) xs sorted own some = known_replaced c k rest xs sorted own

-- cycles of the company in order, among the others, are in order
pub sorted_with : (c : List ℕ) (cycles xs : List CycleRecord) → IsStrictlySortedBy cycle_order xs → IsStrictlySortedBy cycle_order cycles → AllOf c cycles → IsStrictlySortedBy cycle_order (with_company c cycles xs)
sorted_with c cycles xs sorted own_sorted own =
    let behind : AllByRecursion (λ y. is_lt (company_order y c) ≡ false) (cycles ++ after_company c xs) = each_append _ _ _ (each_weaker _ _ (λ y e. ap is_lt e) _ own) (each_weaker _ _ (λ y e. ap is_lt e) _ (all_after c xs)) in
    sorted_append _ _ _ (IsStrictlySortedBy-filter _ _ xs sorted)
    (sorted_append _ _ _ own_sorted (IsStrictlySortedBy-filter _ _ xs sorted) (each_pair _ _ _ (λ x y h k. own_first x y c h k) _ _ own (all_after c xs)))
    (each_pair _ _ _ (λ x y h k. before_first x y c h k) _ _ (all_before c xs) behind)
