-- The order of companies, and of cycles by company.
use Rattle.std.proofs.Common.{◌≡◌, ℕ, true, false, List, refl, ap, arith}
use Rattle.std.specs.declared.cmp.Ordering.{Ordering}
use Rattle.std.proofs.Common.{Less, Equal, Greater}
use Rattle.std.specs.Ordering.{ordering_then, nat_cmp, is_lt, is_eq, is_gt, ordering_reverse}
use Rattle.std.specs.Cmp.Lexicographic.{slice_cmp}
use Rattle.std.proofs.lemmas.Cmp.{nat_list_cmp_total, upto}
use Rattle.std.proofs.lemmas.Map.Lookups.{exact_bytes}
use Rattle.sequence_once.specs.KeptCycles.{CycleRecord, company_order, cycle_order}

abbrev pub by_bytes : List ℕ → List ℕ → Ordering
by_bytes = slice_cmp nat_cmp

pub reversed : (x y : List ℕ) → by_bytes x y ≡ ordering_reverse (by_bytes y x)
reversed = nat_list_cmp_total.antisymm

pub same_company : (x y : List ℕ) → by_bytes x y ≡ Equal → x ≡ y
same_company = exact_bytes

pub less_less : (x y z : List ℕ) → by_bytes x y ≡ Less → by_bytes y z ≡ Less → by_bytes x z ≡ Less
less_less = nat_list_cmp_total.trans

pub lt_is : (o : Ordering) → is_lt o ≡ true → o ≡ Less
lt_is Less h = refl
lt_is Equal h = cc
lt_is Greater h = cc

pub eq_is : (o : Ordering) → is_eq o ≡ true → o ≡ Equal
eq_is Less h = cc
eq_is Equal h = refl
eq_is Greater h = cc

pub gt_is : (o : Ordering) → is_gt o ≡ true → o ≡ Greater
gt_is Less h = cc
gt_is Equal h = cc
gt_is Greater h = refl

pub greater_back : (x y : List ℕ) → by_bytes x y ≡ Greater → by_bytes y x ≡ Less
greater_back x y h = grind (arith, reversed y x)

first_not_above : (o t : Ordering) → ordering_then o t ≡ Less → is_gt o ≡ false
first_not_above Less t h = refl
first_not_above Equal t h = refl
first_not_above Greater t h = cc

-- what stands before has no greater company
pub not_above : (x y : CycleRecord) → cycle_order x y ≡ Less → is_gt (company_order x y.company) ≡ false
not_above x y h = first_not_above _ _ h

greater_from : (o u : Ordering) → o ≡ Greater → (is_gt u ≡ false → is_gt o ≡ false) → u ≡ Greater
greater_from o Less h f = absurd (let e : is_gt o ≡ false = f refl in let g : is_gt o ≡ true = ap is_gt h in cc)
greater_from o Equal h f = absurd (let e : is_gt o ≡ false = f refl in let g : is_gt o ≡ true = ap is_gt h in cc)
greater_from o Greater h f = refl

-- behind a cycle of a company, or of one after it, none is of a company before
pub none_below : (x y : CycleRecord) (c : List ℕ) → cycle_order x y ≡ Less → is_lt (company_order x c) ≡ false → is_lt (company_order y c) ≡ false
none_below x y c h k =
    let a : is_gt (by_bytes c y.company) ≡ false = upto nat_list_cmp_total c x.company y.company (grind (arith, reversed c x.company, k)) (not_above x y h) in
    grind (arith, reversed y.company c)

-- behind a cycle of a company after it, all are of companies after it
pub all_above : (x y : CycleRecord) (c : List ℕ) → cycle_order x y ≡ Less → company_order x c ≡ Greater → company_order y c ≡ Greater
all_above x y c h k = greater_from _ _ k (λ e. upto nat_list_cmp_total x.company y.company c (not_above x y h) e)
