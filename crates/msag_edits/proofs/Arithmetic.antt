-- Parities, the parts of a split, and numbers with a difference added.
use Rattle.std.proofs.Common.{◌≡◌, ◌≢◌, ℕ, ◌+◌, ◌-◌, ◌<◌, ◌≤◌, ◌%◌, Bool, true, false, cond, ◌&&◌, ℤ, pos, negsuc, refl, subst, arith}
use Rattle.std.specs.Bool.{Decides}
use Rattle.std.proofs.lemmas.Bool.Decides.{nat_tests}
use Rattle.msag_ranges.specs.StreetGuide.{has_parity}
use Rattle.msag_ranges.specs.HeldNumbers.{greatest_to, least_from}
use Rattle.ali_base.specs.declared.parity.Parity.{Parity}
use Rattle.ali_base.specs.declared.parity.Parity.TheVariants.{Odd, Even, Both}
use Rattle.ali_base.specs.declared.house.TheConstants.{HIGHEST_HOUSE}
use Rattle.number_table.specs.HouseArithmetic.{added, stays_house}
use Rattle.msag_edits.specs.HouseArithmetic.{is_odd, is_one_parity}

-- a number has the parity, or the next one has
pub one_or_next : (p : Parity) (n : ℕ) → has_parity p n ≡ false → has_parity p (n + 1) ≡ true
one_or_next Odd n h = grind (arith, nat_tests)
one_or_next Even n h = grind (arith, nat_tests)
one_or_next Both n h = refl

-- the number before one that has it not
pub before : (p : Parity) (n : ℕ) → has_parity p n ≡ false → 0 < n → has_parity p (n - 1) ≡ true
before Odd n h k = grind (arith, nat_tests)
before Even n h k = grind (arith, nat_tests)
before Both n h k = absurd cc

-- what the test of a choice gives
pub choice : {X : Type 0} (b : Bool) (x y : X) (P : X → Type 0) → (b ≡ true → P x) → (b ≡ false → P y) → P (cond b x y)
choice true x y P h k = h refl
choice false x y P h k = k refl

pub not_both : (b : Bool) → b ≡ true → b ≡ false → ⊥
not_both b h k = cc

differ : (p : Parity) (m n : ℕ) → has_parity p m ≡ true → has_parity p n ≡ false → m ≢ n
differ p m n h k e = not_both (has_parity p n) (subst (λ (x : ℕ). has_parity p x ≡ true) e h) k

-- the greatest number up to `at` that has the parity, where one from low on has it
pub greatest_to-is : (p : Parity) (low at : ℕ) → has_parity p low ≡ true → low ≤ at
    → (low ≤ greatest_to p at) × (greatest_to p at ≤ at) × (at ≤ greatest_to p at + 1) × (has_parity p (greatest_to p at) ≡ true)
greatest_to-is p low at h le =
    choice (has_parity p at) at (at - 1) (λ n. (low ≤ n) × (n ≤ at) × (at ≤ n + 1) × (has_parity p n ≡ true))
    (λ t. (le, omega arith, omega arith, t))
    (λ f.
    let ne : low ≢ at = differ p low at h f in
    let lt : low < at = omega arith in
    (omega arith, omega arith, omega arith, before p at f (omega arith)))

-- the least number above `at` that has the parity, where one up to high has it
pub least_above-is : (p : Parity) (high at : ℕ) → has_parity p high ≡ true → at < high
    → (at < least_from p (at + 1)) × (least_from p (at + 1) ≤ high) × (least_from p (at + 1) ≤ at + 2) × (has_parity p (least_from p (at + 1)) ≡ true)
least_above-is p high at h lt =
    choice (has_parity p (at + 1)) (at + 1) (at + 1 + 1) (λ n. (at < n) × (n ≤ high) × (n ≤ at + 2) × (has_parity p n ≡ true))
    (λ t. (omega arith, omega arith, omega arith, t))
    (λ f.
    let ne : high ≢ at + 1 = differ p high (at + 1) h f in
    (omega arith, omega arith, omega arith, one_or_next p (at + 1) f))

-- no number with the parity is lost between the two parts
pub none_between : (p : Parity) (at n : ℕ) → has_parity p n ≡ true → (n ≤ at → n ≤ greatest_to p at) × (at < n → least_from p (at + 1) ≤ n)
none_between p at n h = (
  λ le. choice (has_parity p at) at (at - 1) (λ k. n ≤ k) (λ t. le) (λ f. let ne : n ≢ at = differ p n at h f in omega arith),
  λ lt. choice (has_parity p (at + 1)) (at + 1) (at + 1 + 1) (λ k. k ≤ n) (λ t. omega arith) (λ f. let ne : n ≢ at + 1 = differ p n (at + 1) h f in omega arith),
)

-- a lawful difference keeps each parity
pub added-parity : (p : Parity) (n : ℕ) (by : ℤ) → (is_one_parity p && is_odd by) ≡ false → stays_house n by ≡ true → has_parity p n ≡ true → has_parity p (added n by) ≡ true
added-parity Both n by h s k = refl
added-parity Odd n (pos d) h s k = grind (arith, nat_tests)
added-parity Odd n (negsuc d) h s k = grind (arith, nat_tests)
added-parity Even n (pos d) h s k = grind (arith, nat_tests)
added-parity Even n (negsuc d) h s k = grind (arith, nat_tests)

-- the order of numbers stays
pub added-order : (m n : ℕ) (by : ℤ) → m ≤ n → added m by ≤ added n by
added-order m n (pos d) h = omega arith
added-order m n (negsuc d) h = omega arith

pub added-limit : (n : ℕ) (by : ℤ) → n ≤ HIGHEST_HOUSE → stays_house n by ≡ true → added n by ≤ HIGHEST_HOUSE
added-limit n (pos d) h s = grind (arith, nat_tests)
added-limit n (negsuc d) h s = omega arith

-- the number with the difference taken away again
abbrev pub removed : ℕ → ℤ → ℕ
removed m (pos d) = m - d
removed m (negsuc d) = m + (d + 1)

pub removed-added : (low m : ℕ) (by : ℤ) → stays_house low by ≡ true → added low by ≤ m → added (removed m by) by ≡ m
removed-added low m (pos d) s h = omega arith
removed-added low m (negsuc d) s h = omega arith

pub removed-order : (low m high : ℕ) (by : ℤ) → stays_house low by ≡ true → stays_house high by ≡ true → added low by ≤ m → m ≤ added high by → (low ≤ removed m by) × (removed m by ≤ high)
removed-order low m high (pos d) s t h k = (omega arith, omega arith)
removed-order low m high (negsuc d) s t h k = (grind (arith, nat_tests), grind (arith, nat_tests))

pub removed-parity : (p : Parity) (low m : ℕ) (by : ℤ) → (is_one_parity p && is_odd by) ≡ false → stays_house low by ≡ true → added low by ≤ m → has_parity p m ≡ true → has_parity p (removed m by) ≡ true
removed-parity Both low m by e s h k = refl
removed-parity Odd low m (pos d) e s h k = let le : d ≤ m = omega arith in grind (arith, nat_tests)
removed-parity Odd low m (negsuc d) e s h k = grind (arith, nat_tests)
removed-parity Even low m (pos d) e s h k = let le : d ≤ m = omega arith in grind (arith, nat_tests)
removed-parity Even low m (negsuc d) e s h k = grind (arith, nat_tests)
