-- The numbers of the parts of a split, and of a moved range.
use Rattle.std.proofs.Common.{◌≡◌, ℕ, ◌<◌, ◌≤◌, Bool, true, false, ◌&&◌, not, nat_le, ℤ, refl, sym, arith, ◌⊎◌, inl, inr}
use Rattle.std.specs.Bool.{Decides}
use Rattle.std.proofs.lemmas.Bool.Decides.{nat_tests}
use Rattle.std.proofs.lemmas.Bool.{and_parts, and_from}
use Rattle.msag_ranges.specs.StreetGuide.{HasSoundEnds, is_held}
use Rattle.msag_ranges.specs.declared.range.Range.{Range}
use Rattle.number_table.specs.HouseArithmetic.{added, stays_house}
use Rattle.msag_edits.specs.HouseArithmetic.{is_odd, is_one_parity}
use Rattle.msag_edits.specs.EditRules.{has_empty_part, lower_part, upper_part, shifted}
use Rattle.number_table.proofs.HeldAddresses.{stays-between, held-parts, held-from}
use Rattle.msag_edits.proofs.Arithmetic.{greatest_to-is, least_above-is, none_between, added-order, added-parity, removed, removed-added, removed-parity, removed-order}
use Rattle.msag_edits.proofs.Ranges.{both_parts, not_true}

-- tests that say the same are the same
same_tests : (a b : Bool) → (a ≡ true → b ≡ true) → (b ≡ true → a ≡ true) → a ≡ b
same_tests true true h k = refl
same_tests true false h k = sym (h refl)
same_tests false true h k = k refl
same_tests false false h k = refl

le-test : (n m : ℕ) → n ≤ m → nat_le n m ≡ true
le-test n m h = grind (arith, nat_tests)

gt-test : (n m : ℕ) → m < n → not (nat_le n m) ≡ true
gt-test n m h = grind (arith, nat_tests)

test-le : (n m : ℕ) → nat_le n m ≡ true → n ≤ m
test-le n m h = grind (arith, nat_tests)

test-gt : (n m : ℕ) → not (nat_le n m) ≡ true → m < n
test-gt n m h = grind (arith, nat_tests)

pub lower-holds : (r : Range) (at n : ℕ) → HasSoundEnds r → has_empty_part r at ≡ false → is_held (lower_part r at) n ≡ (is_held r n && nat_le n at)
lower-holds r at n ends parts =
    let w = both_parts r at parts in
    let v = greatest_to-is r.parity r.low at ends.low_parity w.0 in
    same_tests (is_held (lower_part r at) n) (is_held r n && nat_le n at)
    (λ h. let p = held-parts (lower_part r at) n h in and_from _ _ (held-from r n (p.0, omega (arith, p.1, v.1, w.1), p.2)) (le-test n at (omega (arith, p.1, v.1))))
    (λ h. let q = and_parts (is_held r n) (nat_le n at) h in
    let p = held-parts r n q.0 in
    held-from (lower_part r at) n (p.0, (none_between r.parity at n p.2).0 (test-le n at q.1), p.2))

pub upper-holds : (r : Range) (id at esn n : ℕ) → HasSoundEnds r → has_empty_part r at ≡ false → is_held (upper_part r id at esn) n ≡ (is_held r n && not (nat_le n at))
upper-holds r id at esn n ends parts =
    let w = both_parts r at parts in
    let v = least_above-is r.parity r.high at ends.high_parity w.1 in
    same_tests (is_held (upper_part r id at esn) n) (is_held r n && not (nat_le n at))
    (λ h. let p = held-parts (upper_part r id at esn) n h in and_from _ _ (held-from r n (omega (arith, p.0, v.0, w.0), p.1, p.2)) (gt-test n at (omega (arith, p.0, v.0))))
    (λ h. let q = and_parts (is_held r n) (not (nat_le n at)) h in
    let p = held-parts r n q.0 in
    held-from (upper_part r id at esn) n ((none_between r.parity at n p.2).1 (test-gt n at q.1), p.1, p.2))

pub lower-ends : (r : Range) (at : ℕ) → HasSoundEnds r → has_empty_part r at ≡ false → HasSoundEnds (lower_part r at)
lower-ends r at ends parts =
    let w = both_parts r at parts in
    let v = greatest_to-is r.parity r.low at ends.low_parity w.0 in
    record { ordered = v.0; low_parity = ends.low_parity; high_parity = v.3 }

pub upper-ends : (r : Range) (id at esn : ℕ) → HasSoundEnds r → has_empty_part r at ≡ false → HasSoundEnds (upper_part r id at esn)
upper-ends r id at esn ends parts =
    let w = both_parts r at parts in
    let v = least_above-is r.parity r.high at ends.high_parity w.1 in
    record { ordered = v.1; low_parity = v.3; high_parity = ends.high_parity }

-- 505 is told exactly where a part would hold no number
empty-cases : (r : Range) (at : ℕ) → has_empty_part r at ≡ true → (at < r.low) ⊎ (r.high ≤ at)
empty-cases r at h = grind (arith, nat_tests)

pub empty-says : (r : Range) (at : ℕ) → HasSoundEnds r
    → Decides (has_empty_part r at) (((n : ℕ) → n ≤ at → is_held r n ≡ false) ⊎ ((n : ℕ) → at < n → is_held r n ≡ false))
empty-says r at ends = (
  (λ h. elim (empty-cases r at h) [
    | inl low ↦ inl (λ n le. not_true (is_held r n) (λ k. let p = held-parts r n k in omega (arith, p.0)))
    | inr high ↦ inr (λ n lt. not_true (is_held r n) (λ k. let p = held-parts r n k in omega (arith, p.1)))
  ]),
  (λ h. decide (has_empty_part r at) refl h),
)
  where
    decide : (b : Bool) → has_empty_part r at ≡ b → (((n : ℕ) → n ≤ at → is_held r n ≡ false) ⊎ ((n : ℕ) → at < n → is_held r n ≡ false)) → has_empty_part r at ≡ true
    decide true e h = e
    decide false e (inl none) =
        let w = both_parts r at e in
        let yes : is_held r r.low ≡ true = held-from r r.low (omega arith, ends.ordered, ends.low_parity) in
        let no' : is_held r r.low ≡ false = none r.low w.0 in
        absurd cc
    decide false e (inr none) =
        let w = both_parts r at e in
        let yes : is_held r r.high ≡ true = held-from r r.high (ends.ordered, omega arith, ends.high_parity) in
        let no' : is_held r r.high ≡ false = none r.high w.1 in
        absurd cc

-- the numbers of a moved range
pub shifted-each : (r : Range) (by : ℤ) (n : ℕ) → (is_one_parity r.parity && is_odd by) ≡ false → stays_house r.low by ≡ true → stays_house r.high by ≡ true
    → is_held r n ≡ true → is_held (shifted r by) (added n by) ≡ true
shifted-each r by n even low high h =
    let p = held-parts r n h in
    held-from (shifted r by) (added n by) (added-order r.low n by p.0, added-order n r.high by p.1, added-parity r.parity n by even (stays-between r.low n r.high by p.0 p.1 low high) p.2)

pub shifted-only : (r : Range) (by : ℤ) (m : ℕ) → (is_one_parity r.parity && is_odd by) ≡ false → stays_house r.low by ≡ true → stays_house r.high by ≡ true
    → is_held (shifted r by) m ≡ true → (n : ℕ) × (is_held r n ≡ true) × (m ≡ added n by)
shifted-only r by m even low high h =
    let p = held-parts (shifted r by) m h in
    let o = removed-order r.low m r.high by low high p.0 p.1 in
    (removed m by, held-from r (removed m by) (o.0, o.1, removed-parity r.parity r.low m by even low p.0 p.2), sym (removed-added r.low m by low p.0))
