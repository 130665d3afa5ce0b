-- Two ranges overlap.
use Rattle.std.proofs.Common.{◌≡◌, ℕ, ◌+◌, ◌-◌, ◌<◌, ◌≤◌, Bool, true, false, ◌&&◌, nat_le, min, max, refl, sym, subst, ◌∙◌, arith}
use Rattle.std.specs.Bool.{Decides, one_answer}
use Rattle.std.specs.List.{list_any, range_with_len}
use Rattle.std.proofs.lemmas.List.Folds.{Any-from_list_any, list_any-from_Any}
use Rattle.std.proofs.lemmas.List.FromFn.{length-range_with_len, get_or-range_with_len}
use Rattle.std.proofs.lemmas.Bool.Decides.{nat_tests}
use Rattle.std.proofs.lemmas.Bool.{and_parts, and_from}
use Rattle.ali_base.specs.StreetKey.{same_key}
use Rattle.msag_ranges.specs.StreetGuide.{has_parity, is_held, share_number, overlaps, Overlap}
use Rattle.ali_base.specs.declared.parity.Parity.{Parity}
use Rattle.msag_ranges.specs.declared.range.Range.{Range}
use Rattle.msag_ranges.specs.HeldNumbers.{IsLeastFrom}
use Rattle.msag_ranges.proofs.Streets.{same_key-same, same_key-refl}

-- a test that passes at some number of a span
found : (p : ℕ → Bool) (a n : ℕ) → list_any p (range_with_len a n) ≡ true → (k : ℕ) × (a ≤ k) × (k < a + n) × (p k ≡ true)
found p a n h =
    let w = Any-from_list_any p (range_with_len a n) h in
    let inside : w.0 < n = omega (arith, w.2, length-range_with_len a n) in
    let is : a + w.0 ≡ w.1 = sym (get_or-range_with_len a n w.0 w.1 inside) ∙ w.3 in
    (a + w.0, omega arith, omega arith, subst (λ (x : ℕ). p x ≡ true) (sym is) w.4)

there : (p : ℕ → Bool) (a n k : ℕ) → a ≤ k → k < a + n → p k ≡ true → list_any p (range_with_len a n) ≡ true
there p a n k low high h =
    list_any-from_Any p (range_with_len a n)
    (k - a, k, omega (arith, length-range_with_len a n), get_or-range_with_len a n (k - a) k (omega arith) ∙ omega arith, h)

-- a range's numbers
pub held-parts : (r : Range) (n : ℕ) → is_held r n ≡ true → (r.low ≤ n) × (n ≤ r.high) × (has_parity r.parity n ≡ true)
held-parts r n h =
    let w = and_parts _ _ h in
    let v = and_parts (nat_le r.low n) (nat_le n r.high) w.0 in
    (grind (arith, nat_tests), grind (arith, nat_tests), w.1)

pub held-from : (r : Range) (n : ℕ) → r.low ≤ n → n ≤ r.high → has_parity r.parity n ≡ true → is_held r n ≡ true
held-from r n low high parity =
    let l : nat_le r.low n ≡ true = grind (arith, nat_tests) in
    let h : nat_le n r.high ≡ true = grind (arith, nat_tests) in
    and_from _ _ (and_from _ _ l h) parity

-- some number is held by both exactly where one is found
pub share_number-found : (r s : Range) → share_number r s ≡ true → (n : ℕ) × (is_held r n ≡ true) × (is_held s n ≡ true)
unfolding share_number
share_number-found r s h =
    let w = found (λ n. is_held r n && is_held s n) r.low (r.high + 1 - r.low) h in
    let v = and_parts _ _ w.3 in
    (w.0, v.0, v.1)

pub share_number-there : (r s : Range) (n : ℕ) → is_held r n ≡ true → is_held s n ≡ true → share_number r s ≡ true
unfolding share_number
share_number-there r s n h k =
    let w = held-parts r n h in
    there (λ n. is_held r n && is_held s n) r.low (r.high + 1 - r.low) n w.0 (omega (arith, w.0, w.1)) (and_from _ _ h k)

-- the test of overlap says what overlap is
pub overlaps-found : (r s : Range) → overlaps r s ≡ true → Overlap r s
overlaps-found r s h =
    let w = and_parts _ _ h in
    let v = share_number-found r s w.1 in
    let same : r.key ≡ s.key = same_key-same r.key s.key w.0 in
    (s.key, v.0, and_from _ _ w.0 v.1, and_from _ _ (same_key-refl s.key) v.2)

pub overlaps-there : (r s : Range) → Overlap r s → overlaps r s ≡ true
overlaps-there r s h =
    let w = and_parts _ _ h.2 in
    let v = and_parts _ _ h.3 in
    let one : r.key ≡ h.0 = same_key-same r.key h.0 w.0 in
    let other : s.key ≡ h.0 = same_key-same s.key h.0 v.0 in
    and_from _ _ (subst (λ k. same_key r.key k ≡ true) (sym other) w.0) (share_number-there r s h.1 w.1 v.1)

-- what a test that computes overlap says
pub overlaps-says : (r s : Range) (b : Bool) → b ≡ overlaps r s → (b ≡ true → Overlap r s) × (Overlap r s → b ≡ true)
overlaps-says r s b e = (λ h. overlaps-found r s (sym e ∙ h), λ o. e ∙ overlaps-there r s o)

pub Overlap-swap : (r s : Range) → Overlap r s → Overlap s r
Overlap-swap r s h = (h.0, h.1, h.3, h.2)

-- what the first number that has both parities tells
first-to : (r s : Range) (p : Parity) (m : ℕ)
    → ((n : ℕ) → (has_parity r.parity n && has_parity s.parity n) ≡ has_parity p n)
    → IsLeastFrom p (max r.low s.low) m
    → share_number r s ≡ true → m ≤ min r.high s.high
first-to r s p m agree least h =
    let w = share_number-found r s h in
    let a = held-parts r w.0 w.1 in
    let b = held-parts s w.0 w.2 in
    let has : has_parity p w.0 ≡ true = sym (agree w.0) ∙ and_from _ _ a.2 b.2 in
    let below : m ≤ w.0 = least.least w.0 (omega arith) has in
    omega arith

first-from : (r s : Range) (p : Parity) (m : ℕ)
    → ((n : ℕ) → (has_parity r.parity n && has_parity s.parity n) ≡ has_parity p n)
    → IsLeastFrom p (max r.low s.low) m
    → m ≤ min r.high s.high → share_number r s ≡ true
first-from r s p m agree least h =
    let w = and_parts _ _ (agree m ∙ least.has) in
    let low : max r.low s.low ≤ m = least.from in
    share_number-there r s m (held-from r m (omega arith) (omega arith) w.0) (held-from s m (omega arith) (omega arith) w.1)

pub share_number-by_first : (r s : Range) (p : Parity) (m : ℕ) (b : Bool)
    → ((n : ℕ) → (has_parity r.parity n && has_parity s.parity n) ≡ has_parity p n)
    → IsLeastFrom p (max r.low s.low) m
    → Decides b (m ≤ min r.high s.high)
    → b ≡ share_number r s
share_number-by_first r s p m b agree least says =
    one_answer b (share_number r s) says (first-to r s p m agree least, first-from r s p m agree least)

false-from : (b : Bool) → (b ≡ true → ⊥) → false ≡ b
false-from true h = absurd (h refl)
false-from false h = refl

-- no number has both parities
pub share_number-none : (r s : Range) → ((n : ℕ) → (has_parity r.parity n && has_parity s.parity n) ≡ false) → false ≡ share_number r s
share_number-none r s never = false-from (share_number r s) (λ h.
    let w = share_number-found r s h in
    let a = held-parts r w.0 w.1 in
    let b = held-parts s w.0 w.2 in
    let yes : (has_parity r.parity w.0 && has_parity s.parity w.0) ≡ true = and_from _ _ a.2 b.2 in
    let no : (has_parity r.parity w.0 && has_parity s.parity w.0) ≡ false = never w.0 in
    cc)
