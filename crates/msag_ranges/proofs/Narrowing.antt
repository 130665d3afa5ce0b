-- The search of the index narrows to one place.
use Rattle.std.proofs.Common.{◌≡◌, ℕ, ◌+◌, ◌-◌, ◌*◌, ◌/◌, ◌^◌, ◌<◌, ◌≤◌, Bool, true, false, List, length, get_or, sym, ap, subst, ◌∙◌, arith, suc, inl, inr}
use Rattle.std.proofs.Math.Nat.{pow-succ', mul_left_comm, mul_assoc, mul-le-mul_left}
use Rattle.std.proofs.lemmas.Bool.{cases_eq}
use Rattle.std.proofs.lemmas.List.{get_or_default}
use Rattle.msag_ranges.specs.declared.place.Place.{Place}
use Rattle.msag_ranges.specs.declared.place.Entry.{Entry}
use Rattle.msag_ranges.specs.GuideIndex.{before, Rises, IsSplitAt}
use Rattle.msag_ranges.proofs.Places.{before-trans, not_after}

-- how far a search has come, after so many steps
pub record Narrowed (entries : List Entry) (place : Place) (old now low high : ℕ) : Type 0 where
  pub ordered : low ≤ high
  pub inside : high ≤ length entries
  pub upto : (k : ℕ) (d : Entry) → k < low → before place (get_or entries k d).place ≡ false
  pub after : (k : ℕ) (d : Entry) → high ≤ k → k < length entries → before place (get_or entries k d).place ≡ true
  pub counts : old ≤ now
  pub halves : 2 ^ (now - old) * (high - low) ≤ length entries
  pub cost : 2 ^ (now - old) ≤ 2 * length entries + 1

power_more : (old now : ℕ) → old ≤ now → 2 ^ (now + 1 - old) ≡ 2 * 2 ^ (now - old)
power_more old now h =
    let e : now + 1 - old ≡ suc (now - old) = omega arith in
    ap (λ n. 2 ^ n) e ∙ pow-succ' 2 (now - old)

halved : (p s t n : ℕ) → p * s ≤ n → 2 * t ≤ s → 2 * p * t ≤ n
halved p s t n h k =
    let e : p * (2 * t) ≡ 2 * p * t = mul_left_comm p 2 t ∙ sym (mul_assoc 2 p t) in
    let m : p * (2 * t) ≤ p * s = mul-le-mul_left p k in
    omega arith

once : (p s n : ℕ) → p * s ≤ n → 1 ≤ s → 2 * p ≤ 2 * n + 1
once p s n h k = let m : p * 1 ≤ p * s = mul-le-mul_left p k in omega arith

pub narrowed-start : (entries : List Entry) (place : Place) (old : ℕ) → Narrowed entries place old old 0 (length entries)
narrowed-start entries place old =
    let p : 2 ^ (old - old) ≡ 1 = ap (λ n. 2 ^ n) (let e : old - old ≡ 0 = omega arith in e) in
    record {
      ordered = omega arith;
      inside = omega arith;
      upto = λ k d l. absurd (omega arith);
      after = λ k d l m. absurd (omega arith);
      counts = omega arith;
      halves = subst (λ q. q * (length entries - 0) ≤ length entries) (sym p) (omega arith);
      cost = omega arith;
    }

-- one step more, which leaves the half from low to high
step : (entries : List Entry) (place : Place) (old now was_low was_high low high : ℕ) → Narrowed entries place old now was_low was_high → was_low < was_high
    → low ≤ high → high ≤ length entries → 2 * (high - low) ≤ was_high - was_low
    → ((k : ℕ) (d : Entry) → k < low → before place (get_or entries k d).place ≡ false)
    → ((k : ℕ) (d : Entry) → high ≤ k → k < length entries → before place (get_or entries k d).place ≡ true)
    → Narrowed entries place old (now + 1) low high
step entries place old now was_low was_high low high n test ordered inside half upto after =
    let more = power_more old now n.counts in
    record {
      ordered = ordered;
      inside = inside;
      upto = upto;
      after = after;
      counts = (let c = n.counts in omega arith);
      halves = subst (λ q. q * (high - low) ≤ length entries) (sym more) (halved (2 ^ (now - old)) (was_high - was_low) (high - low) (length entries) n.halves half);
      cost = subst (λ q. q ≤ 2 * length entries + 1) (sym more) (once (2 ^ (now - old)) (was_high - was_low) (length entries) n.halves (omega arith));
    }

pub narrowed-high : (entries : List Entry) (place : Place) (old now low high middle : ℕ) → Rises entries → Narrowed entries place old now low high → low < high → middle ≡ low + (high - low) / 2
    → ((d : Entry) → before place (get_or entries middle d).place ≡ true) → Narrowed entries place old (now + 1) low middle
narrowed-high entries place old now low high middle rising n test m here =
    let inside = n.inside in
    step entries place old now low high low middle n test (omega arith) (omega arith) (omega arith) n.upto
    (λ k d l w. elim (cases_eq middle k) [
      | inl q ↦ subst (λ z. before place (get_or entries z d).place ≡ true) q (here d)
      | inr ne ↦ before-trans place (get_or entries middle d).place (get_or entries k d).place (here d) (rising middle k d (omega arith) w)
    ])

pub narrowed-low : (entries : List Entry) (place : Place) (old now low high middle : ℕ) → Rises entries → Narrowed entries place old now low high → low < high → middle ≡ low + (high - low) / 2
    → ((d : Entry) → before place (get_or entries middle d).place ≡ false) → Narrowed entries place old (now + 1) (middle + 1) high
narrowed-low entries place old now low high middle rising n test m here =
    let inside = n.inside in
    step entries place old now low high (middle + 1) high n test (omega arith) inside (omega arith)
    (λ k d l. elim (cases_eq k middle) [
      | inl q ↦ subst (λ z. before place (get_or entries z d).place ≡ false) (sym q) (here d)
      | inr ne ↦ not_after (get_or entries k d).place (get_or entries middle d).place place (rising k middle d (omega arith) (omega arith)) (here d)
    ])
    n.after

pub narrowed-end : (entries : List Entry) (place : Place) (old now low high : ℕ) → Narrowed entries place old now low high → high ≤ low → IsSplitAt entries place low
narrowed-end entries place old now low high n h =
    let ordered = n.ordered in
    let inside = n.inside in
    record { within = omega arith; upto = n.upto; after = λ k d l w. n.after k d (omega arith) w }

-- what a test of the entry in the middle tells
pub at_each : (entries : List Entry) (place : Place) (middle : ℕ) (e : Entry) (test answer : Bool) → middle < length entries → test ≡ before place (get_or entries middle e).place → test ≡ answer
    → (d : Entry) → before place (get_or entries middle d).place ≡ answer
at_each entries place middle e test answer inside is says = λ d. subst (λ (z : Entry). before place z.place ≡ answer) (get_or_default entries middle e d inside) (sym is ∙ says)
