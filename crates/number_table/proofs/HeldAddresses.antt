-- Records whose address a range holds.
use Rattle.std.proofs.Common.{◌≡◌, ℕ, ℤ, ◌≤◌, Bool, true, false, nat_le, pos, negsuc, List, Some, None, refl, ap, sym, ◌∙◌, subst, arith, IsSome}
use Rattle.std.specs.Option.{option_map_or}
use Rattle.std.proofs.lemmas.Bool.Decides.{nat_tests}
use Rattle.std.proofs.lemmas.Bool.{and_parts, and_from}
use Rattle.ali_base.specs.Steps.{when}
use Rattle.msag_ranges.specs.StreetGuide.{has_parity, holds, is_held}
use Rattle.ali_base.specs.StreetKey.{same_key}
use Rattle.msag_ranges.specs.declared.range.Range.{Range}
use Rattle.ali_record.specs.Address.{record_key}
use Rattle.number_table.specs.HouseArithmetic.{stays_house}
use Rattle.number_table.specs.HeldRows.{record_house, holds_record}

-- what the numbers of a range are
abbrev pub Holds : Range → ℕ → Type 0
Holds r n = (r.low ≤ n) × (n ≤ r.high) × (has_parity r.parity n ≡ true)

pub held-parts : (r : Range) (n : ℕ) → is_held r n ≡ true → Holds r n
held-parts r n h =
    let w = and_parts _ _ h in
    let v = and_parts (nat_le r.low n) (nat_le n r.high) w.0 in
    (grind (arith, nat_tests), grind (arith, nat_tests), w.1)

pub held-from : (r : Range) (n : ℕ) → Holds r n → is_held r n ≡ true
held-from r n h =
    let l : nat_le r.low n ≡ true = grind (arith, nat_tests) in
    let u : nat_le n r.high ≡ true = grind (arith, nat_tests) in
    and_from _ _ (and_from _ _ l u) h.2

-- what stays a house number
pub stays-between : (low n high : ℕ) (by : ℤ) → low ≤ n → n ≤ high → stays_house low by ≡ true → stays_house high by ≡ true → stays_house n by ≡ true
stays-between low n high (pos d) a b s t = grind (arith, nat_tests)
stays-between low n high (negsuc d) a b s t = grind (arith, nat_tests)

-- the address of a record that a range holds
pub held-address : (r : Range) (b : List ℕ) → holds_record r b ≡ true → (n : ℕ) × (record_house b ≡ Some n) × (holds r (record_key b) n ≡ true)
held-address r b h =
    elim (record_house b) as (λ o. record_house b ≡ o → option_map_or (λ n. holds r (record_key b) n) o false ≡ true → (n : ℕ) × (record_house b ≡ Some n) × (holds r (record_key b) n ≡ true))
    [ None ↦ (λ e k. absurd cc) | Some n ↦ (λ e k. (n, e, k)) ] refl h

pub held-by : (r : Range) (b : List ℕ) (n : ℕ) → record_house b ≡ Some n → holds r (record_key b) n ≡ true → holds_record r b ≡ true
held-by r b n e h = ap (λ o. option_map_or (λ n. holds r (record_key b) n) o false) e ∙ h

-- a record of the same address is held by the same ranges
pub same-address : (r : Range) (b c : List ℕ) → record_key c ≡ record_key b → record_house c ≡ record_house b → holds_record r c ≡ holds_record r b
same-address r b c key house =
    ap (λ o. option_map_or (λ n. holds r (record_key c) n) o false) house ∙ ap (λ k. option_map_or (λ n. holds r k n) (record_house b) false) key

-- the house number of a row that a range holds stays one where the ends do
pub held-stays : (r : Range) (b : List ℕ) (n : ℕ) (by : ℤ) → holds_record r b ≡ true → record_house b ≡ Some n → stays_house r.low by ≡ true → stays_house r.high by ≡ true → stays_house n by ≡ true
held-stays r b n by h house low high =
    let a = held-address r b h in
    let one : a.0 ≡ n = let e : Some a.0 ≡ Some n = sym a.1 ∙ house in cc in
    let w = held-parts r a.0 (and_parts (same_key r.key (record_key b)) (is_held r a.0) a.2).1 in
    subst (λ (m : ℕ). stays_house m by ≡ true) one (stays-between r.low a.0 r.high by w.0 w.1 low high)

pub when-there : {X : Type 0} (b : Bool) (x : X) → b ≡ true → IsSome (when b x)
when-there true x h = refl
when-there false x h = cc
