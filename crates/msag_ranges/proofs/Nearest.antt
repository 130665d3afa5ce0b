-- Why no range holds a number.
use Rattle.std.proofs.Common.{◌≡◌, ◌≢◌, ℕ, ◌-◌, ◌≤◌, ◌&&◌, Bool, true, false, nat_le, List, All, Contains, Option, Some, None, refl, sym, ap, subst, ◌∙◌, arith, inl, inr}
use Rattle.std.specs.List.{list_any}
use Rattle.std.specs.Option.{option_map_or}
use Rattle.std.proofs.lemmas.Bool.{and_parts, and_from, cases_Bool}
use Rattle.std.proofs.lemmas.Bool.Decides.{nat_tests}
use Rattle.std.proofs.lemmas.List.Folds.{list_any_at, Any-from_list_any}
use Rattle.ali_base.specs.StreetKey.{same_key}
use Rattle.ali_base.specs.declared.parity.Parity.{Parity}
use Rattle.ali_base.specs.declared.parity.Parity.TheVariants.{Odd, Even, Both}
use Rattle.ali_base.specs.declared.street_key.StreetKey.{StreetKey}
use Rattle.msag_ranges.specs.StreetGuide.{has_parity, is_held, is_between_ends, holds, holder, HasSoundEnds, IsSoundGuide}
use Rattle.msag_ranges.specs.declared.range.Range.{Range}
use Rattle.msag_ranges.proofs.Overlapping.{held-parts, held-from}
use Rattle.msag_ranges.proofs.GuideKept.{holder-only}
use Rattle.msag_ranges.proofs.IndexLaw.{le_true, le_is}
use Rattle.msag_ranges.proofs.Found.{alike, find-in, find-none}

-- of two numbers beside one another a parity has one
other_parity : (p : Parity) (n : ℕ) → 1 ≤ n → has_parity p n ≡ false → has_parity p (n - 1) ≡ true
other_parity Odd n l h = grind (arith, nat_tests)
other_parity Even n l h = grind (arith, nat_tests)
other_parity Both n l h = refl

-- a range that holds the number before this one, and not this one
record IsGap (r : Range) (key : StreetKey) (n : ℕ) : Type 0 where
  pub below : 1 ≤ n
  pub before : holds r key (n - 1) ≡ true
  pub high : n ≤ r.high

gap : (ranges : List Range) (key : StreetKey) (n : ℕ) (r : Range) → All HasSoundEnds ranges → holder ranges key n ≡ None → Contains ranges r
    → (same_key r.key key && is_between_ends r n) ≡ true → IsGap r key n
gap ranges key n r sound none there h =
    let w = and_parts (same_key r.key key) (is_between_ends r n) h in
    let v = and_parts (nat_le r.low n) (nat_le n r.high) w.1 in
    let low : r.low ≤ n = le_is _ _ v.0 in
    let high : n ≤ r.high = le_is _ _ v.1 in
    let ends : HasSoundEnds r = subst HasSoundEnds there.2 (sound there.0 r there.1) in
    let never : holds r key n ≡ false = find-none (λ s. holds s key n) ranges r none there in
    let parity : has_parity r.parity n ≡ false = elim (cases_Bool (has_parity r.parity n)) [
      | inl e ↦ (let does : holds r key n ≡ true = and_from _ _ w.0 (held-from r n low high e) in absurd cc)
      | inr e ↦ e
    ] in
    let ne : r.low ≢ n = λ q. (let fits : has_parity r.parity n ≡ true = subst (λ m. has_parity r.parity m ≡ true) q ends.low_parity in absurd cc) in
    let below : 1 ≤ n = omega arith in
    record { below = below; before = and_from _ _ w.0 (held-from r (n - 1) (omega arith) (omega arith) (other_parity r.parity n below parity)); high = high }

pub none_between : (ranges : List Range) (key : StreetKey) (n : ℕ) → All HasSoundEnds ranges → holder ranges key n ≡ None → n ≡ 0
    → false ≡ list_any (λ r. same_key r.key key && is_between_ends r n) ranges
none_between ranges key n sound none zero =
    alike false (list_any (λ r. same_key r.key key && is_between_ends r n) ranges) (λ e. absurd cc)
    (λ any. let w = Any-from_list_any (λ (r : Range). same_key r.key key && is_between_ends r n) ranges any in
    let g = gap ranges key n w.1 sound none (w.0, w.2, w.3) w.4 in
    let b = g.below in
    absurd (omega arith))

-- a range has the number between its ends where the holder of the number before reaches it
pub between_by : (ranges : List Range) (key : StreetKey) (n next limit : ℕ) (reaches : Bool) (before : Option Range) → IsSoundGuide ranges next limit → holder ranges key n ≡ None → 1 ≤ n
    → before ≡ holder ranges key (n - 1) → reaches ≡ option_map_or (λ r. nat_le n r.high) before false
    → reaches ≡ list_any (λ r. same_key r.key key && is_between_ends r n) ranges
between_by ranges key n next limit reaches before sound none some is says =
    let p : Range → Bool = λ r. same_key r.key key && is_between_ends r n in
    alike reaches (list_any p ranges)
    (λ e. elim before as (λ o. o ≡ holder ranges key (n - 1) → option_map_or (λ r. nat_le n r.high) o false ≡ true → list_any p ranges ≡ true) [
      | None ↦ (λ q k. absurd cc)
      | Some r ↦ (λ q k. let w = find-in (λ s. holds s key (n - 1)) ranges r (sym q) in
          let v = and_parts (same_key r.key key) (is_held r (n - 1)) w.1 in
          let held = held-parts r (n - 1) v.1 in
          let here : p r ≡ true = and_from _ _ v.0 (and_from _ _ (le_true r.low n (let l = held.0 in omega arith)) k) in
          list_any_at p ranges w.0.0 r w.0.1 (subst (λ z. p z ≡ true) (sym w.0.2) here))
    ] is (sym says ∙ e))
    (λ any. let w = Any-from_list_any p ranges any in
    let g = gap ranges key n w.1 sound.ends none (w.0, w.2, w.3) w.4 in
    let found : before ≡ Some w.1 = is ∙ holder-only ranges key (n - 1) w.1 sound.apart (w.0, w.2, w.3) g.before in
    says ∙ ap (λ o. option_map_or (λ r. nat_le n r.high) o false) found ∙ le_true n w.1.high g.high)
