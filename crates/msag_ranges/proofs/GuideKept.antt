-- Changes keep what every guide keeps.
use Rattle.std.proofs.Common.{◌≡◌, ◌≢◌, ℕ, ◌+◌, ◌<◌, ◌≤◌, ◌==◌, nat_lt, Bool, true, false, cond, ◌&&◌, not, List, [], ◌∷◌, ◌++◌, length, get_or, set, map, min, refl, sym, ap, subst, ◌∙◌, arith, Option, Some, None, zero, suc, ◌⊎◌, inl, inr, All, filter, find, IfSome, Contains}
use Rattle.std.specs.List.{AllPairs, position, position_or_len, slice_get}
use Rattle.std.specs.Option.{option_map, option_map_or}
use Rattle.std.proofs.lemmas.List.{length_push, get_or-set_other, length-set}
use Rattle.std.proofs.lemmas.List.Elements.{All-cons, All-tail, All-push, All-weaker, All-filter, All-set, All-map}
use Rattle.std.proofs.lemmas.List.Kept.{AllPairs-filter}
use Rattle.std.proofs.lemmas.List.Quantifiers.{all_pairs_push, position-Some}
use Rattle.std.proofs.lemmas.List.Sums.{position_or_len_is}
use Rattle.std.proofs.lemmas.List.Folds.{find_at}
use Rattle.std.proofs.lemmas.Grind.{get_or-set_at}
use Rattle.std.proofs.lemmas.Option.{slice_get-get_or, slice_get_past}
use Rattle.std.proofs.lemmas.Bool.Decides.{nat_tests}
use Rattle.msag_ranges.specs.StreetGuide.{HasSoundEnds, IsSoundGuide, MayStand, Overlap, overlaps, least, least_overlap, is_other, holds, holder, range_of, moved, with_moved, without}
use Rattle.msag_ranges.specs.declared.range.Range.{Range}
use Rattle.ali_base.specs.declared.street_key.StreetKey.{StreetKey}
use Rattle.ali_base.specs.declared.house.TheConstants.{HIGHEST_HOUSE}
use Rattle.msag_ranges.proofs.Overlapping.{overlaps-there, Overlap-swap}

same_or_not : (a b : ℕ) → (a ≡ b) ⊎ (a ≢ b)
same_or_not a b = grind arith

not_true : (b : Bool) → (b ≡ true → ⊥) → b ≡ false
not_true true h = absurd (h refl)
not_true false h = refl

pub same_id : (r : Range) (id : ℕ) → (r.id == id) ≡ true → r.id ≡ id
same_id r id h = grind (arith, nat_tests)

-- a list with a least number is not empty
least-none : (xs : List ℕ) → least xs ≡ None → xs ≡ []
least-none [] h = refl
least-none (x ∷ xs) h = absurd cc

-- nothing is kept of a list none of whose elements passes
filter-none : (p : Range → Bool) (xs : List Range) → map (λ s. s.id) (filter p xs) ≡ [] → All (λ s. p s ≡ false) xs
filter-none p [] h = λ k d l. absurd (omega arith)
filter-none p (x ∷ xs) h =
    elim (p x) as (λ b. p x ≡ b → map (λ s. s.id) (cond b (x ∷ filter p xs) (filter p xs)) ≡ [] → All (λ s. p s ≡ false) (x ∷ xs))
    [ true ↦ (λ e k. absurd cc) | false ↦ (λ e k. All-cons (λ s. p s ≡ false) x xs e (filter-none p xs k)) ] refl h

-- a range that may stand overlaps none of the others
pub no_overlap : (ranges : List Range) (r : Range) (except : Option ℕ) → least_overlap ranges r except ≡ None → All (λ s. (is_other except s.id && overlaps r s) ≡ false) ranges
no_overlap ranges r except h = filter-none (λ s. is_other except s.id && overlaps r s) ranges (least-none _ h)

pub none-apart : (r s : Range) → (true && overlaps r s) ≡ false → Overlap r s → ⊥
none-apart r s h o = let yes : overlaps r s ≡ true = overlaps-there r s o in cc

-- a new range
pub sound-add : (ranges : List Range) (next limit : ℕ) (r : Range) → IsSoundGuide ranges next limit → r.id ≡ next → MayStand ranges r None → r.high ≤ HIGHEST_HOUSE → length ranges + 1 ≤ limit
    → IsSoundGuide (ranges ++ r ∷ []) (next + 1) limit
sound-add ranges next limit r g is stands number room = record {
  ends = All-push HasSoundEnds ranges r g.ends stands.ends;
  numbers = All-push (λ s. s.high ≤ HIGHEST_HOUSE) ranges r g.numbers number;
  rising = all_pairs_push (λ a b. a.id < b.id) ranges r g.rising (λ k d l. let known = g.known k d l in omega arith);
  known = All-push (λ s. (1 ≤ s.id) × (s.id < next + 1)) ranges r (All-weaker (λ s. (1 ≤ s.id) × (s.id < next)) (λ s. (1 ≤ s.id) × (s.id < next + 1)) (λ s h. (h.0, omega (arith, h.1))) ranges g.known) (let first = g.first in (omega arith, omega arith));
  first = omega arith;
  apart = all_pairs_push (λ a b. Overlap a b → ⊥) ranges r g.apart (λ k d l o. none-apart r (get_or ranges k d) (no_overlap ranges r None stands.free k d l) (Overlap-swap (get_or ranges k d) r o));
  within = omega (arith, length_push ranges r);
}

pub length-filter_le : (p : Range → Bool) (xs : List Range) → length (filter p xs) ≤ length xs
length-filter_le p [] = omega arith
length-filter_le p (x ∷ xs) =
    let rest = length-filter_le p xs in
    elim (p x) as (λ b. length (cond b (x ∷ filter p xs) (filter p xs)) ≤ length (x ∷ xs)) [ true ↦ omega arith | false ↦ omega arith ]

-- a range fewer
pub sound-remove : (ranges : List Range) (next limit id : ℕ) → IsSoundGuide ranges next limit → IsSoundGuide (without ranges id) next limit
sound-remove ranges next limit id g = record {
  ends = All-filter (λ r. not (r.id == id)) HasSoundEnds ranges g.ends;
  numbers = All-filter (λ r. not (r.id == id)) (λ s. s.high ≤ HIGHEST_HOUSE) ranges g.numbers;
  rising = AllPairs-filter (λ a b. a.id < b.id) (λ r. not (r.id == id)) ranges g.rising;
  known = All-filter (λ r. not (r.id == id)) (λ r. (1 ≤ r.id) × (r.id < next)) ranges g.known;
  first = g.first;
  apart = AllPairs-filter (λ a b. Overlap a b → ⊥) (λ r. not (r.id == id)) ranges g.apart;
  within = (let le = length-filter_le (λ r. not (r.id == id)) ranges in omega (arith, le, g.within));
}

-- the first of a list that rises is the least
least-above : (n : ℕ) (ns : List ℕ) → All (λ m. n < m) ns → IfSome (least ns) (λ k. n < k)
least-above n [] h = tt
least-above n (m ∷ ms) h =
    let here : n < m = h 0 0 (omega arith) in
    elim (least ms) as (λ o. IfSome o (λ k. n < k) → n < option_map_or (min m) o m) [ None ↦ (λ _. here) | Some k ↦ (λ l. omega arith) ] (least-above n ms (All-tail (λ k. n < k) m ms h))

least-head : (n : ℕ) (ns : List ℕ) → All (λ m. n < m) ns → least (n ∷ ns) ≡ Some n
least-head n ns h =
    ap Some (elim (least ns) as (λ o. IfSome o (λ k. n < k) → option_map_or (min n) o n ≡ n) [ None ↦ (λ _. refl) | Some k ↦ (λ l. omega arith) ] (least-above n ns h))

AllPairs-tail : (R : Range → Range → Type 0) (x : Range) (xs : List Range) → AllPairs R (x ∷ xs) → AllPairs R xs
AllPairs-tail R x xs h = λ i j d l m. h (suc i) (suc j) d (omega arith) (omega arith)

AllPairs-head : (R : Range → Range → Type 0) (x : Range) (xs : List Range) → AllPairs R (x ∷ xs) → All (R x) xs
AllPairs-head R x xs h = λ k d l. h 0 (suc k) d (omega arith) (omega arith)

pub least-first : (p : Range → Bool) (xs : List Range) → AllPairs (λ r s. r.id < s.id) xs → least (map (λ s. s.id) (filter p xs)) ≡ option_map (λ s. s.id) (find p xs)
least-first p [] h = refl
least-first p (x ∷ xs) h =
    let above : All (λ m. x.id < m) (map (λ (s : Range). s.id) (filter p xs)) = All-map (λ m. x.id < m) (λ (s : Range). s.id) (filter p xs) (All-filter p (λ s. x.id < s.id) xs (AllPairs-head (λ r s. r.id < s.id) x xs h)) in
    elim (p x) as (λ b. least (map (λ s. s.id) (cond b (x ∷ filter p xs) (filter p xs))) ≡ option_map (λ s. s.id) (cond b (Some x) (find p xs)))
    [ true ↦ least-head x.id (map (λ (s : Range). s.id) (filter p xs)) above | false ↦ least-first p xs (AllPairs-tail (λ r s. r.id < s.id) x xs h) ]

-- a list with one element written over
pairs-set : (R : Range → Range → Type 0) (xs : List Range) (i : ℕ) (y : Range) → i < length xs → AllPairs R xs
    → ((k : ℕ) (d : Range) → k < i → R (get_or xs k d) y) → ((k : ℕ) (d : Range) → i < k → k < length xs → R y (get_or xs k d)) → AllPairs R (set xs i y)
pairs-set R xs i y inside h before behind = λ a b d l m.
    let within : b < length xs = omega (arith, length-set {A = Range}) in
    elim (same_or_not a i) [
      | inl e ↦ (let ne : b ≢ i = omega arith in
          subst (λ z. R z (get_or (set xs i y) b d)) (sym (get_or-set_at xs i a y d e inside)) (subst (λ z. R y z) (sym (get_or-set_other xs i b y d ne)) (behind b d (omega arith) within)))
      | inr n ↦ elim (same_or_not b i) [
        | inl e ↦ subst (λ z. R (get_or (set xs i y) a d) z) (sym (get_or-set_at xs i b y d e inside)) (subst (λ z. R z y) (sym (get_or-set_other xs i a y d n)) (before a d (omega arith)))
        | inr m' ↦ subst (λ z. R z (get_or (set xs i y) b d)) (sym (get_or-set_other xs i a y d n)) (subst (λ z. R (get_or xs a d) z) (sym (get_or-set_other xs i b y d m')) (h a b d l within))
      ]
    ]

pub other-apart : (id : ℕ) (r s : Range) → s.id ≢ id → (is_other (Some id) s.id && overlaps r s) ≡ false → Overlap r s → ⊥
other-apart id r s ne h o =
    let yes : overlaps r s ≡ true = overlaps-there r s o in
    let other : not (s.id == id) ≡ true = grind (arith, nat_tests) in
    cc

-- a range with other ends
pub sound-set : (ranges : List Range) (next limit id at : ℕ) (r : Range) → IsSoundGuide ranges next limit → at < length ranges → ((d : Range) → (get_or ranges at d).id ≡ id) → r.id ≡ id → MayStand ranges r (Some id) → r.high ≤ HIGHEST_HOUSE
    → IsSoundGuide (set ranges at r) next limit
sound-set ranges next limit id at r g inside there is stands number = record {
  ends = All-set HasSoundEnds ranges at r stands.ends g.ends;
  numbers = All-set (λ s. s.high ≤ HIGHEST_HOUSE) ranges at r number g.numbers;
  rising = pairs-set (λ a b. a.id < b.id) ranges at r inside g.rising (λ k d l. let less = g.rising k at d l inside in omega (arith, less, there d)) (λ k d l m. let less = g.rising at k d l m in omega (arith, less, there d));
  known = All-set (λ s. (1 ≤ s.id) × (s.id < next)) ranges at r (let k = g.known at r inside in (omega (arith, k.0, there r), omega (arith, k.1, there r))) g.known;
  first = g.first;
  apart = pairs-set (λ a b. Overlap a b → ⊥) ranges at r inside g.apart
      (λ k d l o. let less = g.rising k at d l inside in other-apart id r (get_or ranges k d) (omega (arith, less, there d)) (no_overlap ranges r (Some id) stands.free k d (omega arith)) (Overlap-swap (get_or ranges k d) r o))
      (λ k d l m o. let less = g.rising at k d l m in other-apart id r (get_or ranges k d) (omega (arith, less, there d)) (no_overlap ranges r (Some id) stands.free k d m) o);
  within = omega (arith, length-set {A = Range}, g.within);
}

with_moved-none : (xs : List Range) (id low high esn : ℕ) → All (λ r. r.id ≢ id) xs → with_moved xs id low high esn ≡ xs
with_moved-none [] id low high esn h = refl
with_moved-none (x ∷ xs) id low high esn h =
    let here : x.id ≢ id = h 0 x (omega arith) in
    let e : (x.id == id) ≡ false = grind (arith, nat_tests) in
    ap (λ b. cond b (moved x low high esn) x ∷ with_moved xs id low high esn) e ∙ ap (λ ys. x ∷ ys) (with_moved-none xs id low high esn (All-tail (λ r. r.id ≢ id) x xs h))

pub with_moved-set : (xs : List Range) (id at low high esn : ℕ) (d : Range) → AllPairs (λ r s. r.id < s.id) xs → at < length xs → ((e : Range) → (get_or xs at e).id ≡ id)
    → set xs at (moved (get_or xs at d) low high esn) ≡ with_moved xs id low high esn
with_moved-set [] id at low high esn d h inside there = absurd (omega arith)
with_moved-set (x ∷ xs) id zero low high esn d h inside there =
    let here : x.id ≡ id = there x in
    let e : (x.id == id) ≡ true = grind (arith, nat_tests) in
    let rest = with_moved-none xs id low high esn (λ k f l. let less = h 0 (suc k) f (omega arith) (omega arith) in omega (arith, less, here)) in
    sym (ap (λ b. cond b (moved x low high esn) x ∷ with_moved xs id low high esn) e ∙ ap (λ ys. moved x low high esn ∷ ys) rest)
with_moved-set (x ∷ xs) id (suc at) low high esn d h inside there =
    let less = h 0 (suc at) x (omega arith) inside in
    let here : x.id ≢ id = omega (arith, less, there x) in
    let e : (x.id == id) ≡ false = grind (arith, nat_tests) in
    ap (λ ys. x ∷ ys) (with_moved-set xs id at low high esn d (AllPairs-tail (λ r s. r.id < s.id) x xs h) (omega arith) (λ f. there f))
    ∙ sym (ap (λ b. cond b (moved x low high esn) x ∷ with_moved xs id low high esn) e)

-- the place of an id
pub find-from_place : (p : Range → Bool) (xs : List Range) (i : ℕ) (d : Range) → position p xs ≡ Some i → find p xs ≡ Some (get_or xs i d)
find-from_place p xs i d h =
    let w = position-Some p xs i d h in
    let is : position_or_len p xs ≡ i = position_or_len_is p xs i d (omega (arith, w.0)) w.2 (λ _. w.1) in
    find_at p xs ∙ ap (λ k. slice_get xs k) is ∙ slice_get-get_or xs i d w.0

pub find-no_place : (p : Range → Bool) (xs : List Range) → position p xs ≡ None → find p xs ≡ None
find-no_place p xs h =
    let past : length xs ≤ position_or_len p xs =
    elim (nat_lt (position_or_len p xs) (length xs)) as (λ b. nat_lt (position_or_len p xs) (length xs) ≡ b → cond b (Some (position_or_len p xs)) None ≡ None → length xs ≤ position_or_len p xs)
    [ true ↦ (λ e k. absurd cc) | false ↦ (λ e k. grind (arith, nat_tests)) ] refl h in
    find_at p xs ∙ slice_get_past xs (position_or_len p xs) past

-- giving the range of an id other ends, where it stands
pub sound-moved : (xs : List Range) (next limit id low high esn at : ℕ) (r : Range) → IsSoundGuide xs next limit → position (λ s. s.id == id) xs ≡ Some at → r ≡ get_or xs at r → high ≤ HIGHEST_HOUSE
    → IfSome (range_of xs id) (λ s. MayStand xs (moved s low high esn) (Some id))
    → IsSoundGuide (set xs at (moved r low high esn)) next limit × (set xs at (moved r low high esn) ≡ with_moved xs id low high esn)
sound-moved xs next limit id low high esn at r g place is number stands =
    let p : Range → Bool = λ s. s.id == id in
    let inside : at < length xs = (position-Some p xs at r place).0 in
    let there : (d : Range) → (get_or xs at d).id ≡ id = λ d. same_id (get_or xs at d) id (position-Some p xs at d place).1 in
    let here : MayStand xs (moved (get_or xs at r) low high esn) (Some id) =
    subst (λ o. IfSome o (λ s. MayStand xs (moved s low high esn) (Some id))) (find-from_place p xs at r place) stands in
    let may : MayStand xs (moved r low high esn) (Some id) = subst (λ s. MayStand xs (moved s low high esn) (Some id)) (sym is) here in
    (sound-set xs next limit id at (moved r low high esn) g inside there (ap (λ s. s.id) is ∙ there r) may number, ap (λ s. set xs at (moved s low high esn)) is ∙ with_moved-set xs id at low high esn r g.rising inside there)

-- no other range holds what a range of a guide holds, so the first that is found is the one
holder-at : (xs : List Range) (key : StreetKey) (n k : ℕ) (d : Range) → AllPairs (λ r s. Overlap r s → ⊥) xs → k < length xs → holds (get_or xs k d) key n ≡ true → holder xs key n ≡ Some (get_or xs k d)
holder-at [] key n k d apart inside h = absurd (omega arith)
holder-at (x ∷ xs) key n zero d apart inside h = ap (λ b. cond b (Some x) (holder xs key n)) h
holder-at (x ∷ xs) key n (suc k) d apart inside h =
    let rest = holder-at xs key n k d (AllPairs-tail (λ r s. Overlap r s → ⊥) x xs apart) (omega arith) h in
    let alone : holds x key n ≡ true → ⊥ = λ e. apart 0 (suc k) d (omega arith) inside (key, n, e, h) in
    ap (λ b. cond b (Some x) (holder xs key n)) (not_true (holds x key n) alone) ∙ rest

pub holder-only : (xs : List Range) (key : StreetKey) (n : ℕ) (r : Range) → AllPairs (λ r s. Overlap r s → ⊥) xs → Contains xs r → holds r key n ≡ true → holder xs key n ≡ Some r
holder-only xs key n r apart there h =
    holder-at xs key n there.0 r apart there.1 (subst (λ s. holds s key n ≡ true) (sym there.2) h) ∙ ap Some there.2
