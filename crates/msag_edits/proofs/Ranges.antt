-- Ranges among the others of a guide.
use Rattle.std.proofs.Common.{◌≡◌, ◌≢◌, ℕ, ◌+◌, ◌<◌, ◌≤◌, ◌==◌, Bool, true, false, cond, ◌&&◌, not, ℤ, List, [], ◌∷◌, get_or, map, refl, sym, ap, subst, ◌∙◌, arith, Option, Some, None, suc, ◌⊎◌, inl, inr, All, AllPairs, filter, find, IfSome, Contains}
use Rattle.std.proofs.lemmas.List.{get_or_default}
use Rattle.std.proofs.lemmas.List.Elements.{All-tail, All-head, All-contains, All-map, All-weaker, Contains-get_or}
use Rattle.ali_base.specs.StreetKey.{same_key}
use Rattle.std.proofs.lemmas.Bool.Decides.{nat_tests}
use Rattle.std.proofs.lemmas.Bool.{and_parts, and_from}
use Rattle.msag_ranges.specs.StreetGuide.{HasSoundEnds, IsSoundGuide, MayStand, Overlap, overlaps, least, least_overlap, is_other, holds, is_held, range_of, moved, with_moved}
use Rattle.msag_ranges.specs.HeldNumbers.{greatest_to, least_from}
use Rattle.msag_ranges.specs.declared.range.Range.{Range}
use Rattle.ali_base.specs.declared.street_key.StreetKey.{StreetKey}
use Rattle.ali_base.specs.Steps.{when}
use Rattle.ali_base.specs.declared.house.TheConstants.{HIGHEST_HOUSE}
use Rattle.number_table.specs.HouseArithmetic.{added, stays_house}
use Rattle.msag_edits.specs.HouseArithmetic.{is_odd, is_one_parity}
use Rattle.msag_edits.specs.EditRules.{upper_part, has_empty_part}
use Rattle.msag_edits.proofs.Arithmetic.{choice, greatest_to-is, least_above-is, added-order, added-parity}
use Rattle.number_table.proofs.HeldAddresses.{Holds, held-parts, held-from}
use Rattle.msag_ranges.proofs.Overlapping.{overlaps-found}

-- the first element that passes is one of the list, and passes
pub find-is : {X : Type 0} (p : X → Bool) (xs : List X) (r : X) → find p xs ≡ Some r → Contains xs r × (p r ≡ true)
find-is p [] r h = absurd cc
find-is p (x ∷ xs) r h =
    elim (p x) as (λ b. p x ≡ b → cond b (Some x) (find p xs) ≡ Some r → Contains (x ∷ xs) r × (p r ≡ true)) [
      | true ↦ (λ e k. let is : x ≡ r = cc in ((0, omega arith, is), subst (λ y. p y ≡ true) is e))
      | false ↦ (λ e k. let w = find-is p xs r k in ((suc w.0.0, omega (arith, w.0.1), w.0.2), w.1))
    ] refl h

-- nothing is kept where nothing passes
filter-empty : (p : Range → Bool) (xs : List Range) → All (λ s. p s ≡ false) xs → filter p xs ≡ []
filter-empty p [] h = refl
filter-empty p (x ∷ xs) h =
    let here : p x ≡ false = All-head (λ s. p s ≡ false) x xs h in
    ap (λ b. cond b (x ∷ filter p xs) (filter p xs)) here ∙ filter-empty p xs (All-tail (λ s. p s ≡ false) x xs h)

pub not_true : (b : Bool) → (b ≡ true → ⊥) → b ≡ false
not_true true h = absurd (h refl)
not_true false h = refl

-- a range that overlaps no other is free
pub free-from : (xs : List Range) (s : Range) (except : Option ℕ) → All (λ t. is_other except t.id ≡ true → Overlap s t → ⊥) xs → least_overlap xs s except ≡ None
free-from xs s except h =
    ap (λ (ys : List Range). least (map (λ t. t.id) ys)) (filter-empty (λ t. is_other except t.id && overlaps s t) xs
    (All-weaker (λ t. is_other except t.id ≡ true → Overlap s t → ⊥) (λ t. (is_other except t.id && overlaps s t) ≡ false)
    (λ t k. not_true (is_other except t.id && overlaps s t) (λ e. let w = and_parts (is_other except t.id) (overlaps s t) e in k w.0 (overlaps-found s t w.1))) xs h))

same_id : (r : Range) (id : ℕ) → (r.id == id) ≡ true → r.id ≡ id
same_id r id h = grind (arith, nat_tests)

-- the range of an id is one of the guide's, and has the id
pub live : (xs : List Range) (id : ℕ) (r : Range) → range_of xs id ≡ Some r → Contains xs r × (r.id ≡ id)
live xs id r h = let w = find-is (λ (s : Range). s.id == id) xs r h in (w.0, same_id r id w.1)

pub order : (i j : ℕ) → (i < j) ⊎ ((j < i) ⊎ (i ≡ j))
order i j = grind arith

-- in a guide, two ranges that hold the same number of a street are one
pub one_holder : (xs : List Range) (s t : Range) → AllPairs (λ a b. Overlap a b → ⊥) xs → Contains xs s → Contains xs t → Overlap s t → s ≡ t
one_holder xs s t apart a b o =
    let at-s : get_or xs a.0 s ≡ s = a.2 in
    let at-t : get_or xs b.0 s ≡ t = get_or_default xs b.0 s t b.1 ∙ b.2 in
    let swap : Overlap t s = (o.0, o.1, o.3, o.2) in
    elim (order a.0 b.0) as (λ _. s ≡ t) [
      | inl lt ↦ absurd (apart a.0 b.0 s lt b.1 (subst (λ x. Overlap x (get_or xs b.0 s)) (sym at-s) (subst (λ y. Overlap s y) (sym at-t) o)))
      | inr rest ↦ elim rest as (λ _. s ≡ t) [
        | inl gt ↦ absurd (apart b.0 a.0 s gt a.1 (subst (λ x. Overlap x (get_or xs a.0 s)) (sym at-t) (subst (λ y. Overlap t y) (sym at-s) swap)))
        | inr same ↦ sym at-s ∙ ap (λ (i : ℕ). get_or xs i s) same ∙ at-t
      ]
    ]

-- ids that rise differ
pub different_ids : (xs : List Range) → AllPairs (λ a b. a.id < b.id) xs → AllPairs (λ a b. a.id ≢ b.id) xs
different_ids xs rising = λ i j d lt inside e. let less = rising i j d lt inside in omega arith

-- two ranges of a guide with the same id are one
pub one_of_id : (xs : List Range) (s t : Range) → AllPairs (λ a b. a.id ≢ b.id) xs → Contains xs s → Contains xs t → s.id ≡ t.id → s ≡ t
one_of_id xs s t different a b e =
    let at-s : get_or xs a.0 s ≡ s = a.2 in
    let at-t : get_or xs b.0 s ≡ t = get_or_default xs b.0 s t b.1 ∙ b.2 in
    let id-s : (get_or xs a.0 s).id ≡ s.id = ap (λ (r : Range). r.id) at-s in
    let id-t : (get_or xs b.0 s).id ≡ t.id = ap (λ (r : Range). r.id) at-t in
    elim (order a.0 b.0) as (λ _. s ≡ t) [
      | inl lt ↦ absurd (different a.0 b.0 s lt b.1 (id-s ∙ e ∙ sym id-t))
      | inr rest ↦ elim rest as (λ _. s ≡ t) [
        | inl gt ↦ absurd (different b.0 a.0 s gt a.1 (id-t ∙ sym e ∙ sym id-s))
        | inr same ↦ sym at-s ∙ ap (λ (i : ℕ). get_or xs i s) same ∙ at-t
      ]
    ]

-- each number of s is one of r, of the same street
pub record IsPartOf (s r : Range) : Type 0 where
  pub street : s.key ≡ r.key
  pub numbers : (n : ℕ) → Holds s n → Holds r n

pub part-holds : (s r : Range) (key : StreetKey) (n : ℕ) → IsPartOf s r → holds s key n ≡ true → holds r key n ≡ true
part-holds s r key n part h =
    let w = and_parts (same_key s.key key) (is_held s n) h in
    and_from _ _ (subst (λ k. same_key k key ≡ true) part.street w.0) (held-from r n (part.numbers n (held-parts s n w.1)))

other_id : (id : ℕ) (t : Range) → is_other (Some id) t.id ≡ true → t.id ≡ id → ⊥
other_id id t h e =
    let yes : (t.id == id) ≡ true = grind (arith, nat_tests) in
    let no : not (t.id == id) ≡ true = h in
    cc

-- a part of a range of the guide overlaps none of the others
pub part-free : (xs : List Range) (next limit id : ℕ) (r s : Range) → IsSoundGuide xs next limit → range_of xs id ≡ Some r → IsPartOf s r → least_overlap xs s (Some id) ≡ None
part-free xs next limit id r s g found part =
    let w = live xs id r found in
    free-from xs s (Some id) (λ k d inside other o.
    let t : Range = get_or xs k d in
    let there : Contains xs t = Contains-get_or xs k d inside in
    let is : t ≡ r = one_holder xs t r g.apart there w.0 (o.0, o.1, o.3, part-holds s r o.0 o.1 part o.2) in
    other_id id t other (ap (λ (x : Range). x.id) is ∙ w.1))

-- the range as it is
pub part-itself : (r : Range) (esn : ℕ) → IsPartOf (moved r r.low r.high esn) r
part-itself r esn = record { street = refl; numbers = λ n h. h }

pub sound_ends : (xs : List Range) (next limit id : ℕ) (r : Range) → IsSoundGuide xs next limit → range_of xs id ≡ Some r → HasSoundEnds r
sound_ends xs next limit id r g found = All-contains HasSoundEnds xs r g.ends (live xs id r found).0

-- a range of the guide may stand with another number
pub may_stand-esn : (xs : List Range) (next limit id esn : ℕ) (r : Range) → IsSoundGuide xs next limit → range_of xs id ≡ Some r → MayStand xs (moved r r.low r.high esn) (Some id)
may_stand-esn xs next limit id esn r g found =
    let ends = sound_ends xs next limit id r g found in
    record {
      ends = record { ordered = ends.ordered; low_parity = ends.low_parity; high_parity = ends.high_parity };
      free = part-free xs next limit id r (moved r r.low r.high esn) g found (part-itself r esn);
    }

-- what is asked of a guide that sets the range of an id
pub set-asks : (xs : List Range) (id low high esn : ℕ) (r : Range) → range_of xs id ≡ Some r → MayStand xs (moved r low high esn) (Some id) → IfSome (range_of xs id) (λ s. MayStand xs (moved s low high esn) (Some id))
set-asks xs id low high esn r found stands = subst (λ o. IfSome o (λ s. MayStand xs (moved s low high esn) (Some id))) (sym found) stands

-- a range of the guide with a lawful difference may stand where it overlaps no other
pub may_stand-shifted : (xs : List Range) (next limit id : ℕ) (by : ℤ) (r : Range) → IsSoundGuide xs next limit → range_of xs id ≡ Some r
    → (is_one_parity r.parity && is_odd by) ≡ false → stays_house r.low by ≡ true → stays_house r.high by ≡ true
    → least_overlap xs (moved r (added r.low by) (added r.high by) r.esn) (Some id) ≡ None
    → MayStand xs (moved r (added r.low by) (added r.high by) r.esn) (Some id)
may_stand-shifted xs next limit id by r g found even low high free =
    let ends = sound_ends xs next limit id r g found in
    record {
      ends = record {
        ordered = added-order r.low r.high by ends.ordered;
        low_parity = added-parity r.parity r.low by even low ends.low_parity;
        high_parity = added-parity r.parity r.high by even high ends.high_parity;
      };
      free = free;
    }

-- the part of a range up to `at`
pub lower-part : (r : Range) (at esn : ℕ) → HasSoundEnds r → r.low ≤ at → at < r.high → IsPartOf (moved r r.low (greatest_to r.parity at) esn) r
lower-part r at esn ends low high =
    let w = greatest_to-is r.parity r.low at ends.low_parity low in
    record { street = refl; numbers = λ n h. (h.0, omega (arith, h.1, w.1), h.2) }

-- the part of it above `at`
pub upper-part : (r : Range) (id at esn : ℕ) → HasSoundEnds r → r.low ≤ at → at < r.high → IsPartOf (upper_part r id at esn) r
upper-part r id at esn ends low high =
    let w = least_above-is r.parity r.high at ends.high_parity high in
    record { street = refl; numbers = λ n h. (omega (arith, h.0, w.0), h.1, h.2) }

pub may_stand-lower : (xs : List Range) (next limit id at : ℕ) (r : Range) → IsSoundGuide xs next limit → range_of xs id ≡ Some r → r.low ≤ at → at < r.high
    → MayStand xs (moved r r.low (greatest_to r.parity at) r.esn) (Some id)
may_stand-lower xs next limit id at r g found low high =
    let ends = sound_ends xs next limit id r g found in
    let w = greatest_to-is r.parity r.low at ends.low_parity low in
    record {
      ends = record { ordered = w.0; low_parity = ends.low_parity; high_parity = w.3 };
      free = part-free xs next limit id r (moved r r.low (greatest_to r.parity at) r.esn) g found (lower-part r at r.esn ends low high);
    }

pub upper-limit : (xs : List Range) (next limit id at : ℕ) (r : Range) → IsSoundGuide xs next limit → range_of xs id ≡ Some r → at < r.high → least_from r.parity (at + 1) ≤ HIGHEST_HOUSE
upper-limit xs next limit id at r g found high =
    let ends = sound_ends xs next limit id r g found in
    let w = least_above-is r.parity r.high at ends.high_parity high in
    let top : r.high ≤ HIGHEST_HOUSE = All-contains (λ s. s.high ≤ HIGHEST_HOUSE) xs r g.numbers (live xs id r found).0 in
    omega (arith, w.1, top)

-- the two parts share no number
parts_apart : (r : Range) (id at esn n : ℕ) → Holds (upper_part r id at esn) n → Holds (moved r r.low (greatest_to r.parity at) r.esn) n → HasSoundEnds r → r.low ≤ at → at < r.high → ⊥
parts_apart r id at esn n h k ends low high =
    let w = greatest_to-is r.parity r.low at ends.low_parity low in
    let v = least_above-is r.parity r.high at ends.high_parity high in
    omega (arith, h.0, k.1, w.1, v.0)

pub may_stand-upper : (xs : List Range) (next limit id new at esn : ℕ) (r : Range) → IsSoundGuide xs next limit → range_of xs id ≡ Some r → r.low ≤ at → at < r.high
    → MayStand (with_moved xs id r.low (greatest_to r.parity at) r.esn) (upper_part r new at esn) None
may_stand-upper xs next limit id new at esn r g found low high =
    let ends = sound_ends xs next limit id r g found in
    let v = least_above-is r.parity r.high at ends.high_parity high in
    let w = live xs id r found in
    let s : Range = upper_part r new at esn in
    let part : IsPartOf s r = upper-part r new at esn ends low high in
    let change : Range → Range = λ t. cond (t.id == id) (moved t r.low (greatest_to r.parity at) r.esn) t in
    record {
      ends = record { ordered = v.1; low_parity = v.3; high_parity = ends.high_parity };
      free = free-from (with_moved xs id r.low (greatest_to r.parity at) r.esn) s None
          (All-map (λ t. is_other None t.id ≡ true → Overlap s t → ⊥) change xs (λ k d inside.
          let t : Range = get_or xs k d in
          let there : Contains xs t = Contains-get_or xs k d inside in
          choice (t.id == id) (moved t r.low (greatest_to r.parity at) r.esn) t (λ u. is_other None u.id ≡ true → Overlap s u → ⊥)
          (λ e _ o.
          let is : t ≡ r = one_of_id xs t r (different_ids xs g.rising) there w.0 (same_id t id e ∙ sym w.1) in
          let a : Holds s o.1 = held-parts s o.1 (and_parts (same_key s.key o.0) (is_held s o.1) o.2).1 in
          let lower : Range = moved r r.low (greatest_to r.parity at) r.esn in
          let b : holds lower o.0 o.1 ≡ true = subst (λ (x : Range). holds (moved x r.low (greatest_to r.parity at) r.esn) o.0 o.1 ≡ true) is o.3 in
          parts_apart r new at esn o.1 a (held-parts lower o.1 (and_parts (same_key lower.key o.0) (is_held lower o.1) b).1) ends low high)
          (λ e _ o.
          let is : t ≡ r = one_holder xs t r g.apart there w.0 (o.0, o.1, o.3, part-holds s r o.0 o.1 part o.2) in
          let same : t.id ≡ id = ap (λ (x : Range). x.id) is ∙ w.1 in
          let yes : (t.id == id) ≡ true = grind (arith, nat_tests) in
          cc)));
    }

-- what a step that may give nothing gave
pub when-some : {X : Type 0} (b : Bool) (x y : X) → Some y ≡ when b x → (b ≡ true) × (y ≡ x)
when-some true x y h = (refl, cc)
when-some false x y h = absurd cc

-- what the test of an empty part says
pub both_parts : (r : Range) (at : ℕ) → has_empty_part r at ≡ false → (r.low ≤ at) × (at < r.high)
both_parts r at h = (grind (arith, nat_tests), grind (arith, nat_tests))

-- the same of a guide whose ranges are these
pub set-asks-at : (xs ys : List Range) (id low low' : ℕ) (r : Range) → ys ≡ xs → low' ≡ low → range_of xs id ≡ Some r → MayStand xs (moved r r.low low r.esn) (Some id)
    → IfSome (range_of ys id) (λ s. MayStand ys (moved s r.low low' r.esn) (Some id))
set-asks-at xs ys id low low' r same same' found stands =
    subst (λ (zs : List Range). IfSome (range_of zs id) (λ s. MayStand zs (moved s r.low low' r.esn) (Some id))) (sym same)
    (set-asks xs id r.low low' r.esn r found (subst (λ (n : ℕ). MayStand xs (moved r r.low n r.esn) (Some id)) (sym same') stands))
