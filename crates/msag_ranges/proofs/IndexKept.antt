-- Changes of a guide keep its index.
use Rattle.std.proofs.Common.{◌≡◌, ◌≢◌, ℕ, ◌+◌, ◌-◌, ◌<◌, ◌≤◌, ◌==◌, ◌&&◌, Bool, true, false, not, cond, List, [], ◌∷◌, ◌++◌, length, get_or, All, AllPairs, Contains, IfSome, ◌↔◌, filter, refl, sym, ap, subst, ◌∙◌, arith, set, Some, None, zero, suc, ◌⊎◌, inl, inr}
use Rattle.std.specs.List.{insert, remove, position}
use Rattle.std.proofs.lemmas.Bool.{cases_order, cases_eq, cases_lt}
use Rattle.std.proofs.lemmas.Bool.Decides.{nat_tests}
use Rattle.std.proofs.lemmas.Option.{same_Some, cond_some}
use Rattle.std.proofs.lemmas.List.{get_or-set_other, length-set, get_or_default}
use Rattle.std.proofs.lemmas.List.Elements.{Contains-append_left, Contains-push_cases, Contains-push, Contains-get_or}
use Rattle.std.proofs.lemmas.List.Edits.{length-insert, get_or-insert_below, get_or-insert_at, get_or-insert_above, length-remove, get_or-remove_below, get_or-remove_above}
use Rattle.std.proofs.lemmas.List.Quantifiers.{position-Some}
use Rattle.std.proofs.lemmas.Grind.{get_or-set_at}
use Rattle.msag_ranges.specs.StreetGuide.{Overlap, overlaps, is_other, MayStand, IsSoundGuide, holds, without, moved, with_moved, range_of}
use Rattle.msag_ranges.specs.declared.range.Range.{Range}
use Rattle.ali_base.specs.declared.house.TheConstants.{HIGHEST_HOUSE}
use Rattle.msag_ranges.specs.declared.place.Place.{Place}
use Rattle.msag_ranges.specs.declared.place.Entry.{Entry}
use Rattle.msag_ranges.specs.GuideIndex.{before, Rises, IsFree, IsSplitAt, IsIndexOf, IsIndexedGuide, has_class, entry_of, class_entry, IsClassEntry, IsEntryOf}
use Rattle.msag_ranges.proofs.GuideKept.{no_overlap, none-apart, other-apart, length-filter_le, same_id, find-from_place, sound-moved}
use Rattle.msag_ranges.proofs.Places.{before-itself, comes_first}
use Rattle.msag_ranges.proofs.IndexLaw.{reached, entry_holds, few, range_of-there}

-- an entry put in

above : (xs : List Entry) (i : ℕ) (y d : Entry) (k : ℕ) → i < k → i ≤ length xs → get_or (insert xs i y) k d ≡ get_or xs (k - 1) d
above xs i y d k l m = subst (λ z. get_or (insert xs i y) z d ≡ get_or xs (k - 1) d) (let e : k - 1 + 1 ≡ k = omega arith in e) (get_or-insert_above xs i y d (k - 1) (omega arith) m)

pub put-rises : (xs : List Entry) (i : ℕ) (y : Entry) → Rises xs → IsSplitAt xs y.place i → IsFree xs y.place → Rises (insert xs i y)
put-rises xs i y rising split free = λ a b d l m.
    let within = split.within in
    let len = length-insert xs i y within in
    let R : Entry → Entry → Type 0 = λ u v. before u.place v.place ≡ true in
    let zs : List Entry = insert xs i y in
    elim (cases_order b i) [
      | inr (inl bl) ↦ subst (λ u. R u (get_or zs b d)) (sym (get_or-insert_below xs i y d a (omega arith) within)) (subst (λ v. R (get_or xs a d) v) (sym (get_or-insert_below xs i y d b bl within)) (rising a b d l (omega arith)))
      | inl be ↦ (let al : a < i = omega arith in
          let h : R (get_or xs a d) y = comes_first _ _ (split.upto a d al) (free a d (omega arith)) in
          let at : get_or zs b d ≡ y = subst (λ z. get_or zs z d ≡ y) (sym be) (get_or-insert_at xs i y d within) in
          subst (λ u. R u (get_or zs b d)) (sym (get_or-insert_below xs i y d a al within)) (subst (λ v. R (get_or xs a d) v) (sym at) h))
      | inr (inr bg) ↦ subst (λ v. R (get_or zs a d) v) (sym (above xs i y d b bg within)) (elim (cases_order a i) [
        | inr (inl al) ↦ subst (λ u. R u (get_or xs (b - 1) d)) (sym (get_or-insert_below xs i y d a al within)) (rising a (b - 1) d (omega arith) (omega arith))
        | inl ae ↦ (let at : get_or zs a d ≡ y = subst (λ z. get_or zs z d ≡ y) (sym ae) (get_or-insert_at xs i y d within) in
            subst (λ u. R u (get_or xs (b - 1) d)) (sym at) (split.after (b - 1) d (omega arith) (omega arith)))
        | inr (inr ag) ↦ subst (λ u. R u (get_or xs (b - 1) d)) (sym (above xs i y d a ag within)) (rising (a - 1) (b - 1) d (omega arith) (omega arith))
      ])
    ]

pub put-among : (xs : List Entry) (i : ℕ) (y e : Entry) → i ≤ length xs → Contains (insert xs i y) e ↔ (Contains xs e ⊎ (e ≡ y))
put-among xs i y e within =
    let len = length-insert xs i y within in
    let zs : List Entry = insert xs i y in
    let from : Contains zs e → Contains xs e ⊎ (e ≡ y) = λ h. elim (cases_order h.0 i) [
      | inr (inl l) ↦ inl (h.0, omega arith, sym (get_or-insert_below xs i y e h.0 l within) ∙ h.2)
      | inl q ↦ inr (sym h.2 ∙ subst (λ z. get_or zs z e ≡ y) (sym q) (get_or-insert_at xs i y e within))
      | inr (inr g) ↦ (let n = h.1 in inl (h.0 - 1, omega arith, sym (above xs i y e h.0 g within) ∙ h.2))
    ] in
    let into : Contains xs e ⊎ (e ≡ y) → Contains zs e = λ h. elim h [
      | inl k ↦ (let n = k.1 in elim (cases_lt k.0 i) [
        | inl l ↦ (k.0, omega arith, get_or-insert_below xs i y e k.0 l within ∙ k.2)
        | inr g ↦ (k.0 + 1, omega arith, get_or-insert_above xs i y e k.0 g within ∙ k.2)
      ])
      | inr q ↦ (i, omega arith, get_or-insert_at xs i y e within ∙ sym q)
    ] in
    (from, into)

-- an entry taken out

pub take_at : (xs : List Entry) (y : Entry) (count : ℕ) → Rises xs → IsSplitAt xs y.place count → Contains xs y → Contains xs y × (get_or xs (count - 1) y ≡ y) × (1 ≤ count) × (count ≤ length xs)
take_at xs y count rising split h =
    let early = reached xs y.place count h.0 y split h.1 h.2 (before-itself y.place) in
    let within = split.within in
    elim (cases_eq (h.0 + 1) count) [
      | inl q ↦ (h, subst (λ k. get_or xs k y ≡ y) (let e : h.0 ≡ count - 1 = omega arith in e) h.2, omega arith, within)
      | inr ne ↦ (let later : before y.place (get_or xs (count - 1) y).place ≡ true = subst (λ (z : Entry). before z.place (get_or xs (count - 1) y).place ≡ true) h.2 (rising h.0 (count - 1) y (omega arith) (omega arith)) in
          let upto = split.upto (count - 1) y (omega arith) in
          absurd cc)
    ]

pub take-among : (xs : List Entry) (i : ℕ) (y e : Entry) → Rises xs → i < length xs → get_or xs i y ≡ y → Contains (remove xs i) e ↔ (Contains xs e × (e ≡ y → ⊥))
take-among xs i y e rising inside is =
    let len = length-remove xs i inside in
    let differ : (k : ℕ) → k ≢ i → k < length xs → get_or xs k e ≡ e → e ≡ y → ⊥ = λ k ne l at q.
    let yi : get_or xs i e ≡ e = subst (λ z. get_or xs i z ≡ z) (sym q) is in
    let itself = before-itself e.place in
    elim (cases_lt k i) [
      | inl less ↦ (let h : before e.place e.place ≡ true = subst (λ (z : Entry). before z.place e.place ≡ true) at (subst (λ (z : Entry). before (get_or xs k e).place z.place ≡ true) yi (rising k i e less inside)) in absurd cc)
      | inr more ↦ (let h : before e.place e.place ≡ true = subst (λ (z : Entry). before z.place e.place ≡ true) yi (subst (λ (z : Entry). before (get_or xs i e).place z.place ≡ true) at (rising i k e (omega arith) l)) in absurd cc)
    ] in
    let from : Contains (remove xs i) e → Contains xs e × (e ≡ y → ⊥) = λ h. let n = h.1 in elim (cases_lt h.0 i) [
      | inl l ↦ (let at : get_or xs h.0 e ≡ e = sym (get_or-remove_below xs i e h.0 l inside) ∙ h.2 in
          ((h.0, omega arith, at), differ h.0 (omega arith) (omega arith) at))
      | inr g ↦ (let at : get_or xs (h.0 + 1) e ≡ e = sym (get_or-remove_above xs i e h.0 g inside) ∙ h.2 in
          ((h.0 + 1, omega arith, at), differ (h.0 + 1) (omega arith) (omega arith) at))
    ] in
    let into : Contains xs e × (e ≡ y → ⊥) → Contains (remove xs i) e = λ h. let n = h.0.1 in elim (cases_order h.0.0 i) [
      | inl q ↦ absurd (h.1 (sym h.0.2 ∙ subst (λ k. get_or xs k e ≡ y) (sym q) (get_or_default xs i e y inside ∙ is)))
      | inr (inl l) ↦ (h.0.0, omega arith, get_or-remove_below xs i e h.0.0 l inside ∙ h.0.2)
      | inr (inr g) ↦ (let up : h.0.0 - 1 + 1 ≡ h.0.0 = omega arith in
          (h.0.0 - 1, omega arith, get_or-remove_above xs i e (h.0.0 - 1) (omega arith) inside ∙ subst (λ k. get_or xs k e ≡ e) (sym up) h.0.2))
    ] in
    (from, into)

-- the entries of a range

class_some : (r : Range) (odd : Bool) (y : Entry) → Some y ≡ class_entry r odd → (has_class r odd ≡ true) × (y ≡ entry_of r odd)
class_some r odd y h = let w = cond_some (has_class r odd) (entry_of r odd) y (sym h) in (w.0, sym w.1)

pub class_put : (old new : List Entry) (r : Range) (odd : Bool) (y : Entry) → Some y ≡ class_entry r odd
    → ((e : Entry) → Contains new e ↔ (Contains old e ⊎ (e ≡ y))) → (e : Entry) → Contains new e ↔ (Contains old e ⊎ IsClassEntry r odd e)
class_put old new r odd y q h e =
    let w = class_some r odd y q in (
      (λ k. elim ((h e).0 k) [ inl a ↦ inl a | inr b ↦ inr (w.0, b ∙ w.1) ]),
      (λ k. elim k [ inl a ↦ (h e).1 (inl a) | inr b ↦ (h e).1 (inr (b.1 ∙ sym w.1)) ]),
    )

pub class_taken : (old new : List Entry) (r : Range) (odd : Bool) (y : Entry) → Some y ≡ class_entry r odd
    → ((e : Entry) → Contains new e ↔ (Contains old e × (e ≡ y → ⊥))) → (e : Entry) → Contains new e ↔ (Contains old e × (IsClassEntry r odd e → ⊥))
class_taken old new r odd y q h e =
    let w = class_some r odd y q in (
      (λ k. let v = (h e).0 k in (v.0, λ b. v.1 (b.1 ∙ sym w.1))),
      (λ k. (h e).1 (k.0, λ b. k.1 (w.0, b ∙ w.1))),
    )

pub both_put : (old mid new : List Entry) (r : Range)
    → ((e : Entry) → Contains mid e ↔ (Contains old e ⊎ IsClassEntry r false e))
    → ((e : Entry) → Contains new e ↔ (Contains mid e ⊎ IsClassEntry r true e))
    → (e : Entry) → Contains new e ↔ (Contains old e ⊎ IsEntryOf r e)
both_put old mid new r h k e = (
  (λ n. elim ((k e).0 n) [
    | inl m ↦ elim ((h e).0 m) [ inl a ↦ inl a | inr b ↦ inr (false, b) ]
    | inr b ↦ inr (true, b)
  ]),
  (λ n. elim n [
    | inl a ↦ (k e).1 (inl ((h e).1 (inl a)))
    | inr (false, b) ↦ (k e).1 (inl ((h e).1 (inr b)))
    | inr (true, b) ↦ (k e).1 (inr b)
  ]),
)

neither_class : (r : Range) (e : Entry) → (IsClassEntry r false e → ⊥) → (IsClassEntry r true e → ⊥) → IsEntryOf r e → ⊥
neither_class r e h k (false, b) = h b
neither_class r e h k (true, b) = k b

pub both_taken : (old mid new : List Entry) (r : Range)
    → ((e : Entry) → Contains mid e ↔ (Contains old e × (IsClassEntry r false e → ⊥)))
    → ((e : Entry) → Contains new e ↔ (Contains mid e × (IsClassEntry r true e → ⊥)))
    → (e : Entry) → Contains new e ↔ (Contains old e × (IsEntryOf r e → ⊥))
both_taken old mid new r h k e = (
  (λ n. let v = (k e).0 n in
      let w = (h e).0 v.0 in
      (w.0, neither_class r e w.1 v.1)),
  (λ n. (k e).1 ((h e).1 (n.0, λ b. n.1 (false, b)), λ b. n.1 (true, b))),
)

-- once the entry of the even numbers is in, the place of the other is still free
pub still_free : (old mid : List Entry) (r : Range) → ((e : Entry) → Contains mid e ↔ (Contains old e ⊎ IsClassEntry r false e))
    → IsFree old (entry_of r true).place → IsFree mid (entry_of r true).place
still_free old mid r h free = λ k d l q.
    let e : Entry = get_or mid k d in
    elim ((h e).0 (Contains-get_or mid k d l)) [
      | inl a ↦ free a.0 e a.1 (subst (λ (z : Entry). z.place ≡ (entry_of r true).place) (sym a.2) q)
      | inr b ↦ (let o : false ≡ true = sym (ap (λ (z : Entry). z.place.odd) b.1) ∙ ap (λ (p : Place). p.odd) q in absurd cc)
    ]

-- once it is out, the other is still there
pub still_there : (old mid : List Entry) (r : Range) → ((e : Entry) → Contains mid e ↔ (Contains old e × (IsClassEntry r false e → ⊥)))
    → Contains old (entry_of r true) → Contains mid (entry_of r true)
still_there old mid r h there = (h (entry_of r true)).1 (there, λ b. let o : true ≡ false = ap (λ (z : Entry). z.place.odd) b.1 in absurd cc)

-- a range that overlaps none of the others finds the places of its entries free
pub places_free : (entries : List Entry) (ranges : List Range) (r : Range) → IsIndexOf entries ranges → All (λ s. Overlap r s → ⊥) ranges
    → (odd : Bool) → has_class r odd ≡ true → IsFree entries (entry_of r odd).place
places_free entries ranges r index apart odd class = λ k d l q.
    let f : Entry = get_or entries k d in
    let e : Entry = entry_of r odd in
    let who = (index.among f).0 (Contains-get_or entries k d l) in
    let ours : holds r e.place.key e.place.number ≡ true = entry_holds r e (odd, (class, refl)) in
    let theirs : holds who.0 e.place.key e.place.number ≡ true = subst (λ (p : Place). holds who.0 p.key p.number ≡ true) q (entry_holds who.0 f who.2) in
    let never : Overlap r who.0 → ⊥ = subst (λ z. Overlap r z → ⊥) who.1.2 (apart who.1.0 who.0 who.1.1) in
    never (e.place.key, e.place.number, ours, theirs)

pub stands_apart : (ranges : List Range) (r : Range) → MayStand ranges r None → All (λ s. Overlap r s → ⊥) ranges
stands_apart ranges r stands = λ k d l o. none-apart r (get_or ranges k d) (no_overlap ranges r None stands.free k d l) o

-- the index after a change of the ranges

pub index-put : (old new : List Entry) (ranges more : List Range) (r : Range) → IsIndexOf old ranges → Rises new
    → ((e : Entry) → Contains new e ↔ (Contains old e ⊎ IsEntryOf r e)) → ((s : Range) → Contains more s ↔ (Contains ranges s ⊎ (s ≡ r))) → IsIndexOf new more
index-put old new ranges more r index rising h k = record {
  rising = rising;
  among = λ e. (
    (λ n. elim ((h e).0 n) [
      | inl a ↦ (let w = (index.among e).0 a in (w.0, (k w.0).1 (inl w.1), w.2))
      | inr b ↦ (r, (k r).1 (inr refl), b)
    ]),
    (λ w. elim ((k w.0).0 w.1) [
      | inl a ↦ (h e).1 (inl ((index.among e).1 (w.0, a, w.2)))
      | inr q ↦ (h e).1 (inr (subst (λ z. IsEntryOf z e) q w.2))
    ]),
  );
}

same_range : (xs : List Range) (r s : Range) → AllPairs (λ r s. r.id < s.id) xs → Contains xs r → Contains xs s → s.id ≡ r.id → s ≡ r
same_range xs r s rising h k q = same_Some s r (sym (range_of-there xs s rising k) ∙ ap (range_of xs) q ∙ range_of-there xs r rising h)

entry_id : (r : Range) (e : Entry) → IsEntryOf r e → e.id ≡ r.id
entry_id r e (odd, h) = ap (λ (z : Entry). z.id) h.1

pub index-taken : (old new : List Entry) (ranges fewer : List Range) (r : Range) → AllPairs (λ r s. r.id < s.id) ranges → IsIndexOf old ranges → Contains ranges r → Rises new
    → ((e : Entry) → Contains new e ↔ (Contains old e × (IsEntryOf r e → ⊥))) → ((s : Range) → Contains fewer s ↔ (Contains ranges s × (s.id ≢ r.id))) → IsIndexOf new fewer
index-taken old new ranges fewer r ids index there rising h k = record {
  rising = rising;
  among = λ e. (
    (λ n. let v = (h e).0 n in
        let w = (index.among e).0 v.0 in
        (w.0, (k w.0).1 (w.1, λ q. v.1 (subst (λ z. IsEntryOf z e) (same_range ranges r w.0 ids there w.1 q) w.2)), w.2)),
    (λ w. let v = (k w.0).0 w.1 in
        (h e).1 ((index.among e).1 (w.0, v.0, w.2), λ b. v.1 (sym (entry_id w.0 e w.2) ∙ entry_id r e b))),
  );
}

-- a range's own entries are in the index
pub own_there : (entries : List Entry) (ranges : List Range) (r : Range) → IsIndexOf entries ranges → Contains ranges r → (odd : Bool) → has_class r odd ≡ true → Contains entries (entry_of r odd)
own_there entries ranges r index there odd h = (index.among (entry_of r odd)).1 (r, there, (odd, (h, refl)))

pub push_among : (xs : List Range) (r s : Range) → Contains (xs ++ r ∷ []) s ↔ (Contains xs s ⊎ (s ≡ r))
push_among xs r s = (
  (λ h. elim (Contains-push_cases xs r s h) [ inl a ↦ inl a | inr q ↦ inr (sym q) ]),
  (λ h. elim h [ inl a ↦ Contains-append_left xs (r ∷ []) s a | inr q ↦ subst (λ z. Contains (xs ++ r ∷ []) z) (sym q) (Contains-push xs r) ]),
)

-- ranges without one

kept-head : (p : Range → Bool) (y : Range) (ys : List Range) (x : Range) → p y ≡ true → Contains (y ∷ filter p ys) x → (Contains (filter p ys) x → Contains ys x × (p x ≡ true)) → Contains (y ∷ ys) x × (p x ≡ true)
kept-head p y ys x e (zero, l, q) f = ((0, omega arith, q), sym (ap p q) ∙ e)
kept-head p y ys x e (suc k, l, q) f = let v = f (k, omega arith, q) in ((suc v.0.0, (let n = v.0.1 in omega arith), v.0.2), v.1)

kept-from : (p : Range → Bool) (xs : List Range) (x : Range) → Contains (filter p xs) x → Contains xs x × (p x ≡ true)
kept-from p [] x (k, l, q) = absurd (omega arith)
kept-from p (y ∷ ys) x h =
    elim (p y) as (λ b. p y ≡ b → Contains (cond b (y ∷ filter p ys) (filter p ys)) x → Contains (y ∷ ys) x × (p x ≡ true)) [
      | true ↦ (λ e w. kept-head p y ys x e w (kept-from p ys x))
      | false ↦ (λ e w. let v = kept-from p ys x w in ((suc v.0.0, (let n = v.0.1 in omega arith), v.0.2), v.1))
    ] refl h

kept-into : (p : Range → Bool) (xs : List Range) (x : Range) → Contains xs x → p x ≡ true → Contains (filter p xs) x
kept-into p [] x (k, l, q) h = absurd (omega arith)
kept-into p (y ∷ ys) x (zero, l, q) h =
    let e : p y ≡ true = ap p q ∙ h in
    subst (λ b. Contains (cond b (y ∷ filter p ys) (filter p ys)) x) (sym e) (0, omega arith, q)
kept-into p (y ∷ ys) x (suc k, l, q) h =
    let w = kept-into p ys x (k, omega arith, q) h in
    elim (p y) as (λ b. Contains (cond b (y ∷ filter p ys) (filter p ys)) x) [
      | true ↦ (suc w.0, (let n = w.1 in omega arith), w.2)
      | false ↦ w
    ]

not_same : (a b : ℕ) → a ≢ b → not (a == b) ≡ true
not_same a b h = grind (arith, nat_tests)

differ : (a b : ℕ) → not (a == b) ≡ true → a ≢ b
differ a b h = grind (arith, nat_tests)

pub without_among : (xs : List Range) (id : ℕ) (s : Range) → Contains (without xs id) s ↔ (Contains xs s × (s.id ≢ id))
without_among xs id s = (
  (λ h. let w = kept-from (λ (r : Range). not (r.id == id)) xs s h in (w.0, differ s.id id w.1)),
  (λ h. kept-into (λ (r : Range). not (r.id == id)) xs s h.0 (not_same s.id id h.1)),
)

-- no two ranges have one id
other_id : (xs : List Range) (i k id : ℕ) (d : Range) → AllPairs (λ r s. r.id < s.id) xs → i < length xs → k < length xs → k ≢ i → (get_or xs i d).id ≡ id → (get_or xs k d).id ≢ id
other_id xs i k id d rising l m ne is q = elim (cases_lt k i) [
  | inl a ↦ (let less = rising k i d a l in absurd (omega (arith, less, is, q)))
  | inr b ↦ (let less = rising i k d (omega arith) m in absurd (omega (arith, less, is, q)))
]

-- a range written over: the others, and the new one
pub set_among : (xs : List Range) (i id : ℕ) (m r : Range) → AllPairs (λ r s. r.id < s.id) xs → i < length xs → ((d : Range) → (get_or xs i d).id ≡ id)
    → Contains (set xs i m) r ↔ (Contains (without xs id) r ⊎ (r ≡ m))
set_among xs i id m r rising inside is = (
  (λ k. let l : k.0 < length xs = (let n = k.1 in omega (arith, length-set {A = Range})) in
      elim (cases_eq k.0 i) [
        | inl q ↦ inr (sym k.2 ∙ get_or-set_at xs i k.0 m r q inside)
        | inr ne ↦ (let at : get_or xs k.0 r ≡ r = sym (get_or-set_other xs i k.0 m r ne) ∙ k.2 in
            inl ((without_among xs id r).1 ((k.0, l, at), subst (λ (s : Range). s.id ≢ id) at (other_id xs i k.0 id r rising inside l ne (is r)))))
      ]),
  (λ k. elim k [
    | inl a ↦ (let w = (without_among xs id r).0 a in
        let ne : w.0.0 ≢ i = λ q. w.1 (sym (ap (λ (s : Range). s.id) w.0.2) ∙ subst (λ z. (get_or xs z r).id ≡ id) (sym q) (is r)) in
        let l = w.0.1 in
        (w.0.0, omega (arith, length-set {A = Range}), get_or-set_other xs i w.0.0 m r ne ∙ w.0.2))
    | inr q ↦ (i, omega (arith, length-set {A = Range}), get_or-set_at xs i i m r refl inside ∙ sym q)
  ]),
)

without-none : (xs : List Range) (id : ℕ) → All (λ r. r.id ≢ id) xs → without xs id ≡ xs
without-none [] id h = refl
without-none (x ∷ xs) id h =
    let e : not (x.id == id) ≡ true = not_same x.id id (h 0 x (omega arith)) in
    ap (λ b. cond b (x ∷ without xs id) (without xs id)) e ∙ ap (λ ys. x ∷ ys) (without-none xs id (λ k d l. h (suc k) d (omega arith)))

-- the range of an id taken out
pub without-remove : (xs : List Range) (id at : ℕ) → AllPairs (λ r s. r.id < s.id) xs → at < length xs → ((d : Range) → (get_or xs at d).id ≡ id) → remove xs at ≡ without xs id
without-remove [] id at rising inside is = absurd (omega arith)
without-remove (x ∷ xs) id zero rising inside is =
    let here : x.id ≡ id = is x in
    let e : not (x.id == id) ≡ false = grind (arith, nat_tests) in
    sym (ap (λ b. cond b (x ∷ without xs id) (without xs id)) e ∙ without-none xs id (λ k d l. let less = rising 0 (suc k) d (omega arith) (omega arith) in omega (arith, less, here)))
without-remove (x ∷ xs) id (suc at) rising inside is =
    let less = rising 0 (suc at) x (omega arith) inside in
    let e : not (x.id == id) ≡ true = not_same x.id id (omega (arith, less, is x)) in
    ap (λ ys. x ∷ ys) (without-remove xs id at (λ i j d a b. rising (suc i) (suc j) d (omega arith) (omega arith)) (omega arith) is)
    ∙ sym (ap (λ b. cond b (x ∷ without xs id) (without xs id)) e)

fewer : (xs : List Range) (i id : ℕ) → i < length xs → ((d : Range) → (get_or xs i d).id ≡ id) → length (without xs id) + 1 ≤ length xs
fewer [] i id l h = absurd (omega arith)
fewer (x ∷ xs) zero id l h =
    let here : x.id ≡ id = h x in
    let e : not (x.id == id) ≡ false = grind (arith, nat_tests) in
    let n = length-filter_le (λ (s : Range). not (s.id == id)) xs in
    subst (λ b. length (cond b (x ∷ without xs id) (without xs id)) + 1 ≤ length (x ∷ xs)) (sym e) (omega arith)
fewer (x ∷ xs) (suc i) id l h =
    let n = fewer xs i id (omega arith) h in
    elim (not (x.id == id)) as (λ b. length (cond b (x ∷ without xs id) (without xs id)) + 1 ≤ length (x ∷ xs)) [ true ↦ omega arith | false ↦ omega arith ]

-- a range that may stand in the place of another overlaps none of the rest
stands_in_place : (xs : List Range) (id : ℕ) (r : Range) → MayStand xs r (Some id) → All (λ s. Overlap r s → ⊥) (without xs id)
stands_in_place xs id r stands = λ k d l o.
    let s : Range = get_or (without xs id) k d in
    let w = (without_among xs id s).0 (Contains-get_or (without xs id) k d l) in
    let test : (is_other (Some id) s.id && overlaps r s) ≡ false = subst (λ (z : Range). (is_other (Some id) z.id && overlaps r z) ≡ false) w.0.2 (no_overlap xs r (Some id) stands.free w.0.0 s w.0.1) in
    other-apart id r s w.1 test o

-- the range of an id, where it stands
pub record IsAt (xs : List Range) (id at : ℕ) (r : Range) : Type 0 where
  pub place : position (λ s. s.id == id) xs ≡ Some at
  pub inside : at < length xs
  pub ids : (d : Range) → (get_or xs at d).id ≡ id
  pub there : Contains xs r
  pub own : r.id ≡ id

-- now: the ranges as the guide shows them
pub is_at : (xs now : List Range) (id at : ℕ) (r : Range) → xs ≡ now → Some at ≡ position (λ s. s.id == id) now → r ≡ get_or xs at r → IsAt xs id at r
is_at xs now id at r same found is =
    let place : position (λ (s : Range). s.id == id) xs ≡ Some at = ap (position (λ (s : Range). s.id == id)) same ∙ sym found in
    let ids : (d : Range) → (get_or xs at d).id ≡ id = λ d. same_id (get_or xs at d) id (position-Some (λ (s : Range). s.id == id) xs at d place).1 in
    let inside = (position-Some (λ (s : Range). s.id == id) xs at r place).0 in
    record { place = place; inside = inside; ids = ids; there = (at, inside, sym is); own = ap (λ (s : Range). s.id) is ∙ ids r }

-- the index once the entries of that range are out
pub index-without : (xs : List Range) (old mid : List Entry) (id at : ℕ) (r : Range) → AllPairs (λ r s. r.id < s.id) xs → IsIndexOf old xs → IsAt xs id at r
    → Rises mid → ((e : Entry) → Contains mid e ↔ (Contains old e × (IsEntryOf r e → ⊥))) → IsIndexOf mid (without xs id)
index-without xs old mid id at r ids index w rising h =
    index-taken old mid xs (without xs id) r ids index w.there rising h (λ s. subst (λ k. Contains (without xs id) s ↔ (Contains xs s × (s.id ≢ k))) (sym w.own) (without_among xs id s))

-- what other ends of a range ask of guide and index, and leave of them
pub record Moves (xs : List Range) (mid : List Entry) (next limit id at room : ℕ) (m : Range) (after : List Range) : Type 0 where
  pub roomy : length mid + 2 ≤ room
  pub free : (odd : Bool) → has_class m odd ≡ true → IsFree mid (entry_of m odd).place
  pub sound : IsSoundGuide (set xs at m) next limit
  pub is : set xs at m ≡ after
  pub index : (new : List Entry) → Rises new → ((e : Entry) → Contains new e ↔ (Contains mid e ⊎ IsEntryOf m e)) → IsIndexOf new (set xs at m)

pub moves : (xs now : List Range) (old mid : List Entry) (next limit room more id low high esn at : ℕ) (r : Range) → IsIndexedGuide xs old next limit room → room ≤ more
    → xs ≡ now → Some at ≡ position (λ s. s.id == id) now → r ≡ get_or xs at r → high ≤ HIGHEST_HOUSE
    → IfSome (range_of now id) (λ s. MayStand now (moved s low high esn) (Some id))
    → Rises mid → ((e : Entry) → Contains mid e ↔ (Contains old e × (IsEntryOf r e → ⊥))) → Moves xs mid next limit id at more (moved r low high esn) (with_moved xs id low high esn)
moves xs now old mid next limit room more id low high esn at r g enough same found is number stand rising h =
    let w = is_at xs now id at r same found is in
    let stands : IfSome (range_of xs id) (λ s. MayStand xs (moved s low high esn) (Some id)) = subst (λ (ys : List Range). IfSome (range_of ys id) (λ s. MayStand ys (moved s low high esn) (Some id))) (sym same) stand in
    let here : MayStand xs (moved (get_or xs at r) low high esn) (Some id) = subst (λ o. IfSome o (λ s. MayStand xs (moved s low high esn) (Some id))) (find-from_place (λ (s : Range). s.id == id) xs at r w.place) stands in
    let may : MayStand xs (moved r low high esn) (Some id) = subst (λ s. MayStand xs (moved s low high esn) (Some id)) (sym is) here in
    let index = index-without xs old mid id at r g.sound.rising g.index w rising h in
    let less = fewer xs at id w.inside w.ids in
    let most = few mid (without xs id) index in
    let roomy = g.roomy in
    let sound = sound-moved xs next limit id low high esn at r g.sound w.place is number stands in
    record {
      roomy = omega (arith, less, most, roomy, enough);
      free = places_free mid (without xs id) (moved r low high esn) index (stands_in_place xs id (moved r low high esn) may);
      sound = sound.0;
      is = sound.1;
      index = λ new up k. index-put mid new (without xs id) (set xs at (moved r low high esn)) (moved r low high esn) index up k (λ s. set_among xs at id (moved r low high esn) s g.sound.rising w.inside w.ids);
    }
