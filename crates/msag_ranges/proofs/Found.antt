-- The first of a list that passes a test.
use Rattle.std.proofs.Common.{◌≡◌, ℕ, ◌<◌, ◌≤◌, Bool, true, false, cond, List, [], ◌∷◌, AllPairs, Contains, Option, Some, None, IfSome, IsSomeAnd, refl, sym, ap, subst, ◌∙◌, arith, zero, suc, find, min, ◌&&◌, ◌==◌, inl, inr}
use Rattle.std.specs.Option.{option_map, option_map_or}
use Rattle.std.proofs.lemmas.Bool.{cases_lt, false_from_ne_true}
use Rattle.msag_ranges.specs.StreetGuide.{range_of, is_other, overlaps, least_overlap}
use Rattle.msag_ranges.specs.declared.range.Range.{Range}
use Rattle.msag_ranges.specs.GuideIndex.{lesser, overlaps_id}
use Rattle.msag_ranges.proofs.GuideKept.{least-first, same_id}

-- two tests are the same where each passes when the other does
pub alike : (a b : Bool) → (a ≡ true → b ≡ true) → (b ≡ true → a ≡ true) → a ≡ b
alike true b h k = sym (h refl)
alike false b h k = sym (false_from_ne_true b (λ e. let t : false ≡ true = k e in absurd cc))

in_tail : (x r : Range) (xs : List Range) → Contains xs r → Contains (x ∷ xs) r
in_tail x r xs (k, l, q) = (suc k, omega arith, q)

-- what is found is in the list, and passes
pub find-in : (p : Range → Bool) (xs : List Range) (r : Range) → find p xs ≡ Some r → Contains xs r × (p r ≡ true)
find-in p [] r h = absurd cc
find-in p (x ∷ xs) r h =
    elim (p x) as (λ b. p x ≡ b → cond b (Some x) (find p xs) ≡ Some r → Contains (x ∷ xs) r × (p r ≡ true)) [
      | true ↦ (λ e k. let q : x ≡ r = cc in ((0, omega arith, q), subst (λ z. p z ≡ true) q e))
      | false ↦ (λ e k. let w = find-in p xs r k in (in_tail x r xs w.0, w.1))
    ] refl h

-- where nothing is found, nothing passes
pub find-none : (p : Range → Bool) (xs : List Range) (r : Range) → find p xs ≡ None → Contains xs r → p r ≡ false
find-none p [] r h (k, l, q) = absurd (omega arith)
find-none p (x ∷ xs) r h (zero, l, q) =
    elim (p x) as (λ b. p x ≡ b → cond b (Some x) (find p xs) ≡ None → p r ≡ false) [
      | true ↦ (λ e k. absurd cc)
      | false ↦ (λ e k. subst (λ z. p z ≡ false) q e)
    ] refl h
find-none p (x ∷ xs) r h (suc k, l, q) =
    elim (p x) as (λ b. cond b (Some x) (find p xs) ≡ None → p r ≡ false) [
      | true ↦ (λ e. absurd cc)
      | false ↦ (λ e. find-none p xs r e (k, omega arith, q))
    ] h

-- what is found has the least id of those that pass
find-first : (p : Range → Bool) (xs : List Range) (t s : Range) → AllPairs (λ r s. r.id < s.id) xs → find p xs ≡ Some t → Contains xs s → p s ≡ true → t.id ≤ s.id
find-first p [] t s rising h (k, l, q) pass = absurd (omega arith)
find-first p (x ∷ xs) t s rising h (zero, l, q) pass =
    let e : p x ≡ true = ap p q ∙ pass in
    let f : Some x ≡ Some t = sym (ap (λ b. cond b (Some x) (find p xs)) e) ∙ h in
    let same : t.id ≡ s.id = ap (λ (z : Range). z.id) (let g : t ≡ x = cc in g) ∙ ap (λ (z : Range). z.id) q in
    omega arith
find-first p (x ∷ xs) t s rising h (suc k, l, q) pass =
    elim (p x) as (λ b. cond b (Some x) (find p xs) ≡ Some t → t.id ≤ s.id) [
      | true ↦ (λ e. let same : t.id ≡ x.id = ap (λ (z : Range). z.id) (let g : t ≡ x = cc in g) in
          let less : x.id < s.id = subst (λ (z : Range). x.id < z.id) q (rising 0 (suc k) s (omega arith) l) in
          omega arith)
      | false ↦ (λ e. find-first p xs t s (λ i j d a b. rising (suc i) (suc j) d (omega arith) (omega arith)) e (k, omega arith, q) pass)
    ] h

pub range_of-in : (ranges : List Range) (id : ℕ) → IfSome (range_of ranges id) (λ r. Contains ranges r)
range_of-in ranges id = elim (range_of ranges id) as (λ o. range_of ranges id ≡ o → IfSome o (λ r. Contains ranges r)) [ None ↦ (λ h. tt) | Some r ↦ (λ h. (find-in (λ s. s.id == id) ranges r h).0) ] refl

pub nothing : (p : Range → Bool) (xs : List Range) → ((r : Range) → Contains xs r → p r ≡ true → ⊥) → None ≡ find p xs
nothing p xs never = elim (find p xs) as (λ o. find p xs ≡ o → None ≡ o) [ None ↦ (λ h. refl) | Some r ↦ (λ h. let w = find-in p xs r h in absurd (never r w.0 w.1)) ] refl

-- the lesser of two numbers

pub lesser-some : (P : ℕ → Type 0) (a b : Option ℕ) → IfSome a P → IfSome b P → IfSome (lesser a b) P
lesser-some P None b h k = k
lesser-some P (Some m) None h k = h
lesser-some P (Some m) (Some n) h k = elim (cases_lt m n) [
  | inl l ↦ subst P (let e : m ≡ min m n = omega arith in e) h
  | inr l ↦ subst P (let e : n ≡ min m n = omega arith in e) k
]

pub lesser-left : (a b : Option ℕ) (id : ℕ) → IsSomeAnd a (λ m. m ≤ id) → IsSomeAnd (lesser a b) (λ m. m ≤ id)
lesser-left None b id h = absurd h
lesser-left (Some m) None id h = h
lesser-left (Some m) (Some n) id h = omega arith

pub lesser-right : (a b : Option ℕ) (id : ℕ) → IsSomeAnd b (λ m. m ≤ id) → IsSomeAnd (lesser a b) (λ m. m ≤ id)
lesser-right None b id h = h
lesser-right (Some m) None id h = absurd h
lesser-right (Some m) (Some n) id h = omega arith

-- the least id of the ranges that overlap

meets : (p : Range → Bool) (ranges : List Range) (o : Option ℕ) (f : Option Range) → AllPairs (λ r s. r.id < s.id) ranges → find p ranges ≡ f
    → IfSome o (λ id. option_map_or p (range_of ranges id) false ≡ true) → ((s : Range) → Contains ranges s → p s ≡ true → IsSomeAnd o (λ m. m ≤ s.id)) → o ≡ option_map (λ s. s.id) f
meets p ranges None None rising h some least = refl
meets p ranges None (Some t) rising h some least = let w = find-in p ranges t h in absurd (least t w.0 w.1)
meets p ranges (Some m) f rising h some least =
    elim (range_of ranges m) as (λ o. range_of ranges m ≡ o → option_map_or p o false ≡ true → Some m ≡ option_map (λ s. s.id) f) [
      | None ↦ (λ e k. absurd cc)
      | Some s ↦ (λ e k. let w = find-in (λ (r : Range). r.id == m) ranges s e in
          elim f as (λ g. find p ranges ≡ g → Some m ≡ option_map (λ s. s.id) g) [
            | None ↦ (λ none. let never = find-none p ranges s none w.0 in absurd cc)
            | Some t ↦ (λ found. let v = find-in p ranges t found in
                let low : m ≤ t.id = least t v.0 v.1 in
                let high : t.id ≤ s.id = find-first p ranges t s rising found w.0 k in
                let id : s.id ≡ m = same_id s m w.1 in
                let same : m ≡ t.id = omega arith in
                ap Some same)
          ] h)
    ] refl some

pub least_is : (ranges : List Range) (r : Range) (except o : Option ℕ) → AllPairs (λ r s. r.id < s.id) ranges → IfSome o (λ id. overlaps_id ranges r except id ≡ true)
    → ((s : Range) → Contains ranges s → (is_other except s.id && overlaps r s) ≡ true → IsSomeAnd o (λ m. m ≤ s.id)) → o ≡ least_overlap ranges r except
least_is ranges r except o rising some least =
    let p : Range → Bool = λ s. is_other except s.id && overlaps r s in
    meets p ranges o (find p ranges) rising refl some least ∙ sym (least-first p ranges rising)
