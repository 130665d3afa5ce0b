-- The order of places.
use Rattle.std.proofs.Common.{◌≡◌, ℕ, ◌<◌, ◌≤◌, Bool, true, false, List, refl, sym, ap, subst, ◌∙◌, arith}
use Rattle.std.specs.Ordering.{nat_cmp, bool_cmp, ordering_then, ordering_reverse, is_eq, is_lt}
use Rattle.std.specs.declared.cmp.Ordering.{Ordering}
use Rattle.std.specs.declared.cmp.Ordering.TheVariants.{Less, Equal, Greater}
use Rattle.std.specs.Cmp.{IsTotalOrder, bool_cmp_total}
use Rattle.std.specs.Cmp.Lexicographic.{slice_cmp}
use Rattle.std.proofs.lemmas.Cmp.{nat_cmp_total, nat_list_cmp_total, on_total, then_total, ranked, by_ranked, tied_itself}
use Rattle.std.proofs.lemmas.Slice.Eq.{bytes_eq-Decides}
use Rattle.std.proofs.lemmas.Map.Text.{is_eq-slice_cmp}
use Rattle.ali_base.specs.declared.street_key.StreetKey.{StreetKey}
use Rattle.msag_ranges.specs.declared.place.Place.{Place}
use Rattle.msag_ranges.specs.GuideIndex.{key_cmp, place_cmp, before}
use Rattle.msag_ranges.proofs.Streets.{key_of_fields}

key_cmp_total : IsTotalOrder key_cmp
key_cmp_total =
    then_total (on_total (λ (k : StreetKey). k.community) nat_list_cmp_total)
    (then_total (on_total (λ (k : StreetKey). k.state) nat_list_cmp_total)
    (then_total (on_total (λ (k : StreetKey). k.prefix) nat_list_cmp_total)
    (then_total (on_total (λ (k : StreetKey). k.name) nat_list_cmp_total)
    (then_total (on_total (λ (k : StreetKey). k.suffix) nat_list_cmp_total)
    (on_total (λ (k : StreetKey). k.post) nat_list_cmp_total)))))

place_cmp_total : IsTotalOrder place_cmp
place_cmp_total =
    then_total (on_total (λ (p : Place). p.key) key_cmp_total)
    (then_total (on_total (λ (p : Place). p.odd) bool_cmp_total)
    (on_total (λ (p : Place). p.number) nat_cmp_total))

is_less : (o : Ordering) → is_lt o ≡ true → o ≡ Less
is_less Less h = refl
is_less Equal h = absurd cc
is_less Greater h = absurd cc

neither : (o : Ordering) → is_lt o ≡ false → is_lt (ordering_reverse o) ≡ false → o ≡ Equal
neither Less h k = absurd cc
neither Equal h k = refl
neither Greater h k = absurd cc

-- what an order does not tell apart
tied : {K : Type 0} (R : K → K → Ordering) → IsTotalOrder R → (a b : K) → is_lt (R a b) ≡ false → is_lt (R b a) ≡ false → R a b ≡ Equal
tied R o a b h k = neither (R a b) h (subst (λ z. is_lt z ≡ false) (o.antisymm b a) k)

then_tied : (a b : Ordering) → ordering_then a b ≡ Equal → (a ≡ Equal) × (b ≡ Equal)
then_tied Less b h = absurd cc
then_tied Equal b h = (refl, h)
then_tied Greater b h = absurd cc

then_first : (a b : Ordering) → is_lt (ordering_then a b) ≡ false → is_lt a ≡ false
then_first Less b h = absurd cc
then_first Equal b h = refl
then_first Greater b h = refl

then_rest : (a b : Ordering) → a ≡ Equal → is_lt (ordering_then a b) ≡ is_lt b
then_rest a b e = ap (λ o. is_lt (ordering_then o b)) e

text_tied : (a b : List ℕ) → slice_cmp nat_cmp a b ≡ Equal → a ≡ b
text_tied a b h = (bytes_eq-Decides a b).0 (sym (is_eq-slice_cmp a b) ∙ ap is_eq h)

key_tied : (a b : StreetKey) → key_cmp a b ≡ Equal → a ≡ b
key_tied a b h =
    let w1 = then_tied _ _ h in
    let w2 = then_tied _ _ w1.1 in
    let w3 = then_tied _ _ w2.1 in
    let w4 = then_tied _ _ w3.1 in
    let w5 = then_tied _ _ w4.1 in
    key_of_fields _ _ _ _ _ _ _ _ _ _ _ _ (text_tied _ _ w1.0) (text_tied _ _ w2.0) (text_tied _ _ w3.0) (text_tied _ _ w4.0) (text_tied _ _ w5.0) (text_tied _ _ w5.1)

bool_tied : (a b : Bool) → bool_cmp a b ≡ Equal → a ≡ b
bool_tied true true h = refl
bool_tied true false h = absurd cc
bool_tied false true h = absurd cc
bool_tied false false h = refl

pub nat_tied : (a b : ℕ) → nat_cmp a b ≡ Equal → a ≡ b
nat_tied a b h = by_ranked (a < b) (a ≡ b) (b < a) (nat_cmp a b) (ranked a b (nat_cmp a b) refl) (λ e l. absurd cc) (λ e l. l) (λ e l. absurd cc)

nat_upto : (a b : ℕ) → is_lt (nat_cmp b a) ≡ false → a ≤ b
nat_upto a b h = by_ranked (b < a) (b ≡ a) (a < b) (nat_cmp b a) (ranked b a (nat_cmp b a) refl) (λ e l. let t : is_lt (nat_cmp b a) ≡ true = ap is_lt e in absurd cc) (λ e l. omega arith) (λ e l. omega arith)

nat_not_before : (a b : ℕ) → a ≤ b → is_lt (nat_cmp b a) ≡ false
nat_not_before a b h = by_ranked (b < a) (b ≡ a) (a < b) (nat_cmp b a) (ranked b a (nat_cmp b a) refl) (λ e l. absurd (omega arith)) (λ e l. ap is_lt e) (λ e l. ap is_lt e)

same_fields : (k k' : StreetKey) (o o' : Bool) (n n' : ℕ) → k ≡ k' → o ≡ o' → n ≡ n' → (let p : Place = record { key = k; odd = o; number = n } in p) ≡ (record { key = k'; odd = o'; number = n' })
same_fields k k' o o' n n' e f g = cc

place_tied : (a b : Place) → place_cmp a b ≡ Equal → a ≡ b
place_tied a b h =
    let w = then_tied _ _ h in
    let v = then_tied _ _ w.1 in
    same_fields a.key b.key a.odd b.odd a.number b.number (key_tied a.key b.key w.0) (bool_tied a.odd b.odd v.0) (nat_tied a.number b.number v.1)

-- the laws of the order

pub before-trans : (a b c : Place) → before a b ≡ true → before b c ≡ true → before a c ≡ true
unfolding before
before-trans a b c h k = ap is_lt (place_cmp_total.trans a b c (is_less _ h) (is_less _ k))

pub before-itself : (a : Place) → before a a ≡ false
unfolding before
before-itself a = ap is_lt (tied_itself place_cmp_total a)

pub before-back : (a b : Place) → before a b ≡ true → before b a ≡ false
unfolding before
before-back a b h = ap is_lt (place_cmp_total.antisymm b a ∙ ap ordering_reverse (is_less _ h))

-- of two places that differ, the one comes first that does not come after
pub comes_first : (a b : Place) → before b a ≡ false → (a ≡ b → ⊥) → before a b ≡ true
unfolding before
comes_first a b h ne =
    elim (before a b) as (λ t. before a b ≡ t → t ≡ true) [ true ↦ (λ e. refl) | false ↦ (λ e. absurd (ne (place_tied a b (tied place_cmp place_cmp_total a b e h)))) ] refl

-- what comes at or before a place that comes at or before another
pub not_after : (a b p : Place) → before a b ≡ true → before p b ≡ false → before p a ≡ false
not_after a b p h k =
    elim (before p a) as (λ t. before p a ≡ t → t ≡ false) [ true ↦ (λ e. let l : before p b ≡ true = before-trans p a b e h in absurd cc) | false ↦ (λ e. refl) ] refl

key_itself : (a b : StreetKey) → a ≡ b → key_cmp a b ≡ Equal
key_itself a b e = subst (λ z. key_cmp a z ≡ Equal) e (tied_itself key_cmp_total a)

bool_itself : (a b : Bool) → a ≡ b → bool_cmp a b ≡ Equal
bool_itself a b e = subst (λ z. bool_cmp a z ≡ Equal) e (tied_itself bool_cmp_total a)

-- a place between two of one street is of that street
pub key_between : (a b c : Place) → a.key ≡ c.key → before b a ≡ false → before c b ≡ false → a.key ≡ b.key
unfolding before
key_between a b c key h k =
    let down : is_lt (key_cmp b.key a.key) ≡ false = then_first _ _ h in
    let up : is_lt (key_cmp a.key b.key) ≡ false = subst (λ z. is_lt (key_cmp z b.key) ≡ false) (sym key) (then_first _ _ k) in
    key_tied a.key b.key (tied key_cmp key_cmp_total a.key b.key up down)

pub record IsBetween (a b c : Place) : Type 0 where
  pub key : a.key ≡ b.key
  pub odd : a.odd ≡ b.odd
  pub from : a.number ≤ b.number
  pub to : b.number ≤ c.number

-- a place between two of one street and class is of that street and class, and its number between theirs
pub between : (a b c : Place) → a.key ≡ c.key → a.odd ≡ c.odd → before b a ≡ false → before c b ≡ false → IsBetween a b c
unfolding before
between a b c key odd h k =
    let same : a.key ≡ b.key = key_between a b c key h k in
    let h1 : is_lt (ordering_then (bool_cmp b.odd a.odd) (nat_cmp b.number a.number)) ≡ false = sym (then_rest (key_cmp b.key a.key) _ (key_itself _ _ (sym same))) ∙ h in
    let k1 : is_lt (ordering_then (bool_cmp c.odd b.odd) (nat_cmp c.number b.number)) ≡ false = sym (then_rest (key_cmp c.key b.key) _ (key_itself _ _ (sym key ∙ same))) ∙ k in
    let up : is_lt (bool_cmp a.odd b.odd) ≡ false = subst (λ z. is_lt (bool_cmp z b.odd) ≡ false) (sym odd) (then_first _ _ k1) in
    let class : a.odd ≡ b.odd = bool_tied a.odd b.odd (tied bool_cmp bool_cmp_total a.odd b.odd up (then_first _ _ h1)) in
    record {
      key = same;
      odd = class;
      from = nat_upto _ _ (sym (then_rest (bool_cmp b.odd a.odd) _ (bool_itself _ _ (sym class))) ∙ h1);
      to = nat_upto _ _ (sym (then_rest (bool_cmp c.odd b.odd) _ (bool_itself _ _ (sym odd ∙ class))) ∙ k1);
    }

-- in one street and class places are in the order of their numbers
pub in_row : (a b : Place) → a.key ≡ b.key → a.odd ≡ b.odd → a.number ≤ b.number → before b a ≡ false
unfolding before
in_row a b key odd h =
    then_rest (key_cmp b.key a.key) _ (key_itself _ _ (sym key)) ∙ then_rest (bool_cmp b.odd a.odd) _ (bool_itself _ _ (sym odd)) ∙ nat_not_before a.number b.number h
