-- The epochs of a term.
use Rattle.std.proofs.Common.{◌≡◌, ℕ, zero, suc, ◌≤◌, ◌⊎◌, inl, inr, Bool, true, false, cond, List, [], ◌∷◌, refl, ap, sym, ◌∙◌, subst, arith, Some}
use Rattle.std.specs.Prelude.{slice_get}
use Rattle.ali_base.specs.declared.names.NodeName.{NodeName}
use Rattle.ali_base.specs.declared.names.NodeName.TheVariants.{A, B}
use Rattle.ali_base.specs.declared.duty.Duty.{Duty}
use Rattle.pair_world.specs.Frames.{In}
use Rattle.pair_world.specs.World.{other, is_node, term, last_epoch_of, term_from}
use Rattle.pair_world.specs.SoundWorld.{AreCounted}
use Rattle.std.proofs.lemmas.Bool.{cond_both}
use Rattle.pair_world.proofs.Items.{not_there}

in_front : {A : Type 0} (x : A) (xs : List A) (y : A) → In (x ∷ xs) y → (x ≡ y) ⊎ In xs y
in_front x xs y h = by_place h.0 h.1
  where
    by_place : (k : ℕ) → slice_get (x ∷ xs) k ≡ Some y → (x ≡ y) ⊎ In xs y
    by_place zero e = inl (cc)
    by_place (suc k) e = inr (k, e)

-- a term is never empty
term_front : (k : ℕ) (d : Duty) (ds : List Duty) → last_epoch_of k (term d ds) ≡ last_epoch_of d.epoch (term d ds)
term_front k d [] = refl
term_front k d (b ∷ bs) = by_holder (is_node d.holder b.holder)
  where
    by_holder : (t : Bool) → last_epoch_of k (cond t (d ∷ term b bs) (d ∷ [])) ≡ last_epoch_of d.epoch (cond t (d ∷ term b bs) (d ∷ []))
    by_holder true = refl
    by_holder false = refl

-- a term goes on with the one before, where the holder is the same
pub term_step : (d b : Duty) (bs : List Duty) → term_from d (b ∷ bs) ≡ cond (is_node d.holder b.holder) (term_from b bs) d.epoch
term_step d b bs = by_holder (is_node d.holder b.holder)
  where
    by_holder : (t : Bool) → last_epoch_of d.epoch (cond t (d ∷ term b bs) (d ∷ [])) ≡ cond t (term_from b bs) d.epoch
    by_holder true = term_front d.epoch b bs
    by_holder false = refl

pub same_node : (m n : NodeName) → is_node m n ≡ true → m ≡ n
same_node A A is = refl
same_node B B is = refl
same_node A B is = absurd (cc)
same_node B A is = absurd (cc)

pub node_same : (m n : NodeName) → m ≡ n → is_node m n ≡ true
node_same m n e = subst (λ z. is_node m z ≡ true) e (itself m)
  where
    itself : (n : NodeName) → is_node n n ≡ true
    itself A = refl
    itself B = refl

pub holder_term : (d b : Duty) (bs : List Duty) → d.holder ≡ b.holder → term_from d (b ∷ bs) ≡ term_from b bs
holder_term d b bs same = term_step d b bs ∙ ap (λ t. cond t (term_from b bs) d.epoch) (node_same d.holder b.holder same)

pub taker_term : (d b : Duty) (bs : List Duty) → d.holder ≡ other b.holder → term_from d (b ∷ bs) ≡ d.epoch
taker_term d b bs taker = term_step d b bs ∙ ap (λ n. cond (is_node n b.holder) (term_from b bs) d.epoch) taker ∙ ap (λ t. cond t (term_from b bs) d.epoch) (is_apart b.holder)
  where
    is_apart : (n : NodeName) → is_node (other n) n ≡ false
    is_apart A = refl
    is_apart B = refl

pub term_low : (d : Duty) (ds : List Duty) → AreCounted d ds → term_from d ds ≤ d.epoch
term_low d [] c = omega arith
term_low d (b ∷ bs) c =
    let rec = term_low b bs c.1 in
    subst (λ t. t ≤ d.epoch) (sym (term_step d b bs)) (cond_both (is_node d.holder b.holder) (term_from b bs) d.epoch (λ t. t ≤ d.epoch) (λ same. omega (arith, c.0, rec)) (λ apart. omega arith))

pub term_within : (d : Duty) (ds : List Duty) (e : ℕ) → AreCounted d ds → (one : Duty) → In (term d ds) one → one.epoch ≡ e → (term_from d ds ≤ e) × (e ≤ d.epoch)
term_within d [] e c one i is = elim (in_front d [] one i) [
  | inl same ↦ (let k = ap (λ (z : Duty). z.epoch) same in (omega arith, omega arith))
  | inr none ↦ absurd (not_there one none.0 none.1)
]
term_within d (b ∷ bs) e c one i is =
    subst (λ t. (t ≤ e) × (e ≤ d.epoch)) (sym (term_step d b bs)) (by_holder (is_node d.holder b.holder) i (λ inside. term_within b bs e c.1 one inside is))
  where
    low : term_from b bs ≤ b.epoch
    low = term_low b bs c.1

    by_holder : (t : Bool) → In (cond t (d ∷ term b bs) (d ∷ [])) one → (In (term b bs) one → (term_from b bs ≤ e) × (e ≤ b.epoch)) → (cond t (term_from b bs) d.epoch ≤ e) × (e ≤ d.epoch)
    by_holder true i rec = elim (in_front d (term b bs) one i) [
      | inl same ↦ (let k = ap (λ (z : Duty). z.epoch) same in (omega (arith, low, c.0), omega arith))
      | inr inside ↦ (let r = rec inside in (r.0, omega (arith, r.1, c.0)))
    ]
    by_holder false i rec = elim (in_front d [] one i) [
      | inl same ↦ (let k = ap (λ (z : Duty). z.epoch) same in (omega arith, omega arith))
      | inr none ↦ absurd (not_there one none.0 none.1)
    ]

pub term_has : (d : Duty) (ds : List Duty) (e : ℕ) → AreCounted d ds → term_from d ds ≤ e → e ≤ d.epoch → (one : Duty) × In (term d ds) one × (one.epoch ≡ e)
term_has d [] e c low high = (d, (0, refl), omega arith)
term_has d (b ∷ bs) e c low high =
    by_holder (is_node d.holder b.holder) (subst (λ t. t ≤ e) (term_step d b bs) low) (λ low before. term_has b bs e c.1 low before)
  where
    split : (d.epoch ≡ e) ⊎ (e ≤ b.epoch)
    split = grind (arith, c.0)

    by_holder : (t : Bool) → cond t (term_from b bs) d.epoch ≤ e → (term_from b bs ≤ e → e ≤ b.epoch → (one : Duty) × In (term b bs) one × (one.epoch ≡ e)) → (one : Duty) × In (cond t (d ∷ term b bs) (d ∷ [])) one × (one.epoch ≡ e)
    by_holder false low rec = (d, (0, refl), omega arith)
    by_holder true low rec = elim split [
      | inl now ↦ (d, (0, refl), now)
      | inr before ↦ (let r = rec low before in (r.0, (suc r.1.0, r.1.1), r.2))
    ]

-- of two names, one is the other or its other
pub either : (n h : NodeName) → (n ≡ h) ⊎ (n ≡ other h)
either A A = inl refl
either A B = inr refl
either B A = inr refl
either B B = inl refl
