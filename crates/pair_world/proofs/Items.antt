-- Tests, numbers, items of lists, and messages.
use Rattle.std.proofs.Common.{◌≡◌, ℕ, zero, suc, ◌<◌, ◌≤◌, ◌⊎◌, inl, inr, List, [], ◌∷◌, ◌++◌, length, take, refl, ap, ◌∙◌, arith, Option, Some, None}
use Rattle.std.specs.Prelude.{slice_get, max}
use Rattle.pair_world.specs.Frames.{item_at, In, OnItem, without}
use Rattle.pair_world.specs.World.{Shipment, Ack, Message, Ships, Acks}

pub some_is : {A : Type 0} (x y : A) → ◌≡◌ {A = Option A} (Some x) (Some y) → x ≡ y
some_is x y e = cc

pub none_some : {A : Type 0} (x : A) → ◌≡◌ {A = Option A} None (Some x) → ⊥
none_some x e = absurd (cc)

pub not_there : {A : Type 0} (x : A) (k : ℕ) → slice_get {X = A} [] k ≡ Some x → ⊥
not_there x k e = absurd (cc)

-- a message is of one kind, and is what it carries
pub ship_is : {E : Type 0} (x y : Shipment E) → ◌≡◌ {A = Message E} (Ships x) (Ships y) → x ≡ y
ship_is x y e = cc

pub ack_is : {E : Type 0} (a c : Ack) → ◌≡◌ {A = Message E} (Acks a) (Acks c) → a ≡ c
ack_is a c e = cc

pub not_ack : {E : Type 0} (x : Shipment E) (a : Ack) → ◌≡◌ {A = Message E} (Ships x) (Acks a) → ⊥
not_ack x a e = absurd (cc)

pub suc_is : (m n : ℕ) → suc m ≡ suc n → m ≡ n
suc_is m n e = omega arith

pub which : (m n : ℕ) → (max m n ≡ m) ⊎ (max m n ≡ n)
which m n = grind arith

-- the place is among the first n, or the next
pub within_or_next : (k n : ℕ) → k ≤ suc n → (k ≤ n) ⊎ (k ≡ suc n)
within_or_next k n h = grind arith

pub on_item : {A : Type 0} (o : Option A) (P : A → Type 0) → OnItem o P → (x : A) × (o ≡ Some x) × P x
on_item None P h = absurd h
on_item (Some x) P h = (x, refl, h)

pub in_item : {A : Type 0} (xs : List A) (i : ℕ) (x : A) → item_at xs i ≡ Some x → In xs x
in_item xs zero x h = absurd (cc)
in_item xs (suc i) x h = (i, h)

pub nth_more : {A : Type 0} (xs : List A) (p : ℕ) (f : A) → slice_get xs p ≡ Some f → (suc p ≤ length xs) × (take (suc p) xs ≡ take p xs ++ f ∷ [])
nth_more [] p f h = absurd (cc)
nth_more (x ∷ xs) zero f h = (omega arith, ap (λ z. z ∷ []) (some_is x f h))
nth_more (x ∷ xs) (suc p) f h = let r = nth_more xs p f h in (omega arith, ap (λ z. x ∷ z) r.1)

-- membership
pub In-append : {A : Type 0} (xs : List A) (y x : A) → In (xs ++ y ∷ []) x → In xs x ⊎ (y ≡ x)
In-append xs y x h = by_place xs h.0 h.1
  where
    by_place : (xs : List _) (i : ℕ) → slice_get (xs ++ y ∷ []) i ≡ Some x → In xs x ⊎ (y ≡ x)
    by_place [] zero h = inr (cc)
    by_place [] (suc i) h = absurd (cc)
    by_place (z ∷ xs) zero h = inl (0, h)
    by_place (z ∷ xs) (suc i) h = elim (by_place xs i h) [ inl p ↦ inl (suc p.0, p.1) | inr e ↦ inr e ]

pub slice_get-take : {A : Type 0} (n k : ℕ) (xs : List A) (x : A) → slice_get (take n xs) k ≡ Some x → (k < n) × (slice_get xs k ≡ Some x)
slice_get-take zero k xs x h = absurd (cc)
slice_get-take (suc n) k [] x h = absurd (cc)
slice_get-take (suc n) zero (y ∷ xs) x h = (omega arith, h)
slice_get-take (suc n) (suc k) (y ∷ xs) x h = let r = slice_get-take n k xs x h in (omega arith, r.1)

pub slice_get_within : {A : Type 0} (xs : List A) (k : ℕ) (x : A) → slice_get xs k ≡ Some x → k < length xs
slice_get_within xs k x h = (nth_more xs k x h).0

pub Begins-get : {A : Type 0} (xs ys : List A) (k : ℕ) (x : A) → take (length ys) xs ≡ ys → slice_get ys k ≡ Some x → slice_get xs k ≡ Some x
Begins-get xs ys k x b h = (slice_get-take (length ys) k xs x (ap (λ z. slice_get z k) b ∙ h)).1

pub slice_none : {A : Type 0} (xs : List A) (k : ℕ) → slice_get xs k ≡ None → length xs ≤ k
slice_none [] k h = omega arith
slice_none (x ∷ xs) zero h = absurd (cc)
slice_none (x ∷ xs) (suc k) h = let r = slice_none xs k h in omega arith

pub slice_push : {A : Type 0} (xs : List A) (y x : A) (k : ℕ) → slice_get (xs ++ y ∷ []) k ≡ Some x → (slice_get xs k ≡ Some x) ⊎ ((k ≡ length xs) × (y ≡ x))
slice_push [] y x zero h = inr (refl, cc)
slice_push [] y x (suc k) h = absurd (cc)
slice_push (z ∷ xs) y x zero h = inl h
slice_push (z ∷ xs) y x (suc k) h = elim (slice_push xs y x k h) [ inl a ↦ inl a | inr b ↦ inr (ap suc b.0, b.1) ]

pub slice_more : {A : Type 0} (xs ys : List A) (k : ℕ) (x : A) → slice_get xs k ≡ Some x → slice_get (xs ++ ys) k ≡ Some x
slice_more [] ys k x h = absurd (cc)
slice_more (z ∷ xs) ys zero x h = h
slice_more (z ∷ xs) ys (suc k) x h = slice_more xs ys k x h

pub slice_end : {A : Type 0} (xs : List A) (k : ℕ) (x : A) → length xs ≤ k → slice_get xs k ≡ Some x → ⊥
slice_end xs k x far h = absurd (omega (arith, slice_get_within xs k x h))

pub In-without : {A : Type 0} (xs : List A) (i k : ℕ) (x : A) → slice_get (without xs i) k ≡ Some x → In xs x
In-without [] i k x h = (k, h)
In-without (y ∷ xs) zero k x h = (k, h)
In-without (y ∷ xs) (suc zero) k x h = (suc k, h)
In-without (y ∷ xs) (suc (suc i)) zero x h = (0, h)
In-without (y ∷ xs) (suc (suc i)) (suc k) x h = let r = In-without xs (suc i) k x h in (suc r.0, r.1)
