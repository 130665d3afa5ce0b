-- What each answer to a shipment leaves.
use Rattle.std.proofs.Common.{◌≡◌, ℕ, zero, suc, ◌-◌, ◌<◌, ◌≤◌, ◌⊎◌, inl, inr, true, false, not, ◌&&◌, ◌==◌, nat_lt, List, [], ◌∷◌, ◌++◌, length, take, refl, ap, sym, ◌∙◌, arith, Option, Some, None}
use Rattle.std.specs.Prelude.{slice_get}
use Rattle.std.proofs.lemmas.List.{take_all, length_push}
use Rattle.std.proofs.lemmas.Bool.{and_parts}
use Rattle.std.proofs.lemmas.Bool.Decides.{nat_tests}
use Rattle.pair_world.specs.Frames.{Frame, epoch_at, Begins, Shares, Agree, Rising}
use Rattle.pair_world.specs.World.{told_by, Shipment}
use Rattle.pair_world.specs.Deliveries.{Answer, Behind, Have, Cut, Stored, Have_end, differs_before, old_next, answer_in}
use Rattle.pair_world.specs.SoundWorld.{Tells}
use Rattle.pair_world.proofs.Parts.{UncommittedSuffix, Follows}
use Rattle.pair_world.proofs.Items.{nth_more}
use Rattle.pair_world.proofs.Lists.{epoch_is, Shares-less, Shares-epoch, Begins-Shares, Shares-Begins, Shares-take, Agree-Shares}
use Rattle.std.proofs.lemmas.Bool.{cond_both}

-- a cut takes the old suffix, and nothing that the two share
pub record CutFits {E : Type 0} (n : ℕ) (xs ys : List (Frame E)) : Type 0 where
  pub last : length ys ≡ suc n
  pub begins : Begins xs (take n ys)
  pub kept : (m : ℕ) → Shares m xs ys → m ≤ n
  pub apart : Begins xs ys → ⊥

pub record StoredFits {E : Type 0} (f : Frame E) (xs ys : List (Frame E)) : Type 0 where
  pub before : Begins xs ys
  pub after : Begins xs (ys ++ f ∷ [])

abbrev pub Fits : {E : Type 0} → ℕ → List (Frame E) → List (Frame E) → Shipment E → Answer E → Type 0
Fits since xs ys x Behind = Unit {0}
Fits since xs ys x Have = Shares (suc x.preceding) xs ys
Fits since xs ys x (Cut n) = CutFits n xs ys
Fits since xs ys x (Stored f) = StoredFits f xs ys × (length ys ≡ x.preceding) × Shares (suc x.preceding) xs (ys ++ f ∷ [])
Fits since xs ys x Have_end = Shares x.preceding xs ys × Begins xs ys

module _ {E : Type 0} (since top : ℕ) (xs ys : List (Frame E)) (x : Shipment E) (follows : Follows since xs ys) (agree : Agree xs ys) (rising : Rising top ys) (before : x.before ≡ epoch_at xs x.preceding) (term : since ≤ x.epoch) where
  pub cut_fits : (n : ℕ) → suc n ≤ length ys → (Shares (suc n) xs ys → ⊥) → CutFits n xs ys
  cut_fits n long apart =
      elim follows [
        | inl b ↦ absurd (apart (Shares-less (Begins-Shares b) long))
        | inr t ↦ by_suffix t
      ]
    where
      by_suffix : UncommittedSuffix since xs ys → CutFits n xs ys
      by_suffix t =
          elim (cases t) [
            | inl here ↦
                record {
                  last = omega arith;
                  begins = Shares-take (Shares-less t.shared (omega arith));
                  kept = λ m s. elim (up m) [ inl h ↦ h | inr h ↦ absurd (apart (Shares-less s h)) ];
                  apart = λ b. apart (Shares-less (Begins-Shares b) long);
                }
            | inr less ↦ absurd (apart (Shares-less t.shared less))
          ]
        where
          cases : (t : UncommittedSuffix since xs ys) → (t.at ≡ n) ⊎ (suc n ≤ t.at)
          cases t = grind arith

          up : (m : ℕ) → (m ≤ n) ⊎ (suc n ≤ m)
          up m = grind arith

  same_before : differs_before ys (told_by x) ≡ false → epoch_at xs x.preceding ≡ epoch_at ys x.preceding
  same_before h = by_place x.preceding before h
    where
      by_place : (p : ℕ) → x.before ≡ epoch_at xs p → (nat_lt 0 p && not (epoch_at ys p == x.before)) ≡ false → epoch_at xs p ≡ epoch_at ys p
      by_place zero b h = refl
      by_place (suc p) b h = grind (arith, nat_tests)

  shares_before : differs_before ys (told_by x) ≡ false → x.preceding ≤ length xs → x.preceding ≤ length ys → Shares x.preceding xs ys
  shares_before h left right = Agree-Shares agree x.preceding left right (same_before h)

  cut_before : differs_before ys (told_by x) ≡ true → x.preceding ≤ length ys → CutFits (x.preceding - 1) xs ys
  cut_before h right = by_place x.preceding before h right
    where
      by_place : (p : ℕ) → x.before ≡ epoch_at xs p → (nat_lt 0 p && not (epoch_at ys p == x.before)) ≡ true → p ≤ length ys → CutFits (p - 1) xs ys
      by_place zero b h right = absurd (cc)
      by_place (suc p) b h right =
          let e : suc p - 1 ≡ p = omega arith in
          rw e (cut_fits p right (λ s. let k = Shares-epoch s (suc p) (omega arith) in grind (arith, nat_tests)))

  stored_fits : (f : Frame E) → slice_get xs x.preceding ≡ Some f → length ys ≡ x.preceding → Shares x.preceding xs ys → StoredFits f xs ys × (length ys ≡ x.preceding) × Shares (suc x.preceding) xs (ys ++ f ∷ [])
  stored_fits f says len shared =
      let n = nth_more xs x.preceding f says in
      let front : take x.preceding xs ≡ ys = shared.front ∙ take_all x.preceding ys (omega arith) in
      let more : take (suc x.preceding) xs ≡ ys ++ f ∷ [] = n.1 ∙ ap (λ z. z ++ f ∷ []) front in
      let long : length (ys ++ f ∷ []) ≡ suc x.preceding = omega (arith, length_push ys f) in
      let whole : Shares (suc x.preceding) xs (ys ++ f ∷ []) = record { left = n.0; right = omega arith; front = more ∙ sym (take_all (suc x.preceding) (ys ++ f ∷ []) (omega arith)) } in
      (record { before = Shares-Begins shared (sym len); after = Shares-Begins whole (sym long) }, len, whole)

  end_begins : Shares x.preceding xs ys → old_next ys (told_by x) ≡ false → Begins xs ys
  end_begins shared young = elim follows [ inl b ↦ b | inr t ↦ by_suffix t ]
    where
      by_suffix : UncommittedSuffix since xs ys → Begins xs ys
      by_suffix t =
          elim (cases t) [
            | inl inside ↦
                let never = rising.never_fall (suc x.preceding) (suc t.at) (omega arith) (omega (arith, t.long)) in
                let least : x.epoch ≤ epoch_at ys (suc x.preceding) = least_next (omega (arith, t.long)) in
                absurd (omega (arith, never, least, t.old))
            | inr past ↦
                let same = Shares-epoch shared (suc t.at) past in
                let least = t.past (suc t.at) (omega arith) (omega (arith, shared.left)) in
                absurd (omega (arith, same, least, t.old))
          ]
        where
          cases : (t : UncommittedSuffix since xs ys) → (x.preceding ≤ t.at) ⊎ (suc t.at ≤ x.preceding)
          cases t = grind arith

          least_next : suc x.preceding ≤ length ys → x.epoch ≤ epoch_at ys (suc x.preceding)
          least_next right = grind (arith, nat_tests)

  pub answer_fits : (o : Option (Frame E)) → Tells xs x o → x.preceding ≤ length ys → Fits since xs ys x (answer_in ys (told_by x) o)
  answer_fits (Some f) says fits =
      let n = nth_more xs x.preceding f says in
      cond_both (nat_lt x.preceding (length ys)) _ _ (Fits since xs ys x)
      (λ long.
      let right : suc x.preceding ≤ length ys = grind (arith, nat_tests) in
      cond_both (epoch_at ys (suc x.preceding) == f.epoch) _ _ (Fits since xs ys x)
      (λ same. Agree-Shares agree (suc x.preceding) n.0 right (grind (arith, nat_tests, epoch_is xs x.preceding f says)))
      (λ other. cut_fits x.preceding right (λ s.
      let k = Shares-epoch s (suc x.preceding) (omega arith) in
      grind (arith, nat_tests, epoch_is xs x.preceding f says))))
      (λ short.
      let len : length ys ≡ x.preceding = grind (arith, nat_tests) in
      cond_both (differs_before ys (told_by x)) _ _ (Fits since xs ys x)
      (λ differs. cut_before differs fits)
      (λ same. stored_fits f says len (shares_before same (omega arith) fits)))
  answer_fits None says fits =
      cond_both (differs_before ys (told_by x)) _ _ (Fits since xs ys x)
      (λ differs. cut_before differs fits)
      (λ same.
      let shared = shares_before same says.0 fits in
      cond_both (old_next ys (told_by x)) _ _ (Fits since xs ys x)
      (λ old.
      let parts = and_parts (nat_lt x.preceding (length ys)) (nat_lt (epoch_at ys (suc x.preceding)) x.epoch) old in
      let right : suc x.preceding ≤ length ys = grind (arith, nat_tests, parts.0) in
      let less : epoch_at ys (suc x.preceding) < x.epoch = grind (arith, nat_tests, parts.1) in
      cut_fits x.preceding right (λ s.
      let k = Shares-epoch s (suc x.preceding) (omega arith) in
      let least = says.1 (suc x.preceding) (omega arith) s.left in
      absurd (omega (arith, k, least, less))))
      (λ young. (shared, end_begins shared young)))
