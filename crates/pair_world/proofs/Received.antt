-- A delivery is answered as the receiver alone answers it.
use Rattle.std.proofs.Common.{◌⊎◌, ◌≡◌, ℕ, suc, ◌<◌, ◌≤◌, inl, inr, true, false, cond, nat_lt, ◌==◌, ◌-◌, List, length, refl, ap, sym, ◌∙◌, subst, arith, Option, Some, None}
use Rattle.std.proofs.lemmas.Bool.Decides.{nat_tests}
use Rattle.pair_world.specs.Frames.{Frame, epoch_at, item_at, OnItem}
use Rattle.pair_world.specs.World.{other, Shipment, Message, Ships, told_by, put_node, Resolved, is_up, known, with_node, World}
use Rattle.pair_world.specs.Deliveries.{NodeMessage, Told_stale, Told_behind, told_as, Answer, Behind, Cut, Stored, Have, Have_end, differs_before, old_next, answer_in, answer, journal_after, ack_end, journal_left, known_left}
use Rattle.pair_world.specs.Changes.{delivered, epoch_heard, journal_stored, with_ack}
use Rattle.pair_world.specs.Replies.{receiver, said, state_left, receiver_changed, receiver_answered}
use Rattle.pair_world.specs.Step.{Deliver, Bounds, IsBehind, CanStore, CanDeliver, OnShipment, HearsEpoch, Refuses, WorldStep}
use Rattle.std.proofs.lemmas.Bool.{cond_both}

module _ {E : Type 0} where
  -- no later epoch is known
  not_stale : (known : ℕ) (m : NodeMessage E) → known ≤ m.epoch → nat_lt m.epoch known ≡ false
  not_stale known m fits = grind (arith, nat_tests)

  is_stale : (known : ℕ) (m : NodeMessage E) → m.epoch < known → nat_lt m.epoch known ≡ true
  is_stale known m less = grind (arith, nat_tests)

  behind_is : (journal : List (Frame E)) (m : NodeMessage E) → length journal < m.preceding → answer journal m ≡ Behind
  unfolding answer
  behind_is journal m short = ap (λ b. cond b Behind (answer_in journal m m.frame)) is
    where
      is : nat_lt (length journal) m.preceding ≡ true
      is = grind (arith, nat_tests)

  -- no row below the first is BEHIND
  not_behind : (journal : List (Frame E)) (m : NodeMessage E) → m.preceding ≤ length journal → answer journal m ≡ Behind → ⊥
  unfolding answer
  not_behind journal m fits is = below m.frame (sym (ap (λ b. cond b Behind (answer_in journal m m.frame)) short) ∙ is)
    where
      short : nat_lt (length journal) m.preceding ≡ false
      short = grind (arith, nat_tests)

      below : (o : Option (Frame E)) → answer_in journal m o ≡ Behind → ⊥
      below (Some f) =
          cond_both (nat_lt m.preceding (length journal)) _ _ (λ (a : Answer E). a ≡ Behind → ⊥)
          (λ long. cond_both (epoch_at journal (suc m.preceding) == f.epoch) Have (Cut m.preceding) (λ (a : Answer E). a ≡ Behind → ⊥) (λ t e. absurd (cc)) (λ t e. absurd (cc)))
          (λ here. cond_both (differs_before journal m) (Cut (m.preceding - 1)) (Stored f) (λ (a : Answer E). a ≡ Behind → ⊥) (λ t e. absurd (cc)) (λ t e. absurd (cc)))
      below None =
          cond_both (differs_before journal m) _ _ (λ (a : Answer E). a ≡ Behind → ⊥) (λ t e. absurd (cc))
          (λ same. cond_both (old_next journal m) (Cut m.preceding) Have_end (λ (a : Answer E). a ≡ Behind → ⊥) (λ t e. absurd (cc)) (λ t e. absurd (cc)))

module _ {E : Type 0} (w : World E) (i : ℕ) (x : Shipment E) (at : item_at w.base.messages i ≡ Some (Ships x)) where
  -- a stale shipment raises no epoch
  none_heard : x.epoch < known w.base (other x.sender) → (v : World E) → HearsEpoch {Q = Unit {0}} w (Deliver i) v → ⊥
  none_heard less v h = by_item (item_at w.base.messages i) at h.1
    where
      by_item : (o : Option (Message E)) → o ≡ Some (Ships x) → OnItem o (λ m. OnShipment m (λ y. IsBehind w.base y × (v ≡ record w { base = epoch_heard w.base y }))) → ⊥
      by_item o is g = by_shipment (subst (λ z. OnItem z (λ m. OnShipment m (λ y. IsBehind w.base y × (v ≡ record w { base = epoch_heard w.base y })))) is g)
        where
          by_shipment : IsBehind w.base x × (v ≡ record w { base = epoch_heard w.base x }) → ⊥
          by_shipment g = absurd (let later = g.0.not_stale in omega arith)

module _ {E : Type 0} where
  pub stale_said : (w : Resolved E) (x : Shipment E) → x.epoch < known w (other x.sender) → said w x ≡ Told_stale x.epoch (known w (other x.sender))
  stale_said w x less = ap (λ b. cond b (Told_stale x.epoch (known w (other x.sender))) (told_as (receiver w x).journal (told_by x) (answer (receiver w x).journal (told_by x)))) (is_stale (known w (other x.sender)) (told_by x) less)

  pub stale_left : (w : Resolved E) (x : Shipment E) → x.epoch < known w (other x.sender) → state_left (receiver w x) (told_by x) ≡ receiver w x
  stale_left w x less =
      ap (λ b. record (receiver w x) { known = known_left (receiver w x).known (told_by x); journal = cond b (receiver w x).journal (journal_after (receiver w x).journal (answer (receiver w x).journal (told_by x))) }) (is_stale (known w (other x.sender)) (told_by x) less)
      ∙ ap (λ k. record (receiver w x) { known = k }) stays
    where
      stays : known_left (receiver w x).known (told_by x) ≡ (receiver w x).known
      stays = grind arith

  -- what is left where the shipment is not stale
  pub fresh_said : (w : Resolved E) (x : Shipment E) → known w (other x.sender) ≤ x.epoch → said w x ≡ told_as (receiver w x).journal (told_by x) (answer (receiver w x).journal (told_by x))
  fresh_said w x fits = ap (λ b. cond b (Told_stale x.epoch (known w (other x.sender))) (told_as (receiver w x).journal (told_by x) (answer (receiver w x).journal (told_by x)))) (not_stale (known w (other x.sender)) (told_by x) fits)

  pub fresh_left : (w : Resolved E) (x : Shipment E) → known w (other x.sender) ≤ x.epoch → journal_left (receiver w x).known (receiver w x).journal (told_by x) ≡ journal_stored w x
  fresh_left w x fits = ap (λ b. cond b (receiver w x).journal (journal_after (receiver w x).journal (answer (receiver w x).journal (told_by x)))) (not_stale (known w (other x.sender)) (told_by x) fits)

module _ {E : Type 0} (w : World E) (i : ℕ) (x : Shipment E) (at : item_at w.base.messages i ≡ Some (Ships x)) where
  pub stale_same : x.epoch < known w.base (other x.sender) → (v : World E) → Refuses {Q = Unit {0}} w (Deliver i) v → v ≡ w
  stale_same less v (inl same) = same
  stale_same less v (inr h) = absurd (none_heard w i x at less v h)

  pub behind_said : IsBehind w.base x → said w.base x ≡ Told_behind (length (receiver w.base x).journal) (suc x.preceding)
  behind_said g = fresh_said w.base x g.not_stale ∙ ap (told_as (receiver w.base x).journal (told_by x)) (behind_is (receiver w.base x).journal (told_by x) g.behind)

  pub behind_left : IsBehind w.base x → journal_left (receiver w.base x).known (receiver w.base x).journal (told_by x) ≡ (receiver w.base x).journal
  behind_left g = fresh_left w.base x g.not_stale ∙ ap (journal_after (receiver w.base x).journal) (behind_is (receiver w.base x).journal (told_by x) g.behind)

  pub behind_heard : w.register_up ≡ true → IsBehind w.base x → HearsEpoch {Q = Unit {0}} w (Deliver i) (record w { base = receiver_changed w.base x })
  behind_heard reg g = (
    reg,
    subst (λ o. OnItem o (λ m. OnShipment m (λ y. IsBehind w.base y × (record w { base = receiver_changed w.base x } ≡ record w { base = epoch_heard w.base y })))) (sym at)
        (g, ap (λ j. record w { base = with_node w.base (other x.sender) (record (receiver w.base x) { known = known_left (receiver w.base x).known (told_by x); journal = j }) }) (behind_left g)),
  )

  pub taken_done : (due : List E → E → Type 0) (bounds : Bounds) → w.register_up ≡ true → CanStore w.base x → WorldStep {Q = Unit {0}} due bounds w (Deliver i) (record w { base = receiver_answered w.base x })
  taken_done due bounds reg g = (
    reg,
    subst (λ o. OnItem o (λ m. CanDeliver w.base m × (receiver_answered w.base x ≡ delivered w.base m))) (sym at)
        (g, ap (λ j. record w.base { nodes = put_node w.base.nodes (other x.sender) (record (receiver w.base x) { known = known_left (receiver w.base x).known (told_by x); journal = j }); messages = with_ack x (ack_end (answer (receiver w.base x).journal (told_by x))) w.base.messages }) (fresh_left w.base x g.not_stale)),
    refl,
  )

  pub taken_not_behind : CanStore w.base x → answer (receiver w.base x).journal (told_by x) ≡ Behind → ⊥
  taken_not_behind g = not_behind (receiver w.base x).journal (told_by x) g.not_behind

-- a shipment that is not stale finds its receiver behind, or not
pub behind_or_not : {E : Type 0} (w : Resolved E) (x : Shipment E) → is_up w (other x.sender) → known w (other x.sender) ≤ x.epoch → IsBehind w x ⊎ CanStore w x
behind_or_not w x up fresh = elim (split x.preceding (length (receiver w x).journal)) [
  | inl short ↦ inl (record { up = up; not_stale = fresh; behind = short })
  | inr long ↦ inr (record { up = up; not_stale = fresh; not_behind = long })
]
  where
    split : (m n : ℕ) → (n < m) ⊎ (m ≤ n)
    split m n = grind arith
