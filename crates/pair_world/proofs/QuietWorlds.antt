-- Worlds with no messages and at most one frame in a journal: their parts.
use Rattle.std.proofs.Common.{◌≡◌, ℕ, zero, suc, ◌<◌, ◌≤◌, inl, inr, List, [], ◌∷◌, length, refl, ap, sym, ◌∙◌, subst, arith, Some}
use Rattle.std.specs.Prelude.{slice_get}
use Rattle.ali_base.specs.declared.names.NodeName.{NodeName}
use Rattle.ali_base.specs.declared.names.NodeName.TheVariants.{A, B}
use Rattle.ali_base.specs.declared.duty.Mode.TheVariants.{Both, Alone}
use Rattle.pair_world.specs.Frames.{Frame, entries, epoch_at, Begins, Shares, Agree, Rising, Legal, In}
use Rattle.pair_world.specs.World.{other, Shipment, Message, Ships, Acks, Resolved, holder_journal, other_journal, known}
use Rattle.pair_world.specs.SoundWorld.{IsBooked, IsMirrored, Named, NamesOne, IsInTime, IsCurrent, HasEnd, IsAcknowledged}
use Rattle.pair_world.proofs.Lists.{Shares-none, Begins-refl, Begins-Agree, Agree-sym}
use Rattle.pair_world.proofs.Items.{some_is, not_there}

pub no_mode : {X : Type 0} → Both ≡ Alone → X
no_mode is = absurd (cc)

pub no_mode' : {X : Type 0} → Alone ≡ Both → X
no_mode' is = absurd (cc)

module _ {E : Type 0} where
  pub rising_none : (top : ℕ) → Rising {E = E} top []
  rising_none top = record { never_fall = λ j k le within. fall j k le within; below = λ k within. low k within }
    where
      fall : (j k : ℕ) → j ≤ k → k ≤ 0 → epoch_at {E = E} [] j ≤ epoch_at {E = E} [] k
      fall zero k le within = omega arith
      fall (suc j) k le within = absurd (omega arith)

      low : (k : ℕ) → k ≤ 0 → epoch_at {E = E} [] k ≤ top
      low zero within = omega arith
      low (suc k) within = absurd (omega arith)

  pub rising_one : (top : ℕ) (f : Frame E) → f.epoch ≤ top → Rising top (f ∷ [])
  rising_one top f less = record { never_fall = λ j k le within. fall j k le within; below = λ k within. low k within }
    where
      fall : (j k : ℕ) → j ≤ k → k ≤ 1 → epoch_at (f ∷ []) j ≤ epoch_at (f ∷ []) k
      fall zero k le within = omega arith
      fall (suc j) zero le within = absurd (omega arith)
      fall (suc zero) (suc zero) le within = omega arith
      fall (suc zero) (suc (suc k)) le within = absurd (omega arith)
      fall (suc (suc j)) (suc k) le within = absurd (omega arith)

      low : (k : ℕ) → k ≤ 1 → epoch_at (f ∷ []) k ≤ top
      low zero within = omega arith
      low (suc zero) within = less
      low (suc (suc k)) within = absurd (omega arith)

  pub begins_none : (xs : List (Frame E)) → Begins xs []
  begins_none xs = record { front = refl }

  pub agree_none : (xs : List (Frame E)) → Agree xs []
  agree_none xs = Begins-Agree (begins_none xs)

  pub none_agree : (xs : List (Frame E)) → Agree [] xs
  none_agree xs = Agree-sym (agree_none xs)

  pub agree_self : (xs : List (Frame E)) → Agree xs xs
  agree_self xs = Begins-Agree (Begins-refl xs)

  pub past_one : (f g : Frame E) (k : ℕ) → slice_get (f ∷ []) (suc k) ≡ Some g → ⊥
  past_one f g k is = not_there g k is

  pub only : (m n : Message E) → In (m ∷ []) n → m ≡ n
  only m n i = by_place i.0 i.1
    where
      by_place : (k : ℕ) → slice_get (m ∷ []) k ≡ Some n → m ≡ n
      by_place zero is = cc
      by_place (suc k) is = absurd (not_there n k is)

  pub no_message : (n : Message E) → In [] n → ⊥
  no_message n i = not_there n i.0 i.1

  -- all that is named stands in one list
  pub names_in : (all holders others : List (Frame E)) (messages : List (Message E)) → ((k : ℕ) (f : Frame E) → Named holders others messages k f → slice_get all k ≡ Some f) → NamesOne holders others messages
  names_in all holders others messages told k f g nf ng same = some_is f g (sym (told k f nf) ∙ told k g ng)

  pub no_shipment : (messages : List (Message E)) → ((x : Shipment E) → In messages (Ships x) → ⊥) → (holders others all : List (Frame E)) → ((k : ℕ) (f : Frame E) → slice_get holders k ≡ Some f → slice_get all k ≡ Some f) → ((k : ℕ) (f : Frame E) → slice_get others k ≡ Some f → slice_get all k ≡ Some f) → NamesOne holders others messages
  no_shipment messages none holders others all h o = names_in all holders others messages (λ k f named. by_name k f named)
    where
      by_name : (k : ℕ) (f : Frame E) → Named holders others messages k f → slice_get all k ≡ Some f
      by_name k f (inl a) = h k f a
      by_name k f (inr (inl a)) = o k f a
      by_name k f (inr (inr m)) = absurd (none m.0 m.1)

  pub end_none : HasEnd {E = E} 0 [] []
  end_none = record { shares = Shares-none [] []; begins = begins_none [] }

  pub fresh_one : (f : Frame E) (k : ℕ) → 0 < k → k ≤ 1 → epoch_at (f ∷ []) k ≡ f.epoch
  fresh_one f zero far within = absurd (omega arith)
  fresh_one f (suc zero) far within = refl
  fresh_one f (suc (suc k)) far within = absurd (omega arith)

  pub one_legal : (due : List E → E → Type 0) (f : Frame E) → due [] f.entry → Legal due (f ∷ [])
  one_legal due f next zero g is = subst (λ (z : Frame E). due [] z.entry) (some_is f g is) next
  one_legal due f next (suc k) g is = absurd (past_one f g k is)

  pub first_due : (due : List E → E → Type 0) (f : Frame E) → due [] f.entry → (g : Frame E) → slice_get (f ∷ []) 0 ≡ Some g → due [] g.entry
  first_due due f next g is = subst (λ (z : Frame E). due [] z.entry) (some_is f g is) next

  pub known_top : (a b top : ℕ) (w : Resolved E) → known w A ≡ a → known w B ≡ b → a ≤ top → b ≤ top → (n : NodeName) → known w n ≤ top
  known_top a b top w is_a is_b low_a low_b A = omega arith
  known_top a b top w is_a is_b low_a low_b B = omega arith

module _ {E : Type 0} (due : List E → E → Type 0) where
  pub nothing_acked : (w : Resolved E) → w.messages ≡ [] → w.acked ≡ 0 → w.ended ≡ 0 → IsAcknowledged w
  nothing_acked w none acked ended =
      record {
        acks = λ a i now. absurd (no_message (Acks a) (subst (λ ms. In ms (Acks a)) none i));
        acked = subst (λ n. Shares n (holder_journal w) (other_journal w)) (sym acked) (Shares-none (holder_journal w) (other_journal w));
        ended = λ place is. absurd (omega arith);
      }

  pub no_message_current : (w : Resolved E) → w.messages ≡ [] → (x : Shipment E) → In w.messages (Ships x) → known w (other x.sender) ≤ x.epoch → IsCurrent w x
  no_message_current w none x i later = absurd (no_message (Ships x) (subst (λ ms. In ms (Ships x)) none i))

  pub in_time_without : (w : Resolved E) → w.messages ≡ [] → Rising w.duty.epoch (holder_journal w) → Rising w.duty.epoch (other_journal w) → NamesOne (holder_journal w) (other_journal w) w.messages → IsInTime w
  in_time_without w none holders others names =
      record {
        holders = holders;
        others = others;
        names = names;
        shipments = λ x i. absurd (no_message (Ships x) (subst (λ ms. In ms (Ships x)) none i));
        acks = λ a i. absurd (no_message (Acks a) (subst (λ ms. In ms (Acks a)) none i));
        frames = λ x f i is. absurd (no_message (Ships x) (subst (λ ms. In ms (Ships x)) none i));
      }

  -- in time, where there are no messages and one frame in all: the holder's, or the other's
  pub one_written_in_time : (w : Resolved E) (f : Frame E) → w.messages ≡ [] → f.epoch ≤ w.duty.epoch → holder_journal w ≡ f ∷ [] → other_journal w ≡ [] → IsInTime w
  one_written_in_time w f none top mine others =
      in_time_without w none (subst (Rising w.duty.epoch) (sym mine) (rising_one w.duty.epoch f top)) (subst (Rising w.duty.epoch) (sym others) (rising_none w.duty.epoch))
      (no_shipment w.messages (λ x i. no_message (Ships x) (subst (λ ms. In ms (Ships x)) none i)) (holder_journal w) (other_journal w) (f ∷ [])
      (λ k g is. ap (λ z. slice_get z k) (sym mine) ∙ is) (λ k g is. absurd (not_there g k (ap (λ z. slice_get z k) (sym others) ∙ is))))

  pub one_stored_in_time : (w : Resolved E) (f : Frame E) → w.messages ≡ [] → f.epoch ≤ w.duty.epoch → holder_journal w ≡ [] → other_journal w ≡ f ∷ [] → IsInTime w
  one_stored_in_time w f none top mine others =
      in_time_without w none (subst (Rising w.duty.epoch) (sym mine) (rising_none w.duty.epoch)) (subst (Rising w.duty.epoch) (sym others) (rising_one w.duty.epoch f top))
      (no_shipment w.messages (λ x i. no_message (Ships x) (subst (λ ms. In ms (Ships x)) none i)) (holder_journal w) (other_journal w) (f ∷ [])
      (λ k g is. absurd (not_there g k (ap (λ z. slice_get z k) (sym mine) ∙ is))) (λ k g is. ap (λ z. slice_get z k) (sym others) ∙ is))

  -- a holder with one frame, and nothing booked
  pub one_pending : (w : Resolved E) (f : Frame E) → holder_journal w ≡ f ∷ [] → w.booked ≡ [] → due [] f.entry → IsBooked due w
  one_pending w f mine none d =
      record {
        legal = λ k g is. absurd (not_there g k (ap (λ z. slice_get z k) (sym none) ∙ is));
        begins = subst (Begins (holder_journal w)) (sym none) (begins_none (holder_journal w));
        one_more = (let m = ap length mine in let n = ap length none in omega arith);
        pending_due = λ g is. subst (λ h. due (entries h) g.entry) (sym none)
            (first_due due f d g (ap (λ z. slice_get z 0) (sym mine) ∙ ap (λ h. slice_get (holder_journal w) (length h)) (sym none) ∙ is));
      }

  pub none_mirrors : (w : Resolved E) (f : Frame E) → holder_journal w ≡ f ∷ [] → other_journal w ≡ [] → w.booked ≡ [] → f.epoch ≡ w.duty.epoch → IsMirrored w
  none_mirrors w f mine others none now =
      record {
        holds = subst (Begins (other_journal w)) (sym none) (begins_none (other_journal w));
        prefix = subst (Begins (holder_journal w)) (sym others) (begins_none (holder_journal w));
        fresh = λ k far within. subst (λ z. epoch_at z k ≡ w.duty.epoch) (sym mine) (fresh_one f k (omega arith) (let m = ap length mine in omega arith) ∙ now);
      }

  pub nothing_booked : (w : Resolved E) → holder_journal w ≡ [] → w.booked ≡ [] → IsBooked due w
  nothing_booked w mine none =
      record {
        legal = λ k g is. absurd (not_there g k (ap (λ z. slice_get z k) (sym none) ∙ is));
        begins = subst (Begins (holder_journal w)) (sym none) (begins_none (holder_journal w));
        one_more = (let m = ap length mine in omega arith);
        pending_due = λ g is. absurd (not_there g (length w.booked) (ap (λ z. slice_get z (length w.booked)) (sym mine) ∙ is));
      }
