-- The worlds that lack one part have the others.
use Rattle.std.proofs.Common.{◌≡◌, ℕ, zero, suc, ◌<◌, ◌≤◌, ◌⊎◌, inl, inr, false, List, [], ◌∷◌, refl, ap, sym, ◌∙◌, subst, arith, Some}
use Rattle.std.specs.Prelude.{slice_get}
use Rattle.ali_base.specs.declared.names.NodeName.TheVariants.{A}
use Rattle.ali_base.specs.declared.duty.Mode.{Mode}
use Rattle.ali_base.specs.declared.duty.Mode.TheVariants.{Both, Alone}
use Rattle.pair_world.specs.Frames.{Frame, epoch_at, Begins, Agree, In}
use Rattle.pair_world.specs.World.{other, Shipment, Ack, Ships, Acks, Resolved, term_from, holder_journal, other_journal, known}
use Rattle.pair_world.specs.SoundWorld.{IsBooked, IsMirrored, HasUncommittedSuffix, Named, NamesOne, IsInTime, IsCurrent, HasEnd, IsAcknowledged, IsKnown, Part, Booked, Mirrored, Following, Agreeing, In_time, Current, Acknowledged, Known, Floored, Holds}
use Rattle.pair_world.specs.WorkedSchedules.{framed}
use Rattle.pair_world.specs.NeededParts.{HasOthers, one_written, not_due, not_mirrored, young_suffix, early_ack, not_current, not_stored, high_floor}
use Rattle.pair_world.proofs.Lists.{Shares-none, Shares-less, Begins-refl, Begins-Agree}
use Rattle.pair_world.proofs.Items.{some_is, ship_is, ack_is, not_ack}
use Rattle.pair_world.proofs.QuietWorlds.{no_mode, no_mode', rising_one, begins_none, agree_none, none_agree, agree_self, past_one, only, names_in, end_none, one_legal, known_top, nothing_acked, no_message_current, one_written_in_time, one_stored_in_time, one_pending, none_mirrors, nothing_booked}

module _ {E : Type 0} (due : List E → E → Type 0) where
  -- a new office in which a wrote the entry and b stored nothing: its parts, but those that are asked
  one_written_others : (missing : Part) (e : E) (booked : List (Frame E)) (acked : ℕ)
      → ((missing ≡ Booked → ⊥) → IsBooked due (one_written e booked [] acked).base)
      → ((missing ≡ Mirrored → ⊥) → IsMirrored (one_written e booked [] acked).base)
      → ((missing ≡ Acknowledged → ⊥) → IsAcknowledged (one_written e booked [] acked).base)
      → HasOthers due missing (one_written e booked [] acked).base
  one_written_others missing e booked acked is_booked is_mirrored is_acked = record { holds = λ part n. by_part part n; counted = refl }
    where
      by_part : (part : Part) → (missing ≡ part → ⊥) → Holds due (one_written e booked [] acked).base part
      by_part Booked n = is_booked n
      by_part Mirrored n = λ both. is_mirrored n
      by_part Following n = λ alone. no_mode alone
      by_part Agreeing n = agree_none (framed e 1 ∷ [])
      by_part In_time n = one_written_in_time due (one_written e booked [] acked).base (framed e 1) refl (omega arith) refl refl
      by_part Current n = no_message_current due (one_written e booked [] acked).base refl
      by_part Acknowledged n = is_acked n
      by_part Known n = record { holder = refl; none_later = known_top 1 1 1 (one_written e booked [] acked).base refl refl (omega arith) (omega arith) }
      by_part Floored n = record { never_fall = tt; below = omega arith }

  pub not_due_others : (e : E) → HasOthers due Booked (not_due e).base
  not_due_others e =
      one_written_others Booked e [] 0 (λ n. absurd (n refl)) (λ n. none_mirrors due (not_due e).base (framed e 1) refl refl refl refl)
      (λ n. nothing_acked due (not_due e).base refl refl refl)

  pub not_mirrored_others : (e : E) → due [] e → HasOthers due Mirrored (not_mirrored e).base
  not_mirrored_others e d =
      one_written_others Mirrored e (framed e 1 ∷ []) 0
      (λ n. record { legal = one_legal due (framed e 1) d; begins = Begins-refl (framed e 1 ∷ []); one_more = omega arith; pending_due = λ g is. absurd (past_one (framed e 1) g 0 is) })
      (λ n. absurd (n refl)) (λ n. nothing_acked due (not_mirrored e).base refl refl refl)

  pub not_stored_others : (e : E) → due [] e → HasOthers due Acknowledged (not_stored e).base
  not_stored_others e d =
      one_written_others Acknowledged e [] 1 (λ n. one_pending due (not_stored e).base (framed e 1) refl refl d)
      (λ n. none_mirrors due (not_stored e).base (framed e 1) refl refl refl refl) (λ n. absurd (n refl))

  pub high_floor_others : (e : E) → due [] e → HasOthers due Floored (high_floor e).base
  high_floor_others e d = record { holds = λ part n. by_part part n; counted = (refl, (refl, refl)) }
    where
      by_part : (part : Part) → (Floored ≡ part → ⊥) → Holds due (high_floor e).base part
      by_part Booked n = one_pending due (high_floor e).base (framed e 3) refl refl d
      by_part Mirrored n = λ both. none_mirrors due (high_floor e).base (framed e 3) refl refl refl refl
      by_part Following n = λ alone. no_mode alone
      by_part Agreeing n = agree_none (framed e 3 ∷ [])
      by_part In_time n = one_written_in_time due (high_floor e).base (framed e 3) refl (omega arith) refl refl
      by_part Current n = no_message_current due (high_floor e).base refl
      by_part Acknowledged n = nothing_acked due (high_floor e).base refl refl refl
      by_part Known n = record { holder = refl; none_later = known_top 3 1 3 (high_floor e).base refl refl (omega arith) (omega arith) }
      by_part Floored n = absurd (n refl)

  pub young_suffix_others : (e : E) → HasOthers due Following (young_suffix e).base
  young_suffix_others e = record { holds = λ part n. by_part part n; counted = (refl, refl) }
    where
      by_part : (part : Part) → (Following ≡ part → ⊥) → Holds due (young_suffix e).base part
      by_part Booked n = nothing_booked due (young_suffix e).base refl refl
      by_part Mirrored n = λ both. no_mode' both
      by_part Following n = absurd (n refl)
      by_part Agreeing n = none_agree (framed e 2 ∷ [])
      by_part In_time n = one_stored_in_time due (young_suffix e).base (framed e 2) refl (omega arith) refl refl
      by_part Current n = no_message_current due (young_suffix e).base refl
      by_part Acknowledged n = nothing_acked due (young_suffix e).base refl refl refl
      by_part Known n = record { holder = refl; none_later = known_top 2 2 2 (young_suffix e).base refl refl (omega arith) (omega arith) }
      by_part Floored n = record { never_fall = (omega arith, tt); below = omega arith }

  -- an acknowledgement of a later epoch
  abbrev early : Ack
  early = record { to = A; epoch = 3; preceding = 0; end = false }

  pub early_ack_others : HasOthers due In_time (early_ack {E = E}).base
  early_ack_others = record { holds = λ part n. by_part part n; counted = (refl, refl) }
    where
      by_part : (part : Part) → (In_time ≡ part → ⊥) → Holds due (early_ack {E = E}).base part
      by_part Booked n = nothing_booked due (early_ack {E = E}).base refl refl
      by_part Mirrored n = λ both. no_mode' both
      by_part Following n = λ alone. inl (begins_none [])
      by_part Agreeing n = agree_none []
      by_part In_time n = absurd (n refl)
      by_part Current n = λ x i later. absurd (not_ack x early (sym (only (Acks early) (Ships x) i)))
      by_part Acknowledged n = record {
        acks = λ a i now. absurd (let is = ap (λ (z : Ack). z.epoch) (ack_is early a (only (Acks early) (Acks a) i)) in omega arith);
        acked = Shares-none [] [];
        ended = λ k is. subst (λ k. HasEnd {E = E} k [] []) (let h : 0 ≡ k = omega arith in h) end_none;
      }
      by_part Known n = record { holder = refl; none_later = known_top 2 1 2 (early_ack {E = E}).base refl refl (omega arith) (omega arith) }
      by_part Floored n = record { never_fall = (omega arith, tt); below = omega arith }

  abbrev stray : E → Shipment E
  stray h = record { sender = A; epoch = 1; preceding = 1; before = 1; frame = Some (framed h 1) }

  stray_names : (g h : E) → NamesOne (framed g 1 ∷ []) (framed g 1 ∷ []) (Ships (stray h) ∷ [])
  stray_names g h = names_in (framed g 1 ∷ framed h 1 ∷ []) (framed g 1 ∷ []) (framed g 1 ∷ []) (Ships (stray h) ∷ []) (λ k f named. by_name k f named)
    where
      first : (k : ℕ) (f : Frame E) → slice_get (framed g 1 ∷ []) k ≡ Some f → slice_get (framed g 1 ∷ framed h 1 ∷ []) k ≡ Some f
      first zero f is = is
      first (suc k) f is = absurd (past_one (framed g 1) f k is)

      by_message : (x : Shipment E) (k : ℕ) (f : Frame E) → stray h ≡ x → x.preceding ≡ k → x.frame ≡ Some f → slice_get (framed g 1 ∷ framed h 1 ∷ []) k ≡ Some f
      by_message x k f is place frame =
          let at : 1 ≡ k = ap (λ (z : Shipment E). z.preceding) is ∙ place in
          subst (λ n. slice_get (framed g 1 ∷ framed h 1 ∷ []) n ≡ Some f) at (ap (λ (z : Shipment E). z.frame) is ∙ frame)

      by_name : (k : ℕ) (f : Frame E) → Named (framed g 1 ∷ []) (framed g 1 ∷ []) (Ships (stray h) ∷ []) k f → slice_get (framed g 1 ∷ framed h 1 ∷ []) k ≡ Some f
      by_name k f (inl a) = first k f a
      by_name k f (inr (inl a)) = first k f a
      by_name k f (inr (inr m)) = by_message m.0 k f (ship_is (stray h) m.0 (only (Ships (stray h)) (Ships m.0) m.1)) m.2 m.3

  is_stray : (h : E) (x : Shipment E) → In (Ships (stray h) ∷ []) (Ships x) → stray h ≡ x
  is_stray h x i = ship_is (stray h) x (only (Ships (stray h)) (Ships x) i)

  no_ack : (h : E) (a : Ack) → In (Ships (stray h) ∷ []) (Acks a) → ⊥
  no_ack h a i = not_ack (stray h) a (only (Ships (stray h)) (Acks a) i)

  stray_in_time : (k : ℕ) (g h : E) → IsInTime (not_current k g h).base
  stray_in_time k g h =
      record {
        holders = rising_one 1 (framed g 1) (omega arith);
        others = rising_one 1 (framed g 1) (omega arith);
        names = stray_names g h;
        shipments = λ x i. (let is = ap (λ (z : Shipment E). z.epoch) (is_stray h x i) in omega arith);
        acks = λ a i. absurd (no_ack h a i);
        frames = λ x f i is. by_frame x f (is_stray h x i) is;
      }
    where
      by_frame : (x : Shipment E) (f : Frame E) → stray h ≡ x → x.frame ≡ Some f → f.epoch ≤ x.epoch
      by_frame x f is frame =
          let told = ap (λ (z : Frame E). z.epoch) (some_is (framed h 1) f (ap (λ (z : Shipment E). z.frame) is ∙ frame)) in
          let now = ap (λ (z : Shipment E). z.epoch) is in
          omega arith

  stray_acked : (k : ℕ) (g h : E) → IsAcknowledged (not_current k g h).base
  stray_acked k g h =
      record {
        acks = λ a i now. absurd (no_ack h a i);
        acked = Shares-none (framed g 1 ∷ []) (framed g 1 ∷ []);
        ended = λ place is. absurd (omega arith);
      }

  -- the world with the stray shipment, in which b knows this epoch: its parts, but those that are asked
  stray_others : (missing : Part) (k : ℕ) (g h : E) → due [] g
      → ((missing ≡ Current → ⊥) → (x : Shipment E) → In (Ships (stray h) ∷ []) (Ships x) → known (not_current k g h).base (other x.sender) ≤ x.epoch → IsCurrent (not_current k g h).base x)
      → ((missing ≡ Known → ⊥) → IsKnown (not_current k g h).base)
      → HasOthers due missing (not_current k g h).base
  stray_others missing k g h d is_current is_known = record { holds = λ part n. by_part part n; counted = refl }
    where
      by_part : (part : Part) → (missing ≡ part → ⊥) → Holds due (not_current k g h).base part
      by_part Booked n = record { legal = one_legal due (framed g 1) d; begins = Begins-refl (framed g 1 ∷ []); one_more = omega arith; pending_due = λ f is. absurd (past_one (framed g 1) f 0 is) }
      by_part Mirrored n = λ both. record { holds = Begins-refl (framed g 1 ∷ []); prefix = Begins-refl (framed g 1 ∷ []); fresh = λ n far within. absurd (omega arith) }
      by_part Following n = λ alone. no_mode alone
      by_part Agreeing n = agree_self (framed g 1 ∷ [])
      by_part In_time n = stray_in_time k g h
      by_part Current n = is_current n
      by_part Acknowledged n = stray_acked k g h
      by_part Known n = is_known n
      by_part Floored n = record { never_fall = tt; below = omega arith }

  pub not_current_others : (g h : E) → due [] g → HasOthers due Current (not_current 1 g h).base
  not_current_others g h d =
      stray_others Current 1 g h d (λ n. absurd (n refl))
      (λ n. record { holder = refl; none_later = known_top 1 1 1 (not_current 1 g h).base refl refl (omega arith) (omega arith) })

  pub known_later_others : (g h : E) → due [] g → HasOthers due Known (not_current 2 g h).base
  known_later_others g h d = stray_others Known 2 g h d (λ n x i later. absurd (stale x (is_stray h x i) later)) (λ n. absurd (n refl))
    where
      stale : (x : Shipment E) → stray h ≡ x → known (not_current 2 g h).base (other x.sender) ≤ x.epoch → ⊥
      stale x is later = subst (λ (z : Shipment E). known (not_current 2 g h).base (other z.sender) ≤ z.epoch → ⊥) is (λ low. absurd (omega arith)) later

-- agreement follows from the two parts before it
pub agreement_follows : {E : Type 0} (w : Resolved E) → (w.duty.mode ≡ Both → IsMirrored w) → (w.duty.mode ≡ Alone → Begins (holder_journal w) (other_journal w) ⊎ HasUncommittedSuffix w) → Agree (holder_journal w) (other_journal w)
agreement_follows {E} w both alone = by_mode w.duty.mode refl
  where
    by_suffix : HasUncommittedSuffix w → Agree (holder_journal w) (other_journal w)
    by_suffix t k left right same = elim (split k) [
      | inl inside ↦ (Shares-less t.shared inside).front
      | inr past ↦
          (let here : k ≡ suc t.prefix = omega (arith, t.long) in
          let old : epoch_at (other_journal w) k < term_from w.duty w.past = subst (λ n. epoch_at (other_journal w) n < term_from w.duty w.past) (sym here) t.old in
          let new = (t.newer k past left).from in
          absurd (omega arith))
    ]
      where
        split : (n : ℕ) → (n ≤ t.prefix) ⊎ (t.prefix < n)
        split n = grind arith

    by_mode : (m : Mode) → w.duty.mode ≡ m → Agree (holder_journal w) (other_journal w)
    by_mode Both is = Begins-Agree (both is).prefix
    by_mode Alone is = elim (alone is) [ inl b ↦ Begins-Agree b | inr t ↦ by_suffix t ]
