-- The nine parts as they are stated, and as the proofs keep them: each gives the other.
use Rattle.std.proofs.Common.{◌≡◌, ℕ, zero, suc, ◌<◌, ◌≤◌, ◌⊎◌, inl, inr, Bool, true, false, cond, List, [], ◌∷◌, length, take, refl, ap, sym, ◌∙◌, subst, arith, Some}
use Rattle.std.specs.Prelude.{slice_get}
use Rattle.ali_base.specs.declared.duty.Mode.{Mode}
use Rattle.ali_base.specs.declared.duty.Mode.TheVariants.{Both, Alone}
use Rattle.ali_base.specs.declared.duty.Duty.{Duty}
use Rattle.pair_world.specs.Frames.{Frame, entries, Begins, Shares, Rising, Legal}
use Rattle.pair_world.specs.World.{Resolved, term_from, holder_journal, other_journal, with_duty, recovered, World, Choice, with_failed_duty, unrecovered, resolved}
use Rattle.pair_world.proofs.Lists.{Shares-less, Begins-Shares}
use Rattle.pair_world.proofs.Items.{nth_more}
use Rattle.pair_world.proofs.Lists.{Legal-Begins}
use Rattle.pair_world.proofs.Parts.{BookedParts, InStep, IsParts, IsKept}
use Rattle.pair_world.proofs.Reopening.{resolved_sound}
use Rattle.pair_world.specs.SoundWorld.{IsMirrored, HasUncommittedSuffix, Part, Booked, Mirrored, Following, Agreeing, In_time, Current, Acknowledged, Known, Floored, Holds, Invariant, IsSound}
use Rattle.pair_world.proofs.Items.{none_some}

-- each entry is due: those of the history, and the one past it
whole_legal : {E : Type 0} (due : List E → E → Type 0) (h xs : List (Frame E)) → Begins xs h → length xs ≤ suc (length h) → Legal due h → ((f : Frame E) → slice_get xs (length h) ≡ Some f → due (entries h) f.entry) → Legal due xs
whole_legal {E} due h xs b more legal next k f is = elim (by_place (length h)) [
  | inl inside ↦ subst (λ z. due (entries z) f.entry) (sym (fronts inside)) (legal k f (in_front inside))
  | inr here ↦
      (let e : slice_get xs (length h) ≡ Some f = ap (slice_get xs) (sym here) ∙ is in
      subst (λ z. due (entries z) f.entry) (sym (ap (λ n. take n xs) here ∙ b.front)) (next f e))
]
  where
    within : k < length xs
    within = (nth_more xs k f is).0

    by_place : (n : ℕ) → (k < length h) ⊎ (k ≡ length h)
    by_place n = grind (arith, within)

    shared : Shares (length h) xs h
    shared = Begins-Shares b

    fronts : k < length h → take k xs ≡ take k h
    fronts inside = (Shares-less shared (omega arith)).front

    in_front : k < length h → slice_get h k ≡ Some f
    in_front inside = get_front (length h) k xs f inside is (ap (λ z. slice_get z k) b.front)
      where
        get_taken : {A : Type 0} (n k : ℕ) (xs : List A) (x : A) → k < n → slice_get xs k ≡ Some x → slice_get (take n xs) k ≡ Some x
        get_taken zero k xs x less is = absurd (omega arith)
        get_taken (suc n) k [] x less is = absurd (cc)
        get_taken (suc n) zero (y ∷ xs) x less is = is
        get_taken (suc n) (suc k) (y ∷ xs) x less is = get_taken n k xs x (omega arith) is

        get_front : (n k : ℕ) (xs : List (Frame E)) (f : Frame E) → k < n → slice_get xs k ≡ Some f → slice_get (take n xs) k ≡ slice_get h k → slice_get h k ≡ Some f
        get_front n k xs f less is same = sym same ∙ get_taken n k xs f less is

-- what a legal journal says of the history it begins with, and of the frame past it
booked_told : {E : Type 0} (due : List E → E → Type 0) (h xs : List (Frame E)) → BookedParts due h xs → Legal due h × ((f : Frame E) → slice_get xs (length h) ≡ Some f → due (entries h) f.entry)
booked_told due h xs b = (Legal-Begins due xs h b.begins b.legal, λ f is. subst (λ z. due (entries z) f.entry) b.begins.front (b.legal (length h) f is))

module _ {E : Type 0} (due : List E → E → Type 0) (w : Resolved E) where
  in_step_from : (m : Mode) → w.duty.mode ≡ m → (w.duty.mode ≡ Both → IsMirrored w) → (w.duty.mode ≡ Alone → Begins (holder_journal w) (other_journal w) ⊎ HasUncommittedSuffix w) → InStep m w.duty.epoch (term_from w.duty w.past) w.booked (holder_journal w) (other_journal w)
  in_step_from Both is both alone = let s = both is in record { holds = s.holds; begins = s.prefix; fresh = s.fresh }
  in_step_from Alone is both alone = elim (alone is) [
    | inl b ↦ inl b
    | inr t ↦ inr (record { at = t.prefix; long = t.long; shared = t.shared; old = t.old; past = λ k far within. (t.newer k far within).from })
  ]

  mirrored_of : (m : Mode) → m ≡ Both → InStep m w.duty.epoch (term_from w.duty w.past) w.booked (holder_journal w) (other_journal w) → IsMirrored w
  mirrored_of Both is s = record { holds = s.holds; prefix = s.begins; fresh = s.fresh }
  mirrored_of Alone is s = absurd (cc)

  follows_of : Rising w.duty.epoch (holder_journal w) → (m : Mode) → m ≡ Alone → InStep m w.duty.epoch (term_from w.duty w.past) w.booked (holder_journal w) (other_journal w) → Begins (holder_journal w) (other_journal w) ⊎ HasUncommittedSuffix w
  follows_of rising Both is s = absurd (cc)
  follows_of rising Alone is (inl b) = inl b
  follows_of rising Alone is (inr t) =
      inr (record {
        prefix = t.at;
        long = t.long;
        shared = t.shared;
        old = t.old;
        newer = λ k far within. record { from = t.past k far within; to = rising.below k within };
      })

  pub parts_from : Invariant due w → IsParts due w
  parts_from i =
      let b = i.holds Booked in
      let t = i.holds In_time in
      let a = i.holds Acknowledged in
      let k = i.holds Known in
      let f = i.holds Floored in
      record {
        booked = record { legal = whole_legal due w.booked (holder_journal w) b.begins b.one_more b.legal b.pending_due; begins = b.begins; one_more = b.one_more };
        step = in_step_from w.duty.mode refl (i.holds Mirrored) (i.holds Following);
        agree = i.holds Agreeing;
        time = record { mine = t.holders; others = t.others; ships = t.shipments; frames = λ x f in_list is. t.frames x f in_list is; acks = t.acks };
        names = t.names;
        ships = λ x in_list later. (let c = i.holds Current x in_list later in record { sender = c.sender; term = c.term.from; frame = c.tells; before = c.before });
        acks = record { acks = a.acks; acked = a.acked; ended = a.ended };
        known = record { holder = k.holder; none_later = k.none_later };
        counted = i.counted;
        floors = f.never_fall;
        floor = f.below;
      }

  pub parts_of : IsParts due w → Invariant due w
  parts_of p = record { holds = λ part. by_part part; counted = p.counted }
    where
      by_part : (part : Part) → Holds due w part
      by_part Booked = let b = booked_told due w.booked (holder_journal w) p.booked in record { legal = b.0; begins = p.booked.begins; one_more = p.booked.one_more; pending_due = b.1 }
      by_part Mirrored = λ both. mirrored_of w.duty.mode both p.step
      by_part Following = λ alone. follows_of p.time.mine w.duty.mode alone p.step
      by_part Agreeing = p.agree
      by_part In_time = record { holders = p.time.mine; others = p.time.others; names = p.names; shipments = p.time.ships; frames = p.time.frames; acks = p.time.acks }
      by_part Current = λ x in_list later. (let c = p.ships x in_list later in record { sender = c.sender; term = record { from = c.term; to = p.time.ships x in_list }; tells = c.frame; before = c.before })
      by_part Acknowledged = record { acks = p.acks.acks; acked = p.acks.acked; ended = p.acks.ended }
      by_part Known = record { holder = p.known.holder; none_later = p.known.none_later }
      by_part Floored = record { never_fall = p.floors; below = p.floor }

module _ {E : Type 0} (due : List E → E → Type 0) (w : World E) where
  register_is : (s : IsSound due w) (c : Choice) (d : Duty) → w.failed_duty ≡ Some d → (r : Bool) → w.register_up ≡ r → Invariant due (recovered (with_duty (unrecovered c w) d))
  register_is s c d e true up = absurd (none_some d (sym (s.one_duty up) ∙ e))
  register_is s c d e false is_down =
      let c' : Choice = record { a = c.a; b = c.b; duty = true } in
      let told : Invariant due (cond w.register_up (unrecovered c w) (recovered (with_failed_duty w.failed_duty true (unrecovered c w)))) = s.parts c' in
      let told' : Invariant due (recovered (with_failed_duty w.failed_duty true (unrecovered c w))) = subst (λ r. Invariant due (cond r (unrecovered c w) (recovered (with_failed_duty w.failed_duty true (unrecovered c w))))) is_down told in
      subst (λ o. Invariant due (recovered (with_failed_duty o true (unrecovered c w)))) e told'

  pub kept_from : IsSound due w → IsKept due w
  kept_from s =
      record {
        one_journal = s.one_journal;
        one_duty = s.one_duty;
        unrecovered_parts = λ c. parts_from due (unrecovered c w) (s.unrecovered_parts c);
        recovered_parts = λ c d e. parts_from due (recovered (with_duty (unrecovered c w) d)) (register_is s c d e w.register_up refl);
        sure_taker = s.sure_taker;
      }

  pub sound_of : IsKept due w → IsSound due w
  sound_of k =
      record {
        parts = λ c. parts_of due (resolved c w) (resolved_sound due w k c);
        one_journal = k.one_journal;
        one_duty = k.one_duty;
        unrecovered_parts = λ c. parts_of due (unrecovered c w) (k.unrecovered_parts c);
        sure_taker = k.sure_taker;
      }
