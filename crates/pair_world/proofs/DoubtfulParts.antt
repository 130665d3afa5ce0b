-- The two worlds that are not sound: their parts, and what a start of the register leads to.
use Rattle.std.proofs.Common.{◌≡◌, ℕ, zero, suc, ◌≤◌, inl, inr, Bool, true, false, List, [], ◌∷◌, refl, ap, sym, subst, arith}
use Rattle.ali_base.specs.declared.names.NodeName.TheVariants.{A, B}
use Rattle.ali_base.specs.declared.duty.Mode.TheVariants.{Both, Alone}
use Rattle.pair_world.specs.Frames.{Frame, epoch_at, Begins, Rising, Legal}
use Rattle.pair_world.specs.World.{Ships, Resolved, with_duty, recovered, Choice, unrecovered, resolved}
use Rattle.pair_world.specs.Changes.{register_started}
use Rattle.pair_world.specs.Step.{Start_duty, WorldStep}
use Rattle.pair_world.specs.SoundWorld.{Part, Booked, Mirrored, Following, Agreeing, In_time, Current, Acknowledged, Known, Floored, Holds, Invariant}
use Rattle.pair_world.specs.WorkedSchedules.{office_bounds, framed, duty_is}
use Rattle.pair_world.specs.NeededParts.{Loses}
use Rattle.pair_world.specs.DoubtfulWorlds.{doubtful_taker, write_lasted, replaced_history}
use Rattle.pair_world.proofs.Items.{some_is, not_there}
use Rattle.pair_world.proofs.Lists.{Shares-none, Begins-refl}
use Rattle.pair_world.proofs.QuietWorlds.{no_mode, no_mode', no_message, begins_none, agree_none, none_agree, agree_self, past_one, no_shipment, one_legal, known_top, nothing_acked, no_message_current, in_time_without, one_written_in_time, one_stored_in_time, nothing_booked}

module _ {E : Type 0} (due : List E → E → Type 0) (one another : E) where
  -- under the duty before the change, whichever frame b's disk has
  abbrev before : E → Resolved E
  before x = (doubtful_taker x another).base

  before_parts : (x : E) → Invariant due (before x)
  before_parts x = record { holds = λ part. by_part part; counted = (refl, (refl, (refl, refl))) }
    where
      by_part : (part : Part) → Holds due (before x) part
      by_part Booked = nothing_booked due (before x) refl refl
      by_part Mirrored = λ both. no_mode' both
      by_part Following = λ alone. inr (record { prefix = 0; long = refl; shared = Shares-none [] (framed x 2 ∷ []); old = omega arith; newer = λ k far within. absurd (omega arith) })
      by_part Agreeing = none_agree (framed x 2 ∷ [])
      by_part In_time = one_stored_in_time due (before x) (framed x 2) refl (omega arith) refl refl
      by_part Current = no_message_current due (before x) refl
      by_part Acknowledged = nothing_acked due (before x) refl refl refl
      by_part Known = record { holder = refl; none_later = known_top 4 3 4 (before x) refl refl (omega arith) (omega arith) }
      by_part Floored = record { never_fall = (omega arith, (omega arith, (omega arith, tt))); below = omega arith }

  -- and under the change
  abbrev after : E → Resolved E
  after x = recovered (with_duty (before x) (duty_is 5 B Alone 1))

  after_parts : (x : E) → due [] x → Invariant due (after x)
  after_parts x d = record { holds = λ part. by_part part; counted = (refl, (refl, (refl, (refl, refl)))) }
    where
      by_part : (part : Part) → Holds due (after x) part
      by_part Booked = record { legal = one_legal due (framed x 2) d; begins = Begins-refl (framed x 2 ∷ []); one_more = omega arith; pending_due = λ g is. absurd (past_one (framed x 2) g 0 is) }
      by_part Mirrored = λ both. no_mode' both
      by_part Following = λ alone. inl (begins_none (framed x 2 ∷ []))
      by_part Agreeing = agree_none (framed x 2 ∷ [])
      by_part In_time = one_written_in_time due (after x) (framed x 2) refl (omega arith) refl refl
      by_part Current = no_message_current due (after x) refl
      by_part Acknowledged = nothing_acked due (after x) refl refl refl
      by_part Known = record { holder = refl; none_later = known_top 4 5 5 (after x) refl refl (omega arith) (omega arith) }
      by_part Floored = record { never_fall = (omega arith, (omega arith, (omega arith, (omega arith, tt)))); below = omega arith }

  pub taker_unrecovered : (c : Choice) → Invariant due (unrecovered c (doubtful_taker one another))
  taker_unrecovered c = by_choice c.b
    where
      by_choice : (b : Bool) → Invariant due (unrecovered (record { a = c.a; b = b; duty = c.duty }) (doubtful_taker one another))
      by_choice false = before_parts one
      by_choice true = before_parts another

  pub taker_resolved : due [] one → due [] another → (c : Choice) → Invariant due (resolved c (doubtful_taker one another))
  taker_resolved d e c = by_choice c.b c.duty
    where
      by_choice : (b duty : Bool) → Invariant due (resolved (record { a = c.a; b = b; duty = duty }) (doubtful_taker one another))
      by_choice false false = before_parts one
      by_choice true false = before_parts another
      by_choice false true = after_parts one d
      by_choice true true = after_parts another e

  pub taker_starts : WorldStep {Q = Unit {0}} due office_bounds (doubtful_taker one another) Start_duty (register_started (doubtful_taker one another) true)
  taker_starts = (true, refl, refl)

  pub taker_breaks : (one ≡ another → ⊥) → Invariant due (resolved write_lasted (register_started (doubtful_taker one another) true)) → ⊥
  taker_breaks apart i = apart (ap (λ (z : Frame E). z.entry) (same (i.holds Booked).begins))
    where
      same : Begins (framed another 2 ∷ []) (framed one 2 ∷ []) → framed one 2 ≡ framed another 2
      same b = let e = b.front in cc

module _ {E : Type 0} (due : List E → E → Type 0) (booked one another : E) where
  abbrev both_frames : List (Frame E)
  both_frames = framed one 1 ∷ framed another 1 ∷ []

  rising_two : (top : ℕ) → 1 ≤ top → Rising top both_frames
  rising_two top low = record { never_fall = λ j k le within. fall j k le within; below = λ k within. under_top k within }
    where
      fall : (j k : ℕ) → j ≤ k → k ≤ 2 → epoch_at (framed one 1 ∷ framed another 1 ∷ []) j ≤ epoch_at (framed one 1 ∷ framed another 1 ∷ []) k
      fall zero k le within = omega arith
      fall (suc zero) (suc zero) le within = omega arith
      fall (suc zero) (suc (suc zero)) le within = omega arith
      fall (suc (suc zero)) (suc (suc zero)) le within = omega arith
      fall (suc j) zero le within = absurd (omega arith)
      fall (suc (suc j)) (suc zero) le within = absurd (omega arith)
      fall (suc j) (suc (suc (suc k))) le within = absurd (omega arith)
      fall (suc (suc (suc j))) (suc (suc zero)) le within = absurd (omega arith)

      under_top : (k : ℕ) → k ≤ 2 → epoch_at (framed one 1 ∷ framed another 1 ∷ []) k ≤ top
      under_top zero within = omega arith
      under_top (suc zero) within = low
      under_top (suc (suc zero)) within = low
      under_top (suc (suc (suc k))) within = absurd (omega arith)

  two_legal : due [] one → due (one ∷ []) another → Legal due both_frames
  two_legal d e zero g is = subst (λ (z : Frame E). due [] z.entry) (some_is (framed one 1) g is) d
  two_legal d e (suc zero) g is = subst (λ (z : Frame E). due (one ∷ []) z.entry) (some_is (framed another 1) g is) e
  two_legal d e (suc (suc k)) g is = absurd (not_there g k is)

  -- both recoveries have all of the journal as the history
  abbrev replaced : Bool → Resolved E
  replaced false = recovered (replaced_history booked one another).base
  replaced true = recovered (with_duty (replaced_history booked one another).base (duty_is 3 A Both 2))

  replaced_parts : due [] one → due (one ∷ []) another → (lasted : Bool) → Invariant due (replaced lasted)
  replaced_parts d e false = record { holds = λ part. by_part part; counted = (refl, refl) }
    where
      by_part : (part : Part) → Holds due (replaced false) part
      by_part Booked = record { legal = two_legal d e; begins = Begins-refl both_frames; one_more = omega arith; pending_due = λ g is. absurd (not_there g 0 is) }
      by_part Mirrored = λ both. no_mode' both
      by_part Following = λ alone. inl (Begins-refl both_frames)
      by_part Agreeing = agree_self both_frames
      by_part In_time = in_time_without due (replaced false) refl (rising_two 2 (omega arith)) (rising_two 2 (omega arith)) (no_shipment [] (λ x i. no_message (Ships x) i) both_frames both_frames both_frames (λ k g is. is) (λ k g is. is))
      by_part Current = no_message_current due (replaced false) refl
      by_part Acknowledged = nothing_acked due (replaced false) refl refl refl
      by_part Known = record { holder = refl; none_later = known_top 2 1 2 (replaced false) refl refl (omega arith) (omega arith) }
      by_part Floored = record { never_fall = (omega arith, tt); below = omega arith }
  replaced_parts d e true = record { holds = λ part. by_part part; counted = (refl, (refl, refl)) }
    where
      by_part : (part : Part) → Holds due (replaced true) part
      by_part Booked = record { legal = two_legal d e; begins = Begins-refl both_frames; one_more = omega arith; pending_due = λ g is. absurd (not_there g 0 is) }
      by_part Mirrored = λ both. record { holds = Begins-refl both_frames; prefix = Begins-refl both_frames; fresh = λ k far within. absurd (omega arith) }
      by_part Following = λ alone. no_mode alone
      by_part Agreeing = agree_self both_frames
      by_part In_time = in_time_without due (replaced true) refl (rising_two 3 (omega arith)) (rising_two 3 (omega arith)) (no_shipment [] (λ x i. no_message (Ships x) i) both_frames both_frames both_frames (λ k g is. is) (λ k g is. is))
      by_part Current = no_message_current due (replaced true) refl
      by_part Acknowledged = nothing_acked due (replaced true) refl refl refl
      by_part Known = record { holder = refl; none_later = known_top 3 1 3 (replaced true) refl refl (omega arith) (omega arith) }
      by_part Floored = record { never_fall = (omega arith, (omega arith, tt)); below = omega arith }

  pub replaced_resolved : due [] one → due (one ∷ []) another → (c : Choice) → Invariant due (resolved c (replaced_history booked one another))
  replaced_resolved d e c = by_choice c.duty
    where
      by_choice : (duty : Bool) → Invariant due (resolved (record { a = c.a; b = c.b; duty = duty }) (replaced_history booked one another))
      by_choice false = replaced_parts d e false
      by_choice true = replaced_parts d e true

  pub replaced_loses : (booked ≡ one → ⊥) → Loses {Q = Unit {0}} due (replaced_history booked one another) Start_duty
  replaced_loses apart = (register_started (replaced_history booked one another) false, (false, refl, refl), λ b. apart (ap (λ (z : Frame E). z.entry) (sym (same b))))
    where
      same : Begins (framed one 1 ∷ framed another 1 ∷ []) (framed booked 1 ∷ []) → framed one 1 ≡ framed booked 1
      same b = let e = b.front in cc
