-- What each part of the invariant is for: the schedules, computed.
use Rattle.std.proofs.Common.{◌≡◌, inr, true, false, List, [], ◌∷◌, refl, ap, arith}
use Rattle.ali_base.specs.declared.names.NodeName.{NodeName}
use Rattle.ali_base.specs.declared.names.NodeName.TheVariants.{A, B}
use Rattle.ali_base.specs.declared.duty.Mode.TheVariants.{Both, Alone}
use Rattle.pair_world.specs.Frames.{Frame, Begins, Legal}
use Rattle.pair_world.specs.World.{node_at, Resolved, without_doubt}
use Rattle.pair_world.specs.Deliveries.{answer}
use Rattle.pair_world.specs.Changes.{new_duty, register_failed, duty_changed}
use Rattle.pair_world.specs.Step.{Book, Take, CanLeavePair, Runs}
use Rattle.pair_world.specs.WorkedSchedules.{office_bounds, framed}
use Rattle.pair_world.specs.Passing.{done}
use Rattle.pair_world.specs.NeededParts.{Loses, RunsToLoss, not_due, booked_all_the_same, after_not_due, not_mirrored, young_suffix, paired_early, after_young_suffix, not_agreeing, paired_apart, after_not_agreeing, early_ack, booked_unstored, after_early_ack, not_current, stored_stray, after_stray, not_stored, after_not_stored, stored_after_start, high_floor, recovered_too_far, after_high_floor}
use Rattle.pair_world.proofs.Computed.{runs_told}

module _ {E : Type 0} where
  none_begins : (f : Frame E) → Begins [] (f ∷ []) → ⊥
  none_begins f b = let e = b.front in absurd (cc)

  one_begins : (f g : Frame E) → Begins (f ∷ []) (g ∷ []) → f ≡ g
  one_begins f g b = let e = b.front in cc

module _ {E : Type 0} (due : List E → E → Type 0) where
  pub not_due_breaks : (e : E) → (due [] e → ⊥) → Legal due (framed e 1 ∷ []) → ⊥
  not_due_breaks e none legal = none (legal 0 (framed e 1) refl)

  pub stray_breaks : (g h : E) → (due (g ∷ []) h → ⊥) → Legal due (framed g 1 ∷ framed h 1 ∷ []) → ⊥
  stray_breaks g h none legal = none (legal 1 (framed h 1) refl)

-- a takeover that loses
module _ {E : Type 0} (Q : Type 0) (due : List E → E → Type 0) where
  loses : (x : Resolved E) (n : NodeName) → CanLeavePair office_bounds x n → (Begins (node_at x.nodes n).journal x.booked → ⊥) → Loses {Q = Q} due (without_doubt x) (Take n)
  loses x n can lost = (without_doubt (duty_changed x n Alone (node_at x.nodes n).journal), (refl, (can, refl), refl), lost)

  pub not_mirrored_loses : (e : E) → Loses {Q = Q} due (not_mirrored e) (Take B)
  not_mirrored_loses e = loses (not_mirrored e).base B (record { up = refl {a = true}; both = refl {a = Both}; epochs_left = omega arith }) (none_begins (framed e 1))

module _ {E Q R : Type 0} (due : List E → E → Type 0) (form : List E → Q → R) where
  pub not_due_runs : (e : E) → Runs due form office_bounds (not_due e) (booked_all_the_same {E = E} {Q = Q} {R = R}) (after_not_due e)
  unfolding answer
  not_due_runs e = runs_told due form (not_due e).base (after_not_due e).base booked_all_the_same refl

  pub young_suffix_runs : (e : E) → Runs due form office_bounds (young_suffix e) (paired_early {E = E} {Q = Q} {R = R}) (after_young_suffix e)
  unfolding answer
  young_suffix_runs e = runs_told due form (young_suffix e).base (after_young_suffix e).base paired_early refl

  pub not_agreeing_loses : (e f : E) → (e ≡ f → ⊥) → RunsToLoss {Q = Q} due form (not_agreeing e f) paired_apart (after_not_agreeing e f) (Take A)
  unfolding answer
  not_agreeing_loses e f apart =
      record {
        runs = runs_told due form (not_agreeing e f).base (after_not_agreeing e f).base paired_apart refl;
        loses =
            loses Q due (after_not_agreeing e f).base A (record { up = refl {a = true}; both = refl {a = Both}; epochs_left = omega arith })
            (λ b. apart (ap (λ (z : Frame E). z.entry) (one_begins (framed e 1) (framed f 1) b)));
      }

  pub early_ack_loses : (e : E) → due [] e → RunsToLoss {Q = Q} due form early_ack (booked_unstored e) (after_early_ack e) (Take B)
  early_ack_loses e d =
      record {
        runs = runs_told due form (early_ack {E = E}).base (after_early_ack e).base (booked_unstored e) (d, refl);
        loses = loses Q due (after_early_ack e).base B (record { up = refl {a = true}; both = refl {a = Both}; epochs_left = omega arith }) (none_begins (framed e 3));
      }

  pub not_current_runs : (g h : E) → Runs due form office_bounds (not_current 1 g h) (stored_stray {E = E} {Q = Q} {R = R}) (after_stray g h)
  unfolding answer
  not_current_runs g h = runs_told due form (not_current 1 g h).base (after_stray g h).base stored_stray refl

  pub known_later_runs : (g h : E) → Runs due form office_bounds (not_current 2 g h) (stored_after_start {E = E} {Q = Q} {R = R}) (after_stray g h)
  unfolding answer
  known_later_runs g h = runs_told due form (not_current 2 g h).base (after_stray g h).base stored_after_start refl

  pub not_stored_loses : (e : E) → RunsToLoss {Q = Q} due form (not_stored e) (done Book ∷ []) (after_not_stored e) (Take B)
  not_stored_loses e =
      record {
        runs = runs_told due form (not_stored e).base (after_not_stored e).base (done Book ∷ []) refl;
        loses = loses Q due (after_not_stored e).base B (record { up = refl {a = true}; both = refl {a = Both}; epochs_left = omega arith }) (none_begins (framed e 1));
      }

  pub high_floor_loses : (e : E) → RunsToLoss {Q = Q} due form (high_floor e) recovered_too_far (after_high_floor e) (Take B)
  high_floor_loses e =
      record {
        runs = (
          register_failed (high_floor e) (new_duty (high_floor e).base B Alone 0),
          (refl {a = true}, inr (record { up = refl {a = true}; both = refl {a = Both}; epochs_left = omega arith }, refl)),
          (
            after_high_floor e,
            (false, refl {a = false}, refl),
            refl {a = after_high_floor e},
          ),
        );
        loses = loses Q due (after_high_floor e).base B (record { up = refl {a = true}; both = refl {a = Both}; epochs_left = omega arith }) (none_begins (framed e 3));
      }
