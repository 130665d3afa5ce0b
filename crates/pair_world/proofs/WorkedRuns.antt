-- The worked schedules, computed.
use Rattle.std.proofs.Common.{inr, true, false, List, [], ◌∷◌, refl, arith}
use Rattle.ali_base.specs.declared.names.NodeName.TheVariants.{B}
use Rattle.ali_base.specs.declared.duty.Mode.TheVariants.{Both, Alone}
use Rattle.pair_world.specs.World.{formatted, without_doubt}
use Rattle.pair_world.specs.Deliveries.{answer}
use Rattle.pair_world.specs.Changes.{new_duty, register_failed}
use Rattle.pair_world.specs.Step.{Runs}
use Rattle.pair_world.specs.WorkedSchedules.{office_bounds, old_shipment, after_old_shipment, deposed_holder, after_deposed_holder, suffix_cut, after_suffix_cut, stored_then_taken, after_stored_then_taken, written_in_both, after_written_in_both, booked_alone, after_booked_alone, paired_again, after_paired_again, failed_takeover, after_failed_takeover}
use Rattle.pair_world.proofs.Computed.{runs_told}

module _ {E Q R : Type 0} (due : List E → E → Type 0) (form : List E → Q → R) where
  pub old_shipment_runs : (e : E) → due [] e → Runs due form office_bounds (without_doubt formatted) (old_shipment {E = E} {Q = Q} {R = R} e) (after_old_shipment e)
  unfolding answer
  old_shipment_runs e d = runs_told due form formatted (after_old_shipment e).base (old_shipment e) (d, (d, refl))

  pub deposed_holder_runs : (e : E) → due [] e → Runs due form office_bounds (without_doubt formatted) (deposed_holder {E = E} {Q = Q} {R = R} e) (after_deposed_holder e)
  deposed_holder_runs e d = runs_told due form formatted (after_deposed_holder e).base (deposed_holder e) (d, refl)

  pub suffix_cut_runs : (e : E) → Runs due form office_bounds (after_deposed_holder e) (suffix_cut {E = E} {Q = Q} {R = R}) after_suffix_cut
  unfolding answer
  suffix_cut_runs e = runs_told due form (after_deposed_holder e).base (after_suffix_cut {E = E}).base suffix_cut refl

  pub stored_then_taken_runs : (e1 e2 e3 e4 : E) → due [] e1 → due (e1 ∷ []) e2 → due (e1 ∷ e2 ∷ []) e3 → due (e1 ∷ e2 ∷ e3 ∷ []) e4 → Runs due form office_bounds (without_doubt formatted) (stored_then_taken {E = E} {Q = Q} {R = R} e1 e2 e3 e4) (after_stored_then_taken e1 e2 e3 e4)
  unfolding answer
  stored_then_taken_runs e1 e2 e3 e4 d1 d2 d3 d4 =
      runs_told due form formatted (after_stored_then_taken e1 e2 e3 e4).base (stored_then_taken e1 e2 e3 e4) (d1, (d2, (d3, (d4, refl))))

  pub written_in_both_runs : (e : E) → due [] e → Runs due form office_bounds (without_doubt formatted) (written_in_both {E = E} {Q = Q} {R = R} e) (after_written_in_both e)
  written_in_both_runs e d = runs_told due form formatted (after_written_in_both e).base (written_in_both e) (d, refl)

  pub booked_alone_runs : (e : E) → Runs due form office_bounds (after_written_in_both e) (booked_alone {E = E} {Q = Q} {R = R}) (after_booked_alone e)
  booked_alone_runs e = runs_told due form (after_written_in_both e).base (after_booked_alone e).base booked_alone refl

  pub paired_again_runs : (e : E) → Runs due form office_bounds (after_booked_alone e) (paired_again {E = E} {Q = Q} {R = R}) (after_paired_again e)
  unfolding answer
  paired_again_runs e = runs_told due form (after_booked_alone e).base (after_paired_again e).base paired_again refl

  -- the register fails, and starts with either list
  pub change_lost : Runs due form office_bounds (without_doubt formatted) (failed_takeover {E = E} {Q = Q} {R = R}) (without_doubt formatted)
  change_lost = (
    register_failed (without_doubt formatted) (new_duty (formatted {E = E}) B Alone 0),
    (refl {a = true}, inr (record { up = refl {a = true}; both = refl {a = Both}; epochs_left = omega arith }, refl)),
    (
      without_doubt formatted,
      (false, refl {a = false}, refl),
      refl {a = without_doubt formatted},
    ),
  )

  pub change_lasted : Runs due form office_bounds (without_doubt formatted) (failed_takeover {E = E} {Q = Q} {R = R}) after_failed_takeover
  change_lasted = (
    register_failed (without_doubt formatted) (new_duty (formatted {E = E}) B Alone 0),
    (refl {a = true}, inr (record { up = refl {a = true}; both = refl {a = Both}; epochs_left = omega arith }, refl)),
    (
      after_failed_takeover,
      (true, refl {a = false}, refl),
      refl {a = after_failed_takeover},
    ),
  )
