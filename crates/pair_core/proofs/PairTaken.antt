-- The rows of a takeover and of a pairing, and when the duty may change.
use Rattle.std.proofs.Common.{◌≡◌, ℕ, suc, inr, [], ◌∷◌, length, refl, sym, ap, ◌∙◌, Some, None, Ok, Err, Bool, true, false}
use Rattle.std.specs.Prelude.{not, nat_lt, nat_le, Result}
use Rattle.ali_base.specs.Steps.{when}
use Rattle.ali_base.specs.declared.duty.Duty.{Duty}
use Rattle.ali_base.specs.declared.duty.Mode.TheVariants.{Both}
use Rattle.ali_base.specs.declared.names.NodeName.{NodeName}
use Rattle.crash_disk.specs.DiskState.{DiskState}
use Rattle.office_entry.specs.declared.entry.Entry.{Entry}
use Rattle.office_state.specs.declared.limits.Limits.{Limits}
use Rattle.pair_world.specs.Refusals as refusals
use Rattle.pair_world.specs.Refusals.{Refusal, is_alone}
use Rattle.pair_world.specs.World.{World, node_at, holder_journal}
use Rattle.world_rows.specs.Told.{Refused}
use Rattle.pair_core.specs.Pair.{Shows, duty_of, is_node_up, len_of, count_of, bounds_of}
use Rattle.pair_core.specs.PairAnswers.{ChangeRest, TakeRest}
use Rattle.pair_core.specs.PairChanges.{MayChange}
use Rattle.pair_core.specs.PairRefusals as rows
use Rattle.pair_core.specs.PairRefusals.{first_of}
use Rattle.pair_core.specs.declared.faults.PairFault.{PairFault}
use Rattle.pair_core.specs.declared.faults.PairFault.TheVariants as fault
use Rattle.pair_core.specs.declared.pair.Pair.{Pair}
use Rattle.pair_core.proofs.PairReport.{long_holder}
use Rattle.pair_core.proofs.PairRows as own
use Rattle.pair_core.proofs.PairRows.{Matches, AreRow, matched}

told_up : (b : Bool) (r : Refusal) → when (not b) r ≡ None → b ≡ true
told_up true r is = refl
told_up false r is = absurd (cc)

module _ {D : Type 0} (state : D → DiskState) (limits : Limits) (p : Pair D) (w : World Entry) (shown : Shows state limits p w) where
  in_flight : is_node_up p (rows.holder p) ≡ true → Matches (rows.in_flight p) (refusals.in_flight w)
  in_flight up =
      let long = long_holder state limits p w shown up in
      matched (nat_lt (count_of p) (len_of p (rows.holder p))) (nat_lt (length w.base.booked) (length (holder_journal w.base))) (fault.InFlight (suc (count_of p))) (refusals.In_flight (suc (length w.base.booked)))
      (λ i. nat_lt (shown.count i) (long i)) (ap (λ (n : ℕ). Some (Refused (refusals.In_flight (suc n)))) shown.count)

  not_in_step : Matches (rows.not_in_step p) (refusals.not_in_step w)
  not_in_step =
      matched (nat_le p.ended (count_of p)) (nat_le w.base.ended (length w.base.booked)) (fault.NotInStep p.ended (suc (count_of p))) (refusals.Not_in_step w.base.ended (suc (length w.base.booked)))
      (λ i. nat_le (shown.ended i) (shown.count i)) (λ i. Some (Refused (refusals.Not_in_step (shown.ended i) (suc (shown.count i)))))

  holder_up : refusals.node_is_down w w.base.duty.holder ≡ None → is_node_up p (rows.holder p) ≡ true
  holder_up none =
      let up = told_up (node_at w.base.nodes w.base.duty.holder).up (refusals.Down (refusals.disk_of w.base.duty.holder)) none in
      sym (shown.nodes (rows.holder p)).up ∙ ap (λ (d : Duty). (node_at w.base.nodes d.holder).up) shown.duty ∙ up

  -- the row of a pairing
  pub pair_row : AreRow (rows.duty_is_down p ∷ rows.node_is_down p (rows.holder p) ∷ rows.paired p ∷ rows.in_flight p ∷ rows.not_in_step p ∷ rows.epoch_end p ∷ [])
      (refusals.duty_is_down w ∷ refusals.node_is_down w w.base.duty.holder ∷ refusals.paired w ∷ refusals.in_flight w ∷ refusals.not_in_step w ∷ refusals.epoch_end w (bounds_of p) ∷ [])
  pair_row = (
    own.duty_is_down state limits p w shown,
    λ _. (own.holder_is_down state limits p w shown, λ none. (own.paired state limits p w shown, λ _. (in_flight (holder_up none), λ _. (not_in_step, λ _. (own.epoch_end state limits p w shown, λ _. tt))))),
  )

-- the change to mode Both may be done
pub may_pair : {D : Type 0} (p : Pair D) → rows.pair_refusal p ≡ None → MayChange p (rows.holder p) Both
may_pair p none =
    let all = own.all_none (rows.duty_is_down p ∷ rows.node_is_down p (rows.holder p) ∷ rows.paired p ∷ rows.in_flight p ∷ rows.not_in_step p ∷ rows.epoch_end p ∷ []) none in
    record {
      modes = inr (own.alone_mode (duty_of p).mode (own.when_not (is_alone (duty_of p).mode) (fault.Paired (duty_of p).epoch (rows.holder p)) all.1.1.0), refl, refl);
      epochs_left = own.le_false_lt (bounds_of p).last_epoch (duty_of p).epoch (own.not_when (nat_le (bounds_of p).last_epoch (duty_of p).epoch) (fault.EpochEnd (duty_of p).epoch) all.1.1.1.1.1.0);
    }

-- the node is up that takes the duty
pub taker_up : {D : Type 0} (p : Pair D) (n : NodeName) → rows.take_refusal p n ≡ None → is_node_up p n ≡ true
taker_up p n none =
    let all = own.all_none (rows.duty_is_down p ∷ rows.node_is_down p n ∷ rows.not_paired p ∷ rows.epoch_end p ∷ []) none in
    own.when_not (is_node_up p n) (fault.Down (refusals.disk_of n)) all.1.0

-- a change of duty answers a takeover
pub take_rest : {D : Type 0} (state : D → DiskState) (old new : Pair D) (n : NodeName) (duty : Duty) (result : Result Duty PairFault) → ChangeRest state old new duty result → TakeRest state old new n duty result
take_rest state old new n duty (Ok changed) rest = rest
take_rest state old new n duty (Err (fault.Fault disk)) rest = rest
take_rest state old new n duty (Err refusal) rest = absurd rest
