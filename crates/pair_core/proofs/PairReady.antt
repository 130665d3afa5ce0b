-- Making the table of a node ready is its row of the world.
use Rattle.std.proofs.Common.{◌≡◌, ◌⊎◌, inl, inr, List, [], ◌∷◌, refl, sym, subst, Option, None, Result, Ok, Err, true, false}
use Rattle.std.specs.Prelude.{not, ◌&&◌}
use Rattle.ali_base.specs.declared.duty.Duty.{Duty}
use Rattle.ali_base.specs.declared.duty.Mode.TheVariants.{Both}
use Rattle.ali_base.specs.declared.names.NodeName.{NodeName}
use Rattle.crash_disk.specs.DiskState.{DiskState}
use Rattle.office_entry.specs.declared.entry.Entry.{Entry}
use Rattle.office_state.specs.declared.limits.Limits.{Limits}
use Rattle.pair_world.specs.Changes.{read_failed}
use Rattle.pair_world.specs.Refusals as refusals
use Rattle.pair_world.specs.Refusals.{disk_of, is_alone}
use Rattle.pair_world.specs.World.{World, is_node}
use Rattle.pair_world.proofs.RowTests.{passes, in_duty_passed}
use Rattle.world_rows.specs.Histories.{IsLawful, state_of}
use Rattle.world_rows.specs.Rows.{MayFail, Success, Gives}
use Rattle.world_rows.specs.Told.{Told, Failed, Ready}
use Rattle.world_rows.specs.WorldRows.{ready_row}
use Rattle.pair_core.specs.Pair.{Shows, duty_of, is_node_up, bounds_of, counts_of}
use Rattle.pair_core.specs.PairAnswers.{Unless, ReadyRest, told, ready_told}
use Rattle.pair_core.specs.PairChanges.{IsLearned}
use Rattle.pair_core.specs.PairRefusals as rows
use Rattle.pair_core.specs.PairRefusals.{first_of}
use Rattle.pair_core.specs.declared.faults.PairFault.{PairFault}
use Rattle.pair_core.specs.declared.faults.PairFault.TheVariants as fault
use Rattle.pair_core.specs.declared.pair.Pair.{Pair}
use Rattle.pair_core.proofs.PairLearned.{Gave, learned_shown, not_learned}
use Rattle.pair_core.proofs.PairRows as own
use Rattle.pair_core.proofs.PairRows.{all_none, when_not, not_when}

-- where no refusal of a row holds, its node is up
pub up_of : {D : Type 0} (p : Pair D) (n : NodeName) (rest : List (Option PairFault)) → first_of (rows.duty_is_down p ∷ rows.node_is_down p n ∷ rest) ≡ None → is_node_up p n ≡ true
up_of p n rest none = when_not (is_node_up p n) (fault.Down (disk_of n)) (all_none (rows.duty_is_down p ∷ rows.node_is_down p n ∷ rest) none).1.0

-- and then the rest says why the answer comes
pub where_passed : {P T : Type 0} (refusal : Option PairFault) (old new : P) (result : Result T PairFault) (Rest : Type 0) → refusal ≡ None → Rest → Unless refusal old new result Rest
where_passed refusal old new result Rest none rest = subst (λ (o : Option PairFault). Unless o old new result Rest) (sym none) rest

-- and it is in duty
in_duty : {D : Type 0} (p : Pair D) (n : NodeName) → rows.ready_refusal p n ≡ None → (n ≡ (duty_of p).holder) ⊎ ((duty_of p).mode ≡ Both)
in_duty p n none =
    let all = all_none (rows.duty_is_down p ∷ rows.node_is_down p n ∷ rows.not_in_duty p n ∷ []) none in
    in_duty_passed (duty_of p).mode n (duty_of p).holder refusals.No_flight
    (passes (is_alone (duty_of p).mode && not (is_node n (duty_of p).holder)) refusals.No_flight (not_when (is_alone (duty_of p).mode && not (is_node n (duty_of p).holder)) (rows.out_of_duty p n) all.1.1.0))

pub ready_does : {D : Type 0} (state : D → DiskState) (limits : Limits) (old new : Pair D) (w : World Entry) (n : NodeName) → Shows state limits old w → IsLawful limits (bounds_of old) w → IsLearned state old new n
    → rows.ready_refusal old n ≡ None → (result : Result (Unit {0}) PairFault) → ReadyRest state old new n result
    → Gave state limits old new w (λ lasted u. ready_row limits u n) (told ready_told result)
ready_does state limits old new w n shown lawful learned none result rest = by_result result rest
  where
    lift : (t : Told) (v : World Entry) → Gives (counts_of state old) (counts_of state new) Failed w (MayFail (disk_of n) (read_failed w n) (Success Ready w)) t v → Gives (counts_of state old) (counts_of state new) Failed w (ready_row limits w n) t v
    lift t v gives = own.passed (counts_of state old) (counts_of state new) (state_of limits w) w (MayFail (disk_of n) (read_failed w n) (Success Ready w))
        (rows.duty_is_down old ∷ rows.node_is_down old n ∷ rows.not_in_duty old n ∷ []) (refusals.duty_is_down w ∷ refusals.node_is_down w n ∷ refusals.not_in_duty w n ∷ []) t v (own.ready_row state limits old w shown n) none gives

    duty : (n ≡ w.base.duty.holder) ⊎ (w.base.duty.mode ≡ Both)
    duty = subst (λ (d : Duty). (n ≡ d.holder) ⊎ (d.mode ≡ Both)) shown.duty (in_duty old n none)

    by_result : (r : Result (Unit {0}) PairFault) → ReadyRest state old new n r → Gave state limits old new w (λ lasted u. ready_row limits u n) (told ready_told r)
    by_result (Ok done) rest = (w, learned_shown state limits old new w n shown learned rest.0.0 rest.0.1, (false, lift Ready w (inr (refl, refl))))
    by_result (Err f) rest = not_learned state limits old new w n shown learned lawful duty (λ lasted u. ready_row limits u n) (λ rose. lift (Failed (disk_of n)) (read_failed w n) (inl (refl, refl, rose))) f rest.0
