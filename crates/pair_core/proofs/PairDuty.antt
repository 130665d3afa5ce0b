-- The worlds that a pair shows after a change of duty.
use Rattle.std.proofs.Common.{◌≡◌, ℕ, suc, ◌+◌, ◌<◌, ◌⊎◌, inl, inr, List, [], ◌∷◌, ◌++◌, length, map, refl, sym, ap, subst, ◌∙◌, arith, Option, Some, None, Result, Ok, Err, Bool, true, false}
use Rattle.std.specs.Prelude.{is_none, is_err}
use Rattle.ali_base.specs.Duties.{next_duty}
use Rattle.ali_base.specs.declared.duty.Duty.{Duty}
use Rattle.ali_base.specs.Faults.{Rose}
use Rattle.ali_base.specs.declared.duty.Mode.{Mode}
use Rattle.ali_base.specs.declared.duty.Mode.TheVariants.{Both, Alone}
use Rattle.ali_base.specs.declared.names.DiskName.TheVariants as disks
use Rattle.ali_base.specs.declared.names.NodeName.{NodeName}
use Rattle.ali_base.specs.declared.names.NodeName.TheVariants.{A, B}
use Rattle.crash_disk.specs.CrashOutcomes.{Stays}
use Rattle.crash_disk.specs.DiskState.{DiskState, IsSound}
use Rattle.crash_disk.proofs.Runs.{stays_here, weaker}
use Rattle.duty_register.specs.DutyImage as duties
use Rattle.duty_register.specs.DutyState.{StandsForEither, with_duty}
use Rattle.duty_register.specs.OpenRegister as register
use Rattle.duty_register.specs.OpenRegister.{ChangeAnswers}
use Rattle.duty_register.specs.declared.faults.DutyFault.{DutyFault}
use Rattle.duty_register.specs.declared.faults.DutyFault.TheVariants as changing
use Rattle.duty_register.specs.declared.register.Register.{Register}
use Rattle.office_entry.specs.declared.entry.Entry.{Entry}
use Rattle.office_state.specs.declared.limits.Limits.{Limits}
use Rattle.pair_world.specs.Changes.{new_duty, duty_changed, register_failed}
use Rattle.pair_world.specs.Frames.{Frame}
use Rattle.pair_world.specs.Moments.{IsUnderWay}
use Rattle.pair_world.specs.Step.{Bounds}
use Rattle.pair_world.specs.World.{World, node_at, put_node, failed_write_at, duty_list, MayList}
use Rattle.pair_world.proofs.DutyLists.{list_next}
use Rattle.world_rows.specs.Histories.{due_after}
use Rattle.world_rows.specs.Rows.{Row, Gives}
use Rattle.world_rows.specs.Told.{Told, Failed, On_duty}
use Rattle.world_rows.specs.WorldRows.{duty_row}
use Rattle.world_rows.specs.WorldSteps.{OfficeEvent, Comes}
use Rattle.pair_node.specs.NodeState as node
use Rattle.pair_core.specs.Pair.{Shows, ShowsNode, AreMoments, LeavesDuties, node_of, disk_at, bounds_of, duty_of, is_up, counts_of}
use Rattle.pair_core.specs.PairAnswers.{told, ChangeRest}
use Rattle.pair_core.specs.PairChanges.{IsChange, MayChange, MayFollow}
use Rattle.pair_core.specs.PairNodes.{node_in, put, sent_told}
use Rattle.pair_core.specs.declared.faults.PairFault.{PairFault}
use Rattle.pair_core.specs.declared.faults.PairFault.TheVariants as fault
use Rattle.pair_node.specs.declared.node.Node.{Node}
use Rattle.pair_core.specs.declared.nodes.Nodes.{Nodes as OwnNodes}
use Rattle.pair_core.specs.declared.pair.Pair.{Pair}
use Rattle.pair_node.proofs.Quiet.{quiet}

pub none_of : (o : Option Duty) → is_none o ≡ true → o ≡ None
none_of None is = refl
none_of (Some duty) is = absurd (cc)

module _ {D : Type 0} (state : D → DiskState) (limits : Limits) (old new : Pair D) (w : World Entry) (shown : Shows state limits old w) (n : NodeName) (mode : Mode) (history : List (Frame Entry)) (count : ℕ)
    (long : count ≡ length history) (up : is_up old ≡ true) where
  abbrev own_duty : Duty
  own_duty = next_duty (duty_of old) n mode count

  epoch_is : (duty_of old).epoch + 1 ≡ suc w.base.duty.epoch
  epoch_is = omega (arith, ap (λ (d : Duty). d.epoch) shown.duty)

  -- the duty of the pair is that of the world
  pub duty_is : own_duty ≡ new_duty w.base n mode (length history)
  duty_is = λ i. record { epoch = epoch_is i; holder = n; mode = mode; floor = long i }

  abbrev list : List Duty
  list = duty_list w.base.duty w.base.past

  abbrev knows : Node D
  knows = record (node_of old n) { known = own_duty.epoch }

  known_shown : ShowsNode state limits n knows (record (node_at w.base.nodes n) { known = suc w.base.duty.epoch }) (failed_write_at w.failed_writes n)
  known_shown =
      let s = shown.nodes n in
      record { up = s.up; known = sym epoch_is; images = s.images; table = s.table; frames = λ is. let r = s.frames is in record { journal = r.journal; table = r.table } }

  nodes_shown : (m : NodeName) → m ≡ n → (k : NodeName) → ShowsNode state limits k (node_in (put old.nodes m knows) k) (node_at (put_node w.base.nodes m (record (node_at w.base.nodes n) { known = suc w.base.duty.epoch })) k) (failed_write_at w.failed_writes k)
  nodes_shown A e A = subst (λ k. ShowsNode state limits k knows (record (node_at w.base.nodes n) { known = suc w.base.duty.epoch }) (failed_write_at w.failed_writes k)) (sym e) known_shown
  nodes_shown A e B = shown.nodes B
  nodes_shown B e A = shown.nodes A
  nodes_shown B e B = subst (λ k. ShowsNode state limits k knows (record (node_at w.base.nodes n) { known = suc w.base.duty.epoch }) (failed_write_at w.failed_writes k)) (sym e) known_shown

  -- the change is done
  pub changed_shown : (told : Duty) → ChangeRest state old new own_duty (Ok told) → IsChange state old new own_duty (Ok told) → Shows state limits new (record w { base = duty_changed w.base n mode history })
  changed_shown told rest change =
      let next = new_duty w.base n mode (length history) in
      let same : with_duty list own_duty ≡ duty_list next (w.base.duty ∷ w.base.past) = ap (λ (d : Duty). list ++ d ∷ []) duty_is ∙ sym (list_next w.base.duty next w.base.past) in
      let now : register.Represents state new.register (duty_list next (w.base.duty ∷ w.base.past)) = subst (register.Represents state new.register) same (change.leaves.3 list (shown.duties up)) in
      record {
        tells = shown.tells;
        nodes = subst (λ (x : OwnNodes D). (k : NodeName) → ShowsNode state limits k (node_in x k) (node_at (put_node w.base.nodes n (record (node_at w.base.nodes n) { known = suc w.base.duty.epoch })) k) (failed_write_at w.failed_writes k)) (sym change.leaves.0) (nodes_shown n refl);
        duty = rest.1 ∙ duty_is;
        register_up = shown.register_up ∙ up ∙ sym rest.3;
        failed = none_of new.failed rest.3 ∙ sym (none_of old.failed up) ∙ shown.failed;
        images = λ image left. (duty_list next (w.base.duty ∷ w.base.past), subst (duties.StandsFor (duty_list next (w.base.duty ∷ w.base.past))) (sym (now.kept.synced.durable image left)) now.kept.stands, inl refl);
        duties = λ is. now;
        count = rest.2 ∙ long;
        acked = change.leaves.1;
        ended = change.leaves.2;
        messages = ap (λ ms. map sent_told ms.items) change.messages ∙ shown.messages;
      }

  -- what a crash leaves of the register
  leaves_either : (limits_of : Bounds) (event : OfficeEvent) → IsUnderWay (due_after limits) limits_of w event (register_failed w (new_duty w.base n mode (length history)))
      → (image : List ℕ) → StandsForEither list (with_duty list own_duty) image → LeavesDuties limits limits_of w event image
  leaves_either limits_of event under image (inl stands) = (list, stands, (w, inl refl, inl refl))
  leaves_either limits_of event under image (inr stands) =
      (with_duty list own_duty, stands, (register_failed w (new_duty w.base n mode (length history)), under, inr (new_duty w.base n mode (length history), refl, ap (λ (d : Duty). list ++ d ∷ []) (sym duty_is))))

  -- the disk failed, and the change is in doubt
  pub failed_shown : (told : PairFault) → IsSound (state (disk_at new disks.Duty)) → is_up new ≡ false → duty_of new ≡ duty_of old → new.count ≡ old.count → IsChange state old new own_duty (Err told)
      → Shows state limits new (register_failed w (new_duty w.base n mode (length history)))
  failed_shown told sound down duty same change = record {
    tells = shown.tells;
    nodes = subst (λ (x : OwnNodes D). (k : NodeName) → ShowsNode state limits k (node_in x k) (node_at w.base.nodes k) (failed_write_at w.failed_writes k)) (sym change.leaves.0) shown.nodes;
    duty = duty ∙ shown.duty;
    register_up = sym down;
    failed = change.leaves.3 ∙ ap Some duty_is;
    images = λ image left.
        let run = change.moments list (shown.duties up) in
        which image (run.each image (sound.counts_now (state (disk_at old disks.Duty)).moment image run.later left));
    duties = λ is. absurd (cc);
    count = same ∙ shown.count;
    acked = change.leaves.1 ∙ shown.acked;
    ended = change.leaves.2 ∙ shown.ended;
    messages = ap (λ ms. map sent_told ms.items) change.messages ∙ shown.messages;
  }
    where
      which : (image : List ℕ) → StandsForEither list (with_duty list own_duty) image
          → (l : List Duty) × duties.StandsFor l image × MayList (register_failed w (new_duty w.base n mode (length history))) l
      which image (inl stands) = (list, stands, inl refl)
      which image (inr stands) = (with_duty list own_duty, stands, inr (new_duty w.base n mode (length history), refl, ap (λ (d : Duty). list ++ d ∷ []) (sym duty_is)))

  -- a crash at any moment leaves the duties from before, with the new one or without
  pub change_moments : (event : OfficeEvent) (told : Result Duty PairFault) → ((disk : D) → IsSound (state disk)) → IsUnderWay (due_after limits) (bounds_of old) w event (register_failed w (new_duty w.base n mode (length history)))
      → ((k : NodeName) → node.disk_of (node_of new k) ≡ node.disk_of (node_of old k)) → register.CrashesBetween state own_duty old.register new.register → AreMoments state limits old new w event
  change_moments event told sound under same moments = record {
    a = quiet (state (disk_at old disks.A)) (state (disk_at new disks.A)) _ (sound (disk_at old disks.A)) (stays_at A) (λ image left. let it = (shown.nodes A).images image left in (it.0, it.1, (w, inl refl, it.2)));
    b = quiet (state (disk_at old disks.B)) (state (disk_at new disks.B)) _ (sound (disk_at old disks.B)) (stays_at B) (λ image left. let it = (shown.nodes B).images image left in (it.0, it.1, (w, inl refl, it.2)));
    duty = weaker (state (disk_at old disks.Duty)) (state (disk_at new disks.Duty)) (StandsForEither list (with_duty list own_duty)) (LeavesDuties limits (bounds_of old) w event) (leaves_either (bounds_of old) event under) (moments list (shown.duties up));
  }
    where
      stays_at : (k : NodeName) → Stays (state (node.disk_of (node_of old k))) (state (node.disk_of (node_of new k)))
      stays_at k = subst (λ (d : D). Stays (state (node.disk_of (node_of old k))) (state d)) (sym (same k)) (stays_here (state (node.disk_of (node_of old k))))

  -- what the rest of a row gives: the change, or its failure
  pub change_does : (row : Bool → World Entry → Row Told (World Entry)) → ((t : Told) (v : World Entry) → Gives (counts_of state old) (counts_of state new) Failed w (duty_row limits w n mode history) t v → Gives (counts_of state old) (counts_of state new) Failed w (row false w) t v)
      → (result : Result Duty PairFault) → ChangeRest state old new own_duty result → IsChange state old new own_duty result → IsSound (state (disk_at new disks.Duty))
      → (v : World Entry) × Shows state limits new v × Comes (counts_of state old) (counts_of state new) w row (told On_duty result) v
  change_does row lift (Ok changed) rest change sound =
      let v : World Entry = record w { base = duty_changed w.base n mode history } in
      (v, changed_shown changed rest change, (false, lift (On_duty changed) v (inr (ap On_duty (rest.0 ∙ duty_is), refl))))
  change_does row lift (Err (fault.Fault disk)) rest change sound =
      let v : World Entry = register_failed w (new_duty w.base n mode (length history)) in
      (v, failed_shown (fault.Fault disk) sound rest.2 rest.3 rest.4 change, (false, lift (Failed disk) v (inl (ap Failed rest.0, refl, rest.1))))
  change_does row lift (Err refusal) rest change sound = absurd rest

  disks_same : (result : Result Duty PairFault) → IsChange state old new own_duty result → (k : NodeName) → node.disk_of (node_of new k) ≡ node.disk_of (node_of old k)
  disks_same (Ok changed) change k = ap (λ (x : OwnNodes D). node.disk_of (node_in x k)) change.leaves.0 ∙ known_disk n k
    where
      known_disk : (m k : NodeName) → node.disk_of (node_in (put old.nodes m (record (node_of old m) { known = own_duty.epoch })) k) ≡ node.disk_of (node_of old k)
      known_disk A A = refl
      known_disk A B = refl
      known_disk B A = refl
      known_disk B B = refl
  disks_same (Err refusal) change k = ap (λ (x : OwnNodes D). node.disk_of (node_in x k)) change.leaves.0

  pub moments_of : (event : OfficeEvent) (result : Result Duty PairFault) → ((disk : D) → IsSound (state disk)) → IsUnderWay (due_after limits) (bounds_of old) w event (register_failed w (new_duty w.base n mode (length history)))
      → IsChange state old new own_duty result → AreMoments state limits old new w event
  moments_of event result sound under change = change_moments event result sound under (disks_same result change) change.moments

-- why the register does not change, where its mode is the one asked for and an epoch is left
pub failed_change : {D : Type 0} (state : D → DiskState) (old new : Register D) (from : Mode) (duty : Duty) (result : Result Duty DutyFault) → ChangeAnswers state from duty old new result → is_err result ≡ true → (register.duty_of old).mode ≡ from → (register.duty_of old).epoch < register.last_epoch_of old
    → (register.duty_of new ≡ register.duty_of old) × Rose (state (register.disk_of old)).faults (state (register.disk_of new)).faults
failed_change state old new from duty result answer failed mode left = by_result result answer failed
  where
    no_mode : (m : Mode) → m ≡ Both → m ≡ Alone → ⊥
    no_mode m a b = absurd (cc)

    by_result : (r : Result Duty DutyFault) → ChangeAnswers state from duty old new r → is_err r ≡ true → (register.duty_of new ≡ register.duty_of old) × Rose (state (register.disk_of old)).faults (state (register.disk_of new)).faults
    by_result (Ok x) answer failed = absurd (cc)
    by_result (Err (changing.NotPaired epoch holder)) answer failed = absurd (no_mode from answer.0 (sym mode ∙ answer.1))
    by_result (Err (changing.Paired epoch holder)) answer failed = absurd (no_mode from (sym mode ∙ answer.1) answer.0)
    by_result (Err (changing.EpochEnd epoch)) answer failed = absurd (omega (arith, answer.1, left))
    by_result (Err changing.DiskFault) answer failed = (answer.3, answer.2)

pub taken_is : (before duty : Duty) → duty ≡ next_duty before duty.holder duty.mode duty.floor → duty.mode ≡ Alone → register.taken before duty.holder duty.floor ≡ duty
taken_is before duty follows mode = (λ i. next_duty before duty.holder (sym mode i) duty.floor) ∙ sym follows

pub paired_is : (before duty : Duty) → duty ≡ next_duty before duty.holder duty.mode duty.floor → duty.mode ≡ Both → duty.holder ≡ before.holder → register.paired before duty.floor ≡ duty
paired_is before duty follows mode holder = (λ i. next_duty before (sym holder i) (sym mode i) duty.floor) ∙ sym follows

-- the duty that a pair changes to follows the one that its register has
pub may_follow : {D : Type 0} (p : Pair D) (n : NodeName) (mode : Mode) (count : ℕ) → is_up p ≡ true → MayChange p n mode → MayFollow p.register (next_duty (duty_of p) n mode count)
may_follow p n mode count up may = record {
  follows = ap (λ (d : Duty). next_duty d n mode count) (sym present);
  alone = λ is. ap (λ (d : Duty). d.mode) present ∙ was_both may.modes is;
  both = λ is. let was = was_alone may.modes is in (ap (λ (d : Duty). d.mode) present ∙ was.0, was.1 ∙ ap (λ (d : Duty). d.holder) (sym present));
  epochs_left = subst (λ (d : Duty). d.epoch < register.last_epoch_of p.register) (sym present) may.epochs_left;
}
  where
    present : register.duty_of p.register ≡ duty_of p
    present = (p.present (none_of p.failed up)).1

    was_both : (((duty_of p).mode ≡ Both) × (mode ≡ Alone)) ⊎ (((duty_of p).mode ≡ Alone) × (mode ≡ Both) × (n ≡ (duty_of p).holder)) → mode ≡ Alone → (duty_of p).mode ≡ Both
    was_both (inl m) is = m.0
    was_both (inr m) is = absurd (cc)

    was_alone : (((duty_of p).mode ≡ Both) × (mode ≡ Alone)) ⊎ (((duty_of p).mode ≡ Alone) × (mode ≡ Both) × (n ≡ (duty_of p).holder)) → mode ≡ Both → ((duty_of p).mode ≡ Alone) × (n ≡ (duty_of p).holder)
    was_alone (inl m) is = absurd (cc)
    was_alone (inr m) is = (m.0, m.2)
