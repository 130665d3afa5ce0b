-- What a start of the register comes to, from what its parts do.
use Rattle.std.proofs.Common.{◌≡◌, ℕ, ◌⊎◌, inl, inr, List, [], ◌∷◌, refl, sym, ap, subst, ◌∙◌, Some, None, Ok, Err, Bool, true, false}
use Rattle.std.specs.Prelude.{max}
use Rattle.ali_base.specs.Steps.{when}
use Rattle.ali_base.specs.declared.duty.Duty.{Duty}
use Rattle.ali_base.specs.declared.names.DiskName.{DiskName}
use Rattle.ali_base.specs.declared.names.DiskName.TheVariants as disks
use Rattle.ali_base.specs.declared.names.NodeName.{NodeName}
use Rattle.ali_base.specs.declared.names.NodeName.TheVariants.{A, B}
use Rattle.ali_base.specs.Faults.{Rose}
use Rattle.crash_disk.specs.CrashOutcomes.{Stays}
use Rattle.crash_disk.specs.DiskState.{DiskState, IsSound}
use Rattle.crash_disk.proofs.Runs.{stays_here}
use Rattle.duty_register.specs.DutiesRead.{EndsWith}
use Rattle.duty_register.specs.DutyImage as duties
use Rattle.duty_register.specs.OpenRegister as register
use Rattle.duty_register.specs.declared.faults.RegisterFault.{RegisterFault}
use Rattle.duty_register.specs.declared.faults.RegisterFault.TheVariants as opening
use Rattle.node_journal.specs.OpenJournal as journals
use Rattle.office_entry.specs.declared.entry.Entry.{Entry}
use Rattle.office_state.specs.declared.limits.Limits.{Limits}
use Rattle.pair_world.specs.Changes.{register_started}
use Rattle.pair_world.specs.Refusals as refusals
use Rattle.pair_world.specs.SoundWorld.{AreCounted}
use Rattle.pair_world.specs.Step.{Start_duty}
use Rattle.pair_world.specs.World.{World, Resolved, duty_list, recovered}
use Rattle.world_rows.specs.WorldSteps.{Comes}
use Rattle.pair_node.specs.NodeState as node
use Rattle.world_rows.specs.Histories.{IsLawful, state_of}
use Rattle.world_rows.specs.Rows.{MayFail, Success}
use Rattle.world_rows.specs.Told.{Failed, Started_duty}
use Rattle.world_rows.specs.WorldRows.{start_duty_row}
use Rattle.pair_core.specs.Pair.{Shows, AreMoments, node_of, disk_at, bounds_of, counts_of, is_up, count_of, duty_of}
use Rattle.pair_core.specs.PairAnswers.{fault_told, register_fault}
use Rattle.pair_core.specs.PairDuties.{IsRead, HasEntered, IsBesideRegister}
use Rattle.pair_core.specs.PairNodes.{node_in, put}
use Rattle.pair_core.specs.declared.faults.PairFault.TheVariants as fault
use Rattle.pair_core.specs.declared.nodes.Nodes.{Nodes as OwnNodes}
use Rattle.pair_core.specs.declared.pair.Pair.{Pair}
use Rattle.pair_core.proofs.PairRegister.{IsTold, is_told, started_count, list_within, told_image, found, read_shown, started_shown}
use Rattle.pair_core.proofs.PairRows.{AreRow, matched, passed}
use Rattle.pair_core.proofs.PairShown.{all_quiet}

-- each image of the disk stands for one list, and how it may be counted; none that stands for one is foreign or damaged
pub record Images : Type 0 where
  pub known : (image : List ℕ) (list other : List Duty) → duties.StandsFor list image → duties.StandsFor other image → list ≡ other
  pub counted : (image : List ℕ) (list : List Duty) → duties.StandsFor list image → (duty : Duty) × (past : List Duty) × (list ≡ duty_list duty past) × AreCounted duty past
  pub not_foreign : (image : List ℕ) (list : List Duty) → duties.StandsFor list image → duties.IsForeign image → ⊥
  pub not_damaged : (image : List ℕ) (last_epoch : ℕ) → duties.StandsForSome last_epoch image → duties.IsDamagedSomewhere last_epoch image → ⊥

-- a node that knows another epoch has the same journal
known_journal : {D : Type 0} (nodes : OwnNodes D) (n : NodeName) (epoch : ℕ) (k : NodeName) → node.journal_of (node_in (put nodes n (record (node_in nodes n) { known = epoch })) k) ≡ node.journal_of (node_in nodes k)
known_journal nodes A epoch A = refl
known_journal nodes A epoch B = refl
known_journal nodes B epoch A = refl
known_journal nodes B epoch B = refl

-- no byte of the register's disk changes
pub read_stays : {D : Type 0} (state : D → DiskState) (old mid : Pair D) (result : _) → IsRead state old mid result → Stays (state (disk_at old disks.Duty)) (state (disk_at mid disks.Duty))
read_stays state old mid (Ok done) read = read.answer.stays
read_stays state old mid (Err failed) read = read.answer.0.stays

module _ {D : Type 0} (state : D → DiskState) (old mid : Pair D) where
  -- the journals stay where the register is read, and where a duty is entered
  pub read_journals : IsBesideRegister old mid → (k : NodeName) → node.journal_of (node_of mid k) ≡ node.journal_of (node_of old k)
  read_journals beside k = ap (λ (x : OwnNodes D). node.journal_of (node_in x k)) beside.nodes

  pub entered_journals : (new : Pair D) (duty : Duty) (count : ℕ) → IsBesideRegister old mid → HasEntered mid new duty count → (k : NodeName) → node.journal_of (node_of new k) ≡ node.journal_of (node_of old k)
  entered_journals new duty count beside entered k =
      ap (λ (x : OwnNodes D). node.journal_of (node_in x k)) entered.nodes ∙ known_journal mid.nodes duty.holder duty.epoch k ∙ read_journals beside k

module _ {D : Type 0} (state : D → DiskState) (old new : Pair D) (same : (k : NodeName) → node.journal_of (node_of new k) ≡ node.journal_of (node_of old k)) (stays : Stays (state (disk_at old disks.Duty)) (state (disk_at new disks.Duty))) where
  disk_stays : (disk : DiskName) → Stays (state (disk_at old disk)) (state (disk_at new disk))
  disk_stays disks.A = subst (λ j. Stays (state (disk_at old disks.A)) (state (journals.disk_of j))) (sym (same A)) (stays_here (state (disk_at old disks.A)))
  disk_stays disks.B = subst (λ j. Stays (state (disk_at old disks.B)) (state (journals.disk_of j))) (sym (same B)) (stays_here (state (disk_at old disks.B)))
  disk_stays disks.Duty = stays

  -- a crash leaves what it might leave before
  pub start_moments : (limits : Limits) (w : World Entry) → Shows state limits old w → ((disk : D) → IsSound (state disk)) → AreMoments state limits old new w Start_duty
  start_moments limits w shown sound = all_quiet state limits old new w Start_duty shown sound disk_stays

module _ {D : Type 0} (state : D → DiskState) (limits : Limits) (old : Pair D) (w : World Entry) (shown : Shows state limits old w) where
  own_row : AreRow (when (is_up old) (fault.Up disks.Duty) ∷ []) (refusals.duty_is_up w ∷ [])
  own_row = (matched (is_up old) w.register_up (fault.Up disks.Duty) (refusals.Up disks.Duty) (sym shown.register_up) refl, λ _. tt)

  module _ (mid : Pair D) (down : is_up old ≡ false) where
    -- its disk failed
    pub fault_does : (failed : RegisterFault) → IsRead state old mid (Err failed) → Rose (state (disk_at old disks.Duty)).faults (state (disk_at mid disks.Duty)).faults
        → (v : World Entry) × Shows state limits mid v × Comes (counts_of state old) (counts_of state mid) w (λ lasted u. start_duty_row limits u lasted) (fault_told (fault.Fault disks.Duty)) v
    fault_does failed read rose = (
      w,
      read_shown state limits old mid w shown read.beside read.failed down (read_stays state old mid (Err failed) read),
      (
        false,
        passed (counts_of state old) (counts_of state mid) (state_of limits w) w (MayFail disks.Duty w (Success (Started_duty (register_started w false).base.duty) (register_started w false)))
            (when (is_up old) (fault.Up disks.Duty) ∷ []) (refusals.duty_is_up w ∷ []) (Failed disks.Duty) w own_row (ap (λ (b : Bool). when b (fault.Up disks.Duty)) down) (inl (refl, refl, rose)),
      ),
    )

    module _ (images : Images) (sound : (disk : D) → IsSound (state disk)) where
      -- a register that tells its bytes is none that is foreign or damaged
      pub never_foreign : ((image : List ℕ) → (state (disk_at old disks.Duty)).content ≡ Some image → duties.IsForeign image) → ⊥
      never_foreign cause =
          let it = told_image state limits old mid w shown sound in
          images.not_foreign it.0 it.2 it.3 (cause it.0 it.1)

      pub never_damaged : IsLawful limits (bounds_of old) w → (k : ℕ) → ((image : List ℕ) → (state (disk_at old disks.Duty)).content ≡ Some image → duties.IsDamaged (bounds_of old).last_epoch k image) → ⊥
      never_damaged lawful k cause =
          let it = told_image state limits old mid w shown sound in
          images.not_damaged it.0 (bounds_of old).last_epoch (it.2, list_within limits (bounds_of old) w lawful it.2 it.4 (images.counted it.0 it.2 it.3), it.3) (k, cause it.0 it.1)

      -- it is refused: its disk failed
      pub refused_read : IsLawful limits (bounds_of old) w → (failed : RegisterFault) → IsRead state old mid (Err failed)
          → (v : World Entry) × Shows state limits mid v × Comes (counts_of state old) (counts_of state mid) w (λ lasted u. start_duty_row limits u lasted) (fault_told (register_fault failed)) v
      refused_read lawful opening.DiskFault read = fault_does opening.DiskFault read read.answer.0.cause
      refused_read lawful opening.Foreign read = absurd (never_foreign read.answer.0.cause)
      refused_read lawful (opening.Damaged k) read = absurd (never_damaged lawful k read.answer.0.cause)

      module _ (read : IsRead state old mid (Ok tt)) where
        told : (duty : Duty) → register.duty_of mid.register ≡ duty → (list : List Duty) × IsTold w list duty × register.Represents state mid.register list
        told duty present =
            let it = found state limits old mid w shown images.known sound read.answer in
            (it.0, is_told w it.0 duty it.1 (subst (EndsWith it.0) present it.2.known), it.2)

        -- it tells the duty from before or that of the failed change
        pub never_another : (duty : Duty) → register.duty_of mid.register ≡ duty → (duty_of old ≡ duty → ⊥) → (old.failed ≡ Some duty → ⊥) → ⊥
        never_another duty present not_old not_failed = by_one (told duty present).1.one_of
          where
            by_one : (w.base.duty ≡ duty) ⊎ (w.failed_duty ≡ Some duty) → ⊥
            by_one (inl is) = not_old (shown.duty ∙ is)
            by_one (inr is) = not_failed (shown.failed ∙ is)

        -- the register is up
        pub started_does : (new : Pair D) (duty : Duty) (count : ℕ) → IsLawful limits (bounds_of old) w → register.duty_of mid.register ≡ duty → HasEntered mid new duty count → count ≡ max (count_of old) duty.floor
            → (v : World Entry) × Shows state limits new v × Comes (counts_of state old) (counts_of state new) w (λ lasted u. start_duty_row limits u lasted) (Some (Started_duty duty)) v
        started_does new duty count lawful present entered long =
            let it = told duty present in
            let is = it.1 in
            let v = register_started w is.lasted in
            let booked = started_count limits (bounds_of old) w lawful (shown.register_up ∙ down) it.0 duty is in
            let shows = started_shown state limits old mid w shown new duty is.past count read.beside entered (subst (register.Represents state mid.register) is.list_is it.2) (long ∙ ap (λ (n : ℕ). max n duty.floor) shown.count ∙ sym booked) in
            let v_is : record w { base = recovered (record w.base { duty = duty; past = is.past }); register_up = true; failed_duty = None } ≡ v = ap (λ (u : Resolved Entry). record w { base = recovered u; register_up = true; failed_duty = None }) (sym is.base_is) in
            let told_is : Started_duty duty ≡ Started_duty v.base.duty = ap (λ (u : Resolved Entry). Started_duty u.duty) (sym is.base_is) in (
              v,
              subst (Shows state limits new) v_is shows,
              (
                is.lasted,
                passed (counts_of state old) (counts_of state new) (state_of limits w) w (MayFail disks.Duty w (Success (Started_duty v.base.duty) v))
                    (when (is_up old) (fault.Up disks.Duty) ∷ []) (refusals.duty_is_up w ∷ []) (Started_duty duty) v own_row (ap (λ (b : Bool). when b (fault.Up disks.Duty)) down) (inr (told_is, refl)),
              ),
            )
