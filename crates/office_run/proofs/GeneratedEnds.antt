-- The end of a run of the generated script: at the desk, since the disks were handed in, and by the count at the opening.
use Rattle.std.proofs.Common.{◌≡◌, inl, inr, ℕ, ◌<◌, List, map, refl, ap, sym, ◌∙◌, subst, arith, Option, None}
use Rattle.std.specs.Io.KnownBytes.{Keeps}
use Rattle.ali_base.specs.declared.names.DiskName.{DiskName}
use Rattle.ali_base.specs.declared.names.DiskName.TheVariants as disks
use Rattle.command_desk.specs.MadeReply.{counts_at, receiver_of, switches_of}
use Rattle.command_desk.specs.declared.desk.Desk.{Desk}
use Rattle.command_machine.specs.Replies.{Reply}
use Rattle.crash_disk.specs.CrashOutcomes.{Stays}
use Rattle.crash_disk.specs.DiskState.{DiskState}
use Rattle.crash_disk.proofs.Runs.{stays_here}
use Rattle.node_journal.specs.declared.frame.TheConstants.{LAST_EPOCH, MOST_FRAMES}
use Rattle.office_commands.specs.Commands.{Command}
use Rattle.office_run.specs.Carrying.{Carried, IsLeft}
use Rattle.office_run.specs.Disks.{Disks, counts_of, disk_in, disks_of, IsHonest, IsFirst}
use Rattle.office_run.specs.Exit.{AreOpened, IsDoneOrNoMemory}
use Rattle.office_run.specs.Generated.{Generates, GeneratesFor, GeneratesAll, BookedAtOpening, IsByCount, IsFilled, IsFilledInPart, IsInUse, IsUntouched, booked_at}
use Rattle.office_run.specs.Replied.{AreSwitchedSince}
use Rattle.office_run.specs.Serving.{disks_at, end_status, IsOpenDesk}
use Rattle.office_run.specs.declared.status.Status.{Status}
use Rattle.office_run.specs.declared.status.Status.TheVariants.{Done, Usage, SourceFault, SinkFault, Script, TooLong, OpenFault, Foreign, Damaged, NotEmpty, Short, NoMemory}
use Rattle.office_run.proofs.Completeness.{IsSane, no_fault}
use Rattle.office_run.proofs.Ends.{Later, StaysSince}
use Rattle.office_run.proofs.Serving.{last_of}
use Rattle.office_run.proofs.Switched.{switched_since, never-trans}
use Rattle.office_state.specs.OfficeState.{office_limits}
use Rattle.pair_core.specs.Pair.{AreKept, IsOpened, count_of, disk_at, handed}
use Rattle.pair_core.specs.declared.faults.OpenEnd.{OpenEnd}
use Rattle.pair_core.specs.declared.faults.OpenEnd.TheVariants as ends
use Rattle.world_rows.specs.Counts.{NoneRose}

-- disks of which nothing was called
pub not_touched : (disks : Disks) (old new : Option (List ℕ)) → Keeps old new → IsUntouched disks disks old new
not_touched disks old new keeps = ((λ d. stays_here (disk_in disks d)), keeps)

module _ {D : Type 0} (state : D → DiskState) (from : Desk D) (opened : IsOpenDesk state from) where
  -- what is told since the desk was opened
  since : (now : Desk D) (commands : List Command) (told : List (List Reply)) → Carried state from now commands told → AreSwitchedSince (disks_at state from) (disks_at state now) commands told
  since now commands told carried = record {
    first = counts_at state from;
    since = λ disk. omega arith;
    s = switches_of from;
    register = opened.register;
    a = opened.a;
    b = opened.b;
    sent = ap (λ z. map receiver_of z) opened.sent;
    switched = switched_since (counts_at state from) (switches_of from) commands told (counts_at state now) (switches_of now) (counts_at state now) carried.switched (λ disk. omega arith);
  }

  -- at a desk at which nothing is booked, all commands were carried out
  pub filled : (now : Desk D) (commands : List Command) (told : List (List Reply)) → count_of from.pair ≡ 0 → Carried state from now commands told
      → IsFilled (disks_at state from) (disks_at state now) commands told (count_of now.pair)
  filled now commands told none carried = record {
    switched = since now commands told carried;
    machine = λ honest. (
        let first = opened.first honest in
        let last = carried.machine first.0 first.2 first.3 in
        (first.0, last.0, first.1, sym first.2.world.count ∙ none, last.3, last_of state now last.0 last.1 last.2, sym last.1.world.count));
  }

  -- or memory ran out in them
  pub filled_in_part : (now : Desk D) (commands : List Command) → count_of from.pair ≡ 0 → IsLeft state from now commands → IsFilledInPart (disks_at state from) (disks_at state now) commands
  filled_in_part now commands none h = record {
    done = h.done;
    rest = h.rest;
    all = h.all;
    told = h.told;
    switched = record {
      first = counts_at state from;
      since = λ disk. omega arith;
      s = switches_of from;
      register = opened.register;
      a = opened.a;
      b = opened.b;
      sent = ap (λ z. map receiver_of z) opened.sent;
      switched = switched_since (counts_at state from) (switches_of from) h.done h.told h.counts h.switches (counts_at state now) h.switched h.falls;
    };
    machine = λ honest. (
        let first = opened.first honest in
        let last = h.machine first.0 first.2 first.3 in
        (first.0, last.0, last.1, first.1, sym first.2.world.count ∙ none, last.4, last.5, last_of state now last.1 last.2 last.3));
  }

  -- at a desk at which something is booked nothing is done
  pub in_use : 0 < count_of from.pair → IsInUse (disks_at state from) (disks_at state from)
  in_use some honest =
      let first = opened.first honest in
      (first.0, first.1, omega (arith, some, first.2.world.count), last_of state from first.0 first.2 first.3)

-- what is so since the disks were opened is so since they were handed in
module _ (before from now : Disks) (is_later : Later before from) (old new : Option (List ℕ)) where
  switched_before : (commands : List Command) (told : List (List Reply)) → AreSwitchedSince from now commands told → AreSwitchedSince before now commands told
  switched_before commands told h = record {
    first = h.first;
    since = never-trans (counts_of before) (counts_of from) h.first is_later.falls h.since;
    s = h.s;
    register = h.register;
    a = h.a;
    b = h.b;
    sent = h.sent;
    switched = h.switched;
  }

  filled_before : (commands : List Command) (told : List (List Reply)) (booked : ℕ) → IsFilled from now commands told booked → IsFilled before now commands told booked
  filled_before commands told booked h = record {
    switched = switched_before commands told h.switched;
    machine = λ honest. (let m = h.machine (is_later.honest honest) in (m.0, m.1, is_later.first m.0 m.2, m.3, m.4, m.5, m.6));
  }

  untouched_before : StaysSince before from now → IsUntouched from now old new → IsUntouched before now old new
  untouched_before stays h = ((λ d. stays d (h.0 d)), h.1)

  pub generates_since : StaysSince before from now → (commands : List Command) (n : ℕ) (status : Status) → IsByCount n status → Generates from now commands old new status → Generates before now commands old new status
  generates_since stays commands n Done is h = (h.0, h.1, filled_before commands h.0 h.1 h.2, h.3)
  generates_since stays commands n SinkFault is h = (h.0, h.1, filled_before commands h.0 h.1 h.2, h.3)
  generates_since stays commands n NoMemory is (inl h) = inl (untouched_before stays h)
  generates_since stays commands n NoMemory is (inr h) =
      let part : IsFilledInPart from now commands = h.0 in (
      inr (
        record {
          done = part.done;
          rest = part.rest;
          all = part.all;
          told = part.told;
          switched = switched_before part.done part.told part.switched;
          machine = λ honest. (let m = part.machine (is_later.honest honest) in (m.0, m.1, m.2, is_later.first m.0 m.3, m.4, m.5, m.6, m.7));
        },
        h.1,
      )
      )
  generates_since stays commands n (NotEmpty disks.A) is h =
      (untouched_before stays h.0, λ honest. (let m = h.1 (is_later.honest honest) in (m.0, is_later.first m.0 m.1, m.2, m.3)))
  generates_since stays commands n (NotEmpty disks.B) is h = absurd h
  generates_since stays commands n (NotEmpty disks.Duty) is h = absurd h
  generates_since stays commands n (OpenFault d) is h = absurd is
  generates_since stays commands n (Foreign d) is h = absurd is
  generates_since stays commands n (Damaged d k) is h = absurd is
  generates_since stays commands n (Short node have floor) is h = absurd is
  generates_since stays commands n Usage is h = absurd is
  generates_since stays commands n SourceFault is h = absurd is
  generates_since stays commands n (Script k) is h = absurd is
  generates_since stays commands n TooLong is h = absurd is

module _ {D : Type 0} (state : D → DiskState) (a b duty : D) where
  -- the disks are handed back as they are at the desk
  pub generated_back : (desk : Desk D) (x y z : D) (commands : List Command) (old new : Option (List ℕ)) (status : Status) → x ≡ disk_at desk.pair disks.A → y ≡ disk_at desk.pair disks.B → z ≡ disk_at desk.pair disks.Duty
      → Generates (disks_of state a b duty) (disks_at state desk) commands old new status → Generates (disks_of state a b duty) (disks_of state x y z) commands old new status
  generated_back desk x y z commands old new status first second third h =
      let P : D → D → D → Type 0 = λ p q r. Generates (disks_of state a b duty) (disks_of state p q r) commands old new status in
      let in_a = disk_at desk.pair disks.A in
      let in_b = disk_at desk.pair disks.B in
      subst (λ p. P p y z) (sym first) (subst (λ q. P in_a q z) (sym second) (subst (λ r. P in_a in_b r) (sym third) h))

  -- what the disks show where they were opened
  module _ (desk : Desk D) (opened : IsOpened state a b duty office_limits MOST_FRAMES LAST_EPOCH desk.pair) where
    booked_at_opening : (P : ℕ → Type 0) → P (count_of desk.pair) → BookedAtOpening state (handed a b duty) P
    booked_at_opening P is tells image_a image_b image_duty told_a told_b told_duty =
        let shown = opened.shown image_a image_b image_duty told_a told_b told_duty in
        (shown.0, shown.1, shown.2, shown.3, shown.4, shown.5, subst P (shown.10 tells).count is)

    pub cause_by_count : (new : DiskName → D) (status : Status) → AreOpened state (handed a b duty) → IsByCount (count_of desk.pair) status → GeneratesFor state (handed a b duty) new status
    cause_by_count new Done are is = (are, booked_at_opening (λ n. n ≡ 0) is)
    cause_by_count new SinkFault are is = (are, booked_at_opening (λ n. n ≡ 0) is)
    cause_by_count new (NotEmpty d) are is = (are, booked_at_opening (λ n. 0 < n) is)
    cause_by_count new NoMemory are is = tt
    cause_by_count new (OpenFault d) are is = absurd is
    cause_by_count new (Foreign d) are is = absurd is
    cause_by_count new (Damaged d k) are is = absurd is
    cause_by_count new (Short node have floor) are is = absurd is
    cause_by_count new Usage are is = absurd is
    cause_by_count new SourceFault are is = absurd is
    cause_by_count new (Script k) are is = absurd is
    cause_by_count new TooLong are is = absurd is

  -- the disks are not opened
  module _ (x y z : D) (commands : List Command) (old new : Option (List ℕ)) (sink : Keeps old new) where
    untouched : AreKept state (handed a b duty) (handed x y z) → IsUntouched (disks_of state a b duty) (disks_of state x y z) old new
    untouched kept = (stays, sink)
      where
        stays : (d : DiskName) → Stays (disk_in (disks_of state a b duty) d) (disk_in (disks_of state x y z) d)
        stays disks.A = kept.stay disks.A
        stays disks.B = kept.stay disks.B
        stays disks.Duty = kept.stay disks.Duty

    pub not_generated : (end : OpenEnd) → AreKept state (handed a b duty) (handed x y z) → Generates (disks_of state a b duty) (disks_of state x y z) commands old new (end_status end)
    not_generated (ends.OpenFault d) kept = untouched kept
    not_generated (ends.Foreign d) kept = untouched kept
    not_generated (ends.Damaged d k) kept = untouched kept
    not_generated (ends.Short node have floor) kept = untouched kept
    not_generated ends.NoMemory kept = inl (untouched kept)

  -- where nothing fails, all of the script is done
  module _ (x y z : D) (commands : List Command) (held holds : Option (List ℕ)) (sink_failed : Type 0) where
    abbrev before : Disks
    before = disks_of state a b duty

    abbrev now : Disks
    now = disks_of state x y z

    all_done : (status : Status) → Generates before now commands held holds status → GeneratesFor state (handed a b duty) (handed x y z) status → (status ≡ SinkFault → sink_failed)
        → IsSane state (handed a b duty) → IsHonest before → ((first : _) → IsFirst before first → booked_at first ≡ 0) → ¬ sink_failed → NoneRose (counts_of before) (counts_of now) → IsDoneOrNoMemory status
    all_done Done exit cause sink sane honest unused well none = tt
    all_done NoMemory exit cause sink sane honest unused well none = tt
    all_done SinkFault exit cause sink sane honest unused well none = well (sink refl)
    all_done (NotEmpty disks.A) exit cause sink sane honest unused well none =
        let first = exit.1 honest in
        absurd (omega (arith, first.2, unused first.0 first.1))
    all_done (NotEmpty disks.B) exit cause sink sane honest unused well none = exit
    all_done (NotEmpty disks.Duty) exit cause sink sane honest unused well none = exit
    all_done (OpenFault d) exit cause sink sane honest unused well none = no_fault state a b duty x y z None held holds sink_failed sink_failed d none cause.0
    all_done (Foreign d) exit cause sink sane honest unused well none = sane.not_foreign d (cause.0 _ (sane.told d))
    all_done (Damaged d k) exit cause sink sane honest unused well none = sane.not_damaged d k (cause.0 _ (sane.told d))
    all_done (Short n have floor) exit cause sink sane honest unused well none = sane.not_short (handed x y z) n have floor cause.0
    all_done Usage exit cause sink sane honest unused well none = exit
    all_done SourceFault exit cause sink sane honest unused well none = exit
    all_done (Script k) exit cause sink sane honest unused well none = exit
    all_done TooLong exit cause sink sane honest unused well none = exit

    pub generates_all : (status : Status) → Generates before now commands held holds status → GeneratesFor state (handed a b duty) (handed x y z) status → (status ≡ SinkFault → sink_failed)
        → (IsHonest before → IsSane state (handed a b duty)) → GeneratesAll before sink_failed (NoneRose (counts_of before) (counts_of now)) status
    generates_all status exit cause sink sane honest unused well none = all_done status exit cause sink (sane honest) honest unused well none
