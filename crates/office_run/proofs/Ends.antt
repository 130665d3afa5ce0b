-- The end of a run, from its disks as they were handed in to as they are handed back.
use Rattle.std.proofs.Common.{◌≡◌, inl, inr, ℕ, ◌≤◌, List, [], ◌∷◌, ◌++◌, length, refl, ap, sym, ◌∙◌, subst, arith, Option, None}
use Rattle.std.specs.Prelude.{reverse}
use Rattle.std.specs.Io.KnownBytes.{Keeps}
use Rattle.ali_base.specs.declared.duty.Duty.{Duty}
use Rattle.ali_base.specs.declared.names.DiskName.{DiskName}
use Rattle.ali_base.specs.declared.names.DiskName.TheVariants as disks
use Rattle.ali_base.specs.declared.names.NodeName.{NodeName}
use Rattle.ali_base.specs.declared.names.NodeName.TheVariants.{A, B}
use Rattle.command_desk.specs.MadeReply.{ShowsMachine, counts_at}
use Rattle.command_desk.specs.declared.desk.Desk.{Desk}
use Rattle.command_machine.specs.Machine.{Moment, IsLawful, first_machine}
use Rattle.command_machine.specs.Replies.{Reply}
use Rattle.crash_disk.specs.CrashOutcomes.{Stays}
use Rattle.crash_disk.specs.DiskState.{DiskState, IsSound}
use Rattle.crash_disk.proofs.Runs.{stays_on}
use Rattle.duty_register.specs.DutyImage as duties
use Rattle.node_journal.specs.JournalImage.{StandsFor}
use Rattle.node_journal.specs.declared.frame.TheConstants.{LAST_EPOCH, MOST_FRAMES}
use Rattle.office_commands.specs.Commands.{Command}
use Rattle.office_entry.specs.declared.entry.Entry.{Entry}
use Rattle.office_run.specs.Disks.{Disks, Images, counts_of, disk_in, disks_of, OpensLawful, IsHonest, IsFirst}
use Rattle.office_run.specs.Exit.{Exit, IsIdle, IsUnopened, RanOut, AreOpened, DiskCause}
use Rattle.office_run.specs.Replied.{AreSwitchedSince, AreMachines, RepliedTo}
use Rattle.office_run.specs.ScriptInput.{TookAll}
use Rattle.office_run.specs.Serving.{disks_at, end_status, IsOpenDesk, IsServed, Serves}
use Rattle.office_run.specs.declared.status.Status.{Status}
use Rattle.office_run.specs.declared.status.Status.TheVariants.{Done, Usage, SourceFault, SinkFault, Script, TooLong, OpenFault, Foreign, Damaged, NotEmpty, Short, NoMemory}
use Rattle.office_run.proofs.OpenedJournals.{journal_in, opened_journal}
use Rattle.office_run.proofs.Switched.{never-trans}
use Rattle.office_state.specs.OfficeState.{office_limits}
use Rattle.pair_core.specs.Pair.{AreKept, IsOpened, Shows, disk_at, duty_of, handed, length_at_opening, node_of}
use Rattle.pair_core.specs.declared.faults.OpenEnd.{OpenEnd}
use Rattle.pair_core.specs.declared.faults.OpenEnd.TheVariants as ends
use Rattle.pair_node.proofs.Quiet.{long_as}
use Rattle.pair_world.specs.Frames.{Frame}
use Rattle.pair_world.specs.World.{node_at, opened_from, without_doubt}
use Rattle.world_rows.specs.Counts.{NeverFall}

-- The later disks are those from before, after calls that changed no byte.
pub record Later (before from : Disks) : Type 0 where
  pub honest : IsHonest before → IsHonest from
  pub first : (m : Moment) → IsFirst from m → IsFirst before m
  pub falls : NeverFall (counts_of before) (counts_of from)

module _ (before from now : Disks) (later : Later before from) where
  switched : (commands : List Command) (told : List (List Reply)) → AreSwitchedSince from now commands told → AreSwitchedSince before now commands told
  switched commands told h = record {
    first = h.first;
    since = never-trans (counts_of before) (counts_of from) h.first later.falls h.since;
    s = h.s;
    register = h.register;
    a = h.a;
    b = h.b;
    sent = h.sent;
    switched = h.switched;
  }

  machines : (commands : List Command) (told : List (List Reply)) → AreMachines from now commands told → AreMachines before now commands told
  machines commands told h honest = let m = h (later.honest honest) in (m.0, m.1, later.first m.0 m.2, m.3, m.4)

  replied : (commands : List Command) (old new : Option (List ℕ)) → RepliedTo from now commands old new → RepliedTo before now commands old new
  replied commands old new h =
      record { told = h.told; put = h.put; switched = switched commands h.told h.switched; machine = machines commands h.told h.machine }

  idle : IsIdle from now → IsIdle before now
  idle h honest = let m = h (later.honest honest) in (m.0, later.first m.0 m.1, m.2)

-- what changes no byte of the later disks changes none of those from before
abbrev pub StaysSince : Disks → Disks → Disks → Type 0
StaysSince before from now = (d : DiskName) → Stays (disk_in from d) (disk_in now d) → Stays (disk_in before d) (disk_in now d)

module _ (before from now : Disks) (later : Later before from) (left left' old new : Option (List ℕ)) where
  ran_out : StaysSince before from now → RanOut from now left left' old new → RanOut before now left left' old new
  ran_out stays (inl h) = inl ((λ d. stays d (h.0 d)), h.1, h.2)
  ran_out stays (inr (inl h)) = inr (inl (idle before from now later h.0, h.1, h.2))
  ran_out stays (inr (inr h)) =
      let r = h.2 in
      inr (inr (
        h.0,
        h.1,
        record {
          commands = r.commands;
          next = r.next;
          rest = r.rest;
          reads = r.reads;
          told = r.told;
          put = r.put;
          switched = switched before from now later r.commands r.told r.switched;
          machine = λ honest. (let m = r.machine (later.honest honest) in (m.0, m.1, m.2, m.3, later.first m.0 m.4, m.5, m.6, m.7));
        },
      ))

  -- what is so since the disks were opened is so since they were handed in
  pub exit_since : StaysSince before from now → (status : Status) → IsServed status → Exit from now left left' old new status → Exit before now left left' old new status
  exit_since stays Done served h =
      let r = h.2 in (h.0, h.1, record { commands = r.commands; reads = r.reads; replied = replied before from now later r.commands old new r.replied })
  exit_since stays (Script k) served h =
      let r = h.2 in
      (h.0, h.1, record { commands = r.commands; stops = r.stops; number = r.number; replied = replied before from now later r.commands old new r.replied })
  exit_since stays SinkFault served h =
      let r = h.2 in (
        h.0,
        h.1,
        record {
          commands = r.commands;
          next = r.next;
          rest = r.rest;
          reads = r.reads;
          told = r.told;
          last = r.last;
          count = r.count;
          part = r.part;
          put = r.put;
          switched = switched before from now later (r.commands ++ r.next ∷ []) (r.told ++ r.last ∷ []) r.switched;
          machine = machines before from now later (r.commands ++ r.next ∷ []) (r.told ++ r.last ∷ []) r.machine;
        },
      )
  exit_since stays NoMemory served h = ran_out stays h
  exit_since stays SourceFault served h = (h.0, h.1, idle before from now later h.2)
  exit_since stays TooLong served h = (h.0, h.1, idle before from now later h.2)
  exit_since stays (OpenFault d) served h = absurd served
  exit_since stays (Foreign d) served h = absurd served
  exit_since stays (Damaged d k) served h = absurd served
  exit_since stays (Short node have floor) served h = absurd served
  exit_since stays (NotEmpty d) served h = absurd served
  exit_since stays Usage served h = absurd served

module _ {D : Type 0} (state : D → DiskState) (a b duty : D) where
  -- a desk that was opened
  module _ (desk : Desk D) (opened : IsOpened state a b duty office_limits MOST_FRAMES LAST_EPOCH desk.pair) where
    abbrev pub from : Disks
    from = disks_at state desk

    abbrev before : Disks
    before = disks_of state a b duty

    falls : NeverFall (counts_of before) (counts_of from)
    falls disks.A = opened.kept.faults disks.A
    falls disks.B = opened.kept.faults disks.B
    falls disks.Duty = opened.kept.faults disks.Duty

    stay : (d : DiskName) → Stays (disk_in before d) (disk_in from d)
    stay disks.A = opened.kept.stay disks.A
    stay disks.B = opened.kept.stay disks.B
    stay disks.Duty = opened.kept.stay disks.Duty

    pub later : Later before from
    later = record {
      honest = λ h. record {
        told = h.told;
        images = λ images left. h.images images (record {
          a = (stay disks.A).crash images.a left.a;
          b = (stay disks.B).crash images.b left.b;
          duty = (stay disks.Duty).crash images.duty left.duty;
        });
      };
      first = λ m h. record {
        images = h.images;
        a = sym (stay disks.A).content ∙ h.a;
        b = sym (stay disks.B).content ∙ h.b;
        duty = sym (stay disks.Duty).content ∙ h.duty;
        list = h.list;
        journal_a = h.journal_a;
        journal_b = h.journal_b;
        stand = h.stand;
        machine = h.machine;
        counts = never-trans (counts_of before) (counts_of from) m.counts falls h.counts;
      };
      falls = falls;
    }

    pub stays_since : ((d : D) → IsSound (state d)) → (now : Disks) → StaysSince before from now
    stays_since sound now disks.A stays = stays_on (state a) (disk_in from disks.A) (disk_in now disks.A) (sound a) (stay disks.A) stays
    stays_since sound now disks.B stays = stays_on (state b) (disk_in from disks.B) (disk_in now disks.B) (sound b) (stay disks.B) stays
    stays_since sound now disks.Duty stays = stays_on (state duty) (disk_in from disks.Duty) (disk_in now disks.Duty) (sound duty) (stay disks.Duty) stays

    -- a desk that shows the world of its disks has journals as long as the duty asks
    enough : (list : List Duty) (x y : List (Frame Entry)) → Shows state office_limits desk.pair (without_doubt (opened_from list x y)) → (n : NodeName)
        → length_at_opening (duty_of desk.pair) n ≤ length (journal_in x y n)
    enough list x y shown n =
        let node = shown.nodes n in
        let w = opened_from list x y in
        let long = long_as state office_limits (node_of desk.pair n) (node_at w.nodes n).journal (node.frames (opened.nodes_up n)) in
        let P : ℕ → Type 0 = λ k. length_at_opening (duty_of desk.pair) n ≤ k in
        subst P (long ∙ ap length (opened_journal x y (reverse list) n)) (opened.enough n)

    pub are_opened : AreOpened state (handed a b duty)
    are_opened image_a image_b image_duty told_a told_b told_duty =
        let shown = opened.shown image_a image_b image_duty told_a told_b told_duty in (
          shown.0,
          shown.1,
          shown.2,
          duty_of desk.pair,
          shown.3,
          shown.4,
          shown.5,
          shown.9,
          shown.6,
          shown.7,
          shown.8,
          λ tells. (enough shown.2 shown.0 shown.1 (shown.10 tells) A, enough shown.2 shown.0 shown.1 (shown.10 tells) B),
        )

    pub open_desk : ((d : D) → IsSound (state d))
        → ((name : NodeName) (image : List ℕ) (frames others : List (Frame Entry)) → StandsFor name frames image → StandsFor name others image → frames ≡ others)
        → ((image : List ℕ) (list others : List Duty) → duties.StandsFor list image → duties.StandsFor others image → list ≡ others)
        → desk.job ≡ None → IsOpenDesk state desk
    open_desk sound one one_list none =
        record { register = opened.up; a = opened.nodes_up A; b = opened.nodes_up B; sent = opened.sent; first = first }
      where
        first : IsHonest from → (first : Moment) × IsFirst from first × ShowsMachine state desk first × IsLawful first.machine
        first honest =
            let a = honest.told (disk_at desk.pair disks.A) in
            let b = honest.told (disk_at desk.pair disks.B) in
            let d = honest.told (disk_at desk.pair disks.Duty) in
            let images : Images = record { a = a.0; b = b.0; duty = d.0 } in
            let shown = opened.shown a.0 b.0 d.0 (sym (stay disks.A).content ∙ a.1) (sym (stay disks.B).content ∙ b.1) (sym (stay disks.Duty).content ∙ d.1) in
            let found = honest.images images (record {
              a = (sound (disk_at desk.pair disks.A)).as_read a.0 a.1;
              b = (sound (disk_at desk.pair disks.B)).as_read b.0 b.1;
              duty = (sound (disk_at desk.pair disks.Duty)).as_read d.0 d.1;
            }) in
            let stand = found.3 in
            let same_a = one A a.0 found.1 shown.0 stand.a shown.3 in
            let same_b = one B b.0 found.2 shown.1 stand.b shown.4 in
            let same = one_list d.0 found.0 shown.2 stand.duty shown.5 in
            let m : Moment = record { machine = first_machine shown.2 shown.0 shown.1; counts = counts_at state desk } in
            let lawful : OpensLawful shown.2 shown.0 shown.1 =
            subst (λ z. OpensLawful z shown.0 shown.1) same (subst (λ z. OpensLawful found.0 z shown.1) same_a (subst (λ z. OpensLawful found.0 found.1 z) same_b found.4)) in (
              m,
              record {
                images = images;
                a = a.1;
                b = b.1;
                duty = d.1;
                list = shown.2;
                journal_a = shown.0;
                journal_b = shown.1;
                stand = record { a = shown.3; b = shown.4; duty = shown.5 };
                machine = refl;
                counts = λ disk. omega arith;
              },
              record { world = shown.10 honest.told; bounds = opened.bounds; job = none; counts = refl },
              record { world = lawful; job = tt },
            )

  -- the disks are handed back as they are at the desk
  pub handed_back : (desk : Desk D) (x y z : D) (left left' old new : Option (List ℕ)) (status : Status) → x ≡ disk_at desk.pair disks.A → y ≡ disk_at desk.pair disks.B → z ≡ disk_at desk.pair disks.Duty
      → Exit (disks_of state a b duty) (disks_at state desk) left left' old new status → Exit (disks_of state a b duty) (disks_of state x y z) left left' old new status
  handed_back desk x y z left left' old new status first second third h =
      let P : D → D → D → Type 0 = λ p q r. Exit (disks_of state a b duty) (disks_of state p q r) left left' old new status in
      let a = disk_at desk.pair disks.A in
      let b = disk_at desk.pair disks.B in
      subst (λ p. P p y z) (sym first) (subst (λ q. P a q z) (sym second) (subst (λ r. P a b r) (sym third) h))

  -- the disks are not opened
  module _ (x y z : D) (left left' old new : Option (List ℕ)) (source : Keeps left left') (sink : Keeps old new) where
    unopened : AreKept state (handed a b duty) (handed x y z) → IsUnopened (disks_of state a b duty) (disks_of state x y z) left left' old new
    unopened kept = record { stays = stays; source = source; sink = sink }
      where
        stays : (d : DiskName) → Stays (disk_in (disks_of state a b duty) d) (disk_in (disks_of state x y z) d)
        stays disks.A = kept.stay disks.A
        stays disks.B = kept.stay disks.B
        stays disks.Duty = kept.stay disks.Duty

    pub refused_exit : (end : OpenEnd) → AreKept state (handed a b duty) (handed x y z) → Exit (disks_of state a b duty) (disks_of state x y z) left left' old new (end_status end)
    refused_exit (ends.OpenFault d) kept = unopened kept
    refused_exit (ends.Foreign d) kept = unopened kept
    refused_exit (ends.Damaged d k) kept = unopened kept
    refused_exit (ends.Short node have floor) kept = unopened kept
    refused_exit ends.NoMemory kept = let h = unopened kept in inl (h.stays, h.source, h.sink)

-- a run over open disks ends as those of journals and duties do
pub served_cause : {D : Type 0} (state : D → DiskState) (old new : DiskName → D) (status : Status) → IsServed status → AreOpened state old → DiskCause state old new status
served_cause state old new Done served opened = opened
served_cause state old new (Script k) served opened = opened
served_cause state old new SinkFault served opened = opened
served_cause state old new SourceFault served opened = opened
served_cause state old new TooLong served opened = opened
served_cause state old new NoMemory served opened = tt
served_cause state old new (OpenFault d) served opened = absurd served
served_cause state old new (Foreign d) served opened = absurd served
served_cause state old new (Damaged d k) served opened = absurd served
served_cause state old new (Short node have floor) served opened = absurd served
served_cause state old new (NotEmpty d) served opened = absurd served
served_cause state old new Usage served opened = absurd served

-- a run of a script that was read ends as that of the script
pub read_exit : (from now : Disks) (left left' old new : Option (List ℕ)) (script : List ℕ) (status : Status) → TookAll left left' script → Serves from now script old new status → Exit from now left left' old new status
read_exit from now left left' old new script Done took serves = (script, took, serves)
read_exit from now left left' old new script (Script k) took serves = (script, took, serves)
read_exit from now left left' old new script SinkFault took serves = (script, took, serves)
read_exit from now left left' old new script NoMemory took serves = inr (inr (script, took, serves))
read_exit from now left left' old new script SourceFault took serves = absurd serves
read_exit from now left left' old new script TooLong took serves = absurd serves
read_exit from now left left' old new script (OpenFault d) took serves = absurd serves
read_exit from now left left' old new script (Foreign d) took serves = absurd serves
read_exit from now left left' old new script (Damaged d k) took serves = absurd serves
read_exit from now left left' old new script (Short node have floor) took serves = absurd serves
read_exit from now left left' old new script (NotEmpty d) took serves = absurd serves
read_exit from now left left' old new script Usage took serves = absurd serves
