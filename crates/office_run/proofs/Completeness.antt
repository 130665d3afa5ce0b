-- Where nothing fails, all of a script is done.
use Rattle.std.proofs.Common.{◌≡◌, inl, ℕ, ◌≤◌, List, ◌∷◌, ◌++◌, length, refl, ap, sym, ◌∙◌, subst, arith, Option, Some, None, append-nil, length-append}
use Rattle.std.specs.Prelude.{reverse}
use Rattle.std.proofs.lemmas.List.{length-reverse}
use Rattle.std.specs.Io.KnownBytes.{Consumes, IsAtEnd}
use Rattle.office_run.specs.ScriptGrammar.{IsScript, StopsAfter}
use Rattle.office_commands.specs.Commands.{Command}
use Rattle.office_run.specs.ScriptInput.{TookTooMany}
use Rattle.office_run.specs.declared.input.TheConstants.{SCRIPT_LIMIT}
use Rattle.ali_base.specs.declared.duty.Duty.{Duty}
use Rattle.ali_base.specs.declared.names.DiskName.{DiskName}
use Rattle.ali_base.specs.declared.names.DiskName.TheVariants as disks
use Rattle.ali_base.specs.declared.names.NodeName.{NodeName}
use Rattle.ali_base.specs.declared.names.NodeName.TheVariants.{A, B}
use Rattle.command_machine.specs.Machine.{office_bounds}
use Rattle.crash_disk.specs.DiskState.{DiskState, IsSound}
use Rattle.duty_register.specs.DutyImage as duties
use Rattle.node_journal.specs.JournalImage.{StandsFor, StandsForSome, IsForeign, IsDamagedSomewhere}
use Rattle.node_journal.specs.declared.frame.TheConstants.{LAST_EPOCH, MOST_FRAMES}
use Rattle.office_entry.specs.declared.entry.Entry.{Entry}
use Rattle.office_run.specs.Disks.{Disks, Images, OpensLawful, StandFor, counts_of, disks_of, IsHonest}
use Rattle.office_run.specs.Exit.{Exit, DiskCause, IsDoneOrNoMemory, Completes}
use Rattle.office_run.specs.Replied.{StoppedAt}
use Rattle.office_run.specs.declared.status.Status.{Status}
use Rattle.office_run.specs.declared.status.Status.TheVariants.{Done, Usage, SourceFault, SinkFault, Script, TooLong, OpenFault, Foreign, Damaged, NotEmpty, Short, NoMemory}
use Rattle.office_run.proofs.OpenedJournals.{counted_long, journal_in, long_enough, newest}
use Rattle.office_run.proofs.Scripts.{not_both}
use Rattle.office_state.specs.OfficeState.{office_limits}
use Rattle.pair_core.specs.Pair.{IsForeignTo, IsDamagedAt, OpenCause, handed}
use Rattle.pair_core.specs.declared.faults.OpenEnd.TheVariants as ends
use Rattle.pair_node.specs.StartedNode.{HasFrames}
use Rattle.pair_world.specs.Frames.{Frame}
use Rattle.pair_world.specs.Refusals.{disk_of}
use Rattle.pair_world.specs.SoundWorld.{AreCounted}
use Rattle.pair_world.specs.World.{Resolved, duty_list, opened, opened_from, without_doubt}
use Rattle.pair_world.proofs.DutyLists.{list_opened}
use Rattle.world_rows.specs.Counts.{NoneRose}
use Rattle.world_rows.specs.Histories.{IsLawful}

-- what was taken is all that a telling source had left
whole : (script : List ℕ) (left' : Option (List ℕ)) (bytes : List ℕ) → Consumes (Some script) left' bytes → IsAtEnd left' → bytes ≡ script
whole script None bytes taken ended = absurd taken
whole script (Some rest) bytes taken ended = sym (taken ∙ ap (λ z. bytes ++ z) ended ∙ append-nil bytes)

-- no more was taken than a telling source had left
at_most : (script : List ℕ) (left' : Option (List ℕ)) (bytes : List ℕ) → Consumes (Some script) left' bytes → length bytes ≤ length script
at_most script None bytes taken = absurd taken
at_most script (Some rest) bytes taken = omega (arith, ap length taken, length-append bytes rest)

abbrev image_in : Images → DiskName → List ℕ
image_in images disks.A = images.a
image_in images disks.B = images.b
image_in images disks.Duty = images.duty

-- The bytes of the disks are those that a run opens: none is foreign or damaged, and no journal is short.
pub record IsSane {D : Type 0} (state : D → DiskState) (old : DiskName → D) : Type 0 where
  pub images : Images
  pub told : (d : DiskName) → (state (old d)).content ≡ Some (image_in images d)
  pub not_foreign : (d : DiskName) → IsForeignTo d (image_in images d) → ⊥
  pub not_damaged : (d : DiskName) (k : ℕ) → IsDamagedAt MOST_FRAMES LAST_EPOCH d k (image_in images d) → ⊥
  pub not_short : (new : DiskName → D) (n : NodeName) (have floor : ℕ) → OpenCause state old new MOST_FRAMES LAST_EPOCH (ends.Short n have floor) → ⊥

-- what is known of images
module _ (one : (name : NodeName) (image : List ℕ) (frames others : List (Frame Entry)) → StandsFor name frames image → StandsFor name others image → frames ≡ others)
    (one_list : (image : List ℕ) (list others : List Duty) → duties.StandsFor list image → duties.StandsFor others image → list ≡ others)
    (counted : (image : List ℕ) (list : List Duty) → duties.StandsFor list image → (duty : Duty) × (past : List Duty) × (list ≡ duty_list duty past) × AreCounted duty past)
    (not_foreign : (name : NodeName) (image : List ℕ) (frames : List (Frame Entry)) → StandsFor name frames image → IsForeign name image → ⊥)
    (not_damaged : (name : NodeName) (image : List ℕ) (limit : ℕ) → StandsForSome name limit image → IsDamagedSomewhere name limit image → ⊥)
    (no_foreign_duties : (image : List ℕ) (list : List Duty) → duties.StandsFor list image → duties.IsForeign image → ⊥)
    (no_damaged_duties : (image : List ℕ) (last_epoch : ℕ) → duties.StandsForSome last_epoch image → duties.IsDamagedSomewhere last_epoch image → ⊥) where
  -- images of which a run opens a lawful world
  module _ (images : Images) (list : List Duty) (a b : List (Frame Entry)) (stand : StandFor images list a b) (lawful : OpensLawful list a b) where
    -- it is lawful whatever its last duty is called
    lawful_of : (duty : Duty) (past : List Duty) → duty_list duty past ≡ list → IsLawful office_limits office_bounds (without_doubt (opened duty past a b))
    lawful_of duty past is =
        let P : Resolved Entry → Type 0 = λ w. IsLawful office_limits office_bounds (without_doubt w) in
        subst P (sym (ap (λ (l : List Duty). opened_from l a b) is) ∙ list_opened duty past a b) lawful

    abbrev last : (duty : Duty) × (past : List Duty) × (list ≡ duty_list duty past) × AreCounted duty past
    last = counted images.duty list stand.duty

    abbrev known : IsLawful office_limits office_bounds (without_doubt (opened last.0 last.1 a b))
    known = lawful_of last.0 last.1 (sym last.2)

    list_short : length list ≤ LAST_EPOCH
    list_short =
        let epoch = known.within.duties last.0 last.1 (inl (refl, refl)) in
        omega (arith, ap length last.2, length-reverse (last.0 ∷ last.1), counted_long last.0 last.1 last.3, epoch.to)

    journal_short : (n : NodeName) → length (journal_in a b n) ≤ MOST_FRAMES
    journal_short A = let journal = known.within.journals A a (inl refl) in journal.room
    journal_short B = let journal = known.within.journals B b (inl refl) in journal.room

    none_foreign : (d : DiskName) → IsForeignTo d (image_in images d) → ⊥
    none_foreign disks.A is = not_foreign A images.a a stand.a is
    none_foreign disks.B is = not_foreign B images.b b stand.b is
    none_foreign disks.Duty is = no_foreign_duties images.duty list stand.duty is

    none_damaged : (d : DiskName) (k : ℕ) → IsDamagedAt MOST_FRAMES LAST_EPOCH d k (image_in images d) → ⊥
    none_damaged disks.A k is = not_damaged A images.a MOST_FRAMES (a, journal_short A, stand.a) (k, is)
    none_damaged disks.B k is = not_damaged B images.b MOST_FRAMES (b, journal_short B, stand.b) (k, is)
    none_damaged disks.Duty k is = no_damaged_duties images.duty LAST_EPOCH (list, list_short, stand.duty) (k, is)

    -- a node's frames are those of its journal
    have_is : (n : NodeName) (have : ℕ) → HasFrames n have (image_in images (disk_of n)) → have ≡ length (journal_in a b n)
    have_is A have is = sym is.1 ∙ ap length (one A images.a is.0 a is.2 stand.a)
    have_is B have is = sym is.1 ∙ ap length (one B images.b is.0 b is.2 stand.b)

    none_short : {D : Type 0} (state : D → DiskState) (old new : DiskName → D) → ((d : DiskName) → (state (old d)).content ≡ Some (image_in images d)) → (n : NodeName) (have floor : ℕ)
        → OpenCause state old new MOST_FRAMES LAST_EPOCH (ends.Short n have floor) → ⊥
    none_short state old new told n have floor cause =
        let long = have_is n have (cause.1 (image_in images (disk_of n)) (told (disk_of n))) in
        let found = cause.2 images.duty (told disks.Duty) in
        let past = found.3.0 in
        let same = newest found.0 past found.1 found.3.1 ∙ one_list images.duty found.0 list found.2 stand.duty in
        let enough = long_enough found.1 (reverse past) a b (lawful_of found.1 (reverse past) same) n in
        omega (arith, cause.0, long, found.4, enough)

  pub honest_is_sane : {D : Type 0} (state : D → DiskState) (a b duty : D) → ((d : D) → IsSound (state d)) → IsHonest (disks_of state a b duty) → IsSane state (handed a b duty)
  honest_is_sane state a b duty sound honest =
      let in_a = honest.told a in
      let in_b = honest.told b in
      let in_duty = honest.told duty in
      let images : Images = record { a = in_a.0; b = in_b.0; duty = in_duty.0 } in
      let found = honest.images images (record { a = (sound a).as_read in_a.0 in_a.1; b = (sound b).as_read in_b.0 in_b.1; duty = (sound duty).as_read in_duty.0 in_duty.1 }) in
      sane images (λ d. told d) found
    where
      told : (d : DiskName) → (state (handed a b duty d)).content ≡ Some (image_in (record { a = (honest.told a).0; b = (honest.told b).0; duty = (honest.told duty).0 }) d)
      told disks.A = (honest.told a).1
      told disks.B = (honest.told b).1
      told disks.Duty = (honest.told duty).1

      sane : (images : Images) → ((d : DiskName) → (state (handed a b duty d)).content ≡ Some (image_in images d))
          → (list : List Duty) × (x : List (Frame Entry)) × (y : List (Frame Entry)) × StandFor images list x y × OpensLawful list x y → IsSane state (handed a b duty)
      sane images told found = record {
        images = images;
        told = told;
        not_foreign = none_foreign images found.0 found.1 found.2 found.3 found.4;
        not_damaged = none_damaged images found.0 found.1 found.2 found.3 found.4;
        not_short = λ new n have floor cause. none_short images found.0 found.1 found.2 found.3 found.4 state (handed a b duty) new told n have floor cause;
      }

module _ {D : Type 0} (state : D → DiskState) (a b duty x y z : D) (left' held holds : Option (List ℕ)) (source_failed sink_failed : Type 0) where
  abbrev before : Disks
  before = disks_of state a b duty

  abbrev now : Disks
  now = disks_of state x y z

  abbrev none_failed : Type 0
  none_failed = NoneRose (counts_of before) (counts_of now)

  -- no disk failed in the opening
  pub no_fault : (d : DiskName) → none_failed → OpenCause state (handed a b duty) (handed x y z) MOST_FRAMES LAST_EPOCH (ends.OpenFault d) → ⊥
  no_fault disks.A none rose = none disks.A rose
  no_fault disks.B none rose = none disks.B rose
  no_fault disks.Duty none rose = none disks.Duty rose

  done : (script : List ℕ) (commands : List Command) (status : Status) → Exit before now (Some script) left' held holds status → DiskCause state (handed a b duty) (handed x y z) status
      → (status ≡ SourceFault → source_failed) → (status ≡ SinkFault → sink_failed)
      → IsScript script commands → length script ≤ SCRIPT_LIMIT → IsSane state (handed a b duty) → ¬ source_failed → ¬ sink_failed → none_failed → IsDoneOrNoMemory status
  done script commands Done exit cause source sink is within sane well_source well_sink well_disks = tt
  done script commands NoMemory exit cause source sink is within sane well_source well_sink well_disks = tt
  done script commands Usage exit cause source sink is within sane well_source well_sink well_disks = exit
  done script commands (NotEmpty d) exit cause source sink is within sane well_source well_sink well_disks = exit
  done script commands SourceFault exit cause source sink is within sane well_source well_sink well_disks = well_source (source refl)
  done script commands SinkFault exit cause source sink is within sane well_source well_sink well_disks = well_sink (sink refl)
  done script commands (OpenFault d) exit cause source sink is within sane well_source well_sink well_disks = no_fault d well_disks cause.0
  done script commands (Foreign d) exit cause source sink is within sane well_source well_sink well_disks = sane.not_foreign d (cause.0 (image_in sane.images d) (sane.told d))
  done script commands (Damaged d k) exit cause source sink is within sane well_source well_sink well_disks = sane.not_damaged d k (cause.0 (image_in sane.images d) (sane.told d))
  done script commands (Short n have floor) exit cause source sink is within sane well_source well_sink well_disks = sane.not_short (handed x y z) n have floor cause.0
  done script commands (Script k) exit cause source sink is within sane well_source well_sink well_disks =
      let stopped : StoppedAt before now k exit.0 held holds = exit.2 in
      let same : exit.0 ≡ script = whole script left' exit.0 exit.1.taken exit.1.ended in
      let P : List ℕ → Type 0 = λ z. StopsAfter z stopped.commands in
      not_both script commands stopped.commands is (subst P same stopped.stops)
  done script commands TooLong exit cause source sink is within sane well_source well_sink well_disks =
      let many : TookTooMany (Some script) left' = exit.0 in
      absurd (omega (arith, at_most script left' many.bytes many.taken, many.over))

  pub completes : (left : Option (List ℕ)) (status : Status) → Exit before now left left' held holds status → DiskCause state (handed a b duty) (handed x y z) status
      → (status ≡ SourceFault → source_failed) → (status ≡ SinkFault → sink_failed) → (IsHonest before → IsSane state (handed a b duty))
      → Completes left before source_failed sink_failed none_failed status
  completes left status exit cause source sink sane script commands left_is is within honest well_source well_sink well_disks =
      let P : Option (List ℕ) → Type 0 = λ o. Exit before now o left' held holds status in
      done script commands status (subst P left_is exit) cause source sink is within (sane honest) well_source well_sink well_disks
