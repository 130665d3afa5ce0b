-- What a pair is that is opened, and why one is not.
use Rattle.std.proofs.Common.{◌≡◌, ℕ, ◌≤◌, inl, List, [], ◌∷◌, ◌++◌, length, map, refl, sym, ap, subst, ◌∙◌, arith, Option, Some, None, Err, true}
use Rattle.std.specs.Prelude.{is_none, min, reverse}
use Rattle.std.proofs.lemmas.List.{length-take-le, reverse-append, reverse-reverse}
use Rattle.ali_base.specs.declared.duty.Duty.{Duty}
use Rattle.ali_base.specs.declared.duty.Mode.{Mode}
use Rattle.ali_base.specs.declared.duty.Mode.TheVariants.{Both, Alone}
use Rattle.ali_base.specs.declared.names.DiskName.{DiskName}
use Rattle.ali_base.specs.declared.names.DiskName.TheVariants as disks
use Rattle.ali_base.specs.declared.names.NodeName.{NodeName}
use Rattle.ali_base.specs.declared.names.NodeName.TheVariants.{A, B}
use Rattle.crash_disk.specs.CrashOutcomes.{Stays}
use Rattle.crash_disk.specs.DiskState.{DiskState, AlwaysTell}
use Rattle.crash_disk.proofs.Runs.{stays_here}
use Rattle.duty_register.specs.DutiesRead as read
use Rattle.duty_register.specs.DutyImage as duties
use Rattle.duty_register.specs.DutyState.{with_duty}
use Rattle.duty_register.specs.OpenRegister as registers
use Rattle.duty_register.specs.declared.faults.RegisterFault.{RegisterFault}
use Rattle.duty_register.specs.declared.faults.RegisterFault.TheVariants as opening
use Rattle.duty_register.specs.declared.register.Register.{Register}
use Rattle.node_journal.specs.JournalImage.{StandsFor, IsForeign, IsDamaged}
use Rattle.node_journal.specs.OpenJournal as journals
use Rattle.office_entry.specs.declared.entry.Entry.{Entry}
use Rattle.office_state.specs.declared.limits.Limits.{Limits}
use Rattle.pair_world.specs.Frames.{Frame}
use Rattle.pair_world.specs.Refusals.{disk_of}
use Rattle.pair_world.specs.World.{Resolved, node_at, other, duty_list, opened, opened_from, without_doubt, booked_at_start, failed_write_at, MayList}
use Rattle.pair_world.proofs.DutyLists.{list_opened}
use Rattle.pair_node.specs.NodeState as node
use Rattle.pair_node.specs.StartedNode as starts
use Rattle.pair_node.specs.StartedNode.{IsStarted, HasFrames}
use Rattle.pair_node.specs.declared.faults.StartFault.{StartFault}
use Rattle.pair_node.specs.declared.faults.StartFault.TheVariants as starting
use Rattle.pair_node.specs.declared.node.Node.{Node}
use Rattle.pair_node.proofs.Quiet.{long_as}
use Rattle.pair_core.specs.Pair.{Shows, ShowsNode, AreKept, IsOpened, IsRefused, OpenCause, IsForeignTo, IsDamagedAt, IsPresent, IsEnough, OpenedBefore, AreOpenedBefore, handed, disk_at, duty_of, len_of, length_at_opening, booked_at_opening}
use Rattle.pair_core.specs.PairNodes.{node_in, sent_told}
use Rattle.pair_core.specs.PairOpening.{StartsUnder, MayJoin, IsJoined, asked_under, booked_in, register_end, node_end}
use Rattle.pair_core.specs.declared.faults.OpenEnd.{OpenEnd}
use Rattle.pair_core.specs.declared.nodes.Nodes.{Nodes}
use Rattle.pair_core.specs.declared.pair.Pair.{Pair}

-- the length of the booked history at the start of a run
booked_long : (mode : Mode) (holder others : List (Frame Entry)) → length (booked_at_start mode holder others) ≡ booked_at_opening mode (length holder) (length others)
booked_long Alone holder others = refl
booked_long Both holder others = length-take-le (min (length holder) (length others)) holder (omega arith)

-- the duties before the last one, the newest first
newest : (list past : List Duty) (duty : Duty) → list ≡ with_duty past duty → duty_list duty (reverse past) ≡ list
newest list past duty is = reverse-append (duty ∷ []) (reverse past) ∙ ap (λ ds. ds ++ duty ∷ []) (reverse-reverse past) ∙ sym is

-- ---- the parts of the pair

module _ {D : Type 0} (state : D → DiskState) (limits : Limits) where
  -- a node that is up and represents its journal
  node_shown : (n : NodeName) (own : Node D) (known : ℕ) (journal : List (Frame Entry)) (failed : Option (List (Frame Entry))) → journals.name_of (node.journal_of own) ≡ n → node.is_usable own ≡ true → node.known_of own ≡ known
      → node.Represents state limits own journal → ShowsNode state limits n own (record { up = true; known = known; journal = journal }) failed
  node_shown n own known journal failed named up knows shown =
      let kept = shown.journal.kept in record {
        up = sym up;
        known = sym knows;
        images = λ image left. (
          journal,
          subst (λ x. StandsFor n journal x) (sym (kept.synced.durable image left)) (subst (λ name. StandsFor name journal kept.image) named kept.stands),
          inl refl,
        );
        table = (_, shown.table);
        frames = λ _. shown;
      }

  module _ (a b : Node D) (register : Register D) (pair : Pair D) (joined : IsJoined a b register pair) (may : MayJoin a b register) (up_a : node.is_usable a ≡ true) (up_b : node.is_usable b ≡ true) (tells : AlwaysTell state)
      (journal_a journal_b : List (Frame Entry)) (shown_a : node.Represents state limits a journal_a) (shown_b : node.Represents state limits b journal_b) where
    abbrev duty : Duty
    duty = registers.duty_of register

    module _ (list past : List Duty) (is : list ≡ with_duty past duty) (shown : registers.Represents state register list) where
      abbrev base : Resolved Entry
      base = opened duty (reverse past) journal_a journal_b

      each_node : (n : NodeName) → ShowsNode state limits n (node_in (record { a = a; b = b }) n) (node_at base.nodes n) None
      each_node A = node_shown A a duty.epoch journal_a None may.named_a up_a may.known_a shown_a
      each_node B = node_shown B b duty.epoch journal_b None may.named_b up_b may.known_b shown_b

      long_of : (n : NodeName) → node.count_of (node_in (record { a = a; b = b }) n) ≡ length (node_at base.nodes n).journal
      long_of A = long_as state limits a journal_a shown_a
      long_of B = long_as state limits b journal_b shown_b

      no_failed : (n : NodeName) → ShowsNode state limits n (node_in (record { a = a; b = b }) n) (node_at base.nodes n) (failed_write_at (record { a = None; b = None }) n)
      no_failed A = each_node A
      no_failed B = each_node B

      -- the pair shows the world that is opened
      pair_shown : Shows state limits pair (without_doubt base)
      pair_shown =
          let kept = shown.kept in
          let listed : duty_list duty (reverse past) ≡ list = newest list past duty is in
          record {
            tells = tells;
            nodes = subst (λ (x : Nodes D). (n : NodeName) → ShowsNode state limits n (node_in x n) (node_at base.nodes n) (failed_write_at (record { a = None; b = None }) n)) (sym joined.nodes) no_failed;
            duty = joined.duty;
            register_up = ap (λ (f : Option Duty). is_none f) (sym joined.failed);
            failed = joined.failed;
            images = subst (λ (r : Register D). (image : List ℕ) → (state (registers.disk_of r)).may_leave image → (l : List Duty) × duties.StandsFor l image × MayList (without_doubt base) l) (sym joined.register)
                (λ image left. (list, subst (duties.StandsFor list) (sym (kept.synced.durable image left)) kept.stands, inl listed));
            duties = λ _. subst (λ (r : Register D). registers.Represents state r (duty_list duty (reverse past))) (sym joined.register) (subst (registers.Represents state register) (sym listed) shown);
            count = joined.count ∙ ap (λ (x : Nodes D). booked_in x duty) joined.nodes ∙ (λ i. booked_at_opening duty.mode (long_of duty.holder i) (long_of (other duty.holder) i)) ∙ sym (booked_long duty.mode (node_at base.nodes duty.holder).journal (node_at base.nodes (other duty.holder)).journal);
            acked = joined.acked;
            ended = joined.ended;
            messages = ap (λ ms. map sent_told ms) joined.messages;
          }

      pub list_shown : Shows state limits pair (without_doubt (opened_from list journal_a journal_b))
      list_shown =
          subst (λ (ds : List Duty). Shows state limits pair (without_doubt (opened_from ds journal_a journal_b))) (newest list past duty is)
          (subst (λ (x : Resolved Entry). Shows state limits pair (without_doubt x)) (sym (list_opened duty (reverse past) journal_a journal_b)) pair_shown)

-- ---- the pair is opened

module _ {D : Type 0} (state : D → DiskState) (disk_a disk_b disk_d : D) (limits : Limits) (frames last_epoch : ℕ) (register : Register D) (begun : registers.IsOpened state disk_d last_epoch register) where
  abbrev present : Duty
  present = registers.duty_of register

  module _ (a b : Node D) (started_a : IsStarted state disk_a (asked_under present A limits frames) a) (started_b : IsStarted state disk_b (asked_under present B limits frames) b) where
    pub may_join : MayJoin a b register
    may_join = record {
      named_a = started_a.opened.named;
      named_b = started_b.opened.named;
      limits = started_a.opened.limited ∙ sym started_b.opened.limited;
      learned_a = started_a.learned;
      learned_b = started_b.learned;
      known_a = started_a.known;
      known_b = started_b.known;
      enough_a = started_a.enough;
      enough_b = started_b.enough;
      counted = begun.counted;
      within = subst (λ (most : ℕ). present.epoch ≤ most) (sym begun.limited) begun.within;
      usable = begun.usable;
    }

    module _ (pair : Pair D) (joined : IsJoined a b register pair) where
      in_pair : (P : Nodes D → Type 0) → P (record { a = a; b = b }) → P pair.nodes
      in_pair P holds = subst P (sym joined.nodes) holds

      kept : AreKept state (handed disk_a disk_b disk_d) (disk_at pair)
      kept = record { stay = stay; faults = faults }
        where
          stay : (disk : DiskName) → Stays (state (handed disk_a disk_b disk_d disk)) (state (disk_at pair disk))
          stay disks.A = in_pair (λ x. Stays (state disk_a) (state (node.disk_of x.a))) started_a.opened.stays
          stay disks.B = in_pair (λ x. Stays (state disk_b) (state (node.disk_of x.b))) started_b.opened.stays
          stay disks.Duty = subst (λ (r : Register D). Stays (state disk_d) (state (registers.disk_of r))) (sym joined.register) begun.stays

          faults : (disk : DiskName) → (state (handed disk_a disk_b disk_d disk)).faults ≤ (state (disk_at pair disk)).faults
          faults disks.A = in_pair (λ x. (state disk_a).faults ≤ (state (node.disk_of x.a)).faults) started_a.opened.faults
          faults disks.B = in_pair (λ x. (state disk_b).faults ≤ (state (node.disk_of x.b)).faults) started_b.opened.faults
          faults disks.Duty = subst (λ (r : Register D). (state disk_d).faults ≤ (state (registers.disk_of r)).faults) (sym joined.register) begun.faults

      up_of : (n : NodeName) → node.is_usable (node_in (record { a = a; b = b }) n) ≡ true
      up_of A = started_a.usable
      up_of B = started_b.usable

      enough_of : (n : NodeName) → length_at_opening present n ≤ node.count_of (node_in (record { a = a; b = b }) n)
      enough_of A = started_a.enough
      enough_of B = started_b.enough

      pub pair_opened : IsOpened state disk_a disk_b disk_d limits frames last_epoch pair
      pair_opened =
          let frames_is : journals.limit_of (node.journal_of pair.nodes.a) ≡ frames = in_pair (λ x. journals.limit_of (node.journal_of x.a) ≡ frames) started_a.opened.limited in
          let last_is : registers.last_epoch_of pair.register ≡ last_epoch = ap registers.last_epoch_of joined.register ∙ begun.limited in
          record {
            kept = kept;
            bounds = λ i. record { frames = frames_is i; last_epoch = last_is i };
            up = ap (λ (f : Option Duty). is_none f) joined.failed;
            nodes_up = in_pair (λ x. (n : NodeName) → node.is_usable (node_in x n) ≡ true) up_of;
            sent = joined.messages;
            enough = subst (λ (d : Duty). (n : NodeName) → length_at_opening d n ≤ len_of pair n) (sym joined.duty) (in_pair (λ x. (n : NodeName) → length_at_opening present n ≤ node.count_of (node_in x n)) enough_of);
            count = subst (λ (d : Duty). pair.count ≡ booked_in pair.nodes d) (sym joined.duty) joined.count;
            shown = shown;
          }
        where
          shown : (image_a image_b image_duty : List ℕ) → (state disk_a).content ≡ Some image_a → (state disk_b).content ≡ Some image_b → (state disk_d).content ≡ Some image_duty
              → (journal_a : List (Frame Entry)) × (journal_b : List (Frame Entry)) × (list : List Duty)
              × StandsFor A journal_a image_a × StandsFor B journal_b image_b × duties.StandsFor list image_duty
              × (length journal_a ≤ frames) × (length journal_b ≤ frames) × ((duty_of pair).epoch ≤ last_epoch) × read.EndsWith list (duty_of pair)
              × (AlwaysTell state → Shows state limits pair (without_doubt (opened_from list journal_a journal_b)))
          shown image_a image_b image_duty told_a told_b told_duty =
              let found_a = started_a.shown image_a told_a in
              let found_b = started_b.shown image_b told_b in
              let found = begun.shown image_duty told_duty in
              let long_a = long_as state limits a found_a.0 found_a.2 in
              let long_b = long_as state limits b found_b.0 found_b.2 in
              let past = found.2.known in (
                found_a.0,
                found_b.0,
                found.0,
                found_a.1,
                found_b.1,
                found.1,
                subst (λ (k : ℕ). k ≤ frames) long_a started_a.opened.within,
                subst (λ (k : ℕ). k ≤ frames) long_b started_b.opened.within,
                subst (λ (d : Duty). d.epoch ≤ last_epoch) (sym joined.duty) begun.within,
                subst (read.EndsWith found.0) (sym joined.duty) past,
                λ tells. list_shown state limits a b register pair joined may_join started_a.usable started_b.usable tells found_a.0 found_b.0 found_a.2 found_b.2 found.0 past.0 past.1 found.2,
              )

-- ---- the pair is not opened

module _ {D : Type 0} (state : D → DiskState) (old new : DiskName → D) (frames last_epoch : ℕ) where
  -- why the register is not opened
  register_cause : (f : RegisterFault) → registers.Refused last_epoch (state (old disks.Duty)) (state (new disks.Duty)) f → OpenCause state old new frames last_epoch (register_end f)
  register_cause opening.DiskFault cause = cause
  register_cause opening.Foreign cause = cause
  register_cause (opening.Damaged k) cause = cause

  module _ (n : NodeName) (duty : Duty) (limits : Limits) where
    -- why a node is not started
    node_cause : (f : StartFault) → ((image : List ℕ) → (state (old disks.Duty)).content ≡ Some image → (list : List Duty) × duties.StandsFor list image × read.EndsWith list duty)
        → starts.Refused (asked_under duty n limits frames) (state (old (disk_of n))) (state (new (disk_of n))) f → OpenCause state old new frames last_epoch (node_end n f)
    node_cause starting.DiskFault reads cause = cause
    node_cause starting.Foreign reads cause = λ image told. foreign_to n image (cause image told)
      where
        foreign_to : (m : NodeName) (image : List ℕ) → IsForeign m image → IsForeignTo (disk_of m) image
        foreign_to A image is = is
        foreign_to B image is = is
    node_cause (starting.Damaged k) reads cause = λ image told. damaged_at n image (cause image told)
      where
        damaged_at : (m : NodeName) (image : List ℕ) → IsDamaged m frames k image → IsDamagedAt frames last_epoch (disk_of m) k image
        damaged_at A image is = is
        damaged_at B image is = is
    node_cause (starting.Short have need) reads cause =
        (cause.0, cause.2, λ image told. let it = reads image told in (it.0, duty, it.1, it.2, cause.1))
    node_cause starting.NoMemory reads cause = tt

-- nothing was opened before the register
register_before : {D : Type 0} (state : D → DiskState) (old : DiskName → D) (frames last_epoch : ℕ) (f : RegisterFault) → OpenedBefore state old frames last_epoch (register_end f)
register_before state old frames last_epoch opening.DiskFault = tt
register_before state old frames last_epoch opening.Foreign = tt
register_before state old frames last_epoch (opening.Damaged k) = tt

-- what was opened before a node's disk is said where that node is not started
node_before : {D : Type 0} (state : D → DiskState) (old : DiskName → D) (frames last_epoch : ℕ) (n : NodeName) (f : StartFault) → AreOpenedBefore state old frames last_epoch (disk_of n) → AreOpenedBefore state old frames last_epoch disks.A → OpenedBefore state old frames last_epoch (node_end n f)
node_before state old frames last_epoch n starting.DiskFault before first = before
node_before state old frames last_epoch n starting.Foreign before first = before
node_before state old frames last_epoch n (starting.Damaged k) before first = before
node_before state old frames last_epoch n (starting.Short have need) before first = before
node_before state old frames last_epoch n starting.NoMemory before first = first

module _ {D : Type 0} (state : D → DiskState) (disk_a disk_b disk_d : D) (frames last_epoch : ℕ) where
  -- the disks before and after, by what is known of each of them
  all_kept : (a b d : D) → Stays (state disk_a) (state a) → (state disk_a).faults ≤ (state a).faults → Stays (state disk_b) (state b) → (state disk_b).faults ≤ (state b).faults → Stays (state disk_d) (state d) → (state disk_d).faults ≤ (state d).faults
      → AreKept state (handed disk_a disk_b disk_d) (handed a b d)
  all_kept a b d stay_a faults_a stay_b faults_b stay_d faults_d = record { stay = stay; faults = faults }
    where
      stay : (disk : DiskName) → Stays (state (handed disk_a disk_b disk_d disk)) (state (handed a b d disk))
      stay disks.A = stay_a
      stay disks.B = stay_b
      stay disks.Duty = stay_d

      faults : (disk : DiskName) → (state (handed disk_a disk_b disk_d disk)).faults ≤ (state (handed a b d disk)).faults
      faults disks.A = faults_a
      faults disks.B = faults_b
      faults disks.Duty = faults_d

  -- the register is not opened
  pub no_register : (d : D) (f : RegisterFault) (end : OpenEnd) → end ≡ register_end f → registers.IsRefused state disk_d last_epoch d f → IsRefused state disk_a disk_b disk_d frames last_epoch (disk_a, disk_b, d, end)
  no_register d f end is refused =
      subst (λ (e : OpenEnd). IsRefused state disk_a disk_b disk_d frames last_epoch (disk_a, disk_b, d, e)) (sym is) (record {
        kept = all_kept disk_a disk_b d (stays_here (state disk_a)) (omega arith) (stays_here (state disk_b)) (omega arith) refused.stays refused.faults;
        cause = register_cause state (handed disk_a disk_b disk_d) (handed disk_a disk_b d) frames last_epoch f refused.cause;
        before = register_before state (handed disk_a disk_b disk_d) frames last_epoch f;
      })

  module _ (register : Register D) (begun : registers.IsOpened state disk_d last_epoch register) (limits : Limits) where
    abbrev present_duty : Duty
    present_duty = registers.duty_of register

    -- the duty that the register's bytes stand for
    reads : (image : List ℕ) → (state disk_d).content ≡ Some image → (list : List Duty) × duties.StandsFor list image × read.EndsWith list present_duty
    reads image told = let found = begun.shown image told in (found.0, found.1, found.2.known)

    is_present : IsPresent (state disk_d) last_epoch present_duty
    is_present = (begun.within, reads)

    -- node a is not started
    pub no_node_a : (a d : D) (end : OpenEnd) → d ≡ registers.disk_of register → StartsUnder state disk_a A present_duty limits frames (Err (a, end)) → IsRefused state disk_a disk_b disk_d frames last_epoch (a, disk_b, d, end)
    no_node_a a d end disk answer =
        let f : StartFault = answer.0 in
        let refused = answer.2 in
        subst (λ (e : OpenEnd). IsRefused state disk_a disk_b disk_d frames last_epoch (a, disk_b, d, e)) (sym answer.1) (record {
          kept = all_kept a disk_b d refused.stays refused.faults (stays_here (state disk_b)) (omega arith)
              (subst (λ (x : D). Stays (state disk_d) (state x)) (sym disk) begun.stays) (subst (λ (x : D). (state disk_d).faults ≤ (state x).faults) (sym disk) begun.faults);
          cause = node_cause state (handed disk_a disk_b disk_d) (handed a disk_b d) frames last_epoch A present_duty limits f reads refused.cause;
          before = node_before state (handed disk_a disk_b disk_d) frames last_epoch A f (present_duty, is_present) (present_duty, is_present);
        })

    -- node b is not started
    pub no_node_b : (node_a : Node D) (a b d : D) (end : OpenEnd) → IsStarted state disk_a (asked_under present_duty A limits frames) node_a → a ≡ node.disk_of node_a → d ≡ registers.disk_of register
        → StartsUnder state disk_b B present_duty limits frames (Err (b, end)) → IsRefused state disk_a disk_b disk_d frames last_epoch (a, b, d, end)
    no_node_b node_a a b d end started disk_is disk answer =
        let f : StartFault = answer.0 in
        let refused = answer.2 in
        subst (λ (e : OpenEnd). IsRefused state disk_a disk_b disk_d frames last_epoch (a, b, d, e)) (sym answer.1) (record {
          kept = all_kept a b d
              (subst (λ (x : D). Stays (state disk_a) (state x)) (sym disk_is) started.opened.stays) (subst (λ (x : D). (state disk_a).faults ≤ (state x).faults) (sym disk_is) started.opened.faults)
              refused.stays refused.faults
              (subst (λ (x : D). Stays (state disk_d) (state x)) (sym disk) begun.stays) (subst (λ (x : D). (state disk_d).faults ≤ (state x).faults) (sym disk) begun.faults);
          cause = node_cause state (handed disk_a disk_b disk_d) (handed a b d) frames last_epoch B present_duty limits f reads refused.cause;
          before = node_before state (handed disk_a disk_b disk_d) frames last_epoch B f (present_duty, is_present, enough) (present_duty, is_present);
        })
      where
        enough : IsEnough (state disk_a) A frames present_duty
        enough image told =
            let found = started.shown image told in
            let long = long_as state limits node_a found.0 found.2 in
            (found.0, found.1, subst (λ (k : ℕ). k ≤ frames) long started.opened.within, subst (λ (k : ℕ). length_at_opening present_duty A ≤ k) long started.enough)
