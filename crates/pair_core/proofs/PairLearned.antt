-- A pair of which the table of one node learns: why it does not, and what the pair shows then.
use Rattle.std.proofs.Common.{◌≡◌, ℕ, ◌+◌, ◌-◌, ◌≤◌, ◌⊎◌, inl, inr, List, ◌++◌, length, take, refl, sym, ap, subst, ◌∙◌, arith, Option, Some, Bool, true, false}
use Rattle.std.specs.Prelude.{is_none}
use Rattle.ali_base.specs.Faults.{Rose}
use Rattle.ali_base.specs.declared.duty.Duty.{Duty}
use Rattle.ali_base.specs.declared.duty.Mode.TheVariants.{Both}
use Rattle.ali_base.specs.declared.names.DiskName.{DiskName}
use Rattle.ali_base.specs.declared.names.DiskName.TheVariants as disks
use Rattle.ali_base.specs.declared.names.NodeName.{NodeName}
use Rattle.ali_base.specs.declared.names.NodeName.TheVariants.{A, B}
use Rattle.crash_disk.specs.DiskState.{DiskState}
use Rattle.duty_register.specs.OpenRegister as register
use Rattle.duty_register.specs.declared.register.Register.{Register}
use Rattle.node_journal.specs.OpenJournal as journals
use Rattle.office_entry.specs.declared.entry.Entry.{Entry}
use Rattle.office_state.specs.Due.{IsDue}
use Rattle.office_state.specs.History as history
use Rattle.office_state.specs.History.{state as state_after}
use Rattle.office_state.specs.OfficeState.{State}
use Rattle.office_state.specs.declared.limits.Limits.{Limits}
use Rattle.pair_world.specs.Changes.{read_failed}
use Rattle.pair_world.specs.Frames.{Frame, Begins, Legal, entries}
use Rattle.pair_world.specs.Refusals.{disk_of}
use Rattle.pair_world.specs.SoundWorld.{Invariant, Booked, Mirrored}
use Rattle.pair_world.specs.Step.{Bounds}
use Rattle.pair_world.specs.World.{World, Nodes, node_at, put_node, failed_write_at, other, holder_journal, other_journal}
use Rattle.pair_world.proofs.Lists.{Begins-length, Legal-Begins}
use Rattle.pair_world.proofs.SoundSteps.{base_has_parts}
use Rattle.world_rows.specs.Counts.{NeverFall, RoseAt}
use Rattle.world_rows.specs.Histories.{IsLawful, due_after, state_of}
use Rattle.world_rows.specs.Rows.{Row, Gives}
use Rattle.world_rows.specs.Told.{Told, Failed}
use Rattle.pair_node.specs.LearnedEntries.{Learns, Fails, IsGone, IsNotDueAt, IsBadFrame}
use Rattle.world_rows.specs.WorldSteps.{Comes}
use Rattle.pair_node.specs.NodeState as node
use Rattle.pair_node.specs.StartedNode.{IsStopped}
use Rattle.pair_node.specs.declared.faults.LearnFault.{LearnFault}
use Rattle.pair_node.specs.declared.faults.LearnFault.TheVariants as learning
use Rattle.pair_node.specs.declared.node.Node.{Node}
use Rattle.pair_node.proofs.Quiet.{long_as}
use Rattle.pair_node.proofs.LegalJournals.{journal_legal}
use Rattle.pair_core.specs.Pair.{Shows, ShowsNode, IsCall, node_of, is_node_up, len_of, count_of, table_of, disk_at, bounds_of, counts_of}
use Rattle.pair_core.specs.PairAnswers.{IsBad, LearningCauses, KeepsCourse, fault_told}
use Rattle.pair_core.specs.PairChanges.{IsBesideNode, IsLearned, NotLearnedAt}
use Rattle.pair_core.specs.PairNodes.{node_in, put}
use Rattle.pair_core.specs.declared.faults.PairFault.{PairFault}
use Rattle.pair_core.specs.declared.faults.PairFault.TheVariants as fault
use Rattle.pair_core.specs.declared.nodes.Nodes.{Nodes as OwnNodes}
use Rattle.pair_core.specs.declared.pair.Pair.{Pair}
use Rattle.pair_core.proofs.PairShown.{at_each, limit_a, at_node, goes_down}

-- ---- one node changes

pub put_again : {D : Type 0} (nodes : OwnNodes D) (n : NodeName) (x y : Node D) → put (put nodes n x) n y ≡ put nodes n y
put_again nodes A x y = refl
put_again nodes B x y = refl

put_same : (nodes : Nodes Entry) (n : NodeName) → put_node nodes n (node_at nodes n) ≡ nodes
put_same nodes A = refl
put_same nodes B = refl

module _ {D : Type 0} where
  pub beside_on : (a b c : Pair D) (n : NodeName) → IsBesideNode a b n → IsBesideNode b c n → IsBesideNode a c n
  beside_on a b c n first second = record {
    nodes = second.nodes ∙ ap (λ (x : OwnNodes D). put x n (node_of c n)) first.nodes ∙ put_again a.nodes n (node_of b n) (node_of c n);
    register = second.register ∙ first.register;
    duty = second.duty ∙ first.duty;
    failed = second.failed ∙ first.failed;
    count = second.count ∙ first.count;
    acked = second.acked ∙ first.acked;
    ended = second.ended ∙ first.ended;
    messages = second.messages ∙ first.messages;
  }

  pub course_kept : (state : D → DiskState) (old new : Pair D) (n : NodeName) → IsBesideNode old new n → KeepsCourse state old new
  course_kept state old new n beside = (beside.count, beside.duty, ap (λ (f : Option Duty). is_none f) beside.failed)

module _ {D : Type 0} (state : D → DiskState) (old new : Pair D) (n : NodeName) (nodes : new.nodes ≡ put old.nodes n (node_of new n)) (same : new.register ≡ old.register)
    (fixed : journals.IsFixed state (node.journal_of (node_of old n)) (node.journal_of (node_of new n))) where
  pub bounds_kept : bounds_of new ≡ bounds_of old
  bounds_kept =
      let frames : journals.limit_of (node.journal_of new.nodes.a) ≡ journals.limit_of (node.journal_of old.nodes.a) =
      ap (λ (x : OwnNodes D). journals.limit_of (node.journal_of x.a)) nodes ∙ limit_a old n (node_of new n) fixed.limit in
      let last : register.last_epoch_of new.register ≡ register.last_epoch_of old.register = ap (λ (r : Register D). register.last_epoch_of r) same in
      λ i. record { frames = frames i; last_epoch = last i }

  node_faults : (k : NodeName) → (state (node.disk_of (node_of old k))).faults ≤ (state (node.disk_of (node_in (put old.nodes n (node_of new n)) k))).faults
  node_faults = at_each old n (node_of new n) (λ k y. (state (node.disk_of (node_of old k))).faults ≤ (state (node.disk_of y)).faults) (λ k. omega arith) fixed.faults

  pub never_fall : NeverFall (counts_of state old) (counts_of state new)
  never_fall disks.A = subst (λ (x : OwnNodes D). (state (node.disk_of (node_of old A))).faults ≤ (state (node.disk_of (node_in x A))).faults) (sym nodes) (node_faults A)
  never_fall disks.B = subst (λ (x : OwnNodes D). (state (node.disk_of (node_of old B))).faults ≤ (state (node.disk_of (node_in x B))).faults) (sym nodes) (node_faults B)
  never_fall disks.Duty = subst (λ (r : Register D). (state (disk_at old disks.Duty)).faults ≤ (state (register.disk_of r)).faults) (sym same) (omega arith)

  pub is_call : count_of old ≤ count_of new → IsCall state old new
  is_call more = record { bounds = bounds_kept; counts = never_fall; booked = more }

-- the disk of a node failed
pub rose_at : {D : Type 0} (state : D → DiskState) (old new : Pair D) (n : NodeName) → Rose (state (node.disk_of (node_of old n))).faults (state (node.disk_of (node_of new n))).faults → RoseAt (counts_of state old) (counts_of state new) (disk_of n)
rose_at state old new A rose = rose
rose_at state old new B rose = rose

-- ---- a node that learns

-- why a fault of learning is told
pub record IsFault {D : Type 0} (state : D → DiskState) (old new : Pair D) (n : NodeName) (told : PairFault) : Type 0 where
  pub causes : LearningCauses state old new n told
  pub learned : IsLearned state old new n

module _ {D : Type 0} (state : D → DiskState) where
  -- a node learned, and kept then what it has
  pub learns_still : (a b c : Node D) → Learns state a b → node.journal_of c ≡ node.journal_of b → node.office_of c ≡ node.office_of b → node.learned_of c ≡ node.learned_of b → node.known_of c ≡ node.known_of b → Learns state a c
  learns_still a b c learns journal office learned known = record {
    journal = subst (λ j. journals.IsUntouched state (node.journal_of a) j) (sym journal) learns.journal;
    known = known ∙ learns.known;
    history = (
      learns.history.0,
      learned ∙ learns.history.1,
      λ limits h before. subst (λ o. history.Represents limits o (h ++ learns.history.0)) (sym office) (learns.history.2 limits h before),
    );
    represents = λ limits frames before.
        let now = learns.represents limits frames before in
        record {
          journal = subst (λ j. journals.Represents state j frames) (sym journal) now.journal;
          table =
              let e : entries (take (node.learned_of b) frames) ≡ entries (take (node.learned_of c) frames) = ap (λ (n : ℕ). entries (take n frames)) (sym learned) in
              subst (λ hs. history.Represents limits (node.office_of c) hs) e (subst (λ o. history.Represents limits o (entries (take (node.learned_of b) frames))) (sym office) now.table);
        };
  }

  stopped_learns : (a b c : Node D) → Learns state a b → IsStopped b c → Learns state a c
  stopped_learns a b c learns stops = learns_still a b c learns stops.journal stops.office stops.learned stops.known

  bad_stays : (a b c : Node D) (k : ℕ) → IsStopped b c → IsBadFrame state a b k → IsBadFrame state a c k
  bad_stays a b c k stops bad = (bad.0 ∙ ap (λ (n : ℕ). n + 1) (sym stops.learned), which bad.1)
    where
      which : IsGone state (node.journal_of a) k ⊎ IsNotDueAt state a b k → IsGone state (node.journal_of a) k ⊎ IsNotDueAt state a c k
      which (inl gone) = inl gone
      which (inr (entry, at, not)) = inr (entry, at, λ due. not (subst (λ office. IsDue office.state entry) stops.office due))

  -- a node that was stopped for a frame
  bad : (old mid new : Pair D) (n : NodeName) (k : ℕ) (told : PairFault) → is_node_up old n ≡ true → IsLearned state old mid n → IsBadFrame state (node_of old n) (node_of mid n) k → told ≡ fault.Damaged (disk_of n) k → IsStopped (node_of mid n) (node_of new n) → IsBesideNode mid new n → IsFault state old new n told
  bad old mid new n k told up learned frame is stops beside = record {
    causes = subst (LearningCauses state old new n) (sym is) (refl, (up, stops.usable), inr (bad_stays (node_of old n) (node_of mid n) (node_of new n) k stops frame));
    learned = (stopped_learns (node_of old n) (node_of mid n) (node_of new n) learned.0 stops, beside_on old mid new n learned.1 beside);
  }

  -- how each fault of learning is told
  pub failed_learning : (old mid new : Pair D) (n : NodeName) (f : LearnFault) (told : PairFault) → is_node_up old n ≡ true → IsLearned state old mid n → Fails state (node_of old n) (node_of mid n) f → NotLearnedAt mid new n f told → IsFault state old new n told
  failed_learning old mid new n learning.DiskFault told up learned fails is =
      subst (λ (p : Pair D). IsFault state old p n told) (sym is.1) (record {
        causes = subst (LearningCauses state old mid n) (sym is.0) (refl, (up, fails.1), rose_at state old mid n fails.0);
        learned = learned;
      })
  failed_learning old mid new n (learning.Changed k) told up learned fails is = bad old mid new n k told up learned (fails.0, inl fails.1) is.0 is.1 is.2
  failed_learning old mid new n (learning.NotDue k) told up learned fails is = bad old mid new n k told up learned (fails.0, inr fails.1) is.0 is.1 is.2
  failed_learning old mid new n learning.NoMemory told up learned fails is =
      subst (λ (p : Pair D). IsFault state old p n told) (sym is.1) (record {
        causes = subst (LearningCauses state old mid n) (sym is.0) (up, fails);
        learned = learned;
      })

-- ---- the journals of a lawful world

module _ (limits : Limits) (bounds : Bounds) (w : World Entry) (lawful : IsLawful limits bounds w) where
  -- the journal begins with the booked history, and is legal
  pub record IsFollowing (n : NodeName) : Type 0 where
    pub begins : Begins (node_at w.base.nodes n).journal w.base.booked
    pub legal : Legal (due_after limits) (node_at w.base.nodes n).journal

  parts : Invariant (due_after limits) w.base
  parts = base_has_parts (due_after limits) w lawful.sound

  holder_follows : IsFollowing w.base.duty.holder
  holder_follows = let booked = parts.holds Booked in record { begins = booked.begins; legal = journal_legal limits w.base booked }

  other_follows : w.base.duty.mode ≡ Both → IsFollowing (other w.base.duty.holder)
  other_follows both =
      let mirrored = parts.holds Mirrored both in
      record { begins = mirrored.holds; legal = Legal-Begins (due_after limits) (holder_journal w.base) (other_journal w.base) mirrored.prefix holder_follows.legal }

  one_of : (n m : NodeName) → (n ≡ m) ⊎ (n ≡ other m)
  one_of A A = inl refl
  one_of A B = inr refl
  one_of B A = inr refl
  one_of B B = inl refl

  -- a node in duty
  pub follows : (n : NodeName) → (n ≡ w.base.duty.holder) ⊎ (w.base.duty.mode ≡ Both) → IsFollowing n
  follows n (inl own) = subst IsFollowing (sym own) holder_follows
  follows n (inr both) = by_name (one_of n w.base.duty.holder)
    where
      by_name : (n ≡ w.base.duty.holder) ⊎ (n ≡ other w.base.duty.holder) → IsFollowing n
      by_name (inl own) = subst IsFollowing (sym own) holder_follows
      by_name (inr is) = subst IsFollowing (sym is) (other_follows both)

-- ---- what the pair shows

module _ {D : Type 0} (state : D → DiskState) (limits : Limits) (p : Pair D) (w : World Entry) (n : NodeName) (shown : Shows state limits p w) (up : is_node_up p n ≡ true) where
  -- the journal of a node that is up
  pub long_at : len_of p n ≡ length (node_at w.base.nodes n).journal
  long_at = long_as state limits (node_of p n) (node_at w.base.nodes n).journal ((shown.nodes n).frames up)

  -- the node represents it, and its table is the one after the booked history
  pub record IsInStep : Type 0 where
    pub represents : node.Represents state limits (node_of p n) (node_at w.base.nodes n).journal
    pub table : (table_of p n).state ≡ state_of limits w
    pub learned : node.learned_of (node_of p n) ≡ length w.base.booked

  pub in_step : IsLawful limits (bounds_of p) w → (n ≡ w.base.duty.holder) ⊎ (w.base.duty.mode ≡ Both) → node.learned_of (node_of p n) ≡ count_of p → IsInStep
  in_step lawful duty all =
      let frames : List (Frame Entry) = (node_at w.base.nodes n).journal in
      let now = (shown.nodes n).frames up in
      let front : take (length w.base.booked) frames ≡ w.base.booked = (follows limits (bounds_of p) w lawful n duty).begins.front in
      record {
        represents = now;
        table =
            now.table.same
            ∙ ap (λ (m : ℕ). state_after limits (entries (take m frames))) (all ∙ shown.count)
            ∙ ap (λ (fs : List (Frame Entry)). state_after limits (entries fs)) front;
        learned = all ∙ shown.count;
      }

  -- so the table is the one of the booked history
  pub ready_table : IsLawful limits (bounds_of p) w → (n ≡ w.base.duty.holder) ⊎ (w.base.duty.mode ≡ Both) → node.learned_of (node_of p n) ≡ count_of p → history.Represents limits (table_of p n) (entries w.base.booked)
  ready_table lawful duty all =
      let frames : List (Frame Entry) = (node_at w.base.nodes n).journal in
      let front : take (node.learned_of (node_of p n)) frames ≡ w.base.booked =
      ap (λ (m : ℕ). take m frames) (all ∙ shown.count) ∙ (follows limits (bounds_of p) w lawful n duty).begins.front in
      subst (λ (fs : List (Frame Entry)). history.Represents limits (table_of p n) (entries fs)) front ((shown.nodes n).frames up).table

-- the row gives what is told, and the pair shows the world after
abbrev pub Gave : {D : Type 0} → (D → DiskState) → Limits → Pair D → Pair D → World Entry → (Bool → World Entry → Row Told (World Entry)) → Option Told → Type 0
Gave state limits old new w row told = (v : World Entry) × Shows state limits new v × Comes (counts_of state old) (counts_of state new) w row told v

module _ {D : Type 0} (state : D → DiskState) (limits : Limits) (old new : Pair D) (w : World Entry) (n : NodeName) (shown : Shows state limits old w) (learned : IsLearned state old new n) where
  table : (booked : List Entry) × history.Represents limits (table_of new n) booked
  table = (_, learned.0.history.2 limits (shown.nodes n).table.0 (shown.nodes n).table.1)

  node_shown : is_node_up old n ≡ true → is_node_up new n ≡ true → ShowsNode state limits n (node_of new n) (node_at w.base.nodes n) (failed_write_at w.failed_writes n)
  node_shown up still = record {
    up = (shown.nodes n).up ∙ up ∙ sym still;
    known = (shown.nodes n).known ∙ sym learned.0.known;
    images = λ image left. (shown.nodes n).images image (learned.0.journal.stays.crash image left);
    table = table;
    frames = λ _. learned.0.represents limits (node_at w.base.nodes n).journal ((shown.nodes n).frames up);
  }

  -- the node is up still: the world is the same
  pub learned_shown : is_node_up old n ≡ true → is_node_up new n ≡ true → Shows state limits new w
  learned_shown up still =
      subst (λ (nodes : Nodes Entry). Shows state limits new (record w { base = record w.base { nodes = nodes } })) (put_same w.base.nodes n)
      (at_node state limits old new w n shown learned.1 (node_at w.base.nodes n) w.failed_writes (λ k far. refl) (node_shown up still))

  -- its disk failed
  pub unread_shown : is_node_up new n ≡ false → Shows state limits new (read_failed w n)
  unread_shown down = goes_down state limits old new w n shown learned.1 learned.0.journal.stays down learned.0.known table

  module _ (lawful : IsLawful limits (bounds_of old) w) (duty : (n ≡ w.base.duty.holder) ⊎ (w.base.duty.mode ≡ Both)) where
    -- no frame is bad in a lawful world that is shown
    none_bad : (k : ℕ) → is_node_up old n ≡ true → IsBad state old new n k → ⊥
    none_bad k up (inl (at, less)) =
        let long = long_at state limits old w n shown up in
        let begins = Begins-length (follows limits (bounds_of old) w lawful n duty).begins in
        omega (arith, less, long, begins, shown.count)
    none_bad k up (inr (at, inl gone)) = gone.none (node_at w.base.nodes n).journal ((shown.nodes n).frames up).journal
    none_bad k up (inr (at, inr (entry, is_at, not))) =
        let frames : List (Frame Entry) = (node_at w.base.nodes n).journal in
        let here = is_at.listed frames ((shown.nodes n).frames up).journal in
        let due = ((follows limits (bounds_of old) w lawful n duty).legal (k - 1) _ here).1 in
        let back : k - 1 ≡ node.learned_of (node_of new n) = omega (arith, at) in
        let same = (learned.0.represents limits frames ((shown.nodes n).frames up)).table.same in
        let is : state_after limits (entries (take (k - 1) frames)) ≡ (table_of new n).state = ap (λ (m : ℕ). state_after limits (entries (take m frames))) back ∙ sym same in
        not (subst (λ (s : State). IsDue s entry) is due)

    -- what a row gives where learning fails
    pub not_learned : (row : Bool → World Entry → Row Told (World Entry))
        → (RoseAt (counts_of state old) (counts_of state new) (disk_of n) → Gives (counts_of state old) (counts_of state new) Failed w (row false w) (Failed (disk_of n)) (read_failed w n))
        → (f : PairFault) → LearningCauses state old new n f → Gave state limits old new w row (fault_told f)
    not_learned row unread (fault.Fault disk) causes =
        subst (λ (d : DiskName). RoseAt (counts_of state old) (counts_of state new) d → Gave state limits old new w row (Some (Failed d))) (sym causes.0)
        (λ rose. (read_failed w n, unread_shown causes.1.1, (false, unread rose))) causes.2
    not_learned row unread (fault.Damaged disk k) causes = absurd (none_bad k causes.1.0 causes.2)
    not_learned row unread fault.NoMemory causes = (w, learned_shown causes.0 causes.1, refl)
    not_learned row unread f causes = absurd causes
