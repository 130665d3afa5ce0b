-- The worlds that a pair shows while messages are made, stored, put on their way and heard.
use Rattle.std.proofs.Common.{◌≡◌, ℕ, ◌<◌, ◌≤◌, ◌⊎◌, inl, inr, List, [], ◌∷◌, take, map, refl, sym, ap, subst, ◌∙◌, arith, Option, Some, Result, Ok, Err, Bool, true, false}
use Rattle.std.specs.Prelude.{is_none}
use Rattle.ali_base.specs.Faults.{Rose}
use Rattle.ali_base.specs.declared.duty.Duty.{Duty}
use Rattle.ali_base.specs.declared.names.DiskName.{DiskName}
use Rattle.ali_base.specs.declared.names.DiskName.TheVariants as disks
use Rattle.ali_base.specs.declared.names.NodeName.{NodeName}
use Rattle.ali_base.specs.declared.names.NodeName.TheVariants.{A, B}
use Rattle.crash_disk.specs.CrashOutcomes.{Stays}
use Rattle.crash_disk.specs.DiskState.{DiskState, IsSound}
use Rattle.crash_disk.specs.Moments.{EachMoment}
use Rattle.crash_disk.proofs.Runs.{stays_here, weaker, now_too}
use Rattle.duty_register.specs.DutyImage as duties
use Rattle.duty_register.specs.OpenRegister as register
use Rattle.duty_register.specs.declared.register.Register.{Register}
use Rattle.node_journal.specs.JournalImage.{StandsFor}
use Rattle.node_journal.specs.JournalState.{StandsForEither}
use Rattle.node_journal.specs.OpenJournal as journals
use Rattle.node_journal.specs.declared.faults.DiskFault.{DiskFault}
use Rattle.node_journal.specs.declared.faults.ReadFault.{ReadFault}
use Rattle.node_journal.specs.declared.faults.ReadFault.TheVariants as reading
use Rattle.office_entry.specs.declared.entry.Entry.{Entry}
use Rattle.office_state.specs.History as history
use Rattle.office_state.proofs.EmptyOffices.{forgets}
use Rattle.office_state.specs.OfficeState.{OfficeState}
use Rattle.office_state.specs.declared.limits.Limits.{Limits}
use Rattle.pair_world.specs.Changes.{read_failed, write_failed, journal_stored}
use Rattle.pair_world.specs.Deliveries.{journal_left, known_left, reply_to}
use Rattle.pair_world.specs.Frames.{Frame, entries}
use Rattle.pair_world.specs.Moments.{IsUnderWay}
use Rattle.pair_world.specs.Refusals.{disk_of}
use Rattle.pair_world.specs.Replies.{state_left}
use Rattle.pair_world.specs.Step.{Bounds, CanStore, IsBehind}
use Rattle.pair_world.specs.World.{World, Nodes, NodeState, FailedWrites, Message, Ships, Shipment, known, other, told_by, node_at, put_node, failed_write_at, put_failed_write, duty_list, MayList}
use Rattle.pair_world.proofs.Received.{stale_left, fresh_left, behind_left, behind_or_not}
use Rattle.world_rows.specs.Counts.{Counts, RoseAt, count_at}
use Rattle.world_rows.specs.Histories.{due_after}
use Rattle.world_rows.specs.WorldSteps.{OfficeEvent}
use Rattle.pair_node.specs.Messages.{IsRead, MessageAnswers, as_told, as_delivered}
use Rattle.pair_node.specs.NodeState as node
use Rattle.pair_node.specs.StoredMessage.{KeepsTable, after_message, is_change}
use Rattle.pair_node.specs.declared.message.Ack.{Ack}
use Rattle.pair_node.specs.declared.message.Delivered.{Delivered}
use Rattle.pair_node.specs.declared.message.Message.{Message as OwnMessage}
use Rattle.pair_node.specs.declared.node.Node.{Node}
use Rattle.pair_node.proofs.Learned.{still}
use Rattle.pair_node.proofs.Quiet.{quiet}
use Rattle.pair_core.specs.Pair.{Shows, ShowsNode, AreMoments, IsCall, LeavesJournal, LeavesDuties, node_of, is_node_up, disk_at, bounds_of, counts_of, duty_of, sent_of}
use Rattle.pair_core.specs.PairAnswers.{acked_after, ended_after}
use Rattle.pair_core.specs.PairChanges.{IsBesideNode}
use Rattle.pair_core.specs.PairMessages.{IsBesideMessages, IsStoring, IsMade, NotReadAt, hearing}
use Rattle.pair_core.specs.PairNodes.{node_in, put, sent_told}
use Rattle.pair_core.specs.declared.faults.PairFault.{PairFault}
use Rattle.pair_core.specs.declared.nodes.Nodes.{Nodes as OwnNodes}
use Rattle.pair_core.specs.declared.pair.Pair.{Pair}
use Rattle.pair_core.proofs.PairShown.{at_node, goes_down, limit_a}

pub put_same : (nodes : Nodes Entry) (n : NodeName) → put_node nodes n (node_at nodes n) ≡ nodes
put_same nodes A = refl
put_same nodes B = refl

put_write_at : (fs : FailedWrites Entry) (n : NodeName) (j : Option (List (Frame Entry))) → failed_write_at (put_failed_write fs n j) n ≡ j
put_write_at fs A j = refl
put_write_at fs B j = refl

put_write_else : (fs : FailedWrites Entry) (n : NodeName) (j : Option (List (Frame Entry))) (k : NodeName) → (k ≡ n → ⊥) → failed_write_at (put_failed_write fs n j) k ≡ failed_write_at fs k
put_write_else fs A j A not = absurd (not refl)
put_write_else fs A j B not = refl
put_write_else fs B j A not = refl
put_write_else fs B j B not = absurd (not refl)

-- ---- where nothing but the messages changes

module _ {D : Type 0} (state : D → DiskState) (old new : Pair D) (beside : IsBesideMessages old new) where
  pub sent_shown : (limits : Limits) (w : World Entry) (ms : List (Message Entry)) → Shows state limits old w → map sent_told (sent_of new) ≡ ms → Shows state limits new (record w { base = record w.base { messages = ms } })
  sent_shown limits w ms shown is = record {
    tells = shown.tells;
    nodes = subst (λ (x : OwnNodes D). (k : NodeName) → ShowsNode state limits k (node_in x k) (node_at w.base.nodes k) (failed_write_at w.failed_writes k)) (sym beside.nodes) shown.nodes;
    duty = beside.duty ∙ shown.duty;
    register_up = shown.register_up ∙ ap (λ (f : Option Duty). is_none f) (sym beside.failed);
    failed = beside.failed ∙ shown.failed;
    images = subst (λ (r : Register D). (image : List ℕ) → (state (register.disk_of r)).may_leave image → (list : List Duty) × duties.StandsFor list image × MayList w list) (sym beside.register) shown.images;
    duties = λ up. subst (λ (r : Register D). register.Represents state r (duty_list w.base.duty w.base.past)) (sym beside.register) (shown.duties (ap (λ (f : Option Duty). is_none f) (sym beside.failed) ∙ up));
    count = beside.count ∙ shown.count;
    acked = beside.acked ∙ shown.acked;
    ended = beside.ended ∙ shown.ended;
    messages = is;
  }

  pub node_same : (n : NodeName) → node_of new n ≡ node_of old n
  node_same n = ap (λ (x : OwnNodes D). node_in x n) beside.nodes

  pub disks_same : (disk : DiskName) → disk_at new disk ≡ disk_at old disk
  disks_same disks.A = ap node.disk_of (node_same A)
  disks_same disks.B = ap node.disk_of (node_same B)
  disks_same disks.Duty = ap (λ (r : Register D). register.disk_of r) beside.register

  pub sent_stays : (disk : DiskName) → Stays (state (disk_at old disk)) (state (disk_at new disk))
  sent_stays disk = subst (λ (d : D). Stays (state (disk_at old disk)) (state d)) (sym (disks_same disk)) (stays_here (state (disk_at old disk)))

  pub counts_same : counts_of state new ≡ counts_of state old
  counts_same =
      let a = disks_same disks.A in
      let b = disks_same disks.B in
      let duty = disks_same disks.Duty in
      λ i. record { a = (state (a i)).faults; b = (state (b i)).faults; duty = (state (duty i)).faults }

  pub sent_call : IsCall state old new
  sent_call = record {
    bounds = λ i. record { frames = journals.limit_of (node.journal_of (node_in (beside.nodes i) A)); last_epoch = register.last_epoch_of (beside.register i) };
    counts = λ disk. let same : count_at (counts_of state new) disk ≡ count_at (counts_of state old) disk = ap (λ (c : Counts). count_at c disk) counts_same in omega (arith, same);
    booked = let same = beside.count in omega (arith, same);
  }

pub messages_here : {D : Type 0} (p : Pair D) → IsBesideMessages p p
messages_here p = record { nodes = refl; register = refl; duty = refl; failed = refl; count = refl; acked = refl; ended = refl }

-- one call after another
pub call_on : {D : Type 0} (state : D → DiskState) (old mid new : Pair D) → IsCall state old mid → IsCall state mid new → IsCall state old new
call_on state old mid new first second = record {
  bounds = second.bounds ∙ first.bounds;
  counts = λ disk. let a = first.counts disk in let b = second.counts disk in omega (arith, a, b);
  booked = omega (arith, first.booked, second.booked);
}

pub call_here : {D : Type 0} (state : D → DiskState) (p : Pair D) → IsCall state p p
call_here state p = record { bounds = refl; counts = λ disk. omega arith; booked = omega arith }

pub heard_call : {D : Type 0} (state : D → DiskState) (p : Pair D) (ack : Option Ack) → IsCall state p (hearing p ack)
heard_call state p ack = record { bounds = refl; counts = λ disk. omega arith; booked = omega arith }

-- an acknowledgement is heard, or none
pub heard_shown : {D : Type 0} (state : D → DiskState) (limits : Limits) (p : Pair D) (w : World Entry) (ack : Option Ack) → Shows state limits p w
    → Shows state limits (hearing p ack) (record w { base = record w.base { acked = acked_after ack w.base.acked; ended = ended_after ack w.base.ended } })
heard_shown state limits p w ack shown = record {
  tells = shown.tells;
  nodes = shown.nodes;
  duty = shown.duty;
  register_up = shown.register_up;
  failed = shown.failed;
  images = shown.images;
  duties = shown.duties;
  count = shown.count;
  acked = ap (acked_after ack) shown.acked;
  ended = ap (ended_after ack) shown.ended;
  messages = shown.messages;
}

-- ---- where one node changes

module _ {D : Type 0} (state : D → DiskState) (old new : Pair D) (n : NodeName) (beside : IsBesideNode old new n) where
  else_by : (m : NodeName) → m ≡ n → (k : NodeName) → (k ≡ n → ⊥) → node_in (put old.nodes m (node_of new n)) k ≡ node_of old k
  else_by A e A not = absurd (not e)
  else_by A e B not = refl
  else_by B e A not = refl
  else_by B e B not = absurd (not e)

  -- another node stays
  pub else_same : (k : NodeName) → (k ≡ n → ⊥) → node_of new k ≡ node_of old k
  else_same k not = ap (λ (x : OwnNodes D). node_in x k) beside.nodes ∙ else_by n refl k not

  faults_by : (state (node.disk_of (node_of old n))).faults ≤ (state (node.disk_of (node_of new n))).faults → (m : NodeName) → m ≡ n → (k : NodeName)
      → (state (node.disk_of (node_of old k))).faults ≤ (state (node.disk_of (node_in (put old.nodes m (node_of new n)) k))).faults
  faults_by le A e A = subst (λ k. (state (node.disk_of (node_of old k))).faults ≤ (state (node.disk_of (node_of new n))).faults) (sym e) le
  faults_by le A e B = omega arith
  faults_by le B e A = omega arith
  faults_by le B e B = subst (λ k. (state (node.disk_of (node_of old k))).faults ≤ (state (node.disk_of (node_of new n))).faults) (sym e) le

  module _ (fixed : journals.IsFixed state (node.journal_of (node_of old n)) (node.journal_of (node_of new n))) where
    counts : (disk : DiskName) → count_at (counts_of state old) disk ≤ count_at (counts_of state new) disk
    counts disks.A = subst (λ (x : OwnNodes D). (state (node.disk_of (node_of old A))).faults ≤ (state (node.disk_of (node_in x A))).faults) (sym beside.nodes) (faults_by fixed.faults n refl A)
    counts disks.B = subst (λ (x : OwnNodes D). (state (node.disk_of (node_of old B))).faults ≤ (state (node.disk_of (node_in x B))).faults) (sym beside.nodes) (faults_by fixed.faults n refl B)
    counts disks.Duty = subst (λ (r : Register D). (state (disk_at old disks.Duty)).faults ≤ (state (register.disk_of r)).faults) (sym beside.register) (omega arith)

    pub node_call : IsCall state old new
    node_call =
        let frames : (bounds_of new).frames ≡ (bounds_of old).frames = ap (λ (x : OwnNodes D). journals.limit_of (node.journal_of x.a)) beside.nodes ∙ limit_a old n (node_of new n) fixed.limit in
        let last : (bounds_of new).last_epoch ≡ (bounds_of old).last_epoch = ap (λ (r : Register D). register.last_epoch_of r) beside.register in
        record {
          bounds = λ i. record { frames = frames i; last_epoch = last i };
          counts = counts;
          booked = let same = beside.count in omega (arith, same);
        }

-- the disk of a node failed
pub rose_at : {D : Type 0} (state : D → DiskState) (old new : Pair D) (n : NodeName) → Rose (state (node.disk_of (node_of old n))).faults (state (node.disk_of (node_of new n))).faults → RoseAt (counts_of state old) (counts_of state new) (disk_of n)
rose_at state old new A rose = rose
rose_at state old new B rose = rose

-- ---- a message is made

module _ {D : Type 0} (state : D → DiskState) (limits : Limits) (old new : Pair D) (w : World Entry) (n : NodeName) (shown : Shows state limits old w) (beside : IsBesideNode old new n) (read : IsRead state (node_of old n) (node_of new n)) where
  table_stays : (booked : List Entry) × history.Represents limits (node.office_of (node_of new n)) booked
  table_stays = let t = (shown.nodes n).table in (t.0, subst (λ (o : OfficeState). history.Represents limits o t.0) (sym read.office) t.1)

  frames_stay : (frames : List (Frame Entry)) → node.Represents state limits (node_of old n) frames → node.Represents state limits (node_of new n) frames
  frames_stay frames r = record {
    journal = still state (node.journal_of (node_of old n)) (node.journal_of (node_of new n)) frames read.journal r.journal;
    table =
        subst (λ (o : OfficeState). history.Represents limits o (entries (take (node.learned_of (node_of new n)) frames))) (sym read.office)
        (subst (λ (l : ℕ). history.Represents limits (node.office_of (node_of old n)) (entries (take l frames))) (sym read.learned) r.table);
  }

  -- it stays up
  pub read_shown : is_node_up old n ≡ true → is_node_up new n ≡ true → Shows state limits new w
  read_shown was up =
      let s = shown.nodes n in
      subst (λ (x : Nodes Entry). Shows state limits new (record w { base = record w.base { nodes = x } })) (put_same w.base.nodes n)
      (at_node state limits old new w n shown beside (node_at w.base.nodes n) w.failed_writes (λ k not. refl) (record {
        up = s.up ∙ was ∙ sym up;
        known = s.known ∙ sym read.known;
        images = λ image left. s.images image (read.journal.stays.crash image left);
        table = table_stays;
        frames = λ _. frames_stay (node_at w.base.nodes n).journal (s.frames was);
      }))

  -- its disk failed, and it is down
  pub read_down : is_node_up new n ≡ false → Shows state limits new (read_failed w n)
  read_down down = goes_down state limits old new w n shown beside read.journal.stays down read.known table_stays

-- ---- a message is stored

module _ {D : Type 0} (state : D → DiskState) (limits : Limits) (old new : Pair D) (w : World Entry) (x : Shipment Entry) (m : OwnMessage) (told : as_told m ≡ told_by x) (shown : Shows state limits old w) (up : is_node_up old (other x.sender) ≡ true) (beside : IsBesideNode old new (other x.sender)) where
  abbrev n : NodeName
  n = other x.sender

  abbrev before : NodeState Entry
  before = node_at w.base.nodes n

  abbrev after : List (Frame Entry)
  after = journal_left before.known before.journal (told_by x)

  after_is : after_message (node_of old n) m before.journal ≡ after
  after_is = λ i. journal_left (sym (shown.nodes n).known i) before.journal (told i)

  -- it is done
  pub stored_shown : (it : Delivered) → IsStoring state (node_of old n) (node_of new n) m (Ok it)
      → Shows state limits new (record w { base = record w.base { nodes = put_node w.base.nodes n (state_left before (told_by x)) } })
  stored_shown it stored =
      let s = shown.nodes n in
      let now : node.Represents state limits (node_of new n) after = subst (node.Represents state limits (node_of new n)) after_is (stored.changed.becomes limits before.journal (s.frames up)) in
      let kept = now.journal.kept in
      at_node state limits old new w n shown beside (state_left before (told_by x)) w.failed_writes (λ k not. refl) (record {
        up = s.up ∙ up ∙ sym stored.changed.answer.1;
        known = (λ i. known_left (s.known i) (sym told i)) ∙ sym stored.answer.1;
        images = λ image left. (
          after,
          subst (StandsFor n after) (sym (kept.synced.durable image left)) (subst (λ name. StandsFor name after kept.image) (new.named n) kept.stands),
          inl refl,
        );
        table = (_, now.table);
        frames = λ _. now;
      })

  -- the table, where it is emptied
  emptied : (booked : List Entry) → history.Represents limits (node.office_of (node_of old n)) booked → history.Represents limits (node.emptied (node.office_of (node_of old n))) []
  emptied booked r = forgets (node.office_of (node_of old n)) (node.emptied (node.office_of (node_of old n))) refl limits booked r

  table_kept : KeepsTable (node_of old n) (node_of new n) → (booked : List Entry) × history.Represents limits (node.office_of (node_of new n)) booked
  table_kept keeps = by_length (split (node.learned_of (node_of old n)) (node.count_of (node_of new n)))
    where
      split : (a b : ℕ) → (a ≤ b) ⊎ (b < a)
      split a b = grind arith

      by_length : (node.learned_of (node_of old n) ≤ node.count_of (node_of new n)) ⊎ (node.count_of (node_of new n) < node.learned_of (node_of old n)) → (booked : List Entry) × history.Represents limits (node.office_of (node_of new n)) booked
      by_length (inl stay) = let t = (shown.nodes n).table in (t.0, subst (λ (o : OfficeState). history.Represents limits o t.0) (sym (keeps.stays stay).1) t.1)
      by_length (inr gone) = let t = (shown.nodes n).table in ([], subst (λ (o : OfficeState). history.Represents limits o []) (sym (keeps.empties gone).1) (emptied t.0 t.1))

  -- what a crash leaves meanwhile
  images_between : (result : Result Delivered DiskFault) → IsStoring state (node_of old n) (node_of new n) m result
      → EachMoment (state (node.disk_of (node_of old n))) (state (node.disk_of (node_of new n))) (StandsForEither n before.journal after)
  images_between result stored =
      subst (λ name. EachMoment (state (node.disk_of (node_of old n))) (state (node.disk_of (node_of new n))) (StandsForEither name before.journal after)) (old.named n)
      (subst (λ fs. EachMoment (state (node.disk_of (node_of old n))) (state (node.disk_of (node_of new n))) (StandsForEither (journals.name_of (node.journal_of (node_of old n))) before.journal fs)) after_is
      (stored.changed.moments before.journal ((shown.nodes n).frames up).journal))

  -- the disk failed
  pub store_failed : (e : DiskFault) → IsSound (state (node.disk_of (node_of new n))) → IsStoring state (node_of old n) (node_of new n) m (Err e) → Shows state limits new (write_failed w n after)
  store_failed e sound stored =
      let s = shown.nodes n in
      at_node state limits old new w n shown beside (record before { up = false }) (put_failed_write w.failed_writes n (Some after)) (put_write_else w.failed_writes n (Some after)) (record {
        up = sym stored.changed.answer.1;
        known = s.known ∙ sym stored.answer.0;
        images = λ image left. which image (now_too (state (node.disk_of (node_of old n))) (state (node.disk_of (node_of new n))) (StandsForEither n before.journal after) sound (images_between (Err e) stored) image left);
        table = table_kept stored.table;
        frames = λ is. absurd (no_both (node.is_usable (node_of new n)) is stored.changed.answer.1);
      })
    where
      no_both : (b : Bool) → b ≡ true → b ≡ false → ⊥
      no_both b p q = absurd (cc)

      which : (image : List ℕ) → StandsForEither n before.journal after image
          → (frames : List (Frame Entry)) × StandsFor n frames image × ((before.journal ≡ frames) ⊎ (failed_write_at (put_failed_write w.failed_writes n (Some after)) n ≡ Some frames))
      which image (inl stands) = (before.journal, stands, inl refl)
      which image (inr stands) = (after, stands, inr (put_write_at w.failed_writes n (Some after)))

  -- what is answered, by the table of deliveries
  pub told_there : (it : Delivered) → IsStoring state (node_of old n) (node_of new n) m (Ok it) → it ≡ as_delivered (reply_to before.known before.journal (told_by x))
  told_there it stored =
      stored.answer.0 before.journal (sym ((shown.nodes n).frames up).journal.known) ∙ (λ i. as_delivered (reply_to (sym (shown.nodes n).known i) before.journal (told i)))

  -- the disk fails only where the journal is to be changed
  pub fails_there : (e : DiskFault) → IsStoring state (node_of old n) (node_of new n) m (Err e) → is_change (as_delivered (reply_to before.known before.journal (told_by x))) ≡ true
  fails_there e stored =
      (λ i. is_change (as_delivered (reply_to ((shown.nodes n).known i) before.journal (sym told i)))) ∙ stored.answer.1 before.journal (sym ((shown.nodes n).frames up).journal.known)

  pub late_or_not : (known w.base n ≤ x.epoch) ⊎ (x.epoch < known w.base n)
  late_or_not = grind arith

  -- where nothing is stale, the journal after is the one that the table of deliveries gives
  pub after_stored : known w.base n ≤ x.epoch → after ≡ journal_stored w.base x
  after_stored fresh = fresh_left w.base x fresh

  is_up_there : before.up ≡ true
  is_up_there = (shown.nodes n).up ∙ up

  -- the journal stays, or the message is taken
  changed_or_not : (after ≡ before.journal) ⊎ (CanStore w.base x × (after ≡ journal_stored w.base x))
  changed_or_not = by_epoch late_or_not
    where
      stale_stays : x.epoch < known w.base n → after ≡ before.journal
      stale_stays late = ap (λ (s : NodeState Entry). s.journal) (stale_left w.base x late)

      alone : World Entry
      alone = record w { base = record w.base { messages = Ships x ∷ [] } }

      by_behind : known w.base n ≤ x.epoch → IsBehind w.base x ⊎ CanStore w.base x → (after ≡ before.journal) ⊎ (CanStore w.base x × (after ≡ journal_stored w.base x))
      by_behind fresh (inl b) = inl (behind_left alone 1 x refl (record { up = b.up; not_stale = b.not_stale; behind = b.behind }))
      by_behind fresh (inr can) = inr (can, after_stored fresh)

      by_epoch : (known w.base n ≤ x.epoch) ⊎ (x.epoch < known w.base n) → (after ≡ before.journal) ⊎ (CanStore w.base x × (after ≡ journal_stored w.base x))
      by_epoch (inl fresh) = by_behind fresh (behind_or_not w.base x is_up_there fresh)
      by_epoch (inr late) = inl (stale_stays late)

  module _ (bounds : Bounds) (ms : List (Message Entry)) (event : OfficeEvent) where
    abbrev there : World Entry
    there = record w { base = record w.base { messages = ms } }

    -- a crash at any moment of it leaves what the world before it gives, or the one that a failed write leaves
    pub store_moments : (CanStore w.base x → IsUnderWay (due_after limits) bounds there event (write_failed there n (journal_stored w.base x))) → (result : Result Delivered DiskFault) → IsStoring state (node_of old n) (node_of new n) m result
        → EachMoment (state (node.disk_of (node_of old n))) (state (node.disk_of (node_of new n))) (LeavesJournal limits bounds there event n)
    store_moments under result stored =
        weaker (state (node.disk_of (node_of old n))) (state (node.disk_of (node_of new n))) (StandsForEither n before.journal after) (LeavesJournal limits bounds there event n) which (images_between result stored)
      where
        taken : (image : List ℕ) → StandsFor n after image → (after ≡ before.journal) ⊎ (CanStore w.base x × (after ≡ journal_stored w.base x)) → LeavesJournal limits bounds there event n image
        taken image stands (inl same) = (before.journal, subst (λ fs. StandsFor n fs image) same stands, (there, inl refl, inl refl))
        taken image stands (inr (can, is)) = (
          after,
          stands,
          (
            write_failed there n (journal_stored w.base x),
            under can,
            inr (put_write_at w.failed_writes n (Some (journal_stored w.base x)) ∙ ap Some (sym is)),
          ),
        )

        which : (image : List ℕ) → StandsForEither n before.journal after image → LeavesJournal limits bounds there event n image
        which image (inl stands) = (before.journal, stands, (there, inl refl, inl refl))
        which image (inr stands) = taken image stands changed_or_not

-- ---- what a crash leaves

module _ {D : Type 0} (state : D → DiskState) (limits : Limits) (old new : Pair D) (w : World Entry) (ms : List (Message Entry)) (event : OfficeEvent) (shown : Shows state limits old w) (sound : (disk : D) → IsSound (state disk)) where
  abbrev meanwhile : World Entry
  meanwhile = record w { base = record w.base { messages = ms } }

  quiet_at : (k : NodeName) → Stays (state (node.disk_of (node_of old k))) (state (node.disk_of (node_of new k))) → EachMoment (state (node.disk_of (node_of old k))) (state (node.disk_of (node_of new k))) (LeavesJournal limits (bounds_of old) meanwhile event k)
  quiet_at k stays =
      quiet (state (node.disk_of (node_of old k))) (state (node.disk_of (node_of new k))) (LeavesJournal limits (bounds_of old) meanwhile event k) (sound (node.disk_of (node_of old k))) stays
      (λ image left. let it = (shown.nodes k).images image left in (it.0, it.1, (meanwhile, inl refl, it.2)))

  quiet_duty : Stays (state (disk_at old disks.Duty)) (state (disk_at new disks.Duty)) → EachMoment (state (disk_at old disks.Duty)) (state (disk_at new disks.Duty)) (LeavesDuties limits (bounds_of old) meanwhile event)
  quiet_duty stays =
      quiet (state (disk_at old disks.Duty)) (state (disk_at new disks.Duty)) (LeavesDuties limits (bounds_of old) meanwhile event) (sound (disk_at old disks.Duty)) stays
      (λ image left. let it = shown.images image left in (it.0, it.1, (meanwhile, inl refl, it.2)))

  -- where each disk stays as it is
  pub still_moments : ((disk : DiskName) → Stays (state (disk_at old disk)) (state (disk_at new disk))) → AreMoments state limits old new meanwhile event
  still_moments stays = record { a = quiet_at A (stays disks.A); b = quiet_at B (stays disks.B); duty = quiet_duty (stays disks.Duty) }

  -- where all but that of one node do
  pub one_moves : (n : NodeName) → EachMoment (state (node.disk_of (node_of old n))) (state (node.disk_of (node_of new n))) (LeavesJournal limits (bounds_of old) meanwhile event n)
      → ((k : NodeName) → (k ≡ n → ⊥) → Stays (state (node.disk_of (node_of old k))) (state (node.disk_of (node_of new k)))) → Stays (state (disk_at old disks.Duty)) (state (disk_at new disks.Duty)) → AreMoments state limits old new meanwhile event
  one_moves n each stays duty = record { a = by_name n refl A; b = by_name n refl B; duty = quiet_duty duty }
    where
      no : A ≡ B → ⊥
      no is = cc

      by_name : (m : NodeName) → m ≡ n → (k : NodeName) → EachMoment (state (node.disk_of (node_of old k))) (state (node.disk_of (node_of new k))) (LeavesJournal limits (bounds_of old) meanwhile event k)
      by_name A e A = subst (λ k. EachMoment (state (node.disk_of (node_of old k))) (state (node.disk_of (node_of new k))) (LeavesJournal limits (bounds_of old) meanwhile event k)) (sym e) each
      by_name A e B = quiet_at B (stays B (λ is. no (e ∙ sym is)))
      by_name B e A = quiet_at A (stays A (λ is. no (is ∙ sym e)))
      by_name B e B = subst (λ k. EachMoment (state (node.disk_of (node_of old k))) (state (node.disk_of (node_of new k))) (LeavesJournal limits (bounds_of old) meanwhile event k)) (sym e) each

-- ---- a message that is not made

put_twice : {D : Type 0} (nodes : OwnNodes D) (n : NodeName) (x y : Node D) → put (put nodes n x) n y ≡ put nodes n y
put_twice nodes A x y = refl
put_twice nodes B x y = refl

pub beside_on : {D : Type 0} (old mid new : Pair D) (n : NodeName) → IsBesideNode old mid n → IsBesideNode mid new n → IsBesideNode old new n
beside_on old mid new n first second = record {
  nodes = second.nodes ∙ ap (λ (x : OwnNodes _). put x n (node_of new n)) first.nodes ∙ put_twice old.nodes n (node_of mid n) (node_of new n);
  register = second.register ∙ first.register;
  duty = second.duty ∙ first.duty;
  failed = second.failed ∙ first.failed;
  count = second.count ∙ first.count;
  acked = second.acked ∙ first.acked;
  ended = second.ended ∙ first.ended;
  messages = second.messages ∙ first.messages;
}

pub not_made : {D : Type 0} (state : D → DiskState) (old mid new : Pair D) (n : NodeName) (k : ℕ) (f : ReadFault) (told : PairFault) → MessageAnswers state (node_of old n) (node_of mid n) k (duty_of old).epoch (Err f)
    → IsRead state (node_of old n) (node_of mid n) → IsBesideNode old mid n → NotReadAt mid new n f told → IsMade state old new n k (Err told)
not_made state old mid new n k reading.DiskFault told answer read beside not =
    subst (λ (q : Pair _). IsMade state old q n k (Err told)) (sym not.1) (subst (λ (g : PairFault). IsMade state old mid n k (Err g)) (sym not.0) (record {
      answer = (refl, answer.0, answer.1);
      read = read;
      beside = beside;
    }))
not_made state old mid new n k (reading.Changed frame) told answer read beside not =
    subst (λ (g : PairFault). IsMade state old new n k (Err g)) (sym not.0) (record {
      answer = (refl, answer.0, answer.1, not.1.usable);
      read = record {
        journal = subst (λ j. journals.IsUntouched state (node.journal_of (node_of old n)) j) (sym not.1.journal) read.journal;
        office = not.1.office ∙ read.office;
        learned = not.1.learned ∙ read.learned;
        known = not.1.known ∙ read.known;
      };
      beside = beside_on old mid new n beside not.2;
    })
