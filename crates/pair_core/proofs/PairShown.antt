-- The worlds that a pair shows, where one node of it changes; and what its disks leave meanwhile.
use Rattle.std.proofs.Common.{◌≡◌, ℕ, ◌≤◌, ◌⊎◌, inl, inr, List, length, map, refl, sym, ap, subst, ◌∙◌, arith, Option, Some, None, Result, Ok, Err, Bool, true, false}
use Rattle.ali_base.specs.declared.duty.Duty.{Duty}
use Rattle.ali_base.specs.declared.names.DiskName.{DiskName}
use Rattle.ali_base.specs.declared.names.DiskName.TheVariants as disks
use Rattle.ali_base.specs.declared.names.NodeName.{NodeName}
use Rattle.ali_base.specs.declared.names.NodeName.TheVariants.{A, B}
use Rattle.std.specs.Prelude.{is_none}
use Rattle.crash_disk.specs.CrashOutcomes.{Stays}
use Rattle.crash_disk.specs.DiskState.{DiskState, IsSound}
use Rattle.crash_disk.proofs.Runs.{stays_here}
use Rattle.duty_register.specs.DutyImage as duties
use Rattle.duty_register.specs.OpenRegister as register
use Rattle.duty_register.specs.declared.register.Register.{Register}
use Rattle.node_journal.specs.OpenJournal as journals
use Rattle.office_entry.specs.declared.entry.Entry.{Entry}
use Rattle.office_state.specs.History as history
use Rattle.office_state.specs.declared.limits.Limits.{Limits}
use Rattle.pair_world.specs.Frames.{Frame}
use Rattle.pair_world.specs.World.{World, Nodes, NodeState, FailedWrites, node_at, put_node, failed_write_at, duty_list, MayList}
use Rattle.world_rows.specs.WorldSteps.{OfficeEvent}
use Rattle.pair_node.specs.NodeState as node
use Rattle.pair_core.specs.Pair.{Shows, ShowsNode, AreMoments, node_of, disk_at, bounds_of}
use Rattle.pair_core.specs.PairChanges.{IsBesideNode}
use Rattle.pair_core.specs.PairNodes.{node_in, put, sent_told}
use Rattle.pair_node.specs.LearnedEntries.{LearnAnswers}
use Rattle.pair_node.specs.StartedNode.{IsStopped, AgainAnswers, asked_again}
use Rattle.pair_node.specs.declared.faults.LearnFault.{LearnFault}
use Rattle.pair_node.specs.declared.faults.StartFault.{StartFault}
use Rattle.pair_node.specs.declared.node.Node.{Node}
use Rattle.pair_core.specs.declared.nodes.Nodes.{Nodes as OwnNodes}
use Rattle.pair_core.specs.declared.pair.Pair.{Pair}
use Rattle.pair_node.proofs.Quiet.{quiet}

pub put_in : {D : Type 0} (nodes : OwnNodes D) (n : NodeName) (x : Node D) → node_in (put nodes n x) n ≡ x
put_in nodes A x = refl
put_in nodes B x = refl

-- the limits and the numbers of the nodes stay within the pair's, where one node changes
module _ {D : Type 0} (p : Pair D) (n : NodeName) (x : Node D) where
  pub at_each : (P : NodeName → Node D → Type 0) → ((k : NodeName) → P k (node_of p k)) → P n x → (k : NodeName) → P k (node_in (put p.nodes n x) k)
  at_each P all new = by_name n refl
    where
      by_name : (m : NodeName) → m ≡ n → (k : NodeName) → P k (node_in (put p.nodes m x) k)
      by_name A is A = subst (λ k. P k x) (sym is) new
      by_name A is B = all B
      by_name B is A = all A
      by_name B is B = subst (λ k. P k x) (sym is) new

  limit_stays : journals.limit_of (node.journal_of x) ≡ journals.limit_of (node.journal_of (node_of p n)) → (m : NodeName) → m ≡ n → journals.limit_of (put p.nodes m x).a.journal ≡ journals.limit_of p.nodes.a.journal
  limit_stays is A e = is ∙ ap (λ k. journals.limit_of (node.journal_of (node_of p k))) (sym e)
  limit_stays is B e = refl

  limits_stay : journals.limit_of (node.journal_of x) ≡ journals.limit_of (node.journal_of (node_of p n)) → (m : NodeName) → m ≡ n → journals.limit_of (put p.nodes m x).a.journal ≡ journals.limit_of (put p.nodes m x).b.journal
  limits_stay is A e = is ∙ ap (λ k. journals.limit_of (node.journal_of (node_of p k))) (sym e) ∙ p.limits
  limits_stay is B e = p.limits ∙ ap (λ k. journals.limit_of (node.journal_of (node_of p k))) e ∙ sym is

  module _ (limit : journals.limit_of (node.journal_of x) ≡ journals.limit_of (node.journal_of (node_of p n))) where
    pub limits : journals.limit_of (put p.nodes n x).a.journal ≡ journals.limit_of (put p.nodes n x).b.journal
    limits = limits_stay limit n refl

    pub limit_a : journals.limit_of (put p.nodes n x).a.journal ≡ journals.limit_of p.nodes.a.journal
    limit_a = limit_stays limit n refl

  module _ (name : journals.name_of (node.journal_of x) ≡ journals.name_of (node.journal_of (node_of p n))) (limit : journals.limit_of (node.journal_of x) ≡ journals.limit_of (node.journal_of (node_of p n)))
      (few : node.learned_of x ≤ p.count) (old : node.known_of x ≤ p.duty.epoch) where
    pub named : (k : NodeName) → journals.name_of (node.journal_of (node_in (put p.nodes n x) k)) ≡ k
    named = at_each (λ k y. journals.name_of (node.journal_of y) ≡ k) p.named (name ∙ p.named n)

    pub learned : (k : NodeName) → node.learned_of (node_in (put p.nodes n x) k) ≤ p.count
    learned = at_each (λ k y. node.learned_of y ≤ p.count) p.learned few

    pub known : (k : NodeName) → node.known_of (node_in (put p.nodes n x) k) ≤ p.duty.epoch
    known = at_each (λ k y. node.known_of y ≤ p.duty.epoch) p.known old

module _ {D : Type 0} (state : D → DiskState) (limits : Limits) (old new : Pair D) (w : World Entry) (n : NodeName) (shown : Shows state limits old w) (beside : IsBesideNode old new n) where
  -- the nodes of the world where one changes, and its failed write
  nodes_shown : (s : NodeState Entry) (fs : FailedWrites Entry) → ((k : NodeName) → (k ≡ n → ⊥) → failed_write_at fs k ≡ failed_write_at w.failed_writes k) → ShowsNode state limits n (node_of new n) s (failed_write_at fs n)
      → (m : NodeName) → m ≡ n → (k : NodeName) → ShowsNode state limits k (node_in (put old.nodes m (node_of new n)) k) (node_at (put_node w.base.nodes m s) k) (failed_write_at fs k)
  nodes_shown s fs same is A e A = subst (λ k. ShowsNode state limits k (node_of new n) s (failed_write_at fs k)) (sym e) is
  nodes_shown s fs same is A e B = subst (λ f. ShowsNode state limits B (node_of old B) (node_at w.base.nodes B) f) (sym (same B (λ b. absurd (cc)))) (shown.nodes B)
  nodes_shown s fs same is B e A = subst (λ f. ShowsNode state limits A (node_of old A) (node_at w.base.nodes A) f) (sym (same A (λ a. absurd (cc)))) (shown.nodes A)
  nodes_shown s fs same is B e B = subst (λ k. ShowsNode state limits k (node_of new n) s (failed_write_at fs k)) (sym e) is

  -- one node changes, and the two acknowledged numbers
  pub at_node : (s : NodeState Entry) (fs : FailedWrites Entry) → ((k : NodeName) → (k ≡ n → ⊥) → failed_write_at fs k ≡ failed_write_at w.failed_writes k)
      → ShowsNode state limits n (node_of new n) s (failed_write_at fs n)
      → Shows state limits new (record w { base = record w.base { nodes = put_node w.base.nodes n s }; failed_writes = fs })
  at_node s fs same is = record {
    tells = shown.tells;
    nodes = subst (λ (x : OwnNodes D). (k : NodeName) → ShowsNode state limits k (node_in x k) (node_at (put_node w.base.nodes n s) k) (failed_write_at fs k)) (sym beside.nodes) (nodes_shown s fs same is n refl);
    duty = beside.duty ∙ shown.duty;
    register_up = shown.register_up ∙ ap (λ (f : Option Duty). is_none f) (sym beside.failed);
    failed = beside.failed ∙ shown.failed;
    images = subst (λ (r : Register D). (image : List ℕ) → (state (register.disk_of r)).may_leave image → (list : List Duty) × duties.StandsFor list image × MayList w list) (sym beside.register) shown.images;
    duties = λ up. subst (λ (r : Register D). register.Represents state r (duty_list w.base.duty w.base.past)) (sym beside.register) (shown.duties (ap (λ (f : Option Duty). is_none f) (sym beside.failed) ∙ up));
    count = beside.count ∙ shown.count;
    acked = beside.acked ∙ shown.acked;
    ended = beside.ended ∙ shown.ended;
    messages = ap (λ ms. map sent_told ms.items) beside.messages ∙ shown.messages;
  }

  -- the node goes down, and its disk stays as it is
  pub goes_down : Stays (state (node.disk_of (node_of old n))) (state (node.disk_of (node_of new n))) → node.is_usable (node_of new n) ≡ false → node.known_of (node_of new n) ≡ node.known_of (node_of old n)
      → (booked : List Entry) × history.Represents limits (node.office_of (node_of new n)) booked
      → Shows state limits new (record w { base = record w.base { nodes = put_node w.base.nodes n (record (node_at w.base.nodes n) { up = false }) } })
  goes_down stays down known table =
      at_node (record (node_at w.base.nodes n) { up = false }) w.failed_writes (λ k not. refl) (record {
        up = sym down;
        known = (shown.nodes n).known ∙ sym known;
        images = λ image left. (shown.nodes n).images image (stays.crash image left);
        table = table;
        frames = λ up. absurd (cc);
      })

pub stopped_stays : {D : Type 0} (state : D → DiskState) (old new : Pair D) (n : NodeName) → IsStopped (node_of old n) (node_of new n) → Stays (state (node.disk_of (node_of old n))) (state (node.disk_of (node_of new n)))
stopped_stays state old new n stops =
    subst (λ j. Stays (state (node.disk_of (node_of old n))) (state (journals.disk_of j))) (sym stops.journal) (stays_here (state (node.disk_of (node_of old n))))

-- a node that is stopped
pub node_stopped : {D : Type 0} (state : D → DiskState) (limits : Limits) (old new : Pair D) (w : World Entry) (n : NodeName) → Shows state limits old w → IsBesideNode old new n → IsStopped (node_of old n) (node_of new n)
    → Shows state limits new (record w { base = record w.base { nodes = put_node w.base.nodes n (record (node_at w.base.nodes n) { up = false }) } })
node_stopped state limits old new w n shown beside stops =
    goes_down state limits old new w n shown beside (stopped_stays state old new n stops) stops.usable stops.known
    ((shown.nodes n).table.0, subst (λ o. history.Represents limits o (shown.nodes n).table.0) (sym stops.office) (shown.nodes n).table.1)

module _ {D : Type 0} (state : D → DiskState) (old new : Pair D) (n : NodeName) (beside : IsBesideNode old new n) where
  stays_by : Stays (state (node.disk_of (node_of old n))) (state (node.disk_of (node_of new n))) → (m : NodeName) → m ≡ n → (k : NodeName) → Stays (state (node.disk_of (node_of old k))) (state (node.disk_of (node_in (put old.nodes m (node_of new n)) k)))
  stays_by stays A e A = subst (λ k. Stays (state (node.disk_of (node_of old k))) (state (node.disk_of (node_of new n)))) (sym e) stays
  stays_by stays A e B = stays_here (state (node.disk_of (node_of old B)))
  stays_by stays B e A = stays_here (state (node.disk_of (node_of old A)))
  stays_by stays B e B = subst (λ k. Stays (state (node.disk_of (node_of old k))) (state (node.disk_of (node_of new n)))) (sym e) stays

  -- where the disk of the node stays as it is, each disk does
  pub all_stay : Stays (state (node.disk_of (node_of old n))) (state (node.disk_of (node_of new n))) → (disk : DiskName) → Stays (state (disk_at old disk)) (state (disk_at new disk))
  all_stay stays disks.A = subst (λ (x : OwnNodes D). Stays (state (node.disk_of (node_of old A))) (state (node.disk_of (node_in x A)))) (sym beside.nodes) (stays_by stays n refl A)
  all_stay stays disks.B = subst (λ (x : OwnNodes D). Stays (state (node.disk_of (node_of old B))) (state (node.disk_of (node_in x B)))) (sym beside.nodes) (stays_by stays n refl B)
  all_stay stays disks.Duty = subst (λ (r : Register D). Stays (state (disk_at old disks.Duty)) (state (register.disk_of r))) (sym beside.register) (stays_here (state (disk_at old disks.Duty)))

-- where each disk stays as it is, a crash leaves what the world before gives
pub all_quiet : {D : Type 0} (state : D → DiskState) (limits : Limits) (old new : Pair D) (w : World Entry) (event : OfficeEvent) → Shows state limits old w → ((disk : D) → IsSound (state disk))
    → ((disk : DiskName) → Stays (state (disk_at old disk)) (state (disk_at new disk))) → AreMoments state limits old new w event
all_quiet state limits old new w event shown sound stays = record {
  a = quiet (state (disk_at old disks.A)) (state (disk_at new disks.A)) _ (sound (disk_at old disks.A)) (stays disks.A) (λ image left. let it = (shown.nodes A).images image left in (it.0, it.1, (w, inl refl, it.2)));
  b = quiet (state (disk_at old disks.B)) (state (disk_at new disks.B)) _ (sound (disk_at old disks.B)) (stays disks.B) (λ image left. let it = (shown.nodes B).images image left in (it.0, it.1, (w, inl refl, it.2)));
  duty = quiet (state (disk_at old disks.Duty)) (state (disk_at new disks.Duty)) _ (sound (disk_at old disks.Duty)) (stays disks.Duty) (λ image left. let it = shown.images image left in (it.0, it.1, (w, inl refl, it.2)));
}

-- the known epoch after a start again
pub restarted_known : {D : Type 0} (state : D → DiskState) (old new : Node D) (present need : ℕ) (result : Result (Unit {0}) StartFault) → AgainAnswers state old (asked_again old present need) new result → node.known_of old ≤ present → node.known_of new ≤ present
restarted_known state old new present need (Ok x) answer before = omega (arith, answer.known)
restarted_known state old new present need (Err fault) answer before = omega (arith, answer.3, before)

-- no more is learned than was asked for, or was before
pub learned_few : {D : Type 0} (state : D → DiskState) (old new : Node D) (upto : ℕ) (result : Result (Unit {0}) LearnFault) → LearnAnswers state old new upto result → node.learned_of old ≤ upto → node.learned_of new ≤ upto
learned_few state old new upto (Ok x) answer before = omega (arith, answer.0, before)
learned_few state old new upto (Err fault) answer before = omega (arith, answer.0, before)
