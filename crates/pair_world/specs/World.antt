-- The replicated world: two nodes, their journals, the duty register and the messages between them.
use Rattle.std.specs.Prelude.{ℕ, ◌≡◌, ◌⊎◌, min, List, [], ◌∷◌, ◌++◌, length, take, reverse, slice_get, Option, Some, None, Bool, true, false, nat_lt, if◌then◌else◌}
use Rattle.ali_base.specs.declared.names.NodeName.{NodeName}
use Rattle.ali_base.specs.declared.names.NodeName.TheVariants.{A, B}
use Rattle.ali_base.specs.declared.duty.Mode.{Mode}
use Rattle.ali_base.specs.declared.duty.Mode.TheVariants.{Both, Alone}
use Rattle.ali_base.specs.declared.duty.Duty.{Duty}
use Rattle.pair_world.specs.Frames.{Frame}
use Rattle.pair_world.specs.Deliveries.{NodeMessage, NodeAck}
pub use Rattle.ali_base.specs.Duties.{first_duty}

-- The other node.
abbrev pub other : NodeName → NodeName
other A = B
other B = A

-- The two names are one.
abbrev pub is_node : NodeName → NodeName → Bool
is_node A A = true
is_node A B = false
is_node B A = false
is_node B B = true

-- A frame, or the end of its journal, on its way to the node that is not its sender.
pub record Shipment (E : Type 0) : Type 0 where
  pub sender : NodeName
  pub epoch : ℕ  -- the present one when it was sent
  pub preceding : ℕ  -- how many frames precede it: the number that it tells is one more
  pub before : ℕ  -- the epoch of the sender's frame before it, 0 for none
  pub frame : Option (Frame E)  -- none for the end: the sender's journal had the preceding frames and no more

-- What the shipment tells.
abbrev pub told_by : {E : Type 0} → Shipment E → NodeMessage E
told_by x = record { epoch = x.epoch; preceding = x.preceding; before = x.before; frame = x.frame }

-- The message on its way from this node.
abbrev pub sent_by : {E : Type 0} → NodeName → NodeMessage E → Shipment E
sent_by sender m =
    record { sender = sender; epoch = m.epoch; preceding = m.preceding; before = m.before; frame = m.frame }

-- The answer to a shipment that was stored or found, on its way to the shipment's sender.
pub record Ack : Type 0 where
  pub to : NodeName
  pub epoch : ℕ
  pub preceding : ℕ
  pub end : Bool

-- The acknowledgement on its way to this node.
abbrev pub acked_to : NodeName → NodeAck → Ack
acked_to to ack = record { to = to; epoch = ack.epoch; preceding = ack.preceding; end = ack.end }

-- What is on its way between the nodes.
pub data Message (E : Type 0) : Type 0 where
  Ships : Shipment E → Message E
  Acks : Ack → Message E

-- A node: its journal is what its disk represents, whether it is up or down.
pub record NodeState (E : Type 0) : Type 0 where
  pub up : Bool
  pub known : ℕ  -- the latest epoch that it knows
  pub journal : List (Frame E)

-- The two nodes.
pub record Nodes (E : Type 0) : Type 0 where
  pub a : NodeState E
  pub b : NodeState E

-- The node of this name.
abbrev pub node_at : {E : Type 0} → Nodes E → NodeName → NodeState E
node_at nodes A = nodes.a
node_at nodes B = nodes.b

-- The nodes with this one in its place.
abbrev pub put_node : {E : Type 0} → Nodes E → NodeName → NodeState E → Nodes E
put_node nodes A state = record { a = state; b = nodes.b }
put_node nodes B state = record { a = nodes.a; b = state }

-- A resolved world: each disk represents one list.
pub record Resolved (E : Type 0) : Type 0 where
  pub duty : Duty  -- the present one
  pub past : List Duty  -- those before it, the newest first
  pub booked : List (Frame E)  -- the booked history
  pub nodes : Nodes E
  pub messages : List (Message E)  -- those sent, without those dropped
  pub acked : ℕ  -- the greatest number acknowledged in the present epoch
  pub ended : ℕ  -- the number of the greatest end acknowledged in the present epoch, 0 for none

-- The term of the present holder: the longest run of last duties with it, the newest first.
abbrev pub term : Duty → List Duty → List Duty
term duty [] = duty ∷ []
term duty (before ∷ past) = if is_node duty.holder before.holder then duty ∷ term before past else duty ∷ []

-- The epoch of the last of these duties; this one where there are none.
abbrev pub last_epoch_of : ℕ → List Duty → ℕ
last_epoch_of epoch [] = epoch
last_epoch_of epoch (duty ∷ duties) = last_epoch_of duty.epoch duties

-- The first epoch of the term. As epochs count the duties, those from it to the present one are the term's.
abbrev pub term_from : Duty → List Duty → ℕ
term_from duty past = last_epoch_of duty.epoch (term duty past)

-- The holder.
abbrev pub own : {E : Type 0} → Resolved E → NodeState E
own w = node_at w.nodes w.duty.holder

-- The holder's journal.
abbrev pub holder_journal : {E : Type 0} → Resolved E → List (Frame E)
holder_journal w = (node_at w.nodes w.duty.holder).journal

-- The journal of the other node.
abbrev pub other_journal : {E : Type 0} → Resolved E → List (Frame E)
other_journal w = (node_at w.nodes (other w.duty.holder)).journal

-- The latest epoch that the node knows.
abbrev pub known : {E : Type 0} → Resolved E → NodeName → ℕ
known w n = (node_at w.nodes n).known

-- The node is up.
abbrev pub is_up : {E : Type 0} → Resolved E → NodeName → Type 0
is_up w n = (node_at w.nodes n).up ≡ true

-- The pending entry: written by the holder, and not yet booked.
abbrev pub pending : {E : Type 0} → Resolved E → Option (Frame E)
pending w = slice_get (holder_journal w) (length w.booked)

-- The nodes change.
abbrev pub with_nodes : {E : Type 0} → Resolved E → Nodes E → Resolved E
with_nodes w nodes = record w { nodes = nodes }

-- The node's state changes.
abbrev pub with_node : {E : Type 0} → Resolved E → NodeName → NodeState E → Resolved E
with_node w n state = record w { nodes = put_node w.nodes n state }

-- One more duty.
abbrev pub with_duty : {E : Type 0} → Resolved E → Duty → Resolved E
with_duty w duty = record w { duty = duty; past = w.duty ∷ w.past }

-- The recovery of the register: what is read is the last duty, the history has at least its floor, and the holder knows
-- it.
abbrev pub recovered : {E : Type 0} → Resolved E → Resolved E
recovered w =
    record w {
      booked = if nat_lt (length w.booked) w.duty.floor then take w.duty.floor (holder_journal w) else w.booked;
      nodes = put_node w.nodes w.duty.holder (record (own w) { known = w.duty.epoch });
      acked = 0;
      ended = 0;
    }

-- The booked history at the start of a run.
abbrev pub booked_at_start : {E : Type 0} → Mode → List (Frame E) → List (Frame E) → List (Frame E)
booked_at_start Alone holders others = holders
booked_at_start Both holders others = take (min (length holders) (length others)) holders

-- The world at the start of a run, over what the three disks represent.
abbrev pub opened : {E : Type 0} → Duty → List Duty → List (Frame E) → List (Frame E) → Resolved E
opened {E} duty past journal_a journal_b =
    let nodes : Nodes E = record {
      a = record { up = true; known = duty.epoch; journal = journal_a };
      b = record { up = true; known = duty.epoch; journal = journal_b };
    } in
    record {
      duty = duty;
      past = past;
      booked = booked_at_start duty.mode (node_at nodes duty.holder).journal (node_at nodes (other duty.holder)).journal;
      nodes = nodes;
      messages = [];
      acked = 0;
      ended = 0;
    }

-- The duties as an image of the register has them: a list, the oldest first.
abbrev pub duty_list : Duty → List Duty → List Duty
duty_list duty past = reverse (duty ∷ past)

-- The world at the start of a run, over duties the newest first; over a formatted register's where there are none.
abbrev pub opened_newest : {E : Type 0} → List Duty → List (Frame E) → List (Frame E) → Resolved E
opened_newest [] journal_a journal_b = opened first_duty [] journal_a journal_b
opened_newest (duty ∷ past) journal_a journal_b = opened duty past journal_a journal_b

-- The same over duties the oldest first, as the image of the register has them.
abbrev pub opened_from : {E : Type 0} → List Duty → List (Frame E) → List (Frame E) → Resolved E
opened_from duties journal_a journal_b = opened_newest (reverse duties) journal_a journal_b

-- The world of formatted disks.
abbrev pub formatted : {E : Type 0} → Resolved E
formatted = opened first_duty [] [] []

-- The journal that a node's disk may represent besides, after a write that failed.
pub record FailedWrites (E : Type 0) : Type 0 where
  pub a : Option (List (Frame E))
  pub b : Option (List (Frame E))

-- The journal that a failed write may have left on the node's disk.
abbrev pub failed_write_at : {E : Type 0} → FailedWrites E → NodeName → Option (List (Frame E))
failed_write_at failed A = failed.a
failed_write_at failed B = failed.b

-- The same, where that of one node changes.
abbrev pub put_failed_write : {E : Type 0} → FailedWrites E → NodeName → Option (List (Frame E)) → FailedWrites E
put_failed_write failed A journal = record { a = journal; b = failed.b }
put_failed_write failed B journal = record { a = failed.a; b = journal }

-- A world, with what a failed write leaves in doubt.
pub record World (E : Type 0) : Type 0 where
  pub base : Resolved E  -- each disk as before its failed write
  pub failed_writes : FailedWrites E  -- what it may represent besides
  pub register_up : Bool
  pub failed_duty : Option Duty  -- while the register is down: the duty that a failed change may have written

-- The node's disk may represent this journal.
abbrev pub MayHold : {E : Type 0} → World E → NodeName → List (Frame E) → Type 0
MayHold w n journal = ((node_at w.base.nodes n).journal ≡ journal) ⊎ (failed_write_at w.failed_writes n ≡ Some journal)

-- The register may represent these duties: the last one, and those before it, the newest first.
abbrev pub MayRead : {E : Type 0} → World E → Duty → List Duty → Type 0
MayRead w duty past =
    ((w.base.duty ≡ duty) × (w.base.past ≡ past)) ⊎ ((w.failed_duty ≡ Some duty) × (w.base.duty ∷ w.base.past ≡ past))

-- The register may represent this list of duties, the oldest first.
abbrev pub MayList : {E : Type 0} → World E → List Duty → Type 0
MayList w duties =
    (duty_list w.base.duty w.base.past ≡ duties)
    ⊎ ((duty : Duty) × (w.failed_duty ≡ Some duty) × (duty_list w.base.duty w.base.past ++ duty ∷ [] ≡ duties))

-- Which list of each disk is taken: true where the failed write lasted.
pub record Choice : Type 0 where
  pub a : Bool
  pub b : Bool
  pub duty : Bool

-- Whether the failed write on the node's disk lasted.
abbrev pub choice_at : Choice → NodeName → Bool
choice_at choice A = choice.a
choice_at choice B = choice.b

-- The node with the journal of a failed write, where there was one and it lasted.
abbrev pub picked_node : {E : Type 0} → Option (List (Frame E)) → Bool → NodeState E → NodeState E
picked_node None lasted state = state
picked_node (Some journal) true state = record { up = state.up; known = state.known; journal = journal }
picked_node (Some journal) false state = state

-- The nodes with the journals that are taken.
abbrev pub picked_nodes : {E : Type 0} → Choice → FailedWrites E → Nodes E → Nodes E
picked_nodes choice failed nodes =
    record { a = picked_node failed.a choice.a nodes.a; b = picked_node failed.b choice.b nodes.b }

-- The duty of a failed change, where there was one and it lasted.
abbrev pub with_failed_duty : {E : Type 0} → Option Duty → Bool → Resolved E → Resolved E
with_failed_duty None lasted w = w
with_failed_duty (Some duty) true w = with_duty w duty
with_failed_duty (Some duty) false w = w

-- One journal for each node, under the duty before a failed change.
abbrev pub unrecovered : {E : Type 0} → Choice → World E → Resolved E
unrecovered choice w = with_nodes w.base (picked_nodes choice w.failed_writes w.base.nodes)

-- The world resolved: one list of each disk. Where the register is down it is recovered.
abbrev pub resolved : {E : Type 0} → Choice → World E → Resolved E
resolved choice w =
    if w.register_up
    then unrecovered choice w
    else recovered (with_failed_duty w.failed_duty choice.duty (unrecovered choice w))

-- A world in which each disk represents one list.
abbrev pub without_doubt : {E : Type 0} → Resolved E → World E
without_doubt w = record { base = w; failed_writes = record { a = None; b = None }; register_up = true; failed_duty = None }

-- A run that begins now: it opens one list of each disk.
pub record IsReopened {E : Type 0} (w v : World E) : Type 0 where
  pub duty : Duty
  pub past : List Duty
  pub journal_a : List (Frame E)
  pub journal_b : List (Frame E)
  pub register : MayRead w duty past
  pub disk_a : MayHold w A journal_a
  pub disk_b : MayHold w B journal_b
  pub opens : v ≡ without_doubt (opened duty past journal_a journal_b)
