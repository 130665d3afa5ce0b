-- What the parts of the calls that pass messages do: a message is read at a node, stored at the other, put on its way, and heard.
use Rattle.std.specs.Prelude.{◌≡◌, ℕ, Option, Result, Ok, Err, true, false}
use Rattle.ali_base.specs.Faults.{Rose}
use Rattle.ali_base.specs.declared.names.NodeName.{NodeName}
use Rattle.crash_disk.specs.DiskState.{DiskState}
use Rattle.node_journal.specs.OpenJournal.{limit_of}
use Rattle.node_journal.specs.declared.faults.DiskFault.{DiskFault}
use Rattle.node_journal.specs.declared.faults.ReadFault.{ReadFault}
use Rattle.node_journal.specs.declared.faults.ReadFault.TheVariants as reading
use Rattle.pair_node.specs.LearnedEntries.{IsGone}
use Rattle.pair_node.specs.Messages.{IsMessage, IsRead}
use Rattle.pair_node.specs.NodeState as node
use Rattle.pair_node.specs.NodeState.{journal_of}
use Rattle.pair_node.specs.StartedNode.{IsStopped}
use Rattle.pair_node.specs.StoredMessage.{FitsIn, Changes, KeepsTable, StoreAnswers, after_message}
use Rattle.pair_node.specs.declared.message.Ack.{Ack}
use Rattle.pair_node.specs.declared.message.Delivered.{Delivered}
use Rattle.pair_node.specs.declared.message.Message.{Message}
use Rattle.pair_node.specs.declared.node.Node.{Node}
use Rattle.pair_world.specs.Refusals.{disk_of}
use Rattle.pair_core.specs.Pair.{node_of, is_node_up, duty_of}
use Rattle.pair_core.specs.PairAnswers.{acked_after, ended_after, counted, heard, Unless}
use Rattle.pair_core.specs.PairChanges.{IsBesideNode}
use Rattle.pair_core.specs.PairRefusals as rows
use Rattle.pair_core.specs.declared.faults.PairFault.{PairFault}
use Rattle.pair_core.specs.declared.faults.PairFault.TheVariants as fault
use Rattle.pair_core.specs.declared.pair.Pair.{Pair}

-- Nothing but the messages may have changed.
pub record IsBesideMessages {D : Type 0} (old new : Pair D) : Type 0 where
  pub nodes : new.nodes ≡ old.nodes
  pub register : new.register ≡ old.register
  pub duty : new.duty ≡ old.duty
  pub failed : new.failed ≡ old.failed
  pub count : new.count ≡ old.count
  pub acked : new.acked ≡ old.acked
  pub ended : new.ended ≡ old.ended

-- the pair once it heard an acknowledgement, or none
abbrev pub hearing : {D : Type 0} → Pair D → Option Ack → Pair D
hearing pair ack = record pair { acked = acked_after ack pair.acked; ended = ended_after ack pair.ended }

-- The delivery of an acknowledgement to this node is refused; or it is stale, or heard, and counted.
abbrev pub IsHeard : {D : Type 0} → Pair D → Pair D → NodeName → Ack → Result (Delivered × ℕ) PairFault → Type 0
IsHeard old new to ack result =
    let present = (duty_of old).epoch in
    Unless (rows.ack_refusal old to) old new result ((result ≡ Ok (heard ack present, 0)) × (new ≡ hearing old (counted ack present)))

-- A node did with a message what it answers, or its disk failed.
pub record IsStoring {D : Type 0} (state : D → DiskState) (old new : Node D) (m : Message) (result : Result Delivered DiskFault) : Type 0 where
  pub changed : Changes state (after_message old m) old new result
  pub table : KeepsTable old new
  pub answer : StoreAnswers old new m result

-- How a fault of reading is told: a failure of the disk has the node down already; a frame that is gone stops it.
abbrev pub NotReadAt : {D : Type 0} → Pair D → Pair D → NodeName → ReadFault → PairFault → Type 0
NotReadAt old new n reading.DiskFault told = (told ≡ fault.Fault (disk_of n)) × (new ≡ old)
NotReadAt old new n (reading.Changed frame) told =
    (told ≡ fault.Damaged (disk_of n) frame) × IsStopped (node_of old n) (node_of new n) × IsBesideNode old new n

-- Message k of the node was made; or its disk failed, or frame k on it is gone, and it is down.
abbrev pub MadeAnswers : {D : Type 0} → (D → DiskState) → Pair D → Pair D → NodeName → ℕ → Result Message PairFault → Type 0
MadeAnswers state old new n k (Ok m) =
    IsMessage state (node_of old n) k (duty_of old).epoch m × FitsIn (limit_of (journal_of (node_of old n))) k m.what × (is_node_up new n ≡ true)
MadeAnswers state old new n k (Err (fault.Fault disk)) =
    (disk ≡ disk_of n) × Rose (state (node.disk_of (node_of old n))).faults (state (node.disk_of (node_of new n))).faults × (is_node_up new n ≡ false)
MadeAnswers state old new n k (Err (fault.Damaged disk frame)) =
    (disk ≡ disk_of n) × (frame ≡ k) × IsGone state (journal_of (node_of old n)) k × (is_node_up new n ≡ false)
MadeAnswers state old new n k (Err refusal) = ⊥

-- A node was asked for message k, and nothing else changed.
pub record IsMade {D : Type 0} (state : D → DiskState) (old new : Pair D) (n : NodeName) (k : ℕ) (result : Result Message PairFault) : Type 0 where
  pub answer : MadeAnswers state old new n k result
  pub read : IsRead state (node_of old n) (node_of new n)
  pub beside : IsBesideNode old new n
