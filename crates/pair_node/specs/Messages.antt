-- The messages and the answers of a node, as the replicated world has them; and when each answer of making one comes.
use Rattle.std.specs.Prelude.{◌≡◌, ℕ, suc, ◌+◌, ◌-◌, ◌≤◌, Bool, true, false, List, slice_index, Option, Some, None, Result, Ok, Err}
use Rattle.ali_base.specs.Faults.{Rose}
use Rattle.crash_disk.specs.DiskState.{DiskState}
use Rattle.node_journal.specs.OpenJournal as journal
use Rattle.node_journal.specs.declared.faults.ReadFault.{ReadFault}
use Rattle.node_journal.specs.declared.faults.ReadFault.TheVariants as reading
use Rattle.office_entry.specs.declared.entry.Entry.{Entry}
use Rattle.pair_world.specs.Deliveries as deliveries
use Rattle.pair_world.specs.Frames.{Frame, epochs, epoch_at}
use Rattle.pair_node.specs.NodeState.{disk_of, journal_of, count_of, office_of, learned_of, known_of, is_usable}
use Rattle.pair_node.specs.LearnedEntries.{IsEntryAt, IsGone}
use Rattle.pair_node.specs.declared.message.Ack.{Ack}
use Rattle.pair_node.specs.declared.message.Delivered.{Delivered}
use Rattle.pair_node.specs.declared.message.Delivered.TheVariants as delivered
use Rattle.pair_node.specs.declared.message.Message.{Message}
use Rattle.pair_node.specs.declared.message.What.{What}
use Rattle.pair_node.specs.declared.message.What.TheVariants as telling
use Rattle.pair_node.specs.declared.node.Node.{Node}

-- the frame that is told, none for the end
abbrev pub frame_told : What → Option (Frame Entry)
frame_told (telling.Entry epoch entry) = Some (record { entry = entry; epoch = epoch })
frame_told telling.End = None

-- the message of the world
abbrev pub as_told : Message → deliveries.NodeMessage Entry
as_told m = record { epoch = m.epoch; preceding = m.number - 1; before = m.before; frame = frame_told m.what }

-- the acknowledgement of a message
abbrev pub ack_of : Message → Bool → Ack
ack_of m end = record { epoch = m.epoch; number = m.number; end = end }

-- the acknowledgement that is made with an answer
abbrev pub ack_made : Delivered → Option Ack
ack_made (delivered.Stored ack) = Some ack
ack_made (delivered.Have ack) = Some ack
ack_made (delivered.HaveEnd ack) = Some ack
ack_made answer = None

-- an acknowledgement of the world
abbrev pub as_ack : deliveries.NodeAck → Ack
as_ack a = record { epoch = a.epoch; number = suc a.preceding; end = a.end }

-- an answer of the world
abbrev pub as_delivered : deliveries.NodeReply → Delivered
as_delivered (deliveries.Told_stale epoch known) = delivered.Stale epoch known
as_delivered (deliveries.Told_behind len number) = delivered.Behind len number
as_delivered (deliveries.Told_cut number) = delivered.Cut number
as_delivered (deliveries.Told_stored ack) = delivered.Stored (as_ack ack)
as_delivered (deliveries.Told_have ack) = delivered.Have (as_ack ack)
as_delivered (deliveries.Told_have_end ack) = delivered.HaveEnd (as_ack ack)

-- what message k tells: frame k with its epoch, or the end behind the last
abbrev pub Tells : {D : Type 0} → (D → DiskState) → Node D → ℕ → What → Type 0
Tells state node k (telling.Entry epoch entry) =
    (k ≤ count_of node) × (epoch ≡ slice_index (journal.epochs_of (journal_of node)) (k - 1)) × IsEntryAt state (journal_of node) k entry
Tells state node k telling.End = k ≡ count_of node + 1

-- Message k of a node: it has this number and this epoch, tells frame k or the end, has the epoch of the frame before as the journal knows it, and is the message that is made from the frames that the journal represents.
pub record IsMessage {D : Type 0} (state : D → DiskState) (node : Node D) (k epoch : ℕ) (m : Message) : Type 0 where
  pub number : m.number ≡ k
  pub present : m.epoch ≡ epoch
  pub what : Tells state node k m.what
  pub before : (frames : List (Frame Entry)) → epochs frames ≡ journal.epochs_of (journal_of node) → m.before ≡ epoch_at frames (k - 1)
  pub told : (frames : List (Frame Entry)) → journal.Represents state (journal_of node) frames → as_told m ≡ deliveries.message_from epoch frames k

-- When each answer of making message k comes: a failure only where the disk's faults rose; a change only where another body is there, so never on an honest disk.
abbrev pub MessageAnswers : {D : Type 0} → (D → DiskState) → Node D → Node D → ℕ → ℕ → Result Message ReadFault → Type 0
MessageAnswers state old new k epoch (Ok m) = IsMessage state old k epoch m × (is_usable new ≡ true)
MessageAnswers state old new k epoch (Err reading.DiskFault) = Rose (state (disk_of old)).faults (state (disk_of new)).faults × (is_usable new ≡ false)
MessageAnswers state old new k epoch (Err (reading.Changed frame)) = (frame ≡ k) × IsGone state (journal_of old) k × (is_usable new ≡ true)

-- Only read: no byte of the disk changes, and nothing of the node but that it may have failed.
pub record IsRead {D : Type 0} (state : D → DiskState) (old new : Node D) : Type 0 where
  pub journal : journal.IsUntouched state (journal_of old) (journal_of new)
  pub office : office_of new ≡ office_of old
  pub learned : learned_of new ≡ learned_of old
  pub known : known_of new ≡ known_of old
