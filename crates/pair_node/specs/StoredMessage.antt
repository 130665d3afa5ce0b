-- What a node does with a message, and when each answer comes.
use Rattle.std.specs.Prelude.{◌≡◌, ℕ, ◌<◌, ◌≤◌, Bool, true, false, List, Result, Ok, Err}
use Rattle.ali_base.specs.Faults.{Rose}
use Rattle.crash_disk.specs.DiskState.{DiskState}
use Rattle.node_journal.specs.FrameBytes.{IsEpoch}
use Rattle.node_journal.specs.OpenJournal as journal
use Rattle.node_journal.specs.declared.faults.DiskFault.{DiskFault}
use Rattle.office_entry.specs.declared.entry.Entry.{Entry}
use Rattle.pair_world.specs.Deliveries.{answer, journal_after, reply_to, journal_left, known_left}
use Rattle.pair_world.specs.Frames.{Frame, epochs}
use Rattle.pair_node.specs.Messages.{as_told, as_delivered}
use Rattle.pair_node.specs.NodeState.{disk_of, journal_of, count_of, office_of, emptied, learned_of, known_of, is_usable}
use Rattle.pair_node.specs.WrittenFrame.{Becomes, CrashesBetween}
use Rattle.pair_node.specs.declared.message.Delivered.{Delivered}
use Rattle.pair_node.specs.declared.message.Delivered.TheVariants as delivered
use Rattle.pair_node.specs.declared.message.Message.{Message}
use Rattle.pair_node.specs.declared.message.What.{What}
use Rattle.pair_node.specs.declared.message.What.TheVariants as telling
use Rattle.pair_node.specs.declared.node.Node.{Node}

-- what is asked of a message: an entry has a number within the limit, and an epoch
abbrev pub FitsIn : ℕ → ℕ → What → Type 0
FitsIn limit number (telling.Entry epoch entry) = (number ≤ limit) × IsEpoch epoch
FitsIn limit number telling.End = Unit {0}

-- these are the epochs of the journal
abbrev pub HasEpochs : {D : Type 0} → Node D → List (Frame Entry) → Type 0
HasEpochs node frames = epochs frames ≡ journal.epochs_of (journal_of node)

-- When each answer of a change comes: the epochs of the changed frames are then known; a failure only where the disk's faults rose.
abbrev pub ChangeAnswers : {D T : Type 0} → (D → DiskState) → (List (Frame Entry) → List (Frame Entry)) → Node D → Node D → Result T DiskFault → Type 0
ChangeAnswers state change old new (Ok x) =
    ((frames : List (Frame Entry)) → HasEpochs old frames → HasEpochs new (change frames)) × (is_usable new ≡ true)
ChangeAnswers state change old new (Err e) = Rose (state (disk_of old)).faults (state (disk_of new)).faults × (is_usable new ≡ false)

-- The journal is changed, or its disk failed. A crash at any moment leaves the frames from before or the changed ones.
pub record Changes {D T : Type 0} (state : D → DiskState) (change : List (Frame Entry) → List (Frame Entry)) (old new : Node D) (result : Result T DiskFault) : Type 0 where
  pub becomes : Becomes state change old new result
  pub moments : CrashesBetween state change old new
  pub answer : ChangeAnswers state change old new result
  pub fixed : journal.IsFixed state (journal_of old) (journal_of new)

-- The table stays as long as all frames that it has learned are there; where one of them is gone it is empty.
pub record KeepsTable {D : Type 0} (old new : Node D) : Type 0 where
  pub stays : learned_of old ≤ count_of new → (learned_of new ≡ learned_of old) × (office_of new ≡ office_of old)
  pub empties : count_of new < learned_of old → (learned_of new ≡ 0) × (office_of new ≡ emptied (office_of old))

-- the frames after the answer to a message, where no later epoch is known
abbrev pub answered : Message → List (Frame Entry) → List (Frame Entry)
answered m frames = journal_after frames (answer frames (as_told m))

-- the frames after a message
abbrev pub after_message : {D : Type 0} → Node D → Message → List (Frame Entry) → List (Frame Entry)
after_message node m frames = journal_left (known_of node) frames (as_told m)

-- whether the journal is changed where this is answered
abbrev pub is_change : Delivered → Bool
is_change (delivered.Cut k) = true
is_change (delivered.Stored ack) = true
is_change told = false

-- What is answered to a message, and the epoch known then: by the table of deliveries, over any frames with the journal's epochs. The disk fails only where the journal is to be changed, and then the epoch stays.
abbrev pub StoreAnswers : {D : Type 0} → Node D → Node D → Message → Result Delivered DiskFault → Type 0
StoreAnswers old new m (Ok told) =
    ((frames : List (Frame Entry)) → HasEpochs old frames → told ≡ as_delivered (reply_to (known_of old) frames (as_told m)))
    × (known_of new ≡ known_left (known_of old) (as_told m))
StoreAnswers old new m (Err e) =
    (known_of new ≡ known_of old)
    × ((frames : List (Frame Entry)) → HasEpochs old frames → is_change (as_delivered (reply_to (known_of old) frames (as_told m))) ≡ true)
