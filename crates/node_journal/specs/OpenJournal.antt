-- What an open journal stands for, and what its calls answer.
use Rattle.std.specs.Prelude.{◌≡◌, ◌≢◌, ℕ, ◌+◌, ◌-◌, ◌*◌, ◌<◌, ◌≤◌, Bool, true, false, List, [], ◌∷◌, ◌++◌, length, take, drop, slice_get, slice_index, Some, Result, Ok, Err, OnOk}
use Rattle.ali_base.specs.Faults.{Rose}
use Rattle.ali_base.specs.declared.names.NodeName.{NodeName}
use Rattle.commit_log.specs.OpenLog as log
use Rattle.commit_log.specs.declared.opening.OpenFault.{OpenFault}
use Rattle.commit_log.specs.declared.opening.OpenFault.TheVariants as failing
use Rattle.crash_disk.specs.CrashOutcomes.{Stays}
use Rattle.crash_disk.specs.DiskState.{DiskState}
use Rattle.crash_disk.specs.Moments.{EachMoment}
use Rattle.office_entry.specs.declared.entry.Entry.{Entry}
use Rattle.pair_world.specs.Frames.{Frame, epochs}
use Rattle.node_journal.specs.FrameBytes.{IsFrame, body}
use Rattle.node_journal.specs.JournalImage.{StandsFor, IsForeign, IsDamaged}
use Rattle.node_journal.specs.JournalState.{KeepsFrames, StandsForEither}
use Rattle.node_journal.specs.declared.faults.AppendFault.{AppendFault}
use Rattle.node_journal.specs.declared.faults.AppendFault.TheVariants as appending
use Rattle.node_journal.specs.declared.faults.DiskFault.{DiskFault}
use Rattle.node_journal.specs.declared.faults.JournalFault.{JournalFault}
use Rattle.node_journal.specs.declared.faults.JournalFault.TheVariants as opening
use Rattle.node_journal.specs.declared.faults.ReadFault.{ReadFault}
use Rattle.node_journal.specs.declared.faults.ReadFault.TheVariants as reading
use Rattle.node_journal.specs.declared.journal.Journal.{Journal}

-- its disk
abbrev pub disk_of : {D : Type 0} → Journal D → D
disk_of journal = log.disk_of journal.log

-- the node whose journal it is
abbrev pub name_of : {D : Type 0} → Journal D → NodeName
name_of journal = journal.name

-- how many frames it may have
abbrev pub limit_of : {D : Type 0} → Journal D → ℕ
limit_of journal = log.limit_of journal.log

-- the epochs of its frames
abbrev pub epochs_of : {D : Type 0} → Journal D → List ℕ
epochs_of journal = journal.epochs.items.items

-- how many frames it has
abbrev pub count_of : {D : Type 0} → Journal D → ℕ
count_of journal = length (epochs_of journal)

-- whether its disk has not failed in a call that writes
abbrev pub is_usable : {D : Type 0} → Journal D → Bool
is_usable journal = log.is_usable journal.log

-- Its disk stands for these frames, all of them synced, and it knows their epochs.
pub record Represents {D : Type 0} (state : D → DiskState) (journal : Journal D) (frames : List (Frame Entry)) : Type 0 where
  pub kept : KeepsFrames (name_of journal) frames (state (disk_of journal))
  pub known : epochs_of journal ≡ epochs frames

-- node and limit stay, and the count of faults doesn't fall
pub record IsFixed {D : Type 0} (state : D → DiskState) (old new : Journal D) : Type 0 where
  pub name : name_of new ≡ name_of old
  pub limit : limit_of new ≡ limit_of old
  pub faults : (state (disk_of old)).faults ≤ (state (disk_of new)).faults

-- On success the journal represents its frames as changed.
abbrev pub Becomes : {D T E : Type 0} → (D → DiskState) → (List (Frame Entry) → List (Frame Entry)) → Journal D → Journal D → Result T E → Type 0
Becomes state change old new result =
    (frames : List (Frame Entry)) → Represents state old frames → OnOk result (Represents state new (change frames))

-- A crash at each moment of the call leaves an image that stands for the frames from before or for the changed ones.
abbrev pub CrashesBetween : {D : Type 0} → (D → DiskState) → (List (Frame Entry) → List (Frame Entry)) → Journal D → Journal D → Type 0
CrashesBetween state change old new =
    (frames : List (Frame Entry)) → Represents state old frames → EachMoment (state (disk_of old)) (state (disk_of new)) (StandsForEither (name_of old) frames (change frames))

-- no byte of the disk changes, and nothing of the journal
pub record IsUntouched {D : Type 0} (state : D → DiskState) (old new : Journal D) : Type 0 where
  pub stays : Stays (state (disk_of old)) (state (disk_of new))
  pub fixed : IsFixed state old new
  pub known : epochs_of new ≡ epochs_of old
  pub usable : is_usable new ≡ is_usable old

-- When each answer of an append comes: the number of the new frame, whose epoch is then known; a full journal exactly at its limit; a failure only where the disk's faults rose.
abbrev pub AppendAnswers : {D : Type 0} → (D → DiskState) → Journal D → Journal D → ℕ → Result ℕ AppendFault → Type 0
AppendAnswers state old new epoch (Ok number) = (count_of old < limit_of old) × (number ≡ count_of old + 1) × (epochs_of new ≡ epochs_of old ++ epoch ∷ []) × (is_usable new ≡ true)
AppendAnswers state old new epoch (Err (appending.Full limit)) = (count_of old ≡ limit_of old) × (limit ≡ limit_of old) × (new ≡ old)
AppendAnswers state old new epoch (Err appending.DiskFault) = (count_of old < limit_of old) × Rose (state (disk_of old)).faults (state (disk_of new)).faults × (epochs_of new ≡ epochs_of old) × (is_usable new ≡ false)

-- When each answer of a cut from frame k on comes: the epochs before it are then known; a failure only where the disk's faults rose.
abbrev pub CloseAnswers : {D : Type 0} → (D → DiskState) → Journal D → Journal D → ℕ → Result (Unit {0}) DiskFault → Type 0
CloseAnswers state old new k (Ok x) = (epochs_of new ≡ take (k - 1) (epochs_of old)) × (is_usable new ≡ true)
CloseAnswers state old new k (Err e) = Rose (state (disk_of old)).faults (state (disk_of new)).faults × (epochs_of new ≡ epochs_of old) × (is_usable new ≡ false)

-- the body of this frame stands in the place of frame k, where the disk tells its bytes
abbrev pub IsThere : DiskState → ℕ → Frame Entry → Type 0
IsThere s k frame = (image : List ℕ) → s.content ≡ Some image → take 639 (drop (640 * k) image) ≡ body k frame

-- no body of a frame with this epoch stands in the place of frame k, where the disk tells its bytes
abbrev pub NoneThere : DiskState → ℕ → ℕ → Type 0
NoneThere s k epoch = (image : List ℕ) → s.content ≡ Some image → (frame : Frame Entry) → IsFrame frame → frame.epoch ≡ epoch → take 639 (drop (640 * k) image) ≢ body k frame

-- the frame of an entry of the journal, with the epoch that frame k has
abbrev pub frame_at : {D : Type 0} → Journal D → ℕ → Entry → Frame Entry
frame_at journal k entry = record { entry = entry; epoch = slice_index (epochs_of journal) (k - 1) }

-- When each answer of a read of frame k comes: the entry of the frame with this number and epoch; a failure only where the disk's faults rose; a change only where another body is there, so never on an honest disk.
abbrev pub ReadAnswers : {D : Type 0} → (D → DiskState) → Journal D → Journal D → ℕ → Result Entry ReadFault → Type 0
ReadAnswers state old new k (Ok entry) =
    IsThere (state (disk_of old)) k (frame_at old k entry)
    × ((frames : List (Frame Entry)) → Represents state old frames → slice_get frames (k - 1) ≡ Some (frame_at old k entry))
ReadAnswers state old new k (Err reading.DiskFault) = Rose (state (disk_of old)).faults (state (disk_of new)).faults
ReadAnswers state old new k (Err (reading.Changed frame)) =
    (frame ≡ k)
    × NoneThere (state (disk_of old)) k (slice_index (epochs_of old) (k - 1))
    × ((frames : List (Frame Entry)) → Represents state old frames → ⊥)

-- Opened: no byte is changed, and the journal has at most the limit of frames. Where the disk tells its bytes, they stand for frames, all of them synced, which the journal represents.
pub record IsOpened {D : Type 0} (state : D → DiskState) (disk : D) (name : NodeName) (limit : ℕ) (journal : Journal D) : Type 0 where
  pub stays : Stays (state disk) (state (disk_of journal))
  pub faults : (state disk).faults ≤ (state (disk_of journal)).faults
  pub named : name_of journal ≡ name
  pub limited : limit_of journal ≡ limit
  pub within : count_of journal ≤ limit
  pub usable : is_usable journal ≡ true
  pub shown : (image : List ℕ) → (state disk).content ≡ Some image → (frames : List (Frame Entry)) × StandsFor name frames image × Represents state journal frames

-- what a refusal says of the disk's bytes; of a failure, that the count of faults rose
abbrev pub Refused : NodeName → ℕ → DiskState → DiskState → JournalFault → Type 0
Refused name limit old new opening.DiskFault = Rose old.faults new.faults
Refused name limit old new opening.Foreign = (image : List ℕ) → old.content ≡ Some image → IsForeign name image
Refused name limit old new (opening.Damaged k) = (image : List ℕ) → old.content ≡ Some image → IsDamaged name limit k image
Refused name limit old new opening.NoMemory = Unit {0}

-- why a journal is not opened, by why its log is not
abbrev pub refusal : OpenFault → JournalFault
refusal failing.DiskFault = opening.DiskFault
refusal failing.Foreign = opening.Foreign
refusal (failing.Damaged k) = opening.Damaged k

-- Refused: no byte is changed, and the image is as the refusal says.
pub record IsRefused {D : Type 0} (state : D → DiskState) (disk : D) (name : NodeName) (limit : ℕ) (after : D) (fault : JournalFault) : Type 0 where
  pub stays : Stays (state disk) (state after)
  pub faults : (state disk).faults ≤ (state after).faults
  pub cause : Refused name limit (state disk) (state after) fault

-- when each answer of an opening comes
abbrev pub OpenAnswers : {D : Type 0} → (D → DiskState) → D → NodeName → ℕ → Result (Journal D) (D × JournalFault) → Type 0
OpenAnswers state disk name limit (Ok journal) = IsOpened state disk name limit journal
OpenAnswers state disk name limit (Err e) = IsRefused state disk name limit e.0 e.1

-- the same of a journal that is opened again, which takes no memory; where it is refused, it knows no epochs
abbrev pub ReopenAnswers : {D : Type 0} → (D → DiskState) → Journal D → Journal D → Result (Unit {0}) JournalFault → Type 0
ReopenAnswers state old new (Ok x) = IsOpened state (disk_of old) (name_of old) (limit_of old) new
ReopenAnswers state old new (Err fault) = IsRefused state (disk_of old) (name_of old) (limit_of old) (disk_of new) fault × (fault ≢ opening.NoMemory) × (epochs_of new ≡ [])
