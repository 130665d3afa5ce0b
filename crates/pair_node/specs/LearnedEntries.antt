-- How a node's table learns the entries of its journal, and when each answer comes.
use Rattle.std.specs.Prelude.{◌≡◌, ◌⊎◌, ℕ, ◌+◌, ◌-◌, ◌<◌, max, true, false, List, length, slice_get, slice_index, Some, Result, Ok, Err}
use Rattle.ali_base.specs.Faults.{Rose}
use Rattle.crash_disk.specs.DiskState.{DiskState}
use Rattle.node_journal.specs.OpenJournal as journal
use Rattle.node_journal.specs.declared.journal.Journal.{Journal}
use Rattle.office_entry.specs.declared.entry.Entry.{Entry}
use Rattle.office_state.specs.Due.{IsDue}
use Rattle.office_state.specs.History.{KeepsHistory}
use Rattle.office_state.specs.Verdict.{verdict}
use Rattle.office_state.specs.declared.limits.Limits.{Limits}
use Rattle.office_state.specs.declared.verdict.Verdict.{Verdict}
use Rattle.pair_world.specs.Frames.{Frame}
use Rattle.pair_node.specs.NodeState.{Represents, disk_of, journal_of, office_of, learned_of, known_of, is_usable}
use Rattle.pair_node.specs.declared.faults.LearnFault.{LearnFault}
use Rattle.pair_node.specs.declared.faults.LearnFault.TheVariants as learning
use Rattle.pair_node.specs.declared.node.Node.{Node}

-- Entry k of the journal is this one: its frame stands there where the disk tells its bytes, and among the frames that the journal represents.
pub record IsEntryAt {D : Type 0} (state : D → DiskState) (j : Journal D) (k : ℕ) (entry : Entry) : Type 0 where
  pub there : journal.IsThere (state (journal.disk_of j)) k (journal.frame_at j k entry)
  pub listed : (frames : List (Frame Entry)) → journal.Represents state j frames → slice_get frames (k - 1) ≡ Some (journal.frame_at j k entry)

-- Frame k of the journal is gone: another body stands there, so the journal represents no frames.
pub record IsGone {D : Type 0} (state : D → DiskState) (j : Journal D) (k : ℕ) : Type 0 where
  pub there : journal.NoneThere (state (journal.disk_of j)) k (slice_index (journal.epochs_of j) (k - 1))
  pub none : (frames : List (Frame Entry)) → journal.Represents state j frames → ⊥

-- entry k of the journal is not due in this table
abbrev pub IsNotDueAt : {D : Type 0} → (D → DiskState) → Node D → Node D → ℕ → Type 0
IsNotDueAt state old new k =
    let table = office_of new in
    (entry : Entry) × IsEntryAt state (journal_of old) k entry × (IsDue table.state entry → ⊥)

-- frame k of the journal, the one after those that are learned, is gone, or its entry may not be booked after them
abbrev pub IsBadFrame : {D : Type 0} → (D → DiskState) → Node D → Node D → ℕ → Type 0
IsBadFrame state old new k = (k ≡ learned_of new + 1) × (IsGone state (journal_of old) k ⊎ IsNotDueAt state old new k)

-- More entries of the journal are learned, or none: no byte is changed, nothing of the journal, and the latest epoch stays. The table has the history from before with so many entries behind it, and they are the journal's next ones.
pub record Learns {D : Type 0} (state : D → DiskState) (old new : Node D) : Type 0 where
  pub journal : journal.IsUntouched state (journal_of old) (journal_of new)
  pub known : known_of new ≡ known_of old
  pub history : (more : List Entry) × (learned_of new ≡ learned_of old + length more) × KeepsHistory (office_of old) (office_of new) more
  pub represents : (limits : Limits) (frames : List (Frame Entry)) → Represents state limits old frames → Represents state limits new frames

-- Why learning ends after so many entries: the disk's faults rose, the next frame is gone, or the next entry is not due in the table of those before it; memory may always run out.
abbrev pub Fails : {D : Type 0} → (D → DiskState) → Node D → Node D → LearnFault → Type 0
Fails state old new learning.DiskFault = Rose (state (disk_of old)).faults (state (disk_of new)).faults × (is_usable new ≡ false)
Fails state old new (learning.Changed k) = (k ≡ learned_of new + 1) × IsGone state (journal_of old) k × (is_usable new ≡ true)
Fails state old new (learning.NotDue k) = (k ≡ learned_of new + 1) × IsNotDueAt state old new k × (is_usable new ≡ true)
Fails state old new learning.NoMemory = is_usable new ≡ true

-- it is the verdict of entry k of the journal in this table
abbrev pub IsVerdictAt : {D : Type 0} → (D → DiskState) → Node D → ℕ → Verdict → Type 0
IsVerdictAt state node k v =
    let table = office_of node in
    (entry : Entry) × IsEntryAt state (journal_of node) k entry × (v ≡ verdict table.state entry)

-- When each answer of a step comes. On success it is the verdict of the entry that is learned, in the table of those before it.
abbrev pub NextAnswers : {D : Type 0} → (D → DiskState) → Node D → Node D → Result Verdict LearnFault → Type 0
NextAnswers state old new (Ok v) = (learned_of new ≡ learned_of old + 1) × (is_usable new ≡ true) × IsVerdictAt state old (learned_of old + 1) v
NextAnswers state old new (Err fault) = (learned_of new ≡ learned_of old) × Fails state old new fault

-- When each answer of learning up to a number comes: all of them are learned, or it ends before.
abbrev pub LearnAnswers : {D : Type 0} → (D → DiskState) → Node D → Node D → ℕ → Result (Unit {0}) LearnFault → Type 0
LearnAnswers state old new upto (Ok x) = (learned_of new ≡ max (learned_of old) upto) × (is_usable new ≡ true)
LearnAnswers state old new upto (Err fault) = (learned_of new < upto) × Fails state old new fault
