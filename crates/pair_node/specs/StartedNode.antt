-- When each answer of a start comes; a stop, and a start again in place.
use Rattle.std.specs.Prelude.{◌≡◌, ◌≢◌, ℕ, ◌<◌, ◌≤◌, true, false, List, [], length, Some, Result, Ok, Err}
use Rattle.ali_base.specs.Faults.{Rose}
use Rattle.ali_base.specs.declared.names.NodeName.{NodeName}
use Rattle.crash_disk.specs.CrashOutcomes.{Stays}
use Rattle.crash_disk.specs.DiskState.{DiskState}
use Rattle.node_journal.specs.JournalImage.{StandsFor, IsForeign, IsDamaged}
use Rattle.node_journal.specs.OpenJournal.{IsOpened, IsFixed, name_of, limit_of}
use Rattle.node_journal.specs.declared.faults.JournalFault.{JournalFault}
use Rattle.node_journal.specs.declared.faults.JournalFault.TheVariants as opening
use Rattle.office_entry.specs.declared.entry.Entry.{Entry}
use Rattle.office_state.specs.History as history
use Rattle.office_state.specs.OfficeState.{limits_of}
use Rattle.office_state.specs.declared.limits.Limits.{Limits}
use Rattle.pair_world.specs.Frames.{Frame}
use Rattle.pair_node.specs.NodeState.{Represents, journal_of, disk_of, count_of, office_of, emptied, learned_of, known_of, is_usable}
use Rattle.pair_node.specs.declared.faults.StartFault.{StartFault}
use Rattle.pair_node.specs.declared.faults.StartFault.TheVariants as starting
use Rattle.pair_node.specs.declared.node.Node.{Node}

-- What a start is asked: whose node it is, the epoch that it is to know, how many frames it needs and how many it may have, and the limits of its table.
pub record Asked : Type 0 where
  pub name : NodeName
  pub known : ℕ
  pub need : ℕ
  pub limits : Limits
  pub limit : ℕ

-- Started: the journal is opened, has the frames that are needed, and nothing of it is learned. Where the disk tells its bytes, they stand for frames, all of them synced, which the node represents.
pub record IsStarted {D : Type 0} (state : D → DiskState) (disk : D) (asked : Asked) (node : Node D) : Type 0 where
  pub opened : IsOpened state disk asked.name asked.limit (journal_of node)
  pub enough : asked.need ≤ count_of node
  pub known : known_of node ≡ asked.known
  pub learned : learned_of node ≡ 0
  pub usable : is_usable node ≡ true
  pub empty : history.Represents asked.limits (office_of node) []
  pub shown : (image : List ℕ) → (state disk).content ≡ Some image
      → (frames : List (Frame Entry)) × StandsFor asked.name frames image × Represents state asked.limits node frames

-- the image stands for so many frames
abbrev pub HasFrames : NodeName → ℕ → List ℕ → Type 0
HasFrames name count image = (frames : List (Frame Entry)) × (length frames ≡ count) × StandsFor name frames image

-- what a refusal says of the disk's bytes; of a failure, that the count of faults rose
abbrev pub Refused : Asked → DiskState → DiskState → StartFault → Type 0
Refused asked old new starting.DiskFault = Rose old.faults new.faults
Refused asked old new starting.Foreign = (image : List ℕ) → old.content ≡ Some image → IsForeign asked.name image
Refused asked old new (starting.Damaged k) = (image : List ℕ) → old.content ≡ Some image → IsDamaged asked.name asked.limit k image
Refused asked old new (starting.Short have need) =
    (have < need) × (need ≡ asked.need) × ((image : List ℕ) → old.content ≡ Some image → HasFrames asked.name have image)
Refused asked old new starting.NoMemory = Unit {0}

-- why a node is not started, by why its journal is not opened
abbrev pub refusal : JournalFault → StartFault
refusal opening.DiskFault = starting.DiskFault
refusal opening.Foreign = starting.Foreign
refusal (opening.Damaged k) = starting.Damaged k
refusal opening.NoMemory = starting.NoMemory

-- Refused: no byte is changed, and the image is as the refusal says.
pub record IsRefused {D : Type 0} (state : D → DiskState) (disk : D) (asked : Asked) (after : D) (fault : StartFault) : Type 0 where
  pub stays : Stays (state disk) (state after)
  pub faults : (state disk).faults ≤ (state after).faults
  pub cause : Refused asked (state disk) (state after) fault

-- when each answer of a start comes
abbrev pub StartAnswers : {D : Type 0} → (D → DiskState) → D → Asked → Result (Node D) (D × StartFault) → Type 0
StartAnswers state disk asked (Ok node) = IsStarted state disk asked node
StartAnswers state disk asked (Err e) = IsRefused state disk asked e.0 e.1

-- Stopped: the node is not usable, and nothing else changes.
pub record IsStopped {D : Type 0} (old new : Node D) : Type 0 where
  pub usable : is_usable new ≡ false
  pub journal : journal_of new ≡ journal_of old
  pub office : office_of new ≡ office_of old
  pub learned : learned_of new ≡ learned_of old
  pub known : known_of new ≡ known_of old

-- what a node that starts again asks: its journal and its table keep their name and their limits
abbrev pub asked_again : {D : Type 0} → Node D → ℕ → ℕ → Asked
asked_again node known need =
    let table = office_of node in record {
      name = name_of (journal_of node);
      known = known;
      need = need;
      limits = limits_of table.state;
      limit = limit_of (journal_of node);
    }

-- The node has forgotten what it learned: its table is the empty one under the same limits. Name and limit of the journal stay.
pub record HasForgotten {D : Type 0} (state : D → DiskState) (old new : Node D) : Type 0 where
  pub fixed : IsFixed state (journal_of old) (journal_of new)
  pub empty : office_of new ≡ emptied (office_of old)
  pub history : history.ForgetsHistory (office_of old) (office_of new)
  pub learned : learned_of new ≡ 0

-- The answers of a start again: started as anew, or refused for the same causes but want of memory; then the node is not usable, and its epoch stays.
abbrev pub AgainAnswers : {D : Type 0} → (D → DiskState) → Node D → Asked → Node D → Result (Unit {0}) StartFault → Type 0
AgainAnswers state old asked new (Ok x) = IsStarted state (disk_of old) asked new
AgainAnswers state old asked new (Err fault) =
    IsRefused state (disk_of old) asked (disk_of new) fault × (fault ≢ starting.NoMemory) × (is_usable new ≡ false) × (known_of new ≡ known_of old)

-- when each answer of a start again comes, and what is forgotten whatever the answer
pub record RestartAnswers {D : Type 0} (state : D → DiskState) (old new : Node D) (known need : ℕ) (result : Result (Unit {0}) StartFault) : Type 0 where
  pub answer : AgainAnswers state old (asked_again old known need) new result
  pub forgotten : HasForgotten state old new
