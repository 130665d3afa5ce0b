-- What a write does to a node, and when each answer comes.
use Rattle.std.specs.Prelude.{◌≡◌, ℕ, true, false, List, Result, Ok, Err, OnOk}
use Rattle.crash_disk.specs.DiskState.{DiskState}
use Rattle.node_journal.specs.OpenJournal as journal
use Rattle.node_journal.specs.declared.faults.AppendFault.{AppendFault}
use Rattle.node_journal.specs.declared.faults.AppendFault.TheVariants.{Full, DiskFault}
use Rattle.office_entry.specs.declared.entry.Entry.{Entry}
use Rattle.office_state.specs.declared.limits.Limits.{Limits}
use Rattle.pair_world.specs.Frames.{Frame}
use Rattle.pair_node.specs.NodeState.{Represents, journal_of, office_of, learned_of, known_of, is_usable}
use Rattle.pair_node.specs.declared.node.Node.{Node}

-- On success the node represents its frames as changed.
abbrev pub Becomes : {D T E : Type 0} → (D → DiskState) → (List (Frame Entry) → List (Frame Entry)) → Node D → Node D → Result T E → Type 0
Becomes state change old new result =
    (limits : Limits) (frames : List (Frame Entry)) → Represents state limits old frames → OnOk result (Represents state limits new (change frames))

-- A crash at each moment of the call leaves an image that stands for the frames from before or for the changed ones.
abbrev pub CrashesBetween : {D : Type 0} → (D → DiskState) → (List (Frame Entry) → List (Frame Entry)) → Node D → Node D → Type 0
CrashesBetween state change old new = journal.CrashesBetween state change (journal_of old) (journal_of new)

-- Name and limit of the journal stay, and all that the node has beside its journal; the count of faults doesn't fall.
pub record IsFixed {D : Type 0} (state : D → DiskState) (old new : Node D) : Type 0 where
  pub journal : journal.IsFixed state (journal_of old) (journal_of new)
  pub office : office_of new ≡ office_of old
  pub learned : learned_of new ≡ learned_of old
  pub known : known_of new ≡ known_of old

-- whether it is usable after a write
abbrev pub UsableAfter : {D : Type 0} → Node D → Result ℕ AppendFault → Type 0
UsableAfter new (Ok number) = is_usable new ≡ true
UsableAfter new (Err (Full limit)) = is_usable new ≡ true
UsableAfter new (Err DiskFault) = is_usable new ≡ false

-- When each answer of a write comes: as its journal answers. The node is usable unless its disk failed.
pub record WriteAnswers {D : Type 0} (state : D → DiskState) (old new : Node D) (epoch : ℕ) (result : Result ℕ AppendFault) : Type 0 where
  pub journal : journal.AppendAnswers state (journal_of old) (journal_of new) epoch result
  pub usable : UsableAfter new result
