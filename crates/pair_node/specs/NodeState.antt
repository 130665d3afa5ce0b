-- What a node is: the frames of its journal, the table of the first of their entries, and the latest epoch that it knows.
use Rattle.std.specs.Prelude.{ℕ, Bool, List, take}
use Rattle.crash_disk.specs.DiskState.{DiskState}
use Rattle.node_journal.specs.OpenJournal as journal
use Rattle.node_journal.specs.declared.journal.Journal.{Journal}
use Rattle.office_entry.specs.declared.entry.Entry.{Entry}
use Rattle.office_state.specs.History as history
use Rattle.office_state.specs.OfficeState.{OfficeState, empty_office, limits_of}
use Rattle.office_state.specs.declared.limits.Limits.{Limits}
use Rattle.pair_world.specs.Frames.{Frame, entries}
use Rattle.pair_node.specs.declared.node.Node.{Node}

-- its journal
abbrev pub journal_of : {D : Type 0} → Node D → Journal D
journal_of node = node.journal

-- its disk
abbrev pub disk_of : {D : Type 0} → Node D → D
disk_of node = journal.disk_of (journal_of node)

-- how many frames its journal has
abbrev pub count_of : {D : Type 0} → Node D → ℕ
count_of node = journal.count_of (journal_of node)

-- its table
abbrev pub office_of : {D : Type 0} → Node D → OfficeState
office_of node = node.office

-- the table without entries, under the same limits
abbrev pub emptied : OfficeState → OfficeState
emptied office = empty_office (limits_of office.state)

-- how many entries its table has learned
abbrev pub learned_of : {D : Type 0} → Node D → ℕ
learned_of node = node.learned

-- the latest epoch that it knows
abbrev pub known_of : {D : Type 0} → Node D → ℕ
known_of node = node.known

-- whether, since its last start, it was not stopped and its disk has not failed in any call
abbrev pub is_usable : {D : Type 0} → Node D → Bool
is_usable node = node.usable

-- Its journal represents these frames, and its table the entries of those that it has learned, which are legal.
pub record Represents {D : Type 0} (state : D → DiskState) (limits : Limits) (node : Node D) (frames : List (Frame Entry)) : Type 0 where
  pub journal : journal.Represents state (journal_of node) frames
  pub table : history.Represents limits (office_of node) (entries (take (learned_of node) frames))
