-- What is to be done with a carrier's file: its standing, and the entries that are left of it. The bytes are those of a file without a fault.
use Rattle.std.specs.Prelude.{ℕ, ◌+◌, ◌-◌, ◌==◌, not, Bool, false, List, [], ◌∷◌, drop, slice_index_or, Option, Some, None, Result, Ok, Err, if◌then◌else◌}
use Rattle.sha2.specs.Sha256.{sha256}
use Rattle.batch_frame.specs.CarrierFile.{CarrierFile}
use Rattle.batch_frame.specs.FrameFault.{file_of}
use Rattle.sequence_once.specs.KeptCycles.{count_of}
use Rattle.sequence_once.specs.CycleStanding.{standing_of}
use Rattle.sequence_once.specs.declared.standing.Standing.{Standing}
use Rattle.sequence_once.specs.declared.standing.Standing.TheVariants.{New, Resume, Complete}
use Rattle.sequence_once.specs.declared.standing.CycleFault.{CycleFault}
use Rattle.sequence_once.specs.declared.standing.CycleFault.TheVariants.{Differs}
use Rattle.office_entry.specs.declared.entry.Entry.{Entry}
use Rattle.office_entry.specs.declared.entry.Entry.TheVariants.{Open, Line}
use Rattle.office_state.specs.declared.due_fault.DueFault.{DueFault}
use Rattle.office_state.specs.declared.due_fault.DueFault.TheVariants as due
use Rattle.office_state.specs.OfficeState.{State}
use Rattle.office_state.specs.Due.{standing_fault}

-- a cycle is kept, for a file of another count
abbrev pub is_other_count : Option ℕ → ℕ → Bool
is_other_count None count = false
is_other_count (Some kept) count = not (kept == count)

-- a file whose cycle is kept with its digest differs all the same where the kept count is another
abbrev pub with_count : Bool → List ℕ → Result Standing CycleFault → Result Standing CycleFault
with_count other digest (Err fault) = Err fault
with_count other digest (Ok New) = Ok New
with_count other digest (Ok (Resume line)) = if other then Err (Differs digest digest) else Ok (Resume line)
with_count other digest (Ok Complete) = if other then Err (Differs digest digest) else Ok Complete

-- what a file with these parts and this digest is to the state: the standing of its company, cycle, digest and count
abbrev pub standing_by : State → CarrierFile → List ℕ → Result Standing CycleFault
standing_by s file digest =
    with_count (is_other_count (count_of file.company file.cycle s.cycles.kept) file.count) digest (standing_of s.cycles file.company file.cycle digest)

-- what a file is to the state
unfoldable pub file_standing : State → List ℕ → Result Standing CycleFault
file_standing s bytes = standing_by s (file_of bytes) (sha256 bytes)

-- the opening of a file's cycle
abbrev pub opening : List ℕ → Entry
opening bytes = let file = file_of bytes in Open file.company file.cycle file.count file.day (sha256 bytes)

-- a line of a file, from 1, as an entry
abbrev pub line_entry : CarrierFile → ℕ → Entry
line_entry file line = Line file.company file.cycle line (slice_index_or file.records (line - 1) [])

-- the entry of a file that is next, by its standing
abbrev pub next_by : List ℕ → Result Standing CycleFault → Result Entry DueFault
next_by bytes (Ok New) = Ok (opening bytes)
next_by bytes (Ok (Resume line)) = Ok (line_entry (file_of bytes) line)
next_by bytes (Ok Complete) = Err due.Complete
next_by bytes (Err fault) = Err (standing_fault fault)

-- records as entries, of which the first is this line
abbrev pub line_entries : CarrierFile → ℕ → List (List ℕ) → List Entry
line_entries file line [] = []
line_entries file line (bytes ∷ rest) = Line file.company file.cycle line bytes ∷ line_entries file (line + 1) rest

-- the lines of a file from this one on
abbrev pub lines_from : CarrierFile → ℕ → List Entry
lines_from file line = line_entries file line (drop (line - 1) file.records)

-- all entries that are left of a file, by its standing
abbrev pub left_by : List ℕ → Result Standing CycleFault → List Entry
left_by bytes (Ok New) = opening bytes ∷ lines_from (file_of bytes) 1
left_by bytes (Ok (Resume line)) = lines_from (file_of bytes) line
left_by bytes (Ok Complete) = []
left_by bytes (Err fault) = []
