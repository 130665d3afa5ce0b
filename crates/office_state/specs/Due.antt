-- Which entries may be booked next, and why others may not.
use Rattle.std.specs.Prelude.{◌≡◌, ℕ, ◌+◌, ◌==◌, ◌&&◌, nat_lt, List, length, Option, Some, None, Result, Ok, Err, if◌then◌else◌}
use Rattle.sequence_once.specs.KeptCycles.{CycleRecord, last_of}
use Rattle.sequence_once.specs.CycleStanding.{standing_of}
use Rattle.sequence_once.specs.SerialStanding.{last_edit, last_serial, serial_standing}
use Rattle.sequence_once.specs.declared.standing.Standing.{Standing}
use Rattle.sequence_once.specs.declared.standing.Standing.TheVariants.{New, Resume, Complete}
use Rattle.sequence_once.specs.declared.standing.CycleFault.{CycleFault}
use Rattle.sequence_once.specs.declared.standing.CycleFault.TheVariants as fault
use Rattle.office_entry.specs.declared.entry.Entry.{Entry}
use Rattle.office_entry.specs.declared.entry.Entry.TheVariants.{Open, Line, Edit}
use Rattle.office_entry.specs.EditBytes.{edit_digest}
use Rattle.office_state.specs.declared.due_fault.DueFault.{DueFault}
use Rattle.office_state.specs.declared.due_fault.DueFault.TheVariants as due
use Rattle.office_state.specs.OfficeState.{State}

-- the cycle and the line after the codes of a cycle that has fewer codes than its count
abbrev pub line_after : CycleRecord → Option (ℕ × ℕ)
line_after k = if nat_lt (length k.codes) k.count then Some (k.cycle, length k.codes + 1) else None

abbrev pub line_of_last : Option CycleRecord → Option (ℕ × ℕ)
line_of_last None = None
line_of_last (Some k) = line_after k

-- the line of a company that may be booked next, with its cycle; none where its last cycle is finished
abbrev pub due_line : State → List ℕ → Option (ℕ × ℕ)
due_line s company = line_of_last (last_of company s.cycles.kept)

-- an opening may be booked where its file is new, a line where it is its company's next, and an edit where its serial is the one after its editor's last
abbrev pub IsDue : State → Entry → Type 0
IsDue s (Open company cycle count day digest) = standing_of s.cycles company cycle digest ≡ Ok New
IsDue s (Line company cycle line bytes) = due_line s company ≡ Some (cycle, line)
IsDue s (Edit editor serial edit) = serial ≡ last_serial (last_edit editor s.edits) + 1

-- the cycle and the line that may be booked, 0 and 0 for none
abbrev pub not_next : Option (ℕ × ℕ) → DueFault
not_next None = due.NotNext 0 0
not_next (Some next) = due.NotNext next.0 next.1

-- the fault of the standing of a file or an edit
abbrev pub standing_fault : CycleFault → DueFault
standing_fault (fault.Gap cycle) = due.Gap cycle
standing_fault (fault.Differs kept sent) = due.Differs kept sent
standing_fault (fault.TooOld oldest) = due.TooOld oldest
standing_fault (fault.CompaniesFull limit) = due.CompaniesFull limit

-- an opening by its file's standing
abbrev pub opening_due : Option (ℕ × ℕ) → Result Standing CycleFault → Result (Unit {0}) DueFault
opening_due next (Ok New) = Ok tt
opening_due next (Ok (Resume line)) = Err (not_next next)
opening_due next (Ok Complete) = Err due.Complete
opening_due next (Err f) = Err (standing_fault f)

-- a line by the one that may be booked
abbrev pub line_due : Option (ℕ × ℕ) → ℕ → ℕ → Result (Unit {0}) DueFault
line_due None cycle line = Err (not_next None)
line_due (Some next) cycle line = if (next.0 == cycle) && (next.1 == line) then Ok tt else Err (not_next (Some next))

-- an edit by its standing, which is never resumed
abbrev pub edit_due : Result Standing CycleFault → Result (Unit {0}) DueFault
edit_due (Ok New) = Ok tt
edit_due (Ok (Resume line)) = Err due.Complete
edit_due (Ok Complete) = Err due.Complete
edit_due (Err f) = Err (standing_fault f)

-- whether an entry may be booked next, or why not
abbrev pub due_of : State → Entry → Result (Unit {0}) DueFault
due_of s (Open company cycle count day digest) = opening_due (due_line s company) (standing_of s.cycles company cycle digest)
due_of s (Line company cycle line bytes) = line_due (due_line s company) cycle line
due_of s (Edit editor serial edit) = edit_due (serial_standing (last_edit editor s.edits) serial (edit_digest edit))
