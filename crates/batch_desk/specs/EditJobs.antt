-- What is to be done with an editor's edit: its standing, and the entry that is left of it.
use Rattle.std.specs.Prelude.{ℕ, List, [], ◌∷◌, Result, Ok, Err}
use Rattle.sequence_once.specs.SerialStanding.{last_edit, serial_standing}
use Rattle.sequence_once.specs.declared.standing.Standing.{Standing}
use Rattle.sequence_once.specs.declared.standing.Standing.TheVariants.{New, Resume, Complete}
use Rattle.sequence_once.specs.declared.standing.CycleFault.{CycleFault}
use Rattle.office_entry.specs.EditBytes.{edit_digest}
use Rattle.office_entry.specs.declared.edit.Edit.{Edit}
use Rattle.office_entry.specs.declared.entry.Entry.{Entry}
use Rattle.office_state.specs.declared.due_fault.DueFault.{DueFault}
use Rattle.office_state.specs.declared.due_fault.DueFault.TheVariants as due
use Rattle.office_state.specs.OfficeState.{State}
use Rattle.office_state.specs.Due.{standing_fault}

-- what an edit is to the state: the standing of its serial and its digest. It is never resumed
abbrev pub edit_standing : State → ℕ → ℕ → Edit → Result Standing CycleFault
edit_standing s editor serial edit = serial_standing (last_edit editor s.edits) serial (edit_digest edit)

-- the entry of an edit, where it may be booked next
abbrev pub next_edit : Entry → Result Standing CycleFault → Result Entry DueFault
next_edit e (Ok New) = Ok e
next_edit e (Ok (Resume line)) = Err due.Complete
next_edit e (Ok Complete) = Err due.Complete
next_edit e (Err fault) = Err (standing_fault fault)

-- the entries that are left of an edit: its one, or none
abbrev pub left_edit : Entry → Result Standing CycleFault → List Entry
left_edit e (Ok New) = e ∷ []
left_edit e (Ok (Resume line)) = []
left_edit e (Ok Complete) = []
left_edit e (Err fault) = []
