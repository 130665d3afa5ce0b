-- Why an entry is not applied.
use Rattle.std.specs.Prelude.{◌≡◌, Err}
use Rattle.office_entry.specs.declared.entry.Entry.{Entry}
use Rattle.office_state.specs.declared.apply_fault.ApplyFault.{ApplyFault}
use Rattle.office_state.specs.declared.apply_fault.ApplyFault.TheVariants.{NotDue, NoMemory}
use Rattle.office_state.specs.OfficeState.{State}
use Rattle.office_state.specs.Due.{due_of}

-- the entry may not be booked next, and this is why; memory may always run out
abbrev pub IsRefused : State → Entry → ApplyFault → Type 0
IsRefused s e (NotDue fault) = due_of s e ≡ Err fault
IsRefused s e NoMemory = Unit {0}
