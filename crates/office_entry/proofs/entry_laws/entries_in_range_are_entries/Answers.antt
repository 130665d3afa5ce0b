use Rattle.office_entry.specs.declared.entry.Entry.{Entry}
use Rattle.office_entry.specs.declared.entry.Entry.TheVariants.{Open, Line, Edit}
use Rattle.office_entry.specs.Entries.{IsEntry}
use Rattle.office_entry.specs.EntryBytes.{IsInRange}
use Rattle.office_entry.proofs.entry_laws.entries_in_range_are_entries.Goals as goal

is_entry : (entry : Entry) → IsInRange entry → IsEntry entry
is_entry (Open company cycle count day digest) h = tt
is_entry (Line company cycle line bytes) h = h.3
is_entry (Edit editor serial edit) h = h

pub returns : goal.returns
returns c = is_entry
