use Rattle.office_entry.proofs.EntriesOfBytes.{one_entry}
use Rattle.office_entry.proofs.entry_laws.bytes_are_of_one_entry.Goals as goal

pub returns : goal.returns
returns c = one_entry
