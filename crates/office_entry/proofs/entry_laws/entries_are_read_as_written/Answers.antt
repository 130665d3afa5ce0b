use Rattle.ali_base.proofs.FrontsAgain.{all_bytes}
use Rattle.office_entry.proofs.EntriesOfBytes.{entry_found, entry_again, length-entry_bytes}
use Rattle.office_entry.proofs.entry_laws.entries_are_read_as_written.Goals as goal

pub returns-clause-back : goal.returns-clause-back
returns-clause-back c = entry_again

pub returns-clause-only : goal.returns-clause-only
returns-clause-only c bytes entry all len is = entry_found bytes entry (all_bytes bytes all) len is

pub returns-clause-width : goal.returns-clause-width
returns-clause-width c = length-entry_bytes
