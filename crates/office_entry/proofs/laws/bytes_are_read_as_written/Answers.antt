use Rattle.ali_base.proofs.FrontsAgain.{all_bytes}
use Rattle.office_entry.proofs.EditsOfBytes.{edit_found, edit_again}
use Rattle.office_entry.proofs.laws.bytes_are_read_as_written.Goals as goal

pub returns-clause-back : goal.returns-clause-back
returns-clause-back c = edit_again

pub returns-clause-only : goal.returns-clause-only
returns-clause-only c bytes edit all is = edit_found bytes edit (all_bytes bytes all) is
