use Rattle.office_entry.proofs.EditsOfBytes.{one_edit}
use Rattle.office_entry.proofs.laws.bytes_are_of_one_edit.Goals as goal

pub returns : goal.returns
returns c = one_edit
