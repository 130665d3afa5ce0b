use Rattle.office_entry.proofs.EditTexts.{one_edit}
use Rattle.office_entry.proofs.laws.texts_are_of_one_edit.Goals as goal

pub returns : goal.returns
returns c = one_edit
