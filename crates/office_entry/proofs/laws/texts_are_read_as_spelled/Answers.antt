use Rattle.office_entry.proofs.EditTexts.{text_read, text_again}
use Rattle.office_entry.proofs.laws.texts_are_read_as_spelled.Goals as goal

pub returns : goal.returns
returns c bytes edit = (text_read bytes edit, text_again bytes edit)
