use Rattle.std.proofs.Common.{◌≡◌, Option, Some, None, List, ℕ, sym, ◌∙◌}
use Rattle.std.specs.Prelude.{IfSome}
use Rattle.office_entry.specs.declared.edit.Edit.{Edit}
use Rattle.office_entry.specs.EditText.{IsEditText}
use Rattle.office_entry.specs.EditReading.{edit_of_text}
use Rattle.office_entry.proofs.EditTexts.{text_read, text_again}
use Rattle.office_entry.proofs.edit.Edit.read_text.Goals as goal

found : (bytes : List ℕ) (o : Option Edit) → o ≡ edit_of_text bytes → IfSome o (λ e. IsEditText bytes e)
found bytes None h = tt
found bytes (Some e) h = text_read bytes e (sym h)

pub returns-clause-found : goal.returns-clause-found
returns-clause-found c = found c.args.bytes.now c.edit_of_text.result c.edit_of_text.ensures

pub returns-clause-only : goal.returns-clause-only
returns-clause-only c edit is = c.edit_of_text.ensures ∙ text_again c.args.bytes.now edit is
