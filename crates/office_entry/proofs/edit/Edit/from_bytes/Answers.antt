use Rattle.std.proofs.Common.{◌≡◌, Option, Some, None, ℕ, List, ap, sym, ◌∙◌, arith}
use Rattle.std.specs.Prelude.{IfSome}
use Rattle.office_entry.specs.declared.edit.Edit.{Edit}
use Rattle.office_entry.specs.Edits.{IsEdit}
use Rattle.office_entry.specs.EditBytes.{edit_bytes}
use Rattle.office_entry.specs.BytesReading.{edit_from}
use Rattle.ali_base.proofs.FrontsAgain.{IsBytes}
use Rattle.office_entry.proofs.EditsOfBytes.{edit_found, edit_again}
use Rattle.office_entry.proofs.edit.Edit.from_bytes.Goals as goal

found : (bytes : List ℕ) (o : Option Edit) → IsBytes bytes → o ≡ edit_from bytes → IfSome o (λ e. IsEdit e × (bytes ≡ edit_bytes e))
found bytes None fits h = tt
found bytes (Some e) fits h = edit_found bytes e fits (sym h)

pub returns-clause-found : goal.returns-clause-found
returns-clause-found c = found c.args.bytes.now c.edit_from.result (λ i. omega (arith, c.type_inv.bytes i)) c.edit_from.ensures

pub returns-clause-only : goal.returns-clause-only
returns-clause-only c edit lawful same = c.edit_from.ensures ∙ ap edit_from same ∙ edit_again edit lawful
