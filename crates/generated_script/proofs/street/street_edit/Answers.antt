use Rattle.std.proofs.Common.{◌≡◌, Option, None, Some, sym, ap, ◌∙◌, arith}
use Rattle.ali_base.specs.declared.street_key.StreetKey.{StreetKey}
use Rattle.office_entry.specs.EditKeys.{edit_key}
use Rattle.generated_script.specs.GeneratedScript.{key_of_street}
use Rattle.generated_script.proofs.Commands.{edit_key-street}
use Rattle.generated_script.proofs.street.street_edit.Goals as goal

pub returns-in_err-new : goal.returns-in_err-new
returns-in_err-new c =
    let s = c.args.street in
    let none : ◌≡◌ {A = Option StreetKey} None (Some (key_of_street s)) =
    sym c.in_err-new.was ∙ c.new.ensures ∙ ap edit_key c.street_key.ensures ∙ edit_key-street s (omega arith) in
    cc
