use Rattle.std.proofs.Common.{◌≡◌, ℕ, List, Option, None, Some, sym, ◌∙◌}
use Rattle.ali_base.proofs.Steps.{some_is}
use Rattle.generated_script.specs.GeneratedScript.{number_of}
use Rattle.generated_script.proofs.Digits.{number_read}
use Rattle.generated_script.proofs.names.number_of.Goals as goal

pub unreachable-requires : goal.unreachable-requires
unreachable-requires c =
    let read = number_read c.write_zero_padded.new.out c.args.i c.requires c.write_zero_padded.ensures in
    let none : ◌≡◌ {A = Option (List ℕ)} None (Some (number_of c.args.i)) = sym c.in-None.is ∙ c.read.ensures.value ∙ read in
    cc

pub returns : goal.returns
returns c =
    let read = number_read c.write_zero_padded.new.out c.args.i c.requires c.write_zero_padded.ensures in
    some_is c.in-Some.number (number_of c.args.i) (sym c.in-Some.is ∙ c.read.ensures.value ∙ read)
