use Rattle.std.proofs.Common.{IsSome, subst, sym, ap, ◌∙◌}
use Rattle.ali_base.specs.HouseNumber.{house_of}
use Rattle.ali_record.specs.Layout.{field_of}
use Rattle.ali_record.specs.RecordReading.{sends_address}
use Rattle.ali_record.specs.declared.field.Field.TheVariants.{HouseNumber}
use Rattle.ali_record.proofs.Accepted.{accepted-address}
use Rattle.ali_record.proofs.record.Record.sends_address.Goals as goal

pub returns-clause-house : goal.returns-clause-house
returns-clause-house c = λ sends.
    subst (λ b. IsSome (house_of (field_of b HouseNumber))) c.self.view_is
    (accepted-address c.self.inside.bytes c.self.invariant (ap sends_address (sym c.byte_of.ensures) ∙ sym c.sends_address.ensures ∙ sends))
