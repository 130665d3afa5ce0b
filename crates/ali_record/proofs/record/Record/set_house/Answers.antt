use Rattle.std.proofs.Common.{◌≡◌, ◌≤◌, length, subst, sym, ap, ◌∙◌, rules, arith}
use Rattle.ali_base.specs.declared.house.TheConstants.{HIGHEST_HOUSE}
use Rattle.ali_record.specs.FieldChanges.{with_field}
use Rattle.ali_record.specs.RecordReading.{IsAccepted}
use Rattle.ali_record.specs.declared.field.Field.TheVariants.{HouseNumber}
use Rattle.ali_record.proofs.Rewritten.{accepted-with_house}
use Rattle.ali_record.proofs.record.Record.set_house.Goals as goal

pub invariant_of-self : goal.invariant_of-self
invariant_of-self c =
    let len : length c.self.inside.bytes ≡ 512 = search rules in
    let small : c.args.n ≤ HIGHEST_HOUSE = omega arith in
    let made = c.write_field.ensures ∙ ap (with_field c.self.inside.bytes HouseNumber) c.text.ensures in
    subst IsAccepted (sym made) (accepted-with_house c.self.inside.bytes c.args.n len small c.self.invariant)
