use Rattle.std.proofs.Common.{◌≡◌, ◌≤◌, length, subst, sym, ap, ◌∙◌, rules, arith}
use Rattle.ali_base.specs.declared.esn.TheConstants.{HIGHEST_ESN}
use Rattle.ali_record.specs.FieldChanges.{with_field}
use Rattle.ali_record.specs.RecordReading.{IsAccepted}
use Rattle.ali_record.specs.declared.field.Field.TheVariants.{Esn}
use Rattle.ali_record.proofs.Rewritten.{accepted-with_esn}
use Rattle.ali_record.proofs.record.Record.set_esn.Goals as goal

pub invariant_of-self : goal.invariant_of-self
invariant_of-self c =
    let len : length c.self.inside.bytes ≡ 512 = search rules in
    let small : c.args.e ≤ HIGHEST_ESN = omega arith in
    let made = c.write_field.ensures ∙ ap (with_field c.self.inside.bytes Esn) c.text.ensures in
    subst IsAccepted (sym made) (accepted-with_esn c.self.inside.bytes c.args.e len small c.self.invariant)
