use Rattle.std.proofs.Common.{◌≡◌, Some, IsSome, subst, sym, ap, ◌∙◌}
use Rattle.ali_base.specs.TelephoneNumber.{tn_of}
use Rattle.ali_record.specs.Layout.{field_of}
use Rattle.ali_record.specs.declared.field.Field.TheVariants.{TelephoneNumber}
use Rattle.ali_record.proofs.Accepted.{accepted-tn, tn_of-same}
use Rattle.ali_record.proofs.record.Record.tn.Goals as goal

pub unwrap-requires : goal.unwrap-requires
unwrap-requires c = subst IsSome (sym (c.read.ensures.value ∙ ap tn_of c.field_of.ensures.value)) (accepted-tn c.self.inside.bytes c.self.invariant)

pub returns : goal.returns
returns c =
    let read : tn_of (field_of c.args.self.now TelephoneNumber) ≡ Some c.unwrap.result = sym (c.read.ensures.value ∙ ap tn_of (c.field_of.ensures.value ∙ ap (λ b. field_of b TelephoneNumber) c.self.view_is)) ∙ c.unwrap.ensures in
    tn_of-same (field_of c.args.self.now TelephoneNumber) c.unwrap.result read
