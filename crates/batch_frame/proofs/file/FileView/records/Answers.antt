use Rattle.std.proofs.Common.{◌≡◌, ◌-◌, [], get_or, ap, ◌∙◌, arith}
use Rattle.batch_frame.proofs.Records.{room, lent_record}
use Rattle.batch_frame.proofs.file.FileView.records.Goals as goal

pub record_at-requires : goal.record_at-requires
record_at-requires c =
    let same : c.self.inside.count ≡ c.args.self.now.count = ap (λ f. f.count) c.self.view_is in
    room _ _ c.args.i c.self.invariant (omega (arith, same))

pub returns : goal.returns
returns c =
    let same : c.self.inside.count ≡ c.args.self.now.count = ap (λ f. f.count) c.self.view_is in
    c.record_at.ensures
    ∙ lent_record c.self.inside.separator c.self.inside.count c.args.i c.self.inside.bytes.now (omega arith) (omega (arith, same))
    ∙ ap (λ f. get_or f.records (c.args.i - 1) []) c.self.view_is
