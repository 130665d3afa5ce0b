use Rattle.std.proofs.Common.{◌==◌, Bool, List, Some, sym, ap, ◌∙◌}
use Rattle.msag_ranges.specs.StreetGuide.{range_of}
use Rattle.msag_ranges.specs.declared.range.Range.{Range}
use Rattle.msag_ranges.proofs.GuideKept.{find-from_place, find-no_place}
use Rattle.msag_ranges.proofs.guide.Guide.get.Goals as goal

pub returns-in-Some-clause-value : goal.returns-in-Some-clause-value
returns-in-Some-clause-value c =
    let p : Range → Bool = λ r. r.id == c.args.id in
    let r : Range = c.index-ranges-at.result in
    ap Some c.index-ranges-at.is ∙ sym (find-from_place p c.in_order-ranges.result.now c.in-Some.at r (sym c.in-Some.ensures)) ∙ ap (λ (xs : List Range). range_of xs c.args.id) c.in_order-ranges.ensures.value

pub returns-in-None-clause-value : goal.returns-in-None-clause-value
returns-in-None-clause-value c =
    sym (find-no_place (λ r. r.id == c.args.id) c.in_order-ranges.result.now (sym c.in-None.ensures)) ∙ ap (λ (xs : List Range). range_of xs c.args.id) c.in_order-ranges.ensures.value
