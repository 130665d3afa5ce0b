use Rattle.std.proofs.Common.{◌≡◌, true, false, sym, subst, ◌∙◌}
use Rattle.std.proofs.lemmas.Option.{same_Some}
use Rattle.msag_ranges.specs.StreetGuide.{holds}
use Rattle.msag_ranges.specs.declared.range.Range.{Range}
use Rattle.msag_ranges.proofs.GuideKept.{holder-only}
use Rattle.msag_ranges.proofs.Found.{nothing}
use Rattle.msag_ranges.proofs.guide.Guide.find.Goals as goal

pub returns-then-holds-clause-value : goal.returns-then-holds-clause-value
returns-then-holds-clause-value g c = sym (holder-only c.args.self.now.ranges c.args.key.now c.args.n c.in-Some.range.now c.last_begun.ensures.sound.apart c.in-Some.ensures.there (sym c.holds.ensures ∙ c.if-holds.true))

pub returns-else-holds-clause-value : goal.returns-else-holds-clause-value
returns-else-holds-clause-value g c =
    nothing (λ (r : Range). holds r c.args.key.now c.args.n) c.args.self.now.ranges
    (λ r there h. let same : c.in-Some.range.now ≡ r = same_Some _ _ (c.in-Some.ensures.holder r there h) in
    let yes : holds c.in-Some.range.now c.args.key.now c.args.n ≡ true = subst (λ z. holds z c.args.key.now c.args.n ≡ true) (sym same) h in
    let no : holds c.in-Some.range.now c.args.key.now c.args.n ≡ false = sym c.holds.ensures ∙ c.if-holds.false in
    absurd cc)

pub returns-in-None-clause-value : goal.returns-in-None-clause-value
returns-in-None-clause-value g c =
    nothing (λ (r : Range). holds r c.args.key.now c.args.n) c.args.self.now.ranges (λ r there h. let never = c.in-None.ensures.holder r there h in absurd cc)
