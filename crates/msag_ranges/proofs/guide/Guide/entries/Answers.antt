use Rattle.std.proofs.Common.{◌≤◌, ◌*◌, List, length, sym, subst}
use Rattle.msag_ranges.specs.StreetGuide.{StreetGuide}
use Rattle.msag_ranges.specs.declared.place.Entry.{Entry}
use Rattle.msag_ranges.proofs.IndexLaw.{few}
use Rattle.msag_ranges.proofs.guide.Guide.entries.Goals as goal

pub returns-clause-few : goal.returns-clause-few
returns-clause-few c =
    subst (λ (es : List Entry). length es ≤ 2 * length c.args.self.now.ranges) (sym c.deref.ensures.value)
    (subst (λ (g : StreetGuide). length c.self.inside.index.items ≤ 2 * length g.ranges) c.self.view_is (few c.self.inside.index.items c.self.inside.ranges.items c.self.invariant.index))
