use Rattle.std.proofs.Common.{List, IfSome, Contains, sym, ap, subst, ◌∙◌, arith}
use Rattle.msag_ranges.specs.StreetGuide.{range_of}
use Rattle.msag_ranges.specs.declared.place.Entry.{Entry}
use Rattle.msag_ranges.specs.GuideIndex.{IsSplitAt, place_of}
use Rattle.msag_ranges.proofs.IndexLaw.{last_begun, range_of-there}
use Rattle.msag_ranges.proofs.Found.{range_of-in}
use Rattle.msag_ranges.proofs.guide.Guide.last_begun.Goals as goal

pub returns-then-count-eq0-clause-holder : goal.returns-then-count-eq0-clause-holder
returns-then-count-eq0-clause-holder g c = λ r there h.
    let entries : List Entry = c.entries-entries.result.now in
    let split : IsSplitAt entries (place_of c.args.key.now c.args.n) c.entries_to-count.result = subst (λ m. IsSplitAt entries (place_of c.args.key.now m) c.entries_to-count.result) c.number-number.ensures.same c.entries_to-count.ensures.split in
    let w = last_begun entries c.args.self.now.ranges c.args.key.now c.args.n c.entries_to-count.result r c.entries-entries.ensures.sound.apart c.entries-entries.ensures.index split there h in
    absurd (omega (arith, w.some, c.if-count-eq0.true))

pub returns-clause-there : goal.returns-clause-there
returns-clause-there g c = subst (λ o. IfSome o (λ r. Contains c.args.self.now.ranges r)) (sym c.get.ensures.value) (range_of-in c.args.self.now.ranges _)

pub returns-clause-holder : goal.returns-clause-holder
returns-clause-holder g c = λ r there h.
    let entries : List Entry = c.entries-entries.result.now in
    let split : IsSplitAt entries (place_of c.args.key.now c.args.n) c.entries_to-count.result = subst (λ m. IsSplitAt entries (place_of c.args.key.now m) c.entries_to-count.result) c.number-number.ensures.same c.entries_to-count.ensures.split in
    let w = last_begun entries c.args.self.now.ranges c.args.key.now c.args.n c.entries_to-count.result r c.entries-entries.ensures.sound.apart c.entries-entries.ensures.index split there h in
    c.get.ensures.value ∙ ap (λ (e : Entry). range_of c.args.self.now.ranges e.id) (w.last _) ∙ range_of-there c.args.self.now.ranges r c.entries-entries.ensures.sound.rising there
