use Rattle.std.proofs.Common.{◌-◌, Contains, List, take, drop, sym, subst, arith}
use Rattle.msag_ranges.specs.declared.range.Range.{Range}
use Rattle.msag_ranges.specs.declared.place.Entry.{Entry}
use Rattle.msag_ranges.specs.GuideIndex.{IsSplitAt, is_odd, entry_of}
use Rattle.msag_ranges.proofs.IndexLaw.{in_class, near, near-part, IsNear}
use Rattle.msag_ranges.proofs.guide.Guide.near.Goals as goal

pub returns-then-from-to-clause-all : goal.returns-then-from-to-clause-all
returns-then-from-to-clause-all c = λ s n there h held odd.
    let r : Range = c.args.range.now in
    let entries : List Entry = c.entries-entries.result.now in
    let low : IsSplitAt entries (in_class r.key (is_odd n) r.low) c.split.result = subst (λ m. IsSplitAt entries (in_class r.key (is_odd n) m) c.split.result) c.number-number.ensures.same (subst (λ b. IsSplitAt entries (in_class r.key b c.number-number.result) c.split.result) (sym odd) c.split.ensures) in
    let high : IsSplitAt entries (in_class r.key (is_odd n) r.high) c.split-to.result = subst (λ m. IsSplitAt entries (in_class r.key (is_odd n) m) c.split-to.result) c.number-number-2.ensures.same (subst (λ b. IsSplitAt entries (in_class r.key b c.number-number-2.result) c.split-to.result) (sym odd) c.split-to.ensures) in
    let w : IsNear entries c.split.result c.split-to.result (entry_of s (is_odd n)) = near entries c.args.self.now.ranges r s n c.split.result c.split-to.result c.entries-entries.ensures.sound.apart c.entries-entries.ensures.index low high there h held in
    subst (λ b. Contains (take (c.split-to.result - c.saturating_sub-from.result) (drop c.saturating_sub-from.result entries)) (entry_of s b)) odd (near-part entries c.split.result c.split-to.result c.saturating_sub-from.result (entry_of s (is_odd n)) w (omega (arith, c.saturating_sub-from.ensures)))

pub returns-else-from-to-clause-all : goal.returns-else-from-to-clause-all
returns-else-from-to-clause-all c = λ s n there h held odd.
    let r : Range = c.args.range.now in
    let entries : List Entry = c.entries-entries.result.now in
    let low : IsSplitAt entries (in_class r.key (is_odd n) r.low) c.split.result = subst (λ m. IsSplitAt entries (in_class r.key (is_odd n) m) c.split.result) c.number-number.ensures.same (subst (λ b. IsSplitAt entries (in_class r.key b c.number-number.result) c.split.result) (sym odd) c.split.ensures) in
    let high : IsSplitAt entries (in_class r.key (is_odd n) r.high) c.split-to.result = subst (λ m. IsSplitAt entries (in_class r.key (is_odd n) m) c.split-to.result) c.number-number-2.ensures.same (subst (λ b. IsSplitAt entries (in_class r.key b c.number-number-2.result) c.split-to.result) (sym odd) c.split-to.ensures) in
    let w : IsNear entries c.split.result c.split-to.result (entry_of s (is_odd n)) = near entries c.args.self.now.ranges r s n c.split.result c.split-to.result c.entries-entries.ensures.sound.apart c.entries-entries.ensures.index low high there h held in
    absurd (omega (arith, w.from_here, w.to_here, c.saturating_sub-from.ensures, c.if-from-to.false))
