use Rattle.std.proofs.Common.{◌≡◌, ◌-◌, List, Contains, ◌↔◌, sym, subst, arith}
use Rattle.msag_ranges.specs.declared.place.Entry.{Entry}
use Rattle.msag_ranges.specs.GuideIndex.{IsSplitAt}
use Rattle.msag_ranges.proofs.IndexKept.{take_at, take-among}
use Rattle.msag_ranges.proofs.entries.take.Goals as goal

pub overflow_sub-count : goal.overflow_sub-count
overflow_sub-count c =
    let xs : List Entry = c.args.index.now.items in
    let split : IsSplitAt xs c.args.entry.now.place c.split-count.result = subst (λ (es : List Entry). IsSplitAt es c.args.entry.now.place c.split-count.result) c.deref.ensures.value c.split-count.ensures in
    (take_at xs c.args.entry.now c.split-count.result c.requires.rising split c.requires.there).2

pub returns-clause-among : goal.returns-clause-among
returns-clause-among c = λ e.
    let xs : List Entry = c.args.index.now.items in
    let split : IsSplitAt xs c.args.entry.now.place c.split-count.result = subst (λ (es : List Entry). IsSplitAt es c.args.entry.now.place c.split-count.result) c.deref.ensures.value c.split-count.ensures in
    let at = take_at xs c.args.entry.now c.split-count.result c.requires.rising split c.requires.there in
    subst (λ (es : List Entry). Contains es e ↔ (Contains xs e × (e ≡ c.args.entry.now → ⊥))) (sym c.remove.ensures.items) (take-among xs (c.split-count.result - 1) c.args.entry.now e c.requires.rising (omega (arith, at.2, at.3)) at.1)
