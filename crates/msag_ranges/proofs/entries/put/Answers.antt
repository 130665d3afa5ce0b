use Rattle.std.proofs.Common.{◌≡◌, List, Contains, ◌↔◌, ◌⊎◌, sym, subst}
use Rattle.msag_ranges.specs.declared.place.Entry.{Entry}
use Rattle.msag_ranges.specs.GuideIndex.{Rises, IsSplitAt}
use Rattle.msag_ranges.proofs.IndexKept.{put-rises, put-among}
use Rattle.msag_ranges.proofs.entries.put.Goals as goal

pub returns-clause-rising : goal.returns-clause-rising
returns-clause-rising c =
    let xs : List Entry = c.args.index.now.items in
    let split : IsSplitAt xs c.args.entry.place c.split-at.result = subst (λ (es : List Entry). IsSplitAt es c.args.entry.place c.split-at.result) c.deref.ensures.value c.split-at.ensures in
    subst Rises (sym c.in-Ok.ensures.items) (put-rises xs c.split-at.result c.args.entry c.requires.rising split c.requires.free)

pub returns-clause-among : goal.returns-clause-among
returns-clause-among c = λ e.
    let xs : List Entry = c.args.index.now.items in
    let split : IsSplitAt xs c.args.entry.place c.split-at.result = subst (λ (es : List Entry). IsSplitAt es c.args.entry.place c.split-at.result) c.deref.ensures.value c.split-at.ensures in
    subst (λ (es : List Entry). Contains es e ↔ (Contains xs e ⊎ (e ≡ c.args.entry))) (sym c.in-Ok.ensures.items) (put-among xs c.split-at.result c.args.entry e split.within)
