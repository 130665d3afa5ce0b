use Rattle.std.proofs.Common.{ℕ, ◌+◌, ◌-◌, ◌/◌, sym, refl, arith, true, false, ◌<◌, length, subst}
use Rattle.msag_ranges.proofs.Narrowing.{Narrowed, narrowed-start, narrowed-high, narrowed-low, narrowed-end, at_each}
use Rattle.msag_ranges.proofs.search.entries_to.Goals as goal

pub loop-low-init : goal.loop-low-init
loop-low-init g c = narrowed-start c.args.entries.now c.args.place.now c.args.steps.now

pub offset_bounds-entries-middle : goal.offset_bounds-entries-middle
offset_bounds-entries-middle g c = let h = c.loop-low.invariant in omega (arith, h.inside, h.ordered)

pub bounds-entries-middle : goal.bounds-entries-middle
bounds-entries-middle g c = let h = c.loop-low.invariant in omega (arith, h.inside, h.ordered)

pub loop-low-preserved-then-is_after : goal.loop-low-preserved-then-is_after
loop-low-preserved-then-is_after g c =
    let h = c.loop-low.invariant in
    let middle : ℕ = c.loop-low.low + (c.loop-low.high - c.loop-low.low) / 2 in
    let inside : middle < length c.args.entries.now = omega (arith, h.inside, h.ordered) in
    subst (λ n. Narrowed c.args.entries.now c.args.place.now c.args.steps.now n c.loop-low.low middle) (sym c.tick.ensures)
    (narrowed-high c.args.entries.now c.args.place.now c.args.steps.now c.loop-low.steps c.loop-low.low c.loop-low.high middle c.requires h c.loop-low-test.true refl
    (at_each c.args.entries.now c.args.place.now middle _ c.is_after.result true inside c.is_after.ensures c.if-is_after.true))

pub loop-low-preserved : goal.loop-low-preserved
loop-low-preserved g c =
    let h = c.loop-low.invariant in
    let middle : ℕ = c.loop-low.low + (c.loop-low.high - c.loop-low.low) / 2 in
    let inside : middle < length c.args.entries.now = omega (arith, h.inside, h.ordered) in
    subst (λ n. Narrowed c.args.entries.now c.args.place.now c.args.steps.now n (middle + 1) c.loop-low.high) (sym c.tick.ensures)
    (narrowed-low c.args.entries.now c.args.place.now c.args.steps.now c.loop-low.steps c.loop-low.low c.loop-low.high middle c.requires h c.loop-low-test.true refl
    (at_each c.args.entries.now c.args.place.now middle _ c.is_after.result false inside c.is_after.ensures c.if-is_after.false))

pub returns-clause-split : goal.returns-clause-split
returns-clause-split g c = narrowed-end c.args.entries.now c.args.place.now c.args.steps.now c.loop-low.steps c.loop-low.low c.loop-low.high c.loop-low.invariant (omega arith)

pub returns-clause-cost : goal.returns-clause-cost
returns-clause-cost g c = c.loop-low.invariant.cost

pub returns-clause-counts : goal.returns-clause-counts
returns-clause-counts g c = c.loop-low.invariant.counts
