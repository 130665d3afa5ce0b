use Rattle.std.proofs.Common.{◌≡◌, ap, ◌∙◌}
use Rattle.std.specs.Ordering.{is_lt}
use Rattle.msag_ranges.specs.GuideIndex.{before, place_cmp}
use Rattle.msag_ranges.proofs.place.is_after.Goals as goal

pub returns : goal.returns
unfolding before
returns c =
    let e : c.cmp.result ≡ place_cmp c.args.place.now c.args.entry.now.place = c.cmp.ensures in
    c.is_lt.ensures ∙ ap is_lt e
