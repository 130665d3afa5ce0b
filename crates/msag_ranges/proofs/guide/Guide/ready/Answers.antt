use Rattle.std.proofs.Common.{ap, arith, length, ◌≤◌, ◌*◌}
use Rattle.msag_ranges.proofs.IndexLaw.{few}
use Rattle.msag_ranges.proofs.guide.Guide.ready.Goals as goal

pub overflow_sub-more : goal.overflow_sub-more
overflow_sub-more c =
    let f = c.self.inside in
    let b : length f.index.items ≤ 2 * length f.ranges.items = few f.index.items f.ranges.items c.self.invariant.index in
    let e = ap length c.reserve.ensures.items in
    omega arith
