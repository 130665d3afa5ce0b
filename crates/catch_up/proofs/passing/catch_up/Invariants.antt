use Rattle.catch_up.specs.Plan.{next_of}
use Rattle.catch_up.proofs.OnWay.{IsOnWay, distance_of}
use Rattle.catch_up.proofs.passing.catch_up.Given as goal

abbrev pub invariant-loop-k : goal.invariant-loop-k
invariant-loop-k g l = IsOnWay g.D.Disk.state l.fn.pair l.pair (next_of l.plan)

abbrev pub decreases-loop-k : goal.decreases-loop-k
decreases-loop-k g l = distance_of l.pair (next_of l.plan)
