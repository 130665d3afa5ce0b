use Rattle.std.proofs.Common.{}
use Rattle.locks.proofs.guarded.Guarded.take.Given as goal

abbrev pub invariant-loop : goal.invariant-loop
invariant-loop g l = Unit {0}
