-- Orders that only look at the pair.
use Rattle.std.proofs.Common.{refl, arith}
use Rattle.crash_disk.specs.DiskState.{DiskState}
use Rattle.pair_core.specs.Pair.{IsCall}
use Rattle.pair_core.specs.declared.pair.Pair.{Pair}

-- a look at the pair changes nothing
pub looked : {D : Type 0} (state : D → DiskState) (p : Pair D) → IsCall state p p
looked state p = record { bounds = refl; counts = λ disk. omega arith; booked = omega arith }
