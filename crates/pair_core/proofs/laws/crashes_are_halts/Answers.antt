use Rattle.pair_core.proofs.PairHalts.{crash_halts}
use Rattle.pair_core.proofs.laws.crashes_are_halts.Goals as goal

pub returns : goal.returns
returns g c limits old new w event a b duty = crash_halts g.D.Disk.state limits old new w event a b duty
