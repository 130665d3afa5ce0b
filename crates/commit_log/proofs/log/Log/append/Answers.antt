use Rattle.std.proofs.Common.{sym, arith}
use Rattle.commit_log.proofs.log.Log.append.Goals as goal

pub returns-in-Ok-clause-moments : goal.returns-in-Ok-clause-moments
returns-in-Ok-clause-moments g c head bodies shown =
    c.write_frame.ensures.moments head bodies (sym shown.long) (omega (arith, shown.counts)) shown.kept

pub returns-in-Err-clause-moments : goal.returns-in-Err-clause-moments
returns-in-Err-clause-moments g c head bodies shown =
    c.write_frame.ensures.moments head bodies (sym shown.long) (omega (arith, shown.counts)) shown.kept
