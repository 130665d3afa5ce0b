use Rattle.sequence_once.specs.KeptCycles.{IsRun}
use Rattle.sequence_once.proofs.TooOldFiles.{too_old}
use Rattle.sequence_once.proofs.cycles.Cycles.standing.Goals as goal

pub returns-clause-too_old : goal.returns-clause-too_old
returns-clause-too_old c =
    let run : IsRun c.cycles_of-cycles.result.now = rw c.cycles_of-cycles.ensures.same (c.cycles_of-cycles.ensures.sound.runs c.args.company) in
    let old = too_old c.cycles_of-cycles.result.now c.is_full-full.result c.self.inside.companies c.args.cycle c.args.digest.now run c.standing_among.ensures.counted in
    rw (c.standing_among.ensures.table, ← c.cycles_of-cycles.ensures.same) old
