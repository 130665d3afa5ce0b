use Rattle.std.proofs.Common.{refl}
use Rattle.sequence_once.proofs.Sound.{sound_empty}
use Rattle.sequence_once.proofs.cycles.Cycles.new.Goals as goal

pub invariant_of-result : goal.invariant_of-result
invariant_of-result c = rw c.new.ensures.items (sound_empty c.args.companies, refl)
