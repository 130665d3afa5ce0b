use Rattle.std.proofs.Common.{refl}
use Rattle.sequence_once.proofs.Sound.{sound_empty}
use Rattle.sequence_once.proofs.cycles.Cycles.clear.Goals as goal

pub invariant_of-self : goal.invariant_of-self
invariant_of-self c = rw c.clear.ensures.items (sound_empty c.self.inside.companies, refl)
