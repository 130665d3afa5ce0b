use Rattle.sequence_once.proofs.SerialCauses.{causes_of}
use Rattle.sequence_once.proofs.serials.Serials.standing.Goals as goal

pub returns-clause-causes : goal.returns-clause-causes
returns-clause-causes c = causes_of _ _ c.args.serial c.args.digest.now _ c.last.ensures.same c.standing_after.ensures c.requires.serial.0
