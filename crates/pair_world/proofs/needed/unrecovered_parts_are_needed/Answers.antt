use Rattle.pair_world.proofs.DoubtfulParts.{replaced_resolved, replaced_loses}
use Rattle.pair_world.proofs.needed.unrecovered_parts_are_needed.Goals as goal

pub returns-clause-resolved : goal.returns-clause-resolved
returns-clause-resolved g c booked one another choice d e = replaced_resolved g.L.Entries.due booked one another d e choice

pub returns-clause-loses : goal.returns-clause-loses
returns-clause-loses g c booked one another apart = replaced_loses g.L.Entries.due booked one another apart
