use Rattle.pair_world.proofs.DoubtfulParts.{taker_unrecovered, taker_resolved, taker_starts, taker_breaks}
use Rattle.pair_world.proofs.needed.one_journal_of_takers_is_needed.Goals as goal

pub returns-clause-unrecovered : goal.returns-clause-unrecovered
returns-clause-unrecovered g c one another choice = taker_unrecovered g.L.Entries.due one another choice

pub returns-clause-resolved : goal.returns-clause-resolved
returns-clause-resolved g c one another choice d e = taker_resolved g.L.Entries.due one another d e choice

pub returns-clause-starts : goal.returns-clause-starts
returns-clause-starts g c one another = taker_starts g.L.Entries.due one another

pub returns-clause-breaks : goal.returns-clause-breaks
returns-clause-breaks g c one another apart = taker_breaks g.L.Entries.due one another apart
