use Rattle.pair_world.proofs.RowTests.{one_refusal, none_refused}
use Rattle.pair_world.proofs.rows.refusals_are_one.Goals as goal

pub returns-clause-one : goal.returns-clause-one
returns-clause-one g c history row first second f s = one_refusal g.L.Entries.due history row first second f s

pub returns-clause-none : goal.returns-clause-none
returns-clause-none g c history row refusal p f = none_refused g.L.Entries.due history row refusal p f
