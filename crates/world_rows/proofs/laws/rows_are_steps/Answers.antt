use Rattle.world_rows.proofs.Deliveries.{deliver_steps}
use Rattle.world_rows.proofs.Events.{write_steps, pair_steps}
use Rattle.world_rows.proofs.laws.rows_are_steps.Goals as goal

pub returns-clause-write : goal.returns-clause-write
returns-clause-write c limits bounds before now w v node entry told = write_steps limits bounds before now w v node entry told

pub returns-clause-deliver : goal.returns-clause-deliver
returns-clause-deliver c limits bounds before now w v i told = deliver_steps limits bounds before now w v i told

pub returns-clause-pair : goal.returns-clause-pair
returns-clause-pair c limits bounds before now w v told = pair_steps limits bounds before now w v told
