use Rattle.pair_world.proofs.WorkedRuns.{old_shipment_runs}
use Rattle.pair_world.proofs.worked.old_shipments_are_stale.Goals as goal

pub returns-clause-old_shipment : goal.returns-clause-old_shipment
returns-clause-old_shipment g c e d = old_shipment_runs g.L.Entries.due g.L.Entries.form e d
