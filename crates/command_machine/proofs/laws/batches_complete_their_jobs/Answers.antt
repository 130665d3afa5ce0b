use Rattle.command_machine.proofs.Batches.{batch_ends}
use Rattle.command_machine.proofs.laws.batches_complete_their_jobs.Goals as goal

pub returns : goal.returns
returns c m now job standing told lawful can stands none steps = batch_ends m now job standing told lawful can stands none steps
