use Rattle.batch_frame.proofs.Records.{few}
use Rattle.batch_frame.proofs.file.FileView.count.Goals as goal

pub returns-clause-limit : goal.returns-clause-limit
returns-clause-limit c = few _ _ c.self.invariant
