use Rattle.std.proofs.Common.{arith}
use Rattle.batch_frame.proofs.Records.{room}
use Rattle.batch_frame.proofs.file.FileView.header.Goals as goal

pub record_at-requires : goal.record_at-requires
record_at-requires c = room _ _ 0 c.self.invariant (omega arith)
