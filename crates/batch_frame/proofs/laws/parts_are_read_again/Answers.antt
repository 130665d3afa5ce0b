use Rattle.batch_frame.proofs.Readings.{read_again}
use Rattle.batch_frame.proofs.laws.parts_are_read_again.Goals as goal

pub returns : goal.returns
returns c = read_again
