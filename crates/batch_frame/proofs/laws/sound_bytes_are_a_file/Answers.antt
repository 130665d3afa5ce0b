use Rattle.batch_frame.proofs.Readings.{some_file}
use Rattle.batch_frame.proofs.laws.sound_bytes_are_a_file.Goals as goal

pub returns : goal.returns
returns c = some_file
