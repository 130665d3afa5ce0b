use Rattle.batch_frame.proofs.Readings.{one_file, one_whole_file}
use Rattle.batch_frame.proofs.laws.one_reading.Goals as goal

pub returns-clause-parts : goal.returns-clause-parts
returns-clause-parts c = one_file

pub returns-clause-file : goal.returns-clause-file
returns-clause-file c = one_whole_file
