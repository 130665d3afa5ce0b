use Rattle.batch_frame.proofs.Readings.{parts_sound, sound_parts}
use Rattle.batch_frame.proofs.laws.faults_are_of_the_parts.Goals as goal

pub returns : goal.returns
returns c = λ bytes header trailer records s f. (parts_sound bytes header trailer records s f, sound_parts bytes header trailer records s f)
