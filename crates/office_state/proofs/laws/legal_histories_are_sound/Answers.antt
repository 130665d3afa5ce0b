use Rattle.office_state.proofs.SoundHistories.{sound_legal}
use Rattle.office_state.proofs.laws.legal_histories_are_sound.Goals as goal

pub returns : goal.returns
returns c = λ limits history legal. (sound_legal limits history legal).sound
