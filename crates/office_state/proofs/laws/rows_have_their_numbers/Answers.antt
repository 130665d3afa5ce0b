use Rattle.std.proofs.Common.{subst, IfSome}
use Rattle.line_booking.proofs.LineTables.{HasNumber}
use Rattle.office_state.proofs.SoundHistories.{sound_legal}
use Rattle.office_state.proofs.laws.rows_have_their_numbers.Goals as goal

pub returns : goal.returns
returns c = λ limits history tn row legal has.
    subst (λ o. IfSome o (HasNumber tn)) has ((sound_legal limits history legal).own tn)
