use Rattle.office_state.proofs.Positions.{once}
use Rattle.office_state.proofs.laws.bookings_are_once.Goals as goal

pub returns : goal.returns
returns c = once
