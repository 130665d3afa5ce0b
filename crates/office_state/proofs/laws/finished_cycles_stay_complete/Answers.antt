use Rattle.office_state.proofs.KeptCodes.{stays_complete}
use Rattle.office_state.proofs.laws.finished_cycles_stay_complete.Goals as goal

pub returns : goal.returns
returns c = stays_complete
