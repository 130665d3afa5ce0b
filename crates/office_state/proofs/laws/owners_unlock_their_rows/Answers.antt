use Rattle.office_state.proofs.Changes.{owner_unlocks, new_is_locked}
use Rattle.office_state.proofs.laws.owners_unlock_their_rows.Goals as goal

pub returns-clause-day : goal.returns-clause-day
returns-clause-day c = owner_unlocks

pub returns-clause-new : goal.returns-clause-new
returns-clause-new c = new_is_locked
