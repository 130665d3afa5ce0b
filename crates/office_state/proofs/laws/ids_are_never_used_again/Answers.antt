use Rattle.office_state.proofs.Changes.{below_next, next_rises, stays_gone}
use Rattle.office_state.proofs.laws.ids_are_never_used_again.Goals as goal

pub returns-clause-known : goal.returns-clause-known
returns-clause-known c = below_next

pub returns-clause-rises : goal.returns-clause-rises
returns-clause-rises c = next_rises

pub returns-clause-gone : goal.returns-clause-gone
returns-clause-gone c = stays_gone
