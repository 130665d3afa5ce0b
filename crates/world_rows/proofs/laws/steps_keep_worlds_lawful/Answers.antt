use Rattle.world_rows.proofs.Steps.{step_is_lawful, step_only_grows, lawful_is_legal}
use Rattle.world_rows.proofs.laws.steps_keep_worlds_lawful.Goals as goal

pub returns-clause-lawful : goal.returns-clause-lawful
returns-clause-lawful c limits bounds w v event told = step_is_lawful limits bounds w v event told

pub returns-clause-grows : goal.returns-clause-grows
returns-clause-grows c limits bounds w v event told = step_only_grows limits bounds w v event told

pub returns-clause-legal : goal.returns-clause-legal
returns-clause-legal c limits bounds w = lawful_is_legal limits bounds w
