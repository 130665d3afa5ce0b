use Rattle.office_state.proofs.Counting.{verdict_small}
use Rattle.office_state.proofs.HighCodes.{never_got}
use Rattle.office_state.proofs.laws.codes_are_below_1000.Goals as goal

pub returns-clause-each : goal.returns-clause-each
returns-clause-each c = verdict_small

pub returns-clause-history : goal.returns-clause-history
returns-clause-history c = never_got
