use Rattle.command_machine.proofs.Repeats.{books_nothing, is_answered, same_text}
use Rattle.command_machine.proofs.laws.repeated_jobs_get_the_same_reply.Goals as goal

pub returns-clause-nothing : goal.returns-clause-nothing
returns-clause-nothing c m now again after job s told is steps = books_nothing m now again job s is after told steps

pub returns-clause-answered : goal.returns-clause-answered
returns-clause-answered c m now again after job s told is usable none steps = is_answered m now again job s is after told steps usable none

pub returns-clause-same : goal.returns-clause-same
returns-clause-same c m now again after job s t is steps = same_text m now again job s is after t steps
