use Rattle.pair_world.proofs.Limiting.{within_from, within_of, formatted_within, opened_within, step_within, runs_within}
use Rattle.pair_world.proofs.LargerLimits.{step_larger}
use Rattle.pair_world.specs.World.{formatted, opened, without_doubt}
use Rattle.pair_world.proofs.laws.limits_hold.Goals as goal

pub returns-clause-step : goal.returns-clause-step
returns-clause-step g c bounds w v event outcome h step =
    within_of bounds v (step_within g.L.Entries.due g.L.Entries.form bounds w (within_from bounds w h) event outcome v step)

pub returns-clause-schedule : goal.returns-clause-schedule
returns-clause-schedule g c bounds w v turns h runs =
    within_of bounds v (runs_within g.L.Entries.due g.L.Entries.form bounds w (within_from bounds w h) turns v runs)

pub returns-clause-first : goal.returns-clause-first
returns-clause-first g c bounds low = within_of bounds (without_doubt formatted) (formatted_within bounds low)

pub returns-clause-opened : goal.returns-clause-opened
returns-clause-opened g c bounds duty past journal_a journal_b low a b =
    within_of bounds (without_doubt (opened duty past journal_a journal_b)) (opened_within bounds duty past journal_a journal_b low a b)

pub returns-clause-larger : goal.returns-clause-larger
returns-clause-larger g c small large w v event outcome frames epochs step =
    step_larger g.L.Entries.due g.L.Entries.form small large frames epochs w v event outcome step
