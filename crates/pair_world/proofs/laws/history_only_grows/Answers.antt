use Rattle.pair_world.proofs.SoundSteps.{step_grows, schedule_grows, takeover_books, pair_is_equal, caught_up_is_equal}
use Rattle.pair_world.proofs.laws.history_only_grows.Goals as goal

pub returns-clause-step : goal.returns-clause-step
returns-clause-step g c bounds w v event outcome = step_grows g.L.Entries.due g.L.Entries.form bounds w v event outcome

pub returns-clause-schedule : goal.returns-clause-schedule
returns-clause-schedule g c bounds w v turns = schedule_grows g.L.Entries.due g.L.Entries.form bounds w v turns

pub returns-clause-takeover : goal.returns-clause-takeover
returns-clause-takeover g c bounds w v node = takeover_books g.L.Entries.due g.L.Entries.form bounds w v node

pub returns-clause-pair : goal.returns-clause-pair
returns-clause-pair g c bounds w v choice = pair_is_equal g.L.Entries.due g.L.Entries.form bounds w v choice

pub returns-clause-caught_up : goal.returns-clause-caught_up
returns-clause-caught_up g c w = caught_up_is_equal g.L.Entries.due w
