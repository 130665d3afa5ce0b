use Rattle.pair_world.proofs.SoundSteps.{formatted_is_sound, step_is_sound, schedule_is_sound}
use Rattle.pair_world.proofs.laws.worlds_stay_sound.Goals as goal

pub returns-clause-first : goal.returns-clause-first
returns-clause-first g c = formatted_is_sound g.L.Entries.due

pub returns-clause-step : goal.returns-clause-step
returns-clause-step g c bounds w v event outcome = step_is_sound g.L.Entries.due g.L.Entries.form bounds w v event outcome

pub returns-clause-schedule : goal.returns-clause-schedule
returns-clause-schedule g c bounds w v turns = schedule_is_sound g.L.Entries.due g.L.Entries.form bounds w v turns
