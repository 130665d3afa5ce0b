use Rattle.std.proofs.Common.{[], ◌∷◌, ◌++◌}
use Rattle.pair_world.specs.Step.{Halted}
use Rattle.pair_world.proofs.Moments.{moment_halts, moment_runs}
use Rattle.pair_world.proofs.SoundSteps.{schedule_is_sound, schedule_grows}
use Rattle.pair_world.proofs.calls.moments_are_halts.Goals as goal

pub returns-clause-event : goal.returns-clause-event
returns-clause-event g c bounds w v event s moment = moment_halts g.L.Entries.due bounds w s event v moment

pub returns-clause-course : goal.returns-clause-course
returns-clause-course g c bounds w v turns event s moment = moment_runs g.L.Entries.due g.L.Entries.form bounds w v turns event s moment

pub returns-clause-sound : goal.returns-clause-sound
returns-clause-sound g c bounds w v turns event s moment =
    let runs = moment_runs g.L.Entries.due g.L.Entries.form bounds w v turns event s moment in (
      schedule_is_sound g.L.Entries.due g.L.Entries.form bounds w v (turns ++ record { event = event; outcome = Halted } ∷ []) s runs,
      schedule_grows g.L.Entries.due g.L.Entries.form bounds w v (turns ++ record { event = event; outcome = Halted } ∷ []) s runs,
    )
