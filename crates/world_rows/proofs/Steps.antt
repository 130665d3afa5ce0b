-- Each step of the office's world is a step of the replicated world.
use Rattle.std.proofs.Common.{ℕ, inl, inr, List}
use Rattle.office_entry.specs.declared.entry.Entry.{Entry}
use Rattle.office_state.specs.History.{IsLegal}
use Rattle.office_state.specs.declared.limits.Limits.{Limits}
use Rattle.pair_world.specs.Frames.{Begins, entries}
use Rattle.pair_world.specs.Step.{Bounds, Outcome, Done, Faulted, Refused as Changeless, Step}
use Rattle.pair_world.specs.World.{World}
use Rattle.pair_world.proofs.Limiting.{within_from, within_of, step_within}
use Rattle.pair_world.proofs.SoundSteps.{step_is_sound, step_grows, history_is_legal}
use Rattle.world_rows.specs.Histories.{due_after, IsLawful}
use Rattle.world_rows.specs.Told.{Told, Refused, Not_due, Failed, Ready, Written, Booked, Stopped, Started, Sent, Behind, Cut, Stored, Have, Have_end, Acked, Acked_end, On_duty, Started_duty, Told_status, Foreign, Damaged}
use Rattle.world_rows.specs.WorldSteps.{OfficeEvent, IsStep}
use Rattle.world_rows.proofs.Legality.{legal_entries}

-- no request is answered in these steps
abbrev no_form : List Entry → List ℕ → Unit {0}
no_form history tn = tt

module _ (limits : Limits) (bounds : Bounds) (w v : World Entry) (event : OfficeEvent) where
  -- the step with this outcome
  abbrev StepsWith : Outcome (Unit {0}) → Type 0
  StepsWith outcome = Step (due_after limits) no_form bounds w event outcome v

  pub world_steps : (told : Told) → IsStep limits bounds w event told v → (outcome : Outcome (Unit {0})) × StepsWith outcome
  world_steps (Refused refusal) step = (Changeless, inl step)
  world_steps (Not_due fault) step = (Changeless, inl step)
  world_steps (Failed disk) step = (Faulted, step)
  world_steps (Foreign disk) step = absurd step
  world_steps (Damaged disk frame) step = absurd step
  world_steps Ready step = (Done, step)
  world_steps (Written number epoch) step = (Done, step)
  world_steps (Booked number verdict) step = (Done, step)
  world_steps (Stopped node) step = (Done, step)
  world_steps (Started node len known) step = (Done, step)
  world_steps (Sent message) step = (Done, step)
  world_steps (Behind len number) step = (Changeless, inr step)
  world_steps (Cut number) step = (Done, step)
  world_steps (Stored number made) step = (Done, step)
  world_steps (Have number made) step = (Done, step)
  world_steps (Have_end number made) step = (Done, step)
  world_steps (Acked number epoch) step = (Done, step)
  world_steps (Acked_end number epoch) step = (Done, step)
  world_steps (On_duty duty) step = (Done, step)
  world_steps (Started_duty duty) step = (Done, step)
  world_steps (Told_status report) step = (Done, step)

  pub step_is_lawful : (told : Told) → IsLawful limits bounds w → IsStep limits bounds w event told v → IsLawful limits bounds v
  step_is_lawful told lawful step =
      let taken = world_steps told step in
      record {
        sound = step_is_sound (due_after limits) no_form bounds w v event taken.0 lawful.sound taken.1;
        within = within_of bounds v (step_within (due_after limits) no_form bounds w (within_from bounds w lawful.within) event taken.0 v taken.1);
      }

  pub step_only_grows : (told : Told) → IsLawful limits bounds w → IsStep limits bounds w event told v → Begins v.base.booked w.base.booked
  step_only_grows told lawful step =
      let taken = world_steps told step in
      step_grows (due_after limits) no_form bounds w v event taken.0 lawful.sound taken.1

pub lawful_is_legal : (limits : Limits) (bounds : Bounds) (w : World Entry) → IsLawful limits bounds w → IsLegal limits (entries w.base.booked)
lawful_is_legal limits bounds w lawful = legal_entries limits w.base.booked (history_is_legal (due_after limits) w lawful.sound)
