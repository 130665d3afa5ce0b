-- What BATCH finds: a job that is complete ends it, and any other is gone on with.
use Rattle.std.proofs.Common.{◌≡◌, inl, inr, Bool, true, refl, ap, sym, subst, Option, Some, None, Result, Ok, option_map}
use Rattle.ali_base.specs.declared.names.DiskName.{DiskName}
use Rattle.batch_desk.specs.Jobs.{job_standing}
use Rattle.batch_desk.specs.declared.job.Job.{Job}
use Rattle.pair_world.specs.Refusals.{Refusal}
use Rattle.pair_world.specs.World.{node_at}
use Rattle.pair_world.proofs.RowTests.{up_passes}
use Rattle.sequence_once.specs.declared.standing.CycleFault.{CycleFault}
use Rattle.sequence_once.specs.declared.standing.Standing.{Standing}
use Rattle.sequence_once.specs.declared.standing.Standing.TheVariants.{Complete}
use Rattle.world_rows.specs.Counts.{Counts}
use Rattle.world_rows.specs.Rows.{Row, Success, Gives}
use Rattle.world_rows.specs.Told as told
use Rattle.command_machine.specs.CommandRows.{refused, finished, found_row}
use Rattle.office_commands.specs.Commands.{Batch}
use Rattle.command_machine.specs.Courses.{First, row_of}
use Rattle.command_machine.specs.Laws.{IsUsable}
use Rattle.command_machine.specs.Machine.{Machine, holder_of, state_of}
use Rattle.command_machine.specs.Replies.{Reply, Told, Finished}

-- a refusal that does not hold is not told

pub shut : (o : Option Refusal) → o ≡ None → refused o ≡ None
shut o e = ap (λ (o : Option Refusal). refused o) e

pub event_shut : (o : Option Refusal) → o ≡ None → option_map Told (option_map told.Refused o) ≡ None
event_shut o e = ap (λ (o : Option Refusal). option_map Told (option_map told.Refused o)) e

module _ (before now : Counts) (m : Machine) (job : Job) (usable : IsUsable m) (has_job : m.job ≡ Some job) (lasted : Bool) where
  abbrev GivesIn : Row Reply Machine → Reply → Type 0
  GivesIn row reply = Gives before now (λ (disk : DiskName). Told (told.Failed disk)) m row reply m

  by_job : (reply : Reply) → GivesIn (found_row m true (Some job) (Success (Told told.Ready) m)) reply → GivesIn (row_of lasted m (First Batch)) reply
  unfolding row_of
  by_job reply gives = inr (
    shut _ (up_passes m.world.register_up _ usable.register),
    inr (
      shut _ (up_passes (node_at m.world.base.nodes (holder_of m)).up _ usable.up),
      subst (λ (o : Option Job). GivesIn (found_row m true o (Success (Told told.Ready) m)) reply) (sym has_job) gives,
    ),
  )

  -- a BATCH of a complete job finds it so
  pub finishes : job_standing (state_of m) job ≡ Ok Complete → GivesIn (row_of lasted m (First Batch)) (Finished (state_of m) job)
  finishes complete = by_job (Finished (state_of m) job) (inr (inl (ap (λ (r : Result Standing CycleFault). finished (state_of m) job r) complete, refl)))

  -- a job with a next entry is gone on with
  pub finds : finished (state_of m) job (job_standing (state_of m) job) ≡ None → GivesIn (row_of lasted m (First Batch)) (Told told.Ready)
  finds left = by_job (Told told.Ready) (inr (inr (left, (refl, refl))))
