-- What stops a table from being made ready is never told as `READY`.
use Rattle.std.proofs.Common.{◌≡◌, ◌≢◌, inl, inr, sym, ◌∙◌, Option, Some, None}
use Rattle.ali_base.specs.declared.names.DiskName.{DiskName}
use Rattle.ali_base.specs.declared.names.NodeName.{NodeName}
use Rattle.command_machine.specs.CommandRows.{in_duty, learning, refused}
use Rattle.command_machine.specs.Machine.{Machine, Moment}
use Rattle.command_machine.specs.Replies as replies
use Rattle.command_desk.specs.DeskSteps.{IsGiven}
use Rattle.pair_world.specs.Refusals.{Refusal}
use Rattle.pair_world.proofs.Items.{none_some, some_is}
use Rattle.world_rows.specs.Counts.{Counts}
use Rattle.world_rows.specs.Rows.{Row, Always, Gives}
use Rattle.world_rows.specs.Told as world

refused_not_ready : (o : Option Refusal) (told : replies.Reply) → refused o ≡ Some told → told ≢ replies.Told world.Ready
refused_not_ready None told is = λ ready. none_some told is
refused_not_ready (Some r) told is = λ ready. apart r (some_is (replies.Told (world.Refused r)) told is ∙ ready)
  where
    apart : (r : Refusal) → replies.Told (world.Refused r) ≡ replies.Told world.Ready → ⊥
    apart r same = absurd (cc)

failed_not_ready : (d : DiskName) → replies.Told (world.Failed d) ≡ replies.Told world.Ready → ⊥
failed_not_ready d same = absurd (cc)

no_job_not_ready : replies.No_job ≡ replies.Told world.Ready → ⊥
no_job_not_ready same = absurd (cc)

row_not_ready : (before now : Counts) (m v : Machine) (n : NodeName) (told : replies.Reply)
    → Gives before now (λ (d : DiskName). replies.Told (world.Failed d)) m (in_duty m n (learning m n (Always replies.No_job))) told v → told ≢ replies.Told world.Ready
row_not_ready before now m v n told (inl g) = λ ready. refused_not_ready _ told g.0 ready
row_not_ready before now m v n told (inr (a, inl g)) = λ ready. refused_not_ready _ told g.0 ready
row_not_ready before now m v n told (inr (a, inr (b, inl g))) = λ ready. refused_not_ready _ told g.0 ready
row_not_ready before now m v n told (inr (a, inr (b, inr (c, inl g)))) = λ ready. failed_not_ready _ (sym g.0 ∙ ready)
row_not_ready before now m v n told (inr (a, inr (b, inr (c, inr g)))) = λ ready. no_job_not_ready (sym g.0 ∙ ready)

pub stops_not_ready : (m now : Moment) (n : NodeName) (told : replies.Reply)
    → ((rest : Row replies.Reply Machine) → IsGiven (in_duty m.machine n (learning m.machine n rest)) told m now) → told ≢ replies.Told world.Ready
stops_not_ready m now n told given = row_not_ready m.counts now.counts m.machine now.machine n told (given (Always replies.No_job)).gives
