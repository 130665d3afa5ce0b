-- What a crash leaves of a disk whose bytes stay, and how long a node's journal is.
use Rattle.std.proofs.Common.{◌≡◌, ℕ, ◌≤◌, ◌⊎◌, inl, inr, List, length, ap, ◌∙◌, arith}
use Rattle.crash_disk.specs.CrashOutcomes.{Stays}
use Rattle.crash_disk.specs.DiskState.{DiskState, IsSound}
use Rattle.crash_disk.specs.Moments.{EachMoment}
use Rattle.node_journal.proofs.Represented.{length-epochs}
use Rattle.office_entry.specs.declared.entry.Entry.{Entry}
use Rattle.office_state.specs.declared.limits.Limits.{Limits}
use Rattle.pair_world.specs.Frames.{Frame}
use Rattle.pair_node.specs.NodeState as node
use Rattle.pair_node.specs.declared.node.Node.{Node}

-- from one state of a disk to another that tells the same bytes, a crash leaves what it might leave before
pub quiet : (old new : DiskState) (P : List ℕ → Type 0) → IsSound old → Stays old new → ((image : List ℕ) → old.may_leave image → P image) → EachMoment old new P
quiet old new P sound stays holds = record {
  later = stays.on.later;
  each = λ image left. by_time image (stays.on.nothing_else old.moment image (omega arith) left);
  before = λ t image le left. past_or t image (stays.on.nothing_else t image le left);
}
  where
    by_time : (image : List ℕ) → old.left_since old.moment image ⊎ new.may_leave image → P image
    by_time image (inl past) = holds image (sound.only_now image past)
    by_time image (inr now) = holds image (stays.crash image now)

    past_or : (t : ℕ) (image : List ℕ) → old.left_since t image ⊎ new.may_leave image → old.left_since t image ⊎ P image
    past_or t image (inl past) = inl past
    past_or t image (inr now) = inr (holds image (stays.crash image now))

-- how many frames the journal has
pub long_as : {D : Type 0} (state : D → DiskState) (limits : Limits) (n : Node D) (frames : List (Frame Entry)) → node.Represents state limits n frames → node.count_of n ≡ length frames
long_as state limits n frames shown = ap length shown.journal.known ∙ length-epochs frames
