-- What the parts of a call change of a pair.
use Rattle.std.specs.Prelude.{◌≡◌, ◌⊎◌, ℕ, ◌<◌, List, Some, Result, Ok, Err, OnOk, true}
use Rattle.ali_base.specs.Duties.{next_duty}
use Rattle.ali_base.specs.Faults.{Rose}
use Rattle.ali_base.specs.declared.duty.Duty.{Duty}
use Rattle.ali_base.specs.declared.duty.Mode.{Mode}
use Rattle.ali_base.specs.declared.duty.Mode.TheVariants.{Both, Alone}
use Rattle.ali_base.specs.declared.names.NodeName.{NodeName}
use Rattle.crash_disk.specs.DiskState.{DiskState}
use Rattle.duty_register.specs.DutyState.{with_duty}
use Rattle.duty_register.specs.OpenRegister as register
use Rattle.duty_register.specs.declared.register.Register.{Register}
use Rattle.node_journal.specs.declared.faults.DiskFault.{DiskFault}
use Rattle.pair_world.specs.Refusals.{disk_of}
use Rattle.pair_node.specs.LearnedEntries.{Learns}
use Rattle.pair_core.specs.Pair.{node_of, duty_of, bounds_of}
use Rattle.pair_core.specs.PairNodes.{put}
use Rattle.pair_node.specs.StartedNode.{IsStopped}
use Rattle.pair_node.specs.declared.faults.LearnFault.{LearnFault}
use Rattle.pair_node.specs.declared.faults.LearnFault.TheVariants as learning
use Rattle.pair_core.specs.declared.faults.PairFault.{PairFault}
use Rattle.pair_core.specs.declared.faults.PairFault.TheVariants as fault
use Rattle.pair_core.specs.declared.pair.Pair.{Pair}

-- One node may have changed, and nothing else.
pub record IsBesideNode {D : Type 0} (old new : Pair D) (n : NodeName) : Type 0 where
  pub nodes : new.nodes ≡ put old.nodes n (node_of new n)
  pub register : new.register ≡ old.register
  pub duty : new.duty ≡ old.duty
  pub failed : new.failed ≡ old.failed
  pub count : new.count ≡ old.count
  pub acked : new.acked ≡ old.acked
  pub ended : new.ended ≡ old.ended
  pub messages : new.messages ≡ old.messages

-- The node learned, and nothing else changed.
abbrev pub IsLearned : {D : Type 0} → (D → DiskState) → Pair D → Pair D → NodeName → Type 0
IsLearned state old new n = Learns state (node_of old n) (node_of new n) × IsBesideNode old new n

-- How a fault of learning is told: a failure of the disk has the node down already; a frame that is not its entry, or not one that may be booked, stops it.
abbrev pub NotLearnedAt : {D : Type 0} → Pair D → Pair D → NodeName → LearnFault → PairFault → Type 0
NotLearnedAt old new n learning.DiskFault told = (told ≡ fault.Fault (disk_of n)) × (new ≡ old)
NotLearnedAt old new n (learning.Changed frame) told =
    (told ≡ fault.Damaged (disk_of n) frame) × IsStopped (node_of old n) (node_of new n) × IsBesideNode old new n
NotLearnedAt old new n (learning.NotDue frame) told =
    (told ≡ fault.Damaged (disk_of n) frame) × IsStopped (node_of old n) (node_of new n) × IsBesideNode old new n
NotLearnedAt old new n learning.NoMemory told = (told ≡ fault.NoMemory) × (new ≡ old)

-- The duty may change to one of this holder in this mode: from Both to Alone, or from Alone to Both with its holder; and an epoch is left.
pub record MayChange {D : Type 0} (pair : Pair D) (holder : NodeName) (mode : Mode) : Type 0 where
  pub modes : (((duty_of pair).mode ≡ Both) × (mode ≡ Alone)) ⊎ (((duty_of pair).mode ≡ Alone) × (mode ≡ Both) × (holder ≡ (duty_of pair).holder))
  pub epochs_left : (duty_of pair).epoch < (bounds_of pair).last_epoch

-- What a change of duty leaves: the new duty, which its holder knows, with no number acknowledged; or the old one, and the change is in doubt.
abbrev pub ChangeLeaves : {D : Type 0} → (D → DiskState) → Pair D → Pair D → Duty → Result Duty PairFault → Type 0
ChangeLeaves state old new duty (Ok changed) =
    (new.nodes ≡ put old.nodes duty.holder (record (node_of old duty.holder) { known = duty.epoch }))
    × (new.acked ≡ 0) × (new.ended ≡ 0)
    × ((list : List Duty) → register.Represents state old.register list → register.Represents state new.register (with_duty list duty))
ChangeLeaves state old new duty (Err refusal) =
    (new.nodes ≡ old.nodes) × (new.acked ≡ old.acked) × (new.ended ≡ old.ended) × (new.failed ≡ Some duty)

-- The register changes the duty, or its disk failed. A crash at any moment leaves the duties from before, with the new one or without.
pub record IsChange {D : Type 0} (state : D → DiskState) (old new : Pair D) (duty : Duty) (result : Result Duty PairFault) : Type 0 where
  pub leaves : ChangeLeaves state old new duty result
  pub moments : register.CrashesBetween state duty old.register new.register
  pub fixed : register.IsFixed state old.register new.register
  pub messages : new.messages ≡ old.messages

-- The duty follows the register's present one, in the other mode: taken by a node, or paired by its holder; and an epoch is left.
pub record MayFollow {D : Type 0} (old : Register D) (duty : Duty) : Type 0 where
  pub follows : duty ≡ next_duty (register.duty_of old) duty.holder duty.mode duty.floor
  pub alone : duty.mode ≡ Alone → (register.duty_of old).mode ≡ Both
  pub both : duty.mode ≡ Both → ((register.duty_of old).mode ≡ Alone) × (duty.holder ≡ (register.duty_of old).holder)
  pub epochs_left : (register.duty_of old).epoch < register.last_epoch_of old

-- what the register then tells; where its disk failed, the old duty
abbrev pub TellsDuty : {D : Type 0} → (D → DiskState) → Register D → Register D → Duty → Result (Unit {0}) DiskFault → Type 0
TellsDuty state old new duty (Ok done) = (register.duty_of new ≡ duty) × (register.is_usable new ≡ true)
TellsDuty state old new duty (Err failed) =
    (register.duty_of new ≡ register.duty_of old) × Rose (state (register.disk_of old)).faults (state (register.disk_of new)).faults

-- The register has one duty more, or its disk failed. A crash at any moment leaves the duties from before, with the new one or without.
pub record HasChanged {D : Type 0} (state : D → DiskState) (old new : Register D) (duty : Duty) (result : Result (Unit {0}) DiskFault) : Type 0 where
  pub tells : TellsDuty state old new duty result
  pub stored : (list : List Duty) → register.Represents state old list → OnOk result (register.Represents state new (with_duty list duty))
  pub moments : register.CrashesBetween state duty old new
  pub fixed : register.IsFixed state old new
