-- What the parts of a change of duty change of a pair, and of a start of its register.
use Rattle.std.specs.Prelude.{◌≡◌, ℕ, Some, None, Result, is_ok}
use Rattle.ali_base.specs.declared.duty.Duty.{Duty}
use Rattle.crash_disk.specs.DiskState.{DiskState}
use Rattle.duty_register.specs.OpenRegister as register
use Rattle.duty_register.specs.declared.faults.RegisterFault.{RegisterFault}
use Rattle.node_journal.specs.declared.faults.DiskFault.{DiskFault}
use Rattle.pair_core.specs.Pair.{node_of}
use Rattle.pair_core.specs.PairChanges.{HasChanged}
use Rattle.pair_core.specs.PairNodes.{put}
use Rattle.pair_core.specs.declared.pair.Pair.{Pair}

-- The register may have changed, and which change of duty is in doubt, and nothing else.
pub record IsBesideRegister {D : Type 0} (old new : Pair D) : Type 0 where
  pub nodes : new.nodes ≡ old.nodes
  pub duty : new.duty ≡ old.duty
  pub count : new.count ≡ old.count
  pub acked : new.acked ≡ old.acked
  pub ended : new.ended ≡ old.ended
  pub messages : new.messages ≡ old.messages

-- The register changed to this duty, or its disk failed. The change is in doubt.
pub record IsWritten {D : Type 0} (state : D → DiskState) (old new : Pair D) (duty : Duty) (result : Result (Unit {0}) DiskFault) : Type 0 where
  pub register : HasChanged state old.register new.register duty result
  pub failed : new.failed ≡ Some duty
  pub beside : IsBesideRegister old new

-- The register was opened again, or was refused. What is in doubt stays so.
pub record IsRead {D : Type 0} (state : D → DiskState) (old new : Pair D) (result : Result (Unit {0}) RegisterFault) : Type 0 where
  pub answer : register.ReopenAnswers state old.register new.register result
  pub usable : register.is_usable new.register ≡ is_ok result
  pub fixed : register.IsFixed state old.register new.register
  pub failed : new.failed ≡ old.failed
  pub beside : IsBesideRegister old new

-- This duty is the present one, over so many booked entries: its holder knows it, no number is acknowledged, and no change is in doubt.
pub record HasEntered {D : Type 0} (old new : Pair D) (present : Duty) (booked : ℕ) : Type 0 where
  pub nodes : new.nodes ≡ put old.nodes present.holder (record (node_of old present.holder) { known = present.epoch })
  pub register : new.register ≡ old.register
  pub duty : new.duty ≡ present
  pub failed : new.failed ≡ None
  pub count : new.count ≡ booked
  pub acked : new.acked ≡ 0
  pub ended : new.ended ≡ 0
  pub messages : new.messages ≡ old.messages
