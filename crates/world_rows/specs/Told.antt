-- What is told of an event of the world.
use Rattle.std.specs.Prelude.{ℕ, Option}
use Rattle.ali_base.specs.declared.duty.Duty.{Duty}
use Rattle.ali_base.specs.declared.names.DiskName.{DiskName}
use Rattle.ali_base.specs.declared.names.NodeName.{NodeName}
use Rattle.office_state.specs.declared.due_fault.DueFault.{DueFault}
use Rattle.office_state.specs.declared.verdict.Verdict.{Verdict}
use Rattle.pair_world.specs.Refusals.{Refusal}

-- what the status tells: of a node that is down no length, and no pending entry where that is the holder
pub record Report : Type 0 where
  pub duty : Duty
  pub count : ℕ
  pub pending : Option ℕ
  pub length_a : Option ℕ
  pub length_b : Option ℕ

-- Refused: a refusal of the world. Not_due: the entry may not be booked next. Failed: the disk failed. Ready: the node's table is the one after the booked history. Behind to Have_end: what a delivery comes to, with the number that the acknowledgement got, 0 where it got none. Foreign and Damaged are told of a disk that is not honest: no row has them
pub data Told : Type 0 where
  Refused : (refusal : Refusal) → Told
  Not_due : (fault : DueFault) → Told
  Failed : (disk : DiskName) → Told
  Ready : Told
  Written : (number epoch : ℕ) → Told
  Booked : (number : ℕ) (verdict : Verdict) → Told
  Stopped : (node : NodeName) → Told
  Started : (node : NodeName) (len known : ℕ) → Told
  Sent : (message : ℕ) → Told
  Behind : (len number : ℕ) → Told
  Cut : (number : ℕ) → Told
  Stored : (number made : ℕ) → Told
  Have : (number made : ℕ) → Told
  Have_end : (number made : ℕ) → Told
  Acked : (number epoch : ℕ) → Told
  Acked_end : (number epoch : ℕ) → Told
  On_duty : (duty : Duty) → Told
  Started_duty : (duty : Duty) → Told
  Told_status : (report : Report) → Told
  Foreign : (disk : DiskName) → Told
  Damaged : (disk : DiskName) (frame : ℕ) → Told
