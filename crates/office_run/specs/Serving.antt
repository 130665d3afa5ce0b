-- A desk of a run: its disks, what it shows once it is open, and how the run of a script at it ends.
use Rattle.std.specs.Prelude.{◌≡◌, ℕ, List, [], true, Option}
use Rattle.ali_base.specs.declared.names.DiskName.TheVariants as disk
use Rattle.ali_base.specs.declared.names.NodeName.TheVariants.{A, B}
use Rattle.command_desk.specs.MadeReply.{ShowsMachine}
use Rattle.command_desk.specs.declared.desk.Desk.{Desk}
use Rattle.command_machine.specs.Machine.{Moment, IsLawful}
use Rattle.crash_disk.specs.DiskState.{DiskState}
use Rattle.office_run.specs.Disks.{Disks, disks_of, IsHonest, IsFirst}
use Rattle.office_run.specs.Replied.{RepliedToAll, StoppedAt, RepliedInPart, RepliedToSome}
use Rattle.office_run.specs.declared.status.Status.{Status}
use Rattle.office_run.specs.declared.status.Status.TheVariants.{Done, SourceFault, SinkFault, Script, TooLong, OpenFault, Foreign, Damaged, Short, NoMemory}
use Rattle.pair_core.specs.Pair.{disk_at, is_node_up, is_up, sent_of}
use Rattle.pair_core.specs.declared.faults.OpenEnd.{OpenEnd}
use Rattle.pair_core.specs.declared.faults.OpenEnd.TheVariants as ends

-- the disks of a desk
abbrev pub disks_at : {D : Type 0} → (D → DiskState) → Desk D → Disks
disks_at state desk = disks_of state (disk_at desk.pair disk.A) (disk_at desk.pair disk.B) (disk_at desk.pair disk.Duty)

-- A desk before its first command: the register and the nodes are up and no message is sent, and over honest disks the desk shows the first machine, which is lawful.
pub record IsOpenDesk {D : Type 0} (state : D → DiskState) (desk : Desk D) : Type 0 where
  pub register : is_up desk.pair ≡ true
  pub a : is_node_up desk.pair A ≡ true
  pub b : is_node_up desk.pair B ≡ true
  pub sent : sent_of desk.pair ≡ []
  pub first : IsHonest (disks_at state desk)
      → (first : Moment) × IsFirst (disks_at state desk) first × ShowsMachine state desk first × IsLawful first.machine

-- how the run of a script that was read ends
abbrev pub Serves : Disks → Disks → List ℕ → (old new : Option (List ℕ)) → Status → Type 0
Serves before now script old new Done = RepliedToAll before now script old new
Serves before now script old new (Script k) = StoppedAt before now k script old new
Serves before now script old new SinkFault = RepliedInPart before now script old new
Serves before now script old new NoMemory = RepliedToSome before now script old new
Serves before now script old new status = ⊥

-- the status of a run whose disks were opened
abbrev pub IsServed : Status → Type 0
IsServed Done = Unit {0}
IsServed (Script k) = Unit {0}
IsServed SinkFault = Unit {0}
IsServed SourceFault = Unit {0}
IsServed TooLong = Unit {0}
IsServed NoMemory = Unit {0}
IsServed status = ⊥

-- the status of a run whose disks are not opened
abbrev pub end_status : OpenEnd → Status
end_status (ends.OpenFault disk) = OpenFault disk
end_status (ends.Foreign disk) = Foreign disk
end_status (ends.Damaged disk frame) = Damaged disk frame
end_status (ends.Short node have floor) = Short node have floor
end_status ends.NoMemory = NoMemory
