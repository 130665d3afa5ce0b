-- What holds of the replies over any disks, also ones that tell nothing of their bytes: which nodes are up, and whether the register is, is what the replies before told.
use Rattle.std.specs.Prelude.{◌≡◌, ◌≢◌, ◌↔◌, ◌-◌, List, [], ◌∷◌, ◌++◌, All, slice_get, Bool, true, false, Option, Some, None, if◌then◌else◌}
use Rattle.ali_base.specs.declared.duty.Mode.{Mode}
use Rattle.ali_base.specs.declared.duty.Mode.TheVariants.{Both, Alone}
use Rattle.ali_base.specs.declared.names.DiskName.{DiskName}
use Rattle.ali_base.specs.declared.names.DiskName.TheVariants as disk
use Rattle.ali_base.specs.declared.names.NodeName.{NodeName}
use Rattle.batch_frame.specs.FrameFault.{frame_fault}
use Rattle.batch_frame.specs.declared.fault.FrameFault.{FrameFault}
use Rattle.office_commands.specs.Commands.{Command, Ask, Report, File, Edit, Write, Next, Batch, Catch_up, Ordered}
use Rattle.command_machine.specs.Replies.{Reply, Told}
use Rattle.office_commands.specs.declared.order.Order.{Order}
use Rattle.office_commands.specs.declared.order.Order.TheVariants as order
use Rattle.pair_world.specs.Refusals.{Down, Up, Short, disk_of}
use Rattle.pair_world.specs.World.{other}
use Rattle.world_rows.specs.Counts.{Counts, RoseAt}
use Rattle.world_rows.specs.Told.{Refused, Failed, Stopped, Started, Sent, Stored, Have, Have_end, On_duty, Started_duty, Foreign, Damaged}

-- which of the register and the two nodes are up; the duty's holder and mode; and to which node each message goes
pub record Switches : Type 0 where
  pub register : Bool
  pub a : Bool
  pub b : Bool
  pub holder : NodeName
  pub mode : Mode
  pub receivers : List NodeName

-- whether the register is up, or the disk's node
abbrev pub is_on : Switches → DiskName → Bool
is_on s disk.A = s.a
is_on s disk.B = s.b
is_on s disk.Duty = s.register

abbrev pub switched : Switches → DiskName → Bool → Switches
switched s disk.A on = record s { a = on }
switched s disk.B on = record s { b = on }
switched s disk.Duty on = record s { register = on }

-- the first of these that is down
abbrev pub first_off : Switches → List DiskName → Option DiskName
first_off s [] = None
first_off s (d ∷ more) = if is_on s d then first_off s more else Some d

-- the register, and this node
abbrev pub with_node : NodeName → List DiskName
with_node n = disk.Duty ∷ disk_of n ∷ []

-- the register, and the receiver of a message, where there is one
abbrev pub with_receiver : Option NodeName → List DiskName
with_receiver None = []
with_receiver (Some n) = with_node n

-- whom catching up needs besides: where the holder is alone, the other node
abbrev pub and_mirror : Mode → NodeName → List DiskName
and_mirror Alone holder = disk.Duty ∷ disk_of holder ∷ disk_of (other holder) ∷ []
and_mirror Both holder = with_node holder

-- whom a file needs, where its frame has no fault
abbrev pub where_framed : Option FrameFault → NodeName → List DiskName
where_framed None holder = with_node holder
where_framed (Some fault) holder = []

module _ (s : Switches) where
  -- whom an order needs
  abbrev pub needed_by_order : Order → List DiskName
  needed_by_order order.Book = with_node s.holder
  needed_by_order (order.Ship n number) = with_node n
  needed_by_order (order.Deliver message) = with_receiver (slice_get s.receivers (message - 1))
  needed_by_order (order.Take n) = with_node n
  needed_by_order order.Alone = with_node s.holder
  needed_by_order order.Pair = with_node s.holder
  needed_by_order (order.Stop n) = disk_of n ∷ []
  needed_by_order (order.Start n) = disk.Duty ∷ []
  needed_by_order order.StartDuty = []
  needed_by_order order.Status = disk.Duty ∷ []

  -- whom a command needs first, in this order: of these the first that is down is told
  abbrev pub needed_by : Command → List DiskName
  needed_by (Ask n position tn since) = with_node n
  needed_by (Report n report) = with_node n
  needed_by (File content) = where_framed (frame_fault content) s.holder
  needed_by (Edit editor serial edit) = with_node s.holder
  needed_by (Write n) = with_node n
  needed_by Next = with_node s.holder
  needed_by Batch = with_node s.holder
  needed_by Catch_up = and_mirror s.mode s.holder
  needed_by (Ordered order) = needed_by_order order

  -- a start that finds its node or the register up
  abbrev pub found_up : Command → Option DiskName
  found_up (Ordered (order.Start n)) = if s.register then (if is_on s (disk_of n) then Some (disk_of n) else None) else None
  found_up (Ordered order.StartDuty) = if s.register then Some disk.Duty else None
  found_up command = None

  -- the message that a delivery made, an acknowledgement, goes to the other node
  abbrev pub answered : Command → List NodeName
  answered (Ordered (order.Deliver message)) = back (slice_get s.receivers (message - 1))
    where
      back : Option NodeName → List NodeName
      back None = []
      back (Some n) = other n ∷ []
  answered command = []

  -- What a reply switches: a stop, a fault and a start that is refused by its disk have a node or the register down, a start has it up. A line of the duty tells holder and mode; a start of the register leaves them open, since its last change may have been in doubt. What is sent goes to the node that is not the holder.
  abbrev pub After : Command → Reply → Switches → Type 0
  After command (Told (Stopped n)) t = t ≡ switched s (disk_of n) false
  After command (Told (Failed d)) t = t ≡ switched s d false
  After command (Told (Foreign d)) t = t ≡ switched s d false
  After command (Told (Damaged d frame)) t = t ≡ switched s d false
  After command (Told (Refused (Short n have need))) t = t ≡ switched s (disk_of n) false
  After command (Told (Started n len known)) t = t ≡ switched s (disk_of n) true
  After command (Told (On_duty duty)) t = t ≡ record s { holder = duty.holder; mode = duty.mode }
  After command (Told (Started_duty duty)) t = t ≡ record s { register = true; holder = t.holder; mode = t.mode }
  After command (Told (Sent message)) t = t ≡ record s { receivers = s.receivers ++ other s.holder ∷ [] }
  After command (Told (Stored number made)) t = t ≡ record s { receivers = s.receivers ++ answered command }
  After command (Told (Have number made)) t = t ≡ record s { receivers = s.receivers ++ answered command }
  After command (Told (Have_end number made)) t = t ≡ record s { receivers = s.receivers ++ answered command }
  After command reply t = t ≡ s

-- after all that was told of a command
abbrev pub AfterAll : Command → Switches → List Reply → Switches → Type 0
AfterAll command s [] t = t ≡ s
AfterAll command s (reply ∷ more) t = (next : Switches) × After s command reply next × AfterAll command next more t

-- a failure is told only of a disk whose count of faults rose
abbrev pub HasFailed : Counts → Counts → Reply → Type 0
HasFailed before now (Told (Failed d)) = RoseAt before now d
HasFailed before now reply = Unit {0}

-- What is told of a command. `DOWN` alone is told exactly of the first that is down of those that the command needs; with more behind it, of the node that is not the holder, which is down. `UP` is told exactly where a start finds its node or the register up.
pub record IsSwitched (before now : Counts) (s : Switches) (command : Command) (told : List Reply) (t : Switches) : Type 0 where
  pub down : (d : DiskName) → (told ≡ Told (Refused (Down d)) ∷ []) ↔ (first_off s (needed_by s command) ≡ Some d)
  pub left : (d : DiskName) (more : List Reply) → told ≡ Told (Refused (Down d)) ∷ more → more ≢ []
      → (d ≡ disk_of (other s.holder)) × (is_on s d ≡ false)
  pub up : (d : DiskName) → (told ≡ Told (Refused (Up d)) ∷ []) ↔ (found_up s command ≡ Some d)
  pub failed : All (HasFailed before now) told
  pub after : AfterAll command s told t
