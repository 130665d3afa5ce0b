-- The course of a command: the events that it is made of. Most commands are one event. NEXT, BATCH and CATCHUP are several, and each reply says which event comes next, or that the command is over.
use Rattle.std.specs.Prelude.{ℕ, suc, List, [], ◌∷◌, length, Bool, true, false, nat_lt, Option, Some, None, if◌then◌else◌}
use Rattle.ali_base.specs.declared.names.DiskName.{DiskName}
use Rattle.ali_base.specs.declared.names.DiskName.TheVariants as disk
use Rattle.ali_base.specs.declared.names.NodeName.{NodeName}
use Rattle.ali_base.specs.declared.names.NodeName.TheVariants as node
use Rattle.catch_up.specs.CatchingUp.{number_after}
use Rattle.command_machine.specs.CommandRows.{command_row, write_row, event_row}
use Rattle.office_commands.specs.Commands.{Command, Next, Batch, Catch_up}
use Rattle.command_machine.specs.Machine.{Machine, holder_of, mirror_of, count_of, office_bounds}
use Rattle.command_machine.specs.Replies.{Reply, Told, Caught_up}
use Rattle.office_state.specs.OfficeState.{office_limits}
use Rattle.pair_core.specs.PairPassing.{pass_row}
use Rattle.pair_world.specs.Refusals.{Down, is_alone}
use Rattle.pair_world.specs.World.{holder_journal}
use Rattle.world_rows.specs.Rows.{Row}
use Rattle.world_rows.specs.Told.{Refused, Failed, Ready, Written, Booked, Behind, Cut, Stored, Have, Have_end, On_duty}
use Rattle.world_rows.specs.Told as tells
use Rattle.world_rows.specs.WorldRows.{alone_row, book_row}

-- First: the first event of a command. The others are those of NEXT, and of BATCH where this is true: the holder writes the next entry of the job; it is passed on to the other node; the holder goes on alone; it is booked. And of CATCHUP: this frame is passed on, or the end
pub data Event : Type 0 where
  First : (command : Command) → Event
  Writes : (batch : Bool) → Event
  Passes : (batch : Bool) → Event
  Goes_alone : (batch : Bool) → Event
  Books : (batch : Bool) → Event
  Catches_up : (number : ℕ) → Event

-- the row of an event
unfoldable pub row_of : Bool → Machine → Event → Row Reply Machine
row_of lasted m (First command) = command_row m lasted command
row_of lasted m (Writes batch) = write_row m (holder_of m)
row_of lasted m (Passes batch) = event_row m (pass_row office_limits m.world (suc (count_of m)))
row_of lasted m (Goes_alone batch) = event_row m (alone_row office_limits m.world office_bounds)
row_of lasted m (Books batch) = event_row m (book_row office_limits m.world)
row_of lasted m (Catches_up number) = event_row m (pass_row office_limits m.world number)

-- the pending entry is passed on in mode Both, and booked at once in mode Alone
abbrev pub passed_or_booked : Bool → Machine → Event
passed_or_booked batch m = if is_alone m.world.base.duty.mode then Books batch else Passes batch

-- an entry that is written already is not written again
abbrev pub written_or_passed : Bool → Machine → Event
written_or_passed batch m = if nat_lt (count_of m) (length (holder_journal m.world.base)) then passed_or_booked batch m else Writes batch

-- the disk is this node's
abbrev pub is_disk_of : NodeName → DiskName → Bool
is_disk_of node.A disk.A = true
is_disk_of node.B disk.B = true
is_disk_of n d = false

-- where the other node is down, or its disk fails, the holder goes on alone
abbrev pub without_mirror : Bool → Machine → DiskName → Option Event
without_mirror batch m d = if is_disk_of (mirror_of m) d then Some (Goes_alone batch) else None

-- what comes after a pass of NEXT and BATCH
abbrev pub after_pass : Bool → Machine → tells.Told → Option Event
after_pass batch m (Refused (Down d)) = without_mirror batch m d
after_pass batch m (Failed d) = without_mirror batch m d
after_pass batch m (Behind len number) = Some (Books batch)
after_pass batch m (Cut number) = Some (Books batch)
after_pass batch m (Stored number made) = Some (Books batch)
after_pass batch m (Have number made) = Some (Books batch)
after_pass batch m (Have_end number made) = Some (Books batch)
after_pass batch m told = None

-- what comes after a pass of CATCHUP
abbrev pub after_number : Option ℕ → Option Event
after_number None = None
after_number (Some number) = Some (Catches_up number)

-- the event after this reply, in the machine after it; any other reply ends the command
abbrev pub then_comes : Event → Machine → Reply → Option Event
then_comes (First Next) m (Told Ready) = Some (written_or_passed false m)
then_comes (First Batch) m (Told Ready) = Some (written_or_passed true m)
then_comes (First Catch_up) m (Told told) = after_number (number_after told)
then_comes (Writes batch) m (Told (Written number epoch)) = Some (passed_or_booked batch m)
then_comes (Passes batch) m (Told told) = after_pass batch m told
then_comes (Goes_alone batch) m (Told (On_duty duty)) = Some (Books batch)
then_comes (Books true) m (Told (Booked number verdict)) = Some (First Batch)
then_comes (Catches_up number) m (Told told) = after_number (number_after told)
then_comes event m reply = None

-- what is told of a pass: what goes well is not
abbrev pub told_of_pass : tells.Told → List Reply
told_of_pass (Behind len number) = []
told_of_pass (Cut number) = []
told_of_pass (Stored number made) = []
told_of_pass (Have number made) = []
told_of_pass (Have_end number made) = []
told_of_pass told = Told told ∷ []

-- what is told of a pass of CATCHUP: at the end, how long the journal is
abbrev pub told_of_catching_up : Machine → tells.Told → List Reply
told_of_catching_up m (Have_end number made) = Caught_up (length (holder_journal m.world.base)) ∷ []
told_of_catching_up m told = told_of_pass told

-- what is told of this reply: NEXT, BATCH and CATCHUP do not tell what goes well on their way
abbrev pub told_of : Event → Machine → Reply → List Reply
told_of (First Next) m (Told Ready) = []
told_of (First Batch) m (Told Ready) = []
told_of (First Catch_up) m (Told told) = told_of_catching_up m told
told_of (Writes batch) m (Told (Written number epoch)) = []
told_of (Passes batch) m (Told told) = told_of_pass told
told_of (Books true) m (Told (Booked number verdict)) = []
told_of (Catches_up number) m (Told told) = told_of_catching_up m told
told_of event m reply = reply ∷ []
