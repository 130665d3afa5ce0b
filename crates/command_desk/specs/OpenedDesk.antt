-- Opening and closing a desk, and what its commands keep over any disks.
use Rattle.std.specs.Prelude.{◌≡◌, None, Result, Ok, Err}
use Rattle.ali_base.specs.declared.no_memory.NoMemory.{NoMemory}
use Rattle.command_machine.specs.Switches.{IsSwitched}
use Rattle.command_desk.specs.MadeReply.{counts_at, replies_of, switches_of, table_of}
use Rattle.command_desk.specs.declared.desk.Desk.{Desk}
use Rattle.command_desk.specs.declared.reply.Replied.{Replied}
use Rattle.crash_disk.specs.DiskState.{DiskState}
use Rattle.node_journal.specs.declared.frame.TheConstants.{LAST_EPOCH, MOST_FRAMES}
use Rattle.office_commands.specs.Commands.{Command}
use Rattle.office_state.specs.OfficeState.{office_limits}
use Rattle.pair_core.specs.Pair.{IsCall, IsOpened}
use Rattle.pair_core.specs.Pair as pair
use Rattle.pair_core.specs.declared.faults.OpenEnd.{OpenEnd}

-- when each answer of an opening comes: the pair is opened, and nothing was read; or it is refused
abbrev pub OpenAnswers : {D : Type 0} → (D → DiskState) → (a b duty : D) → Result (Desk D) (D × D × D × OpenEnd) → Type 0
OpenAnswers state a b duty (Ok desk) = IsOpened state a b duty office_limits MOST_FRAMES LAST_EPOCH desk.pair × (desk.job ≡ None)
OpenAnswers state a b duty (Err back) = pair.IsRefused state a b duty MOST_FRAMES LAST_EPOCH back

-- the three disks, as they are
abbrev pub Closes : {D : Type 0} → Desk D → D × D × D → Type 0
Closes desk back = pair.Closes desk.pair back

-- What no command changes, over any disks: no count of faults falls, and no entry that is booked is lost.
abbrev pub Keeps : {D : Type 0} → (D → DiskState) → Desk D → Desk D → Type 0
Keeps state old new = IsCall state old.pair new.pair

-- What is told is what the nodes and the register, up or down, allow.
abbrev pub Switched : {D : Type 0} → (D → DiskState) → Desk D → Desk D → Command → Result Replied NoMemory → Type 0
Switched state old new command (Ok told) =
    IsSwitched (counts_at state old) (counts_at state new) (switches_of old) command (replies_of (table_of new) new.job told) (switches_of new)
Switched state old new command (Err e) = Unit {0}
