-- How a run ends: what was taken of the source and put into the sink, what was done, and what the disks then hold, by the status.
use Rattle.std.specs.Prelude.{◌≡◌, ◌⊎◌, ℕ, ◌≤◌, List, length, true, Option, Some}
use Rattle.std.specs.Io.KnownBytes.{Keeps}
use Rattle.ali_base.specs.declared.names.DiskName.{DiskName}
use Rattle.ali_base.specs.declared.names.DiskName.TheVariants as disk
use Rattle.ali_base.specs.declared.names.NodeName.TheVariants.{A, B}
use Rattle.office_commands.specs.Commands.{Command}
use Rattle.command_machine.specs.Machine.{Moment}
use Rattle.ali_base.specs.declared.duty.Duty.{Duty}
use Rattle.crash_disk.specs.CrashOutcomes.{Stays}
use Rattle.crash_disk.specs.DiskState.{DiskState, AlwaysTell}
use Rattle.duty_register.specs.DutiesRead.{EndsWith}
use Rattle.duty_register.specs.DutyImage as duties
use Rattle.node_journal.specs.declared.frame.TheConstants.{LAST_EPOCH, MOST_FRAMES}
use Rattle.node_journal.specs.JournalImage.{StandsFor}
use Rattle.office_entry.specs.declared.entry.Entry.{Entry}
use Rattle.office_run.specs.Disks.{Disks, disk_in, IsHonest, IsFirst, IsLast}
use Rattle.office_run.specs.Replied.{RepliedToAll, StoppedAt, RepliedInPart, RepliedToSome}
use Rattle.office_run.specs.ScriptGrammar.{IsScript}
use Rattle.office_run.specs.ScriptInput.{TookAll, TookPart, TookSome, TookTooMany}
use Rattle.office_words.specs.Words.{is_generate}
use Rattle.office_run.specs.declared.input.TheConstants.{SCRIPT_LIMIT}
use Rattle.office_run.specs.declared.status.Status.{Status}
use Rattle.office_run.specs.declared.status.Status.TheVariants.{Done, Usage, SourceFault, SinkFault, Script, TooLong, OpenFault, Foreign, Damaged, NotEmpty, Short, NoMemory}
use Rattle.pair_core.specs.Pair.{OpenCause, OpenedBefore, length_at_opening}
use Rattle.pair_core.specs.declared.faults.OpenEnd.{OpenEnd}
use Rattle.pair_core.specs.declared.faults.OpenEnd.TheVariants as ends
use Rattle.pair_world.specs.Frames.{Frame}

-- No command was begun: over honest disks, the machine is at its first moment.
abbrev pub IsIdle : Disks → Disks → Type 0
IsIdle before now = IsHonest before → (first : Moment) × IsFirst before first × IsLast now first

-- memory ran out before the disks were open: whatever a crash may leave it could leave before; or while the source was read, and nothing was put; or in a command, and those before it have their replies
abbrev pub RanOut : Disks → Disks → (left left' old new : Option (List ℕ)) → Type 0
RanOut before now left left' old new =
    (((d : DiskName) → Stays (disk_in before d) (disk_in now d)) × Keeps left left' × Keeps old new)
    ⊎ ((IsIdle before now × TookSome left left' × Keeps old new)
    ⊎ ((script : List ℕ) × TookAll left left' script × RepliedToSome before now script old new))

-- what is not opened: no byte of the disks is changed, and nothing is taken or put
pub record IsUnopened (before now : Disks) (left left' old new : Option (List ℕ)) : Type 0 where
  pub stays : (d : DiskName) → Stays (disk_in before d) (disk_in now d)
  pub source : Keeps left left'
  pub sink : Keeps old new

-- left and left' are what the source had left before and after, old and new what the sink held
abbrev pub Exit : Disks → Disks → (left left' old new : Option (List ℕ)) → Status → Type 0
Exit before now left left' old new Done = (script : List ℕ) × TookAll left left' script × RepliedToAll before now script old new
Exit before now left left' old new (Script k) = (script : List ℕ) × TookAll left left' script × StoppedAt before now k script old new
Exit before now left left' old new SinkFault = (script : List ℕ) × TookAll left left' script × RepliedInPart before now script old new
Exit before now left left' old new NoMemory = RanOut before now left left' old new
Exit before now left left' old new SourceFault = TookPart left left' × Keeps old new × IsIdle before now
Exit before now left left' old new TooLong = TookTooMany left left' × Keeps old new × IsIdle before now
Exit before now left left' old new (OpenFault d) = IsUnopened before now left left' old new
Exit before now left left' old new (Foreign d) = IsUnopened before now left left' old new
Exit before now left left' old new (Damaged d frame) = IsUnopened before now left left' old new
Exit before now left left' old new (Short node have floor) = IsUnopened before now left left' old new
Exit before now left left' old new (NotEmpty d) = ⊥
Exit before now left left' old new Usage = ⊥

-- The disks show this end of an opening, and those that are opened before it were opened.
abbrev pub OpenedTo : {D : Type 0} → (D → DiskState) → (old new : DiskName → D) → OpenEnd → Type 0
OpenedTo state old new end = OpenCause state old new MOST_FRAMES LAST_EPOCH end × OpenedBefore state old MOST_FRAMES LAST_EPOCH end

-- Where the disks tell their bytes, they stand for two journals and for duties, within the limits; each journal is as long as the last duty asks.
abbrev pub AreOpened : {D : Type 0} → (D → DiskState) → (DiskName → D) → Type 0
AreOpened state old =
    (image_a image_b image_duty : List ℕ)
    → (state (old disk.A)).content ≡ Some image_a → (state (old disk.B)).content ≡ Some image_b → (state (old disk.Duty)).content ≡ Some image_duty
    → (a : List (Frame Entry)) × (b : List (Frame Entry)) × (list : List Duty) × (duty : Duty)
    × StandsFor A a image_a × StandsFor B b image_b × duties.StandsFor list image_duty × EndsWith list duty
    × (length a ≤ MOST_FRAMES) × (length b ≤ MOST_FRAMES) × (duty.epoch ≤ LAST_EPOCH)
    × (AlwaysTell state → (length_at_opening duty A ≤ length a) × (length_at_opening duty B ≤ length b))

-- Why each status of a run comes, by the disks: a fault only where its count rose; what its bytes show, where it tells them; and each other status only where those before it were opened. The register is opened first, then node a, then node b.
abbrev pub DiskCause : {D : Type 0} → (D → DiskState) → (old new : DiskName → D) → Status → Type 0
DiskCause state old new (OpenFault d) = OpenedTo state old new (ends.OpenFault d)
DiskCause state old new (Foreign d) = OpenedTo state old new (ends.Foreign d)
DiskCause state old new (Damaged d k) = OpenedTo state old new (ends.Damaged d k)
DiskCause state old new (Short node have floor) = OpenedTo state old new (ends.Short node have floor)
DiskCause state old new (NotEmpty d) = ⊥
DiskCause state old new Usage = ⊥
DiskCause state old new NoMemory = Unit {0}
DiskCause state old new status = AreOpened state old

-- each command has its reply, or memory ran out
abbrev pub IsDoneOrNoMemory : Status → Type 0
IsDoneOrNoMemory Done = Unit {0}
IsDoneOrNoMemory NoMemory = Unit {0}
IsDoneOrNoMemory status = ⊥

-- over honest disks, a script of the grammar within the limit is done where nothing fails
abbrev pub Completes : Option (List ℕ) → Disks → (source_failed sink_failed no_disk_failed : Type 0) → Status → Type 0
Completes left disks source_failed sink_failed no_disk_failed status =
    (script : List ℕ) (commands : List Command) → left ≡ Some script → IsScript script commands → length script ≤ SCRIPT_LIMIT
    → IsHonest disks → ¬ source_failed → ¬ sink_failed → no_disk_failed → IsDoneOrNoMemory status

-- words that are none of the forms: no status but that of wrong words; where three words follow `generate`, memory may run out before they are read
abbrev pub IsNoForm : List (List ℕ) → Status → Type 0
IsNoForm words status = (status ≡ Usage) ⊎ ((status ≡ NoMemory) × (is_generate words ≡ true))

-- the number that a program ends with
abbrev pub status_number : Status → ℕ
status_number Done = 0
status_number Usage = 2
status_number SourceFault = 3
status_number SinkFault = 4
status_number (Script k) = 5
status_number TooLong = 6
status_number (OpenFault d) = 7
status_number (Foreign d) = 8
status_number (Damaged d frame) = 8
status_number (NotEmpty d) = 8
status_number (Short node have floor) = 10
status_number NoMemory = 9
