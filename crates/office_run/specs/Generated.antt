-- How a run of the generated script ends, by the status: what was done of it, what the disks then hold, and the summary.
use Rattle.std.specs.Prelude.{◌≡◌, ◌⊎◌, ℕ, ◌<◌, List, [], ◌∷◌, ◌++◌, length, codes, Option, Some}
use Rattle.std.specs.Fmt.{decimal}
use Rattle.std.specs.Io.KnownBytes.{Appends, Keeps}
use Rattle.ali_base.specs.WholePuts.{AppendsPart}
use Rattle.ali_base.specs.declared.duty.Duty.{Duty}
use Rattle.ali_base.specs.declared.names.DiskName.{DiskName}
use Rattle.ali_base.specs.declared.names.DiskName.TheVariants as disk
use Rattle.ali_base.specs.declared.names.NodeName.TheVariants.{A, B}
use Rattle.command_desk.specs.RefusedLines.{refused_lines}
use Rattle.command_machine.specs.Machine.{Moment}
use Rattle.command_machine.specs.Replies.{Reply}
use Rattle.command_machine.specs.ReplyText.{text_of}
use Rattle.command_machine.specs.Steps.{Replies, StepsInPart}
use Rattle.crash_disk.specs.CrashOutcomes.{Stays}
use Rattle.crash_disk.specs.DiskState.{DiskState, AlwaysTell}
use Rattle.duty_register.specs.DutyImage as duties
use Rattle.hex.specs.Hex.{encode_lower}
use Rattle.node_journal.specs.JournalImage.{StandsFor}
use Rattle.office_commands.specs.Commands.{Command}
use Rattle.office_entry.specs.declared.entry.Entry.{Entry}
use Rattle.office_run.specs.Disks.{Disks, disk_in, IsHonest, IsFirst, IsLast}
use Rattle.office_run.specs.Exit.{AreOpened, OpenedTo, IsDoneOrNoMemory}
use Rattle.office_run.specs.Replied.{AreSwitchedSince, all_of}
use Rattle.office_run.specs.declared.status.Status.{Status}
use Rattle.office_run.specs.declared.status.Status.TheVariants.{Done, Usage, SourceFault, SinkFault, Script, TooLong, OpenFault, Foreign, Damaged, NotEmpty, Short, NoMemory}
use Rattle.pair_core.specs.declared.faults.OpenEnd.TheVariants as ends
use Rattle.pair_world.specs.Frames.{Frame}
use Rattle.pair_world.specs.World.{opened_from}
use Rattle.sha2.specs.Sha256.{sha256}
use Rattle.text_line.specs.WordLines.{line_of}

-- how many entries are booked at a moment
abbrev pub booked_at : Moment → ℕ
booked_at m = length m.machine.world.base.booked

-- The summary: how many commands there were, how many entries are booked after them, how many lines are told as refused, and the SHA-256 of all replies as `run` puts them.
abbrev pub summary : (commands booked : ℕ) → List Reply → List ℕ
summary commands booked told =
    line_of (codes "COMMANDS" ∷ decimal commands ∷ [])
    ++ (line_of (codes "BOOKED" ∷ decimal booked ∷ [])
    ++ (line_of (codes "REFUSED" ∷ decimal (refused_lines told) ∷ [])
    ++ line_of (codes "DIGEST" ∷ encode_lower (sha256 (text_of told)) ∷ [])))

-- All commands are carried out. Over honest disks nothing was booked before them; these are the machine's replies, and so many entries are booked after them.
pub record IsFilled (before now : Disks) (commands : List Command) (told : List (List Reply)) (booked : ℕ) : Type 0 where
  pub switched : AreSwitchedSince before now commands told
  pub machine : IsHonest before
      → (first : Moment) × (last : Moment)
      × IsFirst before first × (booked_at first ≡ 0) × Replies first commands (all_of told) last × IsLast now last × (booked_at last ≡ booked)

-- what is done of the next of these commands: a prefix of its events; nothing where there is none
abbrev pub LeftOff : Moment → List Command → Moment → Type 0
LeftOff m [] now = now ≡ m
LeftOff m (next ∷ rest) now = (part : List Reply) × StepsInPart m next part now

-- Memory ran out: some of the commands are carried out, and of the next one a prefix of its events.
pub record IsFilledInPart (before now : Disks) (commands : List Command) : Type 0 where
  pub done : List Command
  pub rest : List Command
  pub all : commands ≡ done ++ rest
  pub told : List (List Reply)
  pub switched : AreSwitchedSince before now done told
  pub machine : IsHonest before
      → (first : Moment) × (whole : Moment) × (last : Moment)
      × IsFirst before first × (booked_at first ≡ 0) × Replies first done (all_of told) whole × LeftOff whole rest last × IsLast now last

-- something is booked before any command, and nothing is done
abbrev pub IsInUse : Disks → Disks → Type 0
IsInUse before now = IsHonest before → (first : Moment) × IsFirst before first × (0 < booked_at first) × IsLast now first

-- no byte of the disks is changed, and nothing is put
abbrev pub IsUntouched : Disks → Disks → (old new : Option (List ℕ)) → Type 0
IsUntouched before now old new = ((d : DiskName) → Stays (disk_in before d) (disk_in now d)) × Keeps old new

-- old and new are what the sink held before and after
abbrev pub Generates : Disks → Disks → List Command → (old new : Option (List ℕ)) → Status → Type 0
Generates before now commands old new Done =
    (told : List (List Reply)) × (booked : ℕ)
    × IsFilled before now commands told booked × Appends old new (summary (length commands) booked (all_of told))
Generates before now commands old new SinkFault =
    (told : List (List Reply)) × (booked : ℕ)
    × IsFilled before now commands told booked × AppendsPart old new (summary (length commands) booked (all_of told))
Generates before now commands old new NoMemory = IsUntouched before now old new ⊎ (IsFilledInPart before now commands × Keeps old new)
Generates before now commands old new (NotEmpty disk.A) = IsUntouched before now old new × IsInUse before now
Generates before now commands old new (NotEmpty disk.B) = ⊥
Generates before now commands old new (NotEmpty disk.Duty) = ⊥
Generates before now commands old new (OpenFault d) = IsUntouched before now old new
Generates before now commands old new (Foreign d) = IsUntouched before now old new
Generates before now commands old new (Damaged d frame) = IsUntouched before now old new
Generates before now commands old new (Short node have floor) = IsUntouched before now old new
Generates before now commands old new Usage = ⊥
Generates before now commands old new SourceFault = ⊥
Generates before now commands old new (Script k) = ⊥
Generates before now commands old new TooLong = ⊥

-- Where disks always tell their bytes, they stand for journals and duties over which so many entries are booked when they are opened.
abbrev pub BookedAtOpening : {D : Type 0} → (D → DiskState) → (DiskName → D) → (ℕ → Type 0) → Type 0
BookedAtOpening state old P =
    AlwaysTell state
    → (image_a image_b image_duty : List ℕ)
    → (state (old disk.A)).content ≡ Some image_a → (state (old disk.B)).content ≡ Some image_b → (state (old disk.Duty)).content ≡ Some image_duty
    → (a : List (Frame Entry)) × (b : List (Frame Entry)) × (list : List Duty)
    × StandsFor A a image_a × StandsFor B b image_b × duties.StandsFor list image_duty
    × P (length (opened_from list a b).booked)

-- Why each status comes, by the disks: the same as of a run; and a script is run where nothing is booked, and refused where something is.
abbrev pub GeneratesFor : {D : Type 0} → (D → DiskState) → (old new : DiskName → D) → Status → Type 0
GeneratesFor state old new Done = AreOpened state old × BookedAtOpening state old (λ n. n ≡ 0)
GeneratesFor state old new SinkFault = AreOpened state old × BookedAtOpening state old (λ n. n ≡ 0)
GeneratesFor state old new (NotEmpty d) = AreOpened state old × BookedAtOpening state old (λ n. 0 < n)
GeneratesFor state old new NoMemory = Unit {0}
GeneratesFor state old new (OpenFault d) = OpenedTo state old new (ends.OpenFault d)
GeneratesFor state old new (Foreign d) = OpenedTo state old new (ends.Foreign d)
GeneratesFor state old new (Damaged d k) = OpenedTo state old new (ends.Damaged d k)
GeneratesFor state old new (Short node have floor) = OpenedTo state old new (ends.Short node have floor)
GeneratesFor state old new status = ⊥

-- the same by the count: a script is run where it is 0, and refused where it is not
abbrev pub IsByCount : ℕ → Status → Type 0
IsByCount n Done = n ≡ 0
IsByCount n SinkFault = n ≡ 0
IsByCount n NoMemory = Unit {0}
IsByCount n (NotEmpty d) = 0 < n
IsByCount n status = ⊥

-- nothing is booked when the disks are opened
abbrev pub IsUnused : Disks → Type 0
IsUnused disks = (first : Moment) → IsFirst disks first → booked_at first ≡ 0

-- over honest disks on which nothing is booked, all is done where nothing fails
abbrev pub GeneratesAll : Disks → (sink_failed no_disk_failed : Type 0) → Status → Type 0
GeneratesAll disks sink_failed no_disk_failed status = IsHonest disks → IsUnused disks → ¬ sink_failed → no_disk_failed → IsDoneOrNoMemory status
