-- How the formatting of the three disks ends, by the status. The register's disk is formatted first, then those of nodes a and b; the first that is not empty or fails ends it.
use Rattle.std.specs.Prelude.{◌≡◌, ℕ, ◌<◌, List, [], ◌∷◌, length, All, codes, Option, Some, Result, Ok, Err}
use Rattle.std.specs.Io.KnownBytes.{Appends, Keeps}
use Rattle.ali_base.specs.Duties.{first_duty}
use Rattle.ali_base.specs.Faults.{Rose}
use Rattle.ali_base.specs.WholePuts.{AppendsPart}
use Rattle.ali_base.specs.declared.names.DiskName.{DiskName}
use Rattle.ali_base.specs.declared.names.DiskName.TheVariants as disk
use Rattle.ali_base.specs.declared.names.NodeName.TheVariants.{A, B}
use Rattle.commit_log.specs.declared.formatting.FormatFault.{FormatFault}
use Rattle.commit_log.specs.declared.formatting.FormatFault.TheVariants as fault
use Rattle.crash_disk.specs.CrashOutcomes.{Stays}
use Rattle.crash_disk.specs.DiskState.{DiskState}
use Rattle.duty_register.specs.DutyState.{KeepsDuties}
use Rattle.node_journal.specs.JournalState.{KeepsFrames}
use Rattle.office_run.specs.Disks.{Disks, disk_in}
use Rattle.office_run.specs.declared.status.Status.{Status}
use Rattle.office_run.specs.declared.status.Status.TheVariants.{Done, SinkFault, OpenFault, NotEmpty}

-- what is put when the disks are formatted
abbrev pub formatted_text : List ℕ
formatted_text = codes "FORMATTED\n"

-- the disk holds what a format of that name writes, all of it synced: the first duty, or a journal without frames
abbrev pub IsNew : DiskName → DiskState → Type 0
IsNew disk.Duty s = KeepsDuties (first_duty ∷ []) s
IsNew disk.A s = KeepsFrames A [] s
IsNew disk.B s = KeepsFrames B [] s

-- an empty disk, which is formatted
abbrev pub IsFormatted : Disks → Disks → DiskName → Type 0
IsFormatted old new d = (image : List ℕ) → (disk_in old d).content ≡ Some image → (image ≡ []) × IsNew d (disk_in new d)

-- the disks before this one are formatted, those behind it are as they were
abbrev pub before : DiskName → List DiskName
before disk.Duty = []
before disk.A = disk.Duty ∷ []
before disk.B = disk.Duty ∷ disk.A ∷ []

abbrev pub behind : DiskName → List DiskName
behind disk.Duty = disk.A ∷ disk.B ∷ []
behind disk.A = disk.B ∷ []
behind disk.B = []

abbrev pub all_disks : List DiskName
all_disks = disk.Duty ∷ disk.A ∷ disk.B ∷ []

-- a disk that is as it was: no byte is changed, and it did not fail
abbrev pub IsSame : Disks → Disks → DiskName → Type 0
IsSame old new d = Stays (disk_in old d) (disk_in new d) × ((disk_in new d).faults ≡ (disk_in old d).faults)

-- The format stopped at this disk.
pub record StopsAt (old new : Disks) (d : DiskName) : Type 0 where
  pub formatted : All (IsFormatted old new) (before d)
  pub same : All (IsSame old new) (behind d)

-- what stopped the format: a disk that is not empty, which stays as it is; or a failure of a disk, whose count rose
abbrev pub Stopped : Disks → Disks → Status → Type 0
Stopped old new (OpenFault d) =
    Rose (disk_in old d).faults (disk_in new d).faults × StopsAt old new d
    × ((image : List ℕ) → (disk_in old d).content ≡ Some image → 0 < length image → Stays (disk_in old d) (disk_in new d))
Stopped old new (NotEmpty d) =
    Stays (disk_in old d) (disk_in new d) × StopsAt old new d
    × ((image : List ℕ) → (disk_in old d).content ≡ Some image → 0 < length image)
Stopped old new status = ⊥

-- all three are formatted, or a status says what stopped it
abbrev pub AreFormatted : Disks → Disks → Result (Unit {0}) Status → Type 0
AreFormatted old new (Ok done) = All (IsFormatted old new) all_disks
AreFormatted old new (Err status) = Stopped old new status

-- the status where the format of one disk ended so
abbrev pub ended : Result (Unit {0}) FormatFault → DiskName → Result (Unit {0}) Status
ended (Ok done) d = Ok tt
ended (Err fault.DiskFault) d = Err (OpenFault d)
ended (Err (fault.NotEmpty len)) d = Err (NotEmpty d)

-- Done: the disks were empty and are formatted, and the text is put; where the sink fails, a front of it. Otherwise nothing is put.
abbrev pub Formats : Disks → Disks → Option (List ℕ) → Option (List ℕ) → Status → Type 0
Formats old new held holds Done = All (IsFormatted old new) all_disks × Appends held holds formatted_text
Formats old new held holds SinkFault = All (IsFormatted old new) all_disks × AppendsPart held holds formatted_text
Formats old new held holds status = Stopped old new status × Keeps held holds
