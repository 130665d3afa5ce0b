-- When each answer of a format comes.
use Rattle.std.specs.Prelude.{◌≡◌, ◌≢◌, ℕ, ◌<◌, List, [], length, Result, Ok, Err, Some}
use Rattle.ali_base.specs.Faults.{Rose}
use Rattle.ali_base.specs.declared.names.NodeName.{NodeName}
use Rattle.commit_log.specs.declared.formatting.FormatFault.{FormatFault}
use Rattle.commit_log.specs.declared.formatting.FormatFault.TheVariants.{DiskFault, NotEmpty}
use Rattle.crash_disk.specs.CrashOutcomes.{Stays}
use Rattle.crash_disk.specs.DiskState.{DiskState}
use Rattle.node_journal.specs.JournalState.{KeepsFrames}

-- An empty disk then stands for no frames, all of it synced. One that is not empty stays as it is, and its length is told. A failure comes only where the count of faults rose, and leaves a disk that is not empty as it was.
abbrev pub FormatAnswers : NodeName → DiskState → DiskState → Result (Unit {0}) FormatFault → Type 0
FormatAnswers name old new (Ok x) = (image : List ℕ) → old.content ≡ Some image → (image ≡ []) × KeepsFrames name [] new
FormatAnswers name old new (Err DiskFault) =
    Rose old.faults new.faults × ((image : List ℕ) → old.content ≡ Some image → image ≢ [] → Stays old new)
FormatAnswers name old new (Err (NotEmpty len)) = (0 < len) × Stays old new × ((image : List ℕ) → old.content ≡ Some image → len ≡ length image)
