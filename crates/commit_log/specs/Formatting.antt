-- When each answer of a format comes.
use Rattle.std.specs.Prelude.{◌≡◌, ◌≢◌, ℕ, ◌<◌, Bool, List, [], length, Result, Ok, Err, Some}
use Rattle.ali_base.specs.Faults.{Rose}
use Rattle.crash_disk.specs.DiskState.{DiskState}
use Rattle.crash_disk.specs.CrashOutcomes.{Stays}
use Rattle.commit_log.specs.LogState.{KeepsBodies}
use Rattle.commit_log.specs.declared.formatting.FormatFault.{FormatFault}
use Rattle.commit_log.specs.declared.formatting.FormatFault.TheVariants.{DiskFault, NotEmpty}

-- An empty disk then stands for no bodies, all of it synced. One that is not empty stays as it is, and its length is told. A failure comes only where the count of faults rose, and leaves a disk that is not empty as it was.
abbrev pub FormatAnswers : (ℕ → List ℕ → Bool) → List ℕ → DiskState → DiskState → Result (Unit {0}) FormatFault → Type 0
FormatAnswers is_body head old new (Ok x) = (f : List ℕ) → old.content ≡ Some f → (f ≡ []) × KeepsBodies is_body head [] new
FormatAnswers is_body head old new (Err DiskFault) =
    Rose old.faults new.faults × ((f : List ℕ) → old.content ≡ Some f → f ≢ [] → Stays old new)
FormatAnswers is_body head old new (Err (NotEmpty len)) = (0 < len) × Stays old new × ((f : List ℕ) → old.content ≡ Some f → len ≡ length f)
