-- When a file is a job, and why a file or an edit is none.
use Rattle.std.specs.Prelude.{◌≡◌, ℕ, List, Some, None, Result, Err, IsOk}
use Rattle.batch_frame.specs.FrameFault.{frame_fault}
use Rattle.sequence_once.specs.declared.standing.Standing.{Standing}
use Rattle.sequence_once.specs.declared.standing.CycleFault.{CycleFault}
use Rattle.office_state.specs.OfficeState.{State}
use Rattle.batch_desk.specs.declared.job.Job.{Job}
use Rattle.batch_desk.specs.declared.job.Job.TheVariants.{File}
use Rattle.batch_desk.specs.declared.submit.SubmitFault.{SubmitFault}
use Rattle.batch_desk.specs.declared.submit.SubmitFault.TheVariants.{Frame, Due}
use Rattle.batch_desk.specs.FileJobs.{file_standing}
use Rattle.office_state.specs.Due.{standing_fault}

-- a file without a fault of its frame that has a standing is this job
abbrev pub IsJobOf : State → List ℕ → Job → Type 0
IsJobOf s bytes job = (job ≡ File bytes) × (frame_fault bytes ≡ None) × IsOk (file_standing s bytes)

-- a file: its frame has this fault, or else its standing is this fault
abbrev pub IsSubmitFault : State → List ℕ → SubmitFault → Type 0
IsSubmitFault s bytes (Frame fault) = frame_fault bytes ≡ Some fault
IsSubmitFault s bytes (Due fault) = (frame_fault bytes ≡ None) × ((f : CycleFault) × (file_standing s bytes ≡ Err f) × (fault ≡ standing_fault f))

-- the standing of an edit is this fault
abbrev pub IsEditFault : Result Standing CycleFault → SubmitFault → Type 0
IsEditFault standing (Frame fault) = ⊥
IsEditFault standing (Due fault) = (f : CycleFault) × (standing ≡ Err f) × (fault ≡ standing_fault f)
