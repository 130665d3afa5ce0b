-- What is told of a job: when it is read, and when it is complete.
use Rattle.std.specs.Prelude.{ℕ, ◌+◌, ◌==◌, not, List, [], ◌∷◌, ◌++◌, length, count_by, unwrap_or, Option, Some, None, Result, Ok, Err}
use Rattle.batch_frame.specs.FrameFault.{file_of}
use Rattle.error_files.specs.ErrorFile.{error_file}
use Rattle.sequence_once.specs.KeptCycles.{codes_of}
use Rattle.sequence_once.specs.SerialStanding.{EditRecord, last_edit}
use Rattle.sequence_once.specs.declared.standing.Standing.{Standing}
use Rattle.sequence_once.specs.declared.standing.Standing.TheVariants.{New, Resume, Complete}
use Rattle.sequence_once.specs.declared.standing.CycleFault.{CycleFault}
use Rattle.office_state.specs.OfficeState.{State}
use Rattle.batch_desk.specs.declared.job.Job.{Job}
use Rattle.batch_desk.specs.declared.job.Job.TheVariants.{File, Edit}
use Rattle.batch_desk.specs.declared.reply_line.JobRead.{JobRead}
use Rattle.batch_desk.specs.declared.reply_line.JobRead.TheVariants as read
use Rattle.batch_desk.specs.declared.reply_line.JobDone.{JobDone}
use Rattle.batch_desk.specs.declared.reply_line.JobDone.TheVariants as done
use Rattle.batch_desk.specs.FileJobs.{file_standing}
use Rattle.batch_desk.specs.ReplyLines.{done_line, errors_line}

-- the line that is next: 0 where the opening is, and one past the last where the file is complete
abbrev pub next_line : ℕ → Result Standing CycleFault → ℕ
next_line count (Ok New) = 0
next_line count (Ok (Resume line)) = line
next_line count (Ok Complete) = count + 1
next_line count (Err fault) = 0

-- what is told of a job that was read
abbrev pub read_of : State → Job → JobRead
read_of s (File bytes) =
    let file = file_of bytes in
    read.File (record { company = file.company; cycle = file.cycle; count = file.count; next = next_line file.count (file_standing s bytes) })
read_of s (Edit editor serial edit) = read.Edit editor serial

-- the codes that are kept for a file's cycle
abbrev pub kept_codes : State → List ℕ → List ℕ
kept_codes s bytes = let file = file_of bytes in unwrap_or (codes_of file.company file.cycle s.cycles.kept) []

-- what is told of an edit that is complete: what it got
abbrev pub edit_done : ℕ → ℕ → Option EditRecord → JobDone
edit_done editor serial None = done.Edit (record { editor = editor; serial = serial; code = 0; detail = 0 })
edit_done editor serial (Some e) = done.Edit (record { editor = editor; serial = serial; code = e.code; detail = e.detail })

-- what is told of a job that is complete; of a file, how many of its records were refused
abbrev pub done_of : State → Job → JobDone
done_of s (File bytes) =
    let file = file_of bytes in
    done.File (record { company = file.company; cycle = file.cycle; count = file.count; refused = count_by (λ code. not (code == 0)) (kept_codes s bytes) })
done_of s (Edit editor serial edit) = edit_done editor serial (last_edit editor s.edits)

-- an error file with its length before it and the end of a line behind it
abbrev pub sized : List ℕ → List ℕ
sized errors = errors_line (length errors) ++ errors ++ 10 ∷ []

-- what follows the line of a job that is complete: of a file, its error file by the codes that are kept for its cycle
abbrev pub done_block : State → Job → List ℕ
done_block s (File bytes) = sized (error_file (file_of bytes) (kept_codes s bytes))
done_block s (Edit editor serial edit) = []

-- the reply to a complete job
unfoldable pub job_reply : State → Job → List ℕ
job_reply s job = done_line (done_of s job) ++ done_block s job
