-- Jobs: what was read last, and is to be booked: a carrier's file, or an editor's edit.
use Rattle.std.specs.Prelude.{◌≡◌, List, length, None, Result, IsSome}
use Rattle.sequence_once.specs.KeptCycles.{IsSound, codes_of}
use Rattle.sequence_once.specs.SerialStanding.{last_edit, last_serial}
use Rattle.ali_base.specs.Editors.{IsEditor, IsSerial}
use Rattle.ali_base.specs.declared.editor.TheConstants.{EDITORS}
use Rattle.batch_frame.specs.FrameFault.{frame_fault, file_of}
use Rattle.sequence_once.specs.declared.standing.Standing.{Standing}
use Rattle.sequence_once.specs.declared.standing.CycleFault.{CycleFault}
use Rattle.office_entry.specs.Edits.{IsEdit}
use Rattle.office_entry.specs.declared.entry.Entry.{Entry}
use Rattle.office_entry.specs.declared.entry.Entry.TheVariants as entry
use Rattle.office_state.specs.declared.due_fault.DueFault.{DueFault}
use Rattle.office_state.specs.OfficeState.{State}
use Rattle.batch_desk.specs.declared.job.Job.{Job}
use Rattle.batch_desk.specs.declared.job.Job.TheVariants.{File, Edit}
use Rattle.batch_desk.specs.FileJobs.{file_standing, next_by, left_by}
use Rattle.batch_desk.specs.EditJobs.{edit_standing, next_edit, left_edit}

-- what a job is: a file without a fault of its frame; an editor, a serial and an edit in their ranges
abbrev pub IsJob : Job → Type 0
IsJob (File bytes) = frame_fault bytes ≡ None
IsJob (Edit editor serial edit) = IsEditor editor × IsSerial serial × IsEdit edit

-- what a job is to the state
abbrev pub job_standing : State → Job → Result Standing CycleFault
job_standing s (File bytes) = file_standing s bytes
job_standing s (Edit editor serial edit) = edit_standing s editor serial edit

-- the entry of a job that may be booked next, or why there is none
abbrev pub next_of : State → Job → Result Entry DueFault
next_of s (File bytes) = next_by bytes (file_standing s bytes)
next_of s (Edit editor serial edit) = next_edit (entry.Edit editor serial edit) (edit_standing s editor serial edit)

-- all entries that are left of a job
abbrev pub entries_left : State → Job → List Entry
entries_left s (File bytes) = left_by bytes (file_standing s bytes)
entries_left s (Edit editor serial edit) = left_edit (entry.Edit editor serial edit) (edit_standing s editor serial edit)

-- what was booked of a job is still kept: the cycle of a file, and an edit as its editor's last
abbrev pub IsStillKept : State → Job → Type 0
IsStillKept s (File bytes) = let file = file_of bytes in IsSome (codes_of file.company file.cycle s.cycles.kept)
IsStillKept s (Edit editor serial edit) = last_serial (last_edit editor s.edits) ≡ serial

-- what the next entry of a job rests on: for a file sound cycles, for an edit a place for its editor
abbrev pub IsReady : State → Job → Type 0
IsReady s (File bytes) = IsSound s.cycles
IsReady s (Edit editor serial edit) = (length s.edits ≡ EDITORS) × IsEditor editor
