-- Replies to commands.
use Rattle.std.specs.Prelude.{ℕ, List}
use Rattle.batch_desk.specs.declared.job.Job.{Job}
use Rattle.batch_desk.specs.declared.reply_line.JobDone.{JobDone}
use Rattle.batch_desk.specs.declared.reply_line.JobRead.{JobRead}
use Rattle.batch_frame.specs.declared.fault.FrameFault.{FrameFault}
use Rattle.office_state.specs.OfficeState.{State}
use Rattle.sequence_once.specs.declared.standing.CycleFault.{CycleFault}
use Rattle.world_rows.specs.Told.{Told as WorldTold}

-- Told: what is told of an event of the world. Answer: the form of a number after so many entries. Reported: the text of a report after so many. Framing: the first fault of a file's frame. Standing: the fault of the standing of a file or an edit. No_job: nothing was read. Read: a job was read. Caught_up: the other node has the holder's journal, of this length. Complete: all entries of the job are booked. Finished: the same in this state, and of a file the error file follows
pub data Reply : Type 0 where
  Told : (told : WorldTold) → Reply
  Answer : (count : ℕ) (form : List ℕ) → Reply
  Reported : (count : ℕ) (text : List ℕ) → Reply
  Framing : (fault : FrameFault) → Reply
  Standing : (fault : CycleFault) → Reply
  No_job : Reply
  Read : (job : JobRead) → Reply
  Caught_up : (len : ℕ) → Reply
  Complete : (job : JobDone) → Reply
  Finished : (s : State) (job : Job) → Reply
