-- How many lines of carriers' files are told as refused.
use Rattle.std.specs.Prelude.{ℕ, ◌+◌, List, [], ◌∷◌}
use Rattle.batch_desk.specs.JobReplies.{done_of}
use Rattle.batch_desk.specs.declared.reply_line.JobDone.{JobDone}
use Rattle.batch_desk.specs.declared.reply_line.JobDone.TheVariants as done
use Rattle.command_machine.specs.Replies.{Reply, Complete, Finished}

-- of a job that is complete
abbrev pub refused_in : JobDone → ℕ
refused_in (done.File file) = file.refused
refused_in (done.Edit edit) = 0

-- by a reply: only that to a complete job tells any
abbrev pub refused_by : Reply → ℕ
refused_by (Complete job) = refused_in job
refused_by (Finished s job) = refused_in (done_of s job)
refused_by reply = 0

-- by replies, together
abbrev pub refused_lines : List Reply → ℕ
refused_lines [] = 0
refused_lines (reply ∷ replies) = refused_by reply + refused_lines replies
