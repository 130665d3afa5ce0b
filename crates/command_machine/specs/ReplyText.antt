-- The text of each reply: a line, and of some a block behind it.
use Rattle.std.specs.Prelude.{ℕ, List, [], ◌∷◌, ◌++◌, length, codes, Option, Some, None}
use Rattle.std.specs.Fmt.{decimal}
use Rattle.ali_base.specs.NodeNames.{node_text}
use Rattle.ali_base.specs.declared.duty.Mode.{Mode}
use Rattle.ali_base.specs.declared.duty.Mode.TheVariants as mode
use Rattle.ali_base.specs.declared.names.DiskName.{DiskName}
use Rattle.ali_base.specs.declared.names.DiskName.TheVariants as disk
use Rattle.batch_desk.specs.JobReplies.{job_reply}
use Rattle.batch_desk.specs.ReplyLines.{frame_line, refusal_line, read_line, done_line}
use Rattle.command_machine.specs.Replies.{Reply, Told, Answer, Reported, Framing, Standing, No_job, Read, Caught_up, Complete, Finished}
use Rattle.pair_world.specs.Refusals as refusal
use Rattle.text_line.specs.WordLines.{line_of}
use Rattle.world_rows.specs.Told as told

-- a disk by the name of its node, and the register's
abbrev pub disk_text : DiskName → List ℕ
disk_text disk.A = codes "a"
disk_text disk.B = codes "b"
disk_text disk.Duty = codes "duty"

abbrev pub mode_text : Mode → List ℕ
mode_text mode.Both = codes "BOTH"
mode_text mode.Alone = codes "ALONE"

-- a number, or the word for none
abbrev pub number_or : List ℕ → Option ℕ → List ℕ
number_or none None = none
number_or none (Some n) = decimal n

-- a word and a number; a word and two
abbrev pub number_line : List ℕ → ℕ → List ℕ
number_line word n = line_of (word ∷ decimal n ∷ [])

abbrev pub numbers_line : List ℕ → ℕ → ℕ → List ℕ
numbers_line word m n = line_of (word ∷ decimal m ∷ decimal n ∷ [])

-- the line of a refusal
abbrev pub refused_line : refusal.Refusal → List ℕ
refused_line (refusal.Down d) = line_of (codes "DOWN" ∷ disk_text d ∷ [])
refused_line (refusal.Up d) = line_of (codes "UP" ∷ disk_text d ∷ [])
refused_line (refusal.Out_of_duty node epoch holder) =
    line_of (codes "OUT" ∷ codes "OF" ∷ codes "DUTY" ∷ node_text node ∷ decimal epoch ∷ node_text holder ∷ [])
refused_line (refusal.Ahead since count) = numbers_line (codes "AHEAD") since count
refused_line (refusal.In_flight number) = line_of (codes "IN" ∷ codes "FLIGHT" ∷ decimal number ∷ [])
refused_line refusal.Not_due = []
refused_line (refusal.Full limit) = number_line (codes "FULL") limit
refused_line (refusal.No_entry number len) = line_of (codes "NO" ∷ codes "ENTRY" ∷ decimal number ∷ decimal len ∷ [])
refused_line (refusal.No_message number sent) = line_of (codes "NO" ∷ codes "MESSAGE" ∷ decimal number ∷ decimal sent ∷ [])
refused_line (refusal.Messages_full limit) = line_of (codes "MESSAGES" ∷ codes "FULL" ∷ decimal limit ∷ [])
refused_line (refusal.Stale epoch known) = numbers_line (codes "STALE") epoch known
refused_line refusal.No_flight = line_of (codes "NO" ∷ codes "FLIGHT" ∷ [])
refused_line (refusal.Unstored number epoch) = numbers_line (codes "UNSTORED") number epoch
refused_line (refusal.Not_paired epoch holder) = line_of (codes "NOT" ∷ codes "PAIRED" ∷ decimal epoch ∷ node_text holder ∷ [])
refused_line (refusal.Paired epoch holder) = line_of (codes "PAIRED" ∷ decimal epoch ∷ node_text holder ∷ [])
refused_line (refusal.Not_in_step ended due) =
    line_of (codes "NOT" ∷ codes "IN" ∷ codes "STEP" ∷ decimal ended ∷ decimal due ∷ [])
refused_line (refusal.Epoch_end epoch) = line_of (codes "EPOCH" ∷ codes "END" ∷ decimal epoch ∷ [])
refused_line (refusal.Short node have need) = line_of (codes "SHORT" ∷ node_text node ∷ decimal have ∷ decimal need ∷ [])

-- the line of what is told of an event; that a table is ready is not told, and of an entry that may not be booked its job's standing is
abbrev pub told_line : told.Told → List ℕ
told_line (told.Refused refusal) = refused_line refusal
told_line (told.Not_due fault) = []
told_line (told.Failed d) = line_of (codes "FAULT" ∷ disk_text d ∷ [])
told_line told.Ready = []
told_line (told.Written number epoch) = numbers_line (codes "WRITTEN") number epoch
told_line (told.Booked number verdict) = numbers_line (codes "BOOKED") number verdict.code
told_line (told.Stopped node) = line_of (codes "STOPPED" ∷ node_text node ∷ [])
told_line (told.Started node len known) = line_of (codes "STARTED" ∷ node_text node ∷ decimal len ∷ decimal known ∷ [])
told_line (told.Sent message) = number_line (codes "SENT") message
told_line (told.Behind len number) = numbers_line (codes "BEHIND") len number
told_line (told.Cut number) = number_line (codes "CUT") number
told_line (told.Stored number made) = numbers_line (codes "STORED") number made
told_line (told.Have number made) = numbers_line (codes "HAVE") number made
told_line (told.Have_end number made) = line_of (codes "HAVE" ∷ codes "END" ∷ decimal number ∷ decimal made ∷ [])
told_line (told.Acked number epoch) = numbers_line (codes "ACK") number epoch
told_line (told.Acked_end number epoch) = line_of (codes "ACK" ∷ codes "END" ∷ decimal number ∷ decimal epoch ∷ [])
told_line (told.On_duty duty) =
    line_of (codes "DUTY" ∷ decimal duty.epoch ∷ node_text duty.holder ∷ mode_text duty.mode ∷ decimal duty.floor ∷ [])
told_line (told.Started_duty duty) = line_of (codes "STARTED" ∷ codes "duty" ∷ decimal duty.epoch ∷ decimal duty.floor ∷ [])
told_line (told.Told_status report) =
    let duty = report.duty in
    line_of
    (codes "STATUS"
    ∷ decimal duty.epoch
    ∷ node_text duty.holder
    ∷ mode_text duty.mode
    ∷ decimal duty.floor
    ∷ decimal report.count
    ∷ number_or (codes "-") report.pending
    ∷ number_or (codes "down") report.length_a
    ∷ number_or (codes "down") report.length_b
    ∷ [])
told_line (told.Foreign d) = line_of (codes "FOREIGN" ∷ disk_text d ∷ [])
told_line (told.Damaged d frame) = line_of (codes "DAMAGED" ∷ disk_text d ∷ decimal frame ∷ [])

-- a reply's line; the reply to a finished job has its own
abbrev pub reply_line : Reply → List ℕ
reply_line (Told told) = told_line told
reply_line (Answer count form) = numbers_line (codes "ANSWER") count (length form)
reply_line (Reported count text) = numbers_line (codes "REPORT") count (length text)
reply_line (Framing fault) = frame_line fault
reply_line (Standing fault) = refusal_line fault
reply_line No_job = line_of (codes "NO" ∷ codes "JOB" ∷ [])
reply_line (Read job) = read_line job
reply_line (Caught_up len) = line_of (codes "CAUGHT" ∷ codes "UP" ∷ decimal len ∷ [])
reply_line (Complete job) = done_line job
reply_line (Finished s job) = []

-- what follows the line, if anything: a form, the text of a report, or all of the reply to a finished job
abbrev pub reply_block : Reply → List ℕ
reply_block (Answer count form) = form
reply_block (Reported count text) = text
reply_block (Finished s job) = job_reply s job
reply_block reply = []

unfoldable pub reply_text : Reply → List ℕ
reply_text reply = reply_line reply ++ reply_block reply

-- the text of replies, one after the other
abbrev pub text_of : List Reply → List ℕ
text_of [] = []
text_of (reply ∷ replies) = reply_text reply ++ text_of replies
