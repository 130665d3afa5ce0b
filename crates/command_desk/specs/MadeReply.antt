-- A command of the program as a command, and what the program tells as replies; and what a desk does.
use Rattle.std.specs.Prelude.{◌≡◌, List, [], ◌∷◌, ◌++◌, map, Option, Some, None, Result, Ok, Err}
use Rattle.ali_base.specs.declared.duty.Duty.{Duty}
use Rattle.ali_base.specs.declared.names.NodeName.{NodeName}
use Rattle.ali_base.specs.declared.names.NodeName.TheVariants as node
use Rattle.ali_base.specs.declared.no_memory.NoMemory.{NoMemory}
use Rattle.batch_desk.specs.Jobs.{job_standing}
use Rattle.batch_desk.specs.declared.job.Job.{Job}
use Rattle.command_machine.specs.Machine.{Moment, IsLawful, office_bounds}
use Rattle.command_machine.specs.Replies as replies
use Rattle.command_machine.specs.Steps.{Steps, StepsInPart}
use Rattle.command_machine.specs.Switches.{Switches}
use Rattle.command_desk.specs.declared.desk.Desk.{Desk}
use Rattle.command_desk.specs.declared.refusal.Refusal.{Refusal}
use Rattle.command_desk.specs.declared.refusal.Refusal.TheVariants as refusal
use Rattle.command_desk.specs.declared.reply.LeftBehind.{LeftBehind}
use Rattle.command_desk.specs.declared.reply.Replied.{Replied}
use Rattle.command_desk.specs.declared.reply.Reply.{Reply}
use Rattle.command_desk.specs.declared.reply.Reply.TheVariants as reply
use Rattle.crash_disk.specs.DiskState.{DiskState}
use Rattle.office_commands.specs.Commands as commands
use Rattle.office_commands.specs.declared.command.Command.{Command}
use Rattle.office_commands.specs.declared.command.Command.TheVariants.{Ask, Report, File, Edit, Write, Next, Batch, CatchUp, Order}
use Rattle.office_state.specs.OfficeState.{State, office_limits}
use Rattle.pair_core.specs.Pair.{Shows, bounds_of, counts_of, duty_of, is_node_up, is_up, sent_of, table_of as table_at}
use Rattle.pair_core.specs.PairAnswers.{delivered_told, fault_told, report_told}
use Rattle.pair_core.specs.declared.faults.PairFault.{PairFault}
use Rattle.pair_core.specs.declared.sent.Sent.{Sent}
use Rattle.pair_core.specs.declared.sent.Sent.TheVariants.{Shipment, Acknowledgement}
use Rattle.pair_world.specs.Refusals.{Ahead}
use Rattle.pair_world.specs.World.{other}
use Rattle.sequence_once.specs.declared.standing.Standing.TheVariants as standing
use Rattle.world_rows.specs.Counts.{Counts}
use Rattle.world_rows.specs.Told as told

abbrev pub command_of : Command → commands.Command
command_of (Ask ask) = commands.Ask ask.node ask.position ask.tn ask.since
command_of (Report node report) = commands.Report node report
command_of (File content) = commands.File content.now
command_of (Edit editor serial edit) = commands.Edit editor serial edit
command_of (Write node) = commands.Write node
command_of Next = commands.Next
command_of Batch = commands.Batch
command_of CatchUp = commands.Catch_up
command_of (Order order) = commands.Ordered order

-- a refusal of the pair as a reply; for want of memory there is none
abbrev pub fault_reply : PairFault → replies.Reply
fault_reply fault = told_or_ready (fault_told fault)
  where
    told_or_ready : Option told.Told → replies.Reply
    told_or_ready (Some t) = replies.Told t
    told_or_ready None = replies.Told told.Ready

abbrev pub refusal_reply : Refusal → replies.Reply
refusal_reply (refusal.Pair fault) = fault_reply fault
refusal_reply (refusal.Ahead since count) = replies.Told (told.Refused (Ahead since count))
refusal_reply (refusal.Frame fault) = replies.Framing fault
refusal_reply (refusal.Standing fault) = replies.Standing fault
refusal_reply refusal.NoJob = replies.No_job

-- the reply to a job that is complete
abbrev pub finished : State → Option Job → replies.Reply
finished s None = replies.No_job
finished s (Some job) = replies.Finished s job

-- the reply of a desk with this state and this job
abbrev pub reply_of : State → Option Job → Reply → replies.Reply
reply_of s job (reply.Refused refusal) = refusal_reply refusal
reply_of s job (reply.Answer count form) = replies.Answer count form
reply_of s job (reply.Reported count text) = replies.Reported count text.items
reply_of s job (reply.Read read) = replies.Read read
reply_of s job (reply.Complete done) = replies.Complete done
reply_of s job reply.Finished = finished s job
reply_of s job (reply.CaughtUp len) = replies.Caught_up len
reply_of s job (reply.Written number epoch) = replies.Told (told.Written number epoch)
reply_of s job (reply.Booked number code detail) = replies.Told (told.Booked number (record { code = code; detail = detail }))
reply_of s job (reply.Sent message) = replies.Told (told.Sent message)
reply_of s job (reply.Delivered delivered made) = replies.Told (delivered_told (delivered, made))
reply_of s job (reply.OnDuty duty) = replies.Told (told.On_duty duty)
reply_of s job (reply.StartedDuty duty) = replies.Told (told.Started_duty duty)
reply_of s job (reply.Stopped node) = replies.Told (told.Stopped node)
reply_of s job (reply.Started node len known) = replies.Told (told.Started node len known)
reply_of s job (reply.Status status) = replies.Told (report_told status)

-- that the other node was left behind: it was down or failed, and where the register could change, the holder is alone
abbrev pub duty_replies : Option Duty → List replies.Reply
duty_replies None = []
duty_replies (Some duty) = replies.Told (told.On_duty duty) ∷ []

abbrev pub left_replies : Option LeftBehind → List replies.Reply
left_replies None = []
left_replies (Some left) = fault_reply left.fault ∷ duty_replies left.duty

-- all that is told of a command
abbrev pub replies_of : State → Option Job → Replied → List replies.Reply
replies_of s job told = left_replies told.left ++ reply_of s job told.last ∷ []

-- this reply, and nothing before it
abbrev pub only : Result Reply NoMemory → Result Replied NoMemory
only (Ok told) = Ok (record { left = None; last = told })
only (Err e) = Err e

-- there is a job, and it is complete
abbrev pub IsFinished : State → Option Job → Type 0
IsFinished s None = ⊥
IsFinished s (Some job) = job_standing s job ≡ Ok standing.Complete

-- a desk that says that its job is finished has one that is
abbrev pub CanTell : State → Option Job → Reply → Type 0
CanTell s job reply.Finished = IsFinished s job
CanTell s job told = Unit {0}

-- the holder of the desk's duty, and the state of its table
abbrev pub holder_of : {D : Type 0} → Desk D → NodeName
holder_of desk = (duty_of desk.pair).holder

abbrev pub table_of : {D : Type 0} → Desk D → State
table_of desk = (table_at desk.pair (holder_of desk)).state

-- to which node a message goes
abbrev pub receiver_of : Sent → NodeName
receiver_of (Shipment sender message) = other sender
receiver_of (Acknowledgement to ack) = to

-- which of the register and the nodes are up, and what else decides on whom a command needs
abbrev pub switches_of : {D : Type 0} → Desk D → Switches
switches_of desk = record {
  register = is_up desk.pair;
  a = is_node_up desk.pair node.A;
  b = is_node_up desk.pair node.B;
  holder = holder_of desk;
  mode = (duty_of desk.pair).mode;
  receivers = map receiver_of (sent_of desk.pair);
}

-- how often each disk has failed
abbrev pub counts_at : {D : Type 0} → (D → DiskState) → Desk D → Counts
counts_at state desk = counts_of state desk.pair

-- The desk is at this moment of a machine.
pub record ShowsMachine {D : Type 0} (state : D → DiskState) (desk : Desk D) (m : Moment) : Type 0 where
  pub world : Shows state office_limits desk.pair m.machine.world
  pub job : desk.job ≡ m.machine.job
  pub counts : m.counts ≡ counts_at state desk
  pub bounds : bounds_of desk.pair ≡ office_bounds

-- What becomes of a command: it is done with these replies, or left on its way.
abbrev pub CarriedOut : Moment → commands.Command → Result (List replies.Reply) NoMemory → Moment → Type 0
CarriedOut m command (Ok told) now = Steps m command told now
CarriedOut m command (Err e) now = (told : List replies.Reply) × StepsInPart m command told now

-- what this desk tells
abbrev pub told_by : {D : Type 0} → Desk D → Result Replied NoMemory → Result (List replies.Reply) NoMemory
told_by desk (Ok told) = Ok (replies_of (table_of desk) desk.job told)
told_by desk (Err e) = Err e

-- From each lawful moment at which the desk was, the command leads to one at which it is now, and which is lawful too.
abbrev pub Carries : {D : Type 0} → (D → DiskState) → Desk D → Desk D → commands.Command → Result Replied NoMemory → Type 0
Carries state old new command result =
    (m : Moment) → ShowsMachine state old m → IsLawful m.machine
    → (now : Moment) × ShowsMachine state new now × IsLawful now.machine × CarriedOut m command (told_by new result) now
