-- What the parts of a desk do: each is an event of the machine, or a part of one, or some events.
use Rattle.std.specs.Prelude.{◌≡◌, ◌≢◌, ◌⊎◌, ◌<◌, ℕ, ◌+◌, ◌^◌, List, [], ◌∷◌, All, Bool, true, false, Option, Some, None, Result, Ok, Err}
use Rattle.ali_base.specs.declared.duty.Duty.{Duty}
use Rattle.ali_base.specs.declared.duty.Mode.TheVariants.{Alone}
use Rattle.ali_base.specs.declared.names.DiskName.{DiskName}
use Rattle.ali_base.specs.declared.names.NodeName.{NodeName}
use Rattle.ali_base.specs.declared.no_memory.NoMemory.{NoMemory}
use Rattle.batch_desk.specs.Jobs.{job_standing, next_of}
use Rattle.batch_desk.specs.declared.job.Job.{Job}
use Rattle.command_machine.specs.CommandRows.{in_duty, learning, not_next}
use Rattle.command_machine.specs.Courses.{Event, First, Goes_alone, Books, row_of, passed_or_booked, is_disk_of}
use Rattle.command_machine.specs.Machine.{Machine, Moment, IsLawful, state_of}
use Rattle.command_machine.specs.Replies as replies
use Rattle.command_machine.specs.Steps.{Course, Runs, begun}
use Rattle.command_machine.specs.Switches.{After, AfterAll, HasFailed, is_on}
use Rattle.command_desk.specs.MadeReply.{ShowsMachine, CanTell, counts_at, fault_reply, holder_of, left_replies, replies_of, reply_of, switches_of, table_of}
use Rattle.command_desk.specs.declared.desk.Desk.{Desk}
use Rattle.command_desk.specs.declared.refusal.Refusal.TheVariants as refusal
use Rattle.command_desk.specs.declared.reply.LeftBehind.{LeftBehind}
use Rattle.command_desk.specs.declared.reply.Replied.{Replied}
use Rattle.command_desk.specs.declared.reply.Reply.{Reply}
use Rattle.command_desk.specs.declared.reply.Reply.TheVariants as reply
use Rattle.command_desk.specs.declared.writing.Outcome.{Outcome}
use Rattle.command_desk.specs.declared.writing.Outcome.TheVariants.{Booked, Ended}
use Rattle.command_desk.specs.declared.writing.Turn.{Turn}
use Rattle.command_desk.specs.declared.writing.Turn.TheVariants.{On, Over}
use Rattle.crash_disk.specs.DiskState.{DiskState}
use Rattle.office_commands.specs.Commands as commands
use Rattle.office_entry.specs.declared.entry.Entry.{Entry}
use Rattle.office_state.specs.OfficeState.{State}
use Rattle.pair_core.specs.Pair.{count_of, duty_of, is_node_up, len_of, node_of}
use Rattle.pair_core.specs.PairRefusals as rows
use Rattle.pair_core.specs.declared.faults.PairFault.{PairFault}
use Rattle.pair_core.specs.declared.faults.PairFault.TheVariants as fault
use Rattle.pair_node.specs.NodeState.{learned_of}
use Rattle.pair_world.specs.Refusals.{Down, Up, disk_of}
use Rattle.pair_world.specs.World.{other}
use Rattle.sequence_once.specs.declared.standing.Standing.TheVariants as standing
use Rattle.world_rows.specs.Counts.{NeverFall}
use Rattle.world_rows.specs.Rows.{Row, Gives}
use Rattle.world_rows.specs.Told as world

-- ---- in the machine that the desk shows

-- from each lawful moment at which the desk was, it comes to one at which it is now, which is lawful too, in this way
abbrev pub Leads : {D : Type 0} → (D → DiskState) → Desk D → Desk D → (Moment → Moment → Type 0) → Type 0
Leads state old new Way =
    (m : Moment) → ShowsMachine state old m → IsLawful m.machine
    → (now : Moment) × ShowsMachine state new now × IsLawful now.machine × Way m now

-- The machine stays as it was; disks may have been looked at.
pub record Stays (m now : Moment) : Type 0 where
  pub machine : now.machine ≡ m.machine
  pub counts : NeverFall m.counts now.counts

-- The row gives this reply. The counts of faults never fall.
pub record IsGiven (row : Row replies.Reply Machine) (told : replies.Reply) (m now : Moment) : Type 0 where
  pub gives : Gives m.counts now.counts (λ disk. replies.Told (world.Failed disk)) m.machine row told now.machine
  pub counts : NeverFall m.counts now.counts

-- what a part tells: a reply; a reply that ends it, or none where it goes on
abbrev pub told_in : {D : Type 0} → Desk D → Result Reply NoMemory → Result replies.Reply NoMemory
told_in desk (Ok told) = Ok (reply_of (table_of desk) desk.job told)
told_in desk (Err e) = Err e

abbrev pub part_told : {D : Type 0} → Desk D → Result (Option Reply) NoMemory → Result (Option replies.Reply) NoMemory
part_told desk (Ok None) = Ok None
part_told desk (Ok (Some told)) = Ok (Some (reply_of (table_of desk) desk.job told))
part_told desk (Err e) = Err e

-- the event of this row is done with a reply, or left for want of memory
abbrev pub RowDone : (Machine → Row replies.Reply Machine) → Result replies.Reply NoMemory → Moment → Moment → Type 0
RowDone row (Ok told) m now = IsGiven (row m.machine) told m now
RowDone row (Err e) m now = Stays m now

abbrev pub EventDone : Event → Result replies.Reply NoMemory → Moment → Moment → Type 0
EventDone event result m now = (lasted : Bool) × RowDone (λ x. row_of lasted x event) result m now

-- the table of this node is made the one after the booked history; or what stops it is the reply of any event whose table has to be ready
abbrev pub Readies : NodeName → State → Result (Option replies.Reply) NoMemory → Moment → Moment → Type 0
Readies n s (Ok None) m now = Stays m now × (s ≡ state_of now.machine)
Readies n s (Ok (Some told)) m now =
    (rest : Row replies.Reply Machine) → IsGiven (in_duty m.machine n (learning m.machine n rest)) told m now
Readies n s (Err e) m now = Stays m now

-- a table that is made ready has learned all that is booked, and its node is up
abbrev pub IsLearned : {D : Type 0} → Desk D → NodeName → Result (Option Reply) NoMemory → Type 0
IsLearned desk n (Ok None) = (learned_of (node_of desk.pair n) ≡ count_of desk.pair) × (is_node_up desk.pair n ≡ true)
IsLearned desk n (Ok (Some told)) = Unit {0}
IsLearned desk n (Err e) = Unit {0}

-- the reply to a job of which no entry is next in this state
pub record IsNoneNext (s : State) (job : Job) (told : Reply) : Type 0 where
  pub stands : not_next s job (job_standing s job) ≡ Some (reply_of s (Some job) told)
  pub can_tell : CanTell s (Some job) told

-- the next entry of the job in this state; or the reply to a job of which none is next
abbrev pub NextAnswers : State → Option Job → Result Entry Reply → Type 0
NextAnswers s None (Ok entry) = ⊥
NextAnswers s None (Err told) = told ≡ reply.Refused refusal.NoJob
NextAnswers s (Some job) (Ok entry) = next_of s job ≡ Ok entry
NextAnswers s (Some job) (Err told) = IsNoneNext s job told

-- the job is complete in this state exactly where there is a reply, which says so
abbrev pub CompleteAnswers : State → Option Job → Option Reply → Type 0
CompleteAnswers s None told = told ≡ None
CompleteAnswers s (Some job) (Some told) = (told ≡ reply.Finished) × (job_standing s job ≡ Ok standing.Complete)
CompleteAnswers s (Some job) None = job_standing s job ≡ Ok standing.Complete → ⊥

-- from those moments at which this entry is next of the job
abbrev pub LeadsOn : {D : Type 0} → (D → DiskState) → Desk D → Desk D → Entry → (Moment → Moment → Type 0) → Type 0
LeadsOn state old new entry Way =
    (m : Moment) → ShowsMachine state old m → IsLawful m.machine
    → (job : Job) → m.machine.job ≡ Some job → next_of (state_of m.machine) job ≡ Ok entry
    → (now : Moment) × ShowsMachine state new now × IsLawful now.machine × Way m now

-- `BATCH` finds its job complete, or finds that it has to go on
abbrev pub IsFound : Result (Option replies.Reply) NoMemory → Moment → Moment → Type 0
IsFound (Ok None) m now = Stays m now × IsGiven (row_of true m.machine (First commands.Batch)) (replies.Told world.Ready) m now
IsFound (Ok (Some told)) m now = IsGiven (row_of true m.machine (First commands.Batch)) told m now × (told ≢ replies.Told world.Ready)
IsFound (Err e) m now = Stays m now

-- a command that goes on with this event, or is over, and has told this
abbrev pub at_event : Moment → List replies.Reply → Option Event → Course
at_event m told event = record { moment = m; told = told; event = event }

-- From this course some events are done; one more may have looked at a disk.
pub record IsLeft (c : Course) (now : Moment) : Type 0 where
  pub events : ℕ
  pub last : Moment
  pub told : List replies.Reply
  pub event : Option Event
  pub runs : Runs events c (at_event last told event)
  pub stays : Stays last now

-- from this event on, some are done: these were told, and this one comes next, or none
abbrev pub ComesTo : Event → List replies.Reply → Option Event → Moment → Moment → Type 0
ComesTo event told next m now = (events : ℕ) × Runs events (at_event m [] (Some event)) (at_event now told next)

-- the written entry is passed on, so that it is to be booked; or a reply ends the command
abbrev pub IsPassedOn : {D : Type 0} → Desk D → Result Turn NoMemory → Moment → Moment → Type 0
IsPassedOn desk (Ok (On left)) m now =
    (batch : Bool) → ComesTo (passed_or_booked batch m.machine) (left_replies left) (Some (Books batch)) m now
IsPassedOn desk (Ok (Over told)) m now =
    (batch : Bool) → ComesTo (passed_or_booked batch m.machine) (replies_of (table_of desk) desk.job told) None m now
IsPassedOn desk (Err e) m now = (batch : Bool) → IsLeft (at_event m [] (Some (passed_or_booked batch m.machine))) now

-- from this event on, the entry is booked, which `NEXT` tells and after which `BATCH` begins again; or a reply ends the command
abbrev pub BooksFrom : {D : Type 0} → Desk D → (Bool → Machine → Event) → Result Outcome NoMemory → Moment → Moment → Type 0
BooksFrom desk event (Ok (Booked told)) m now =
    ComesTo (event false m.machine) (replies_of (table_of desk) desk.job told) None m now
    × ComesTo (event true m.machine) (left_replies told.left) (Some (First commands.Batch)) m now
BooksFrom desk event (Ok (Ended told)) m now =
    (batch : Bool) → ComesTo (event batch m.machine) (replies_of (table_of desk) desk.job told) None m now
BooksFrom desk event (Err e) m now = (batch : Bool) → IsLeft (at_event m [] (Some (event batch m.machine))) now

-- an entry of `BATCH` is booked and the command goes on as it began; or a reply ends it
abbrev pub IsBatched : {D : Type 0} → Desk D → Result Turn NoMemory → Moment → Moment → Type 0
IsBatched desk (Ok (On left)) m now = ComesTo (First commands.Batch) (left_replies left) (Some (First commands.Batch)) m now
IsBatched desk (Ok (Over told)) m now = ComesTo (First commands.Batch) (replies_of (table_of desk) desk.job told) None m now
IsBatched desk (Err e) m now = IsLeft (begun m commands.Batch) now

-- ---- over any disks

-- the reply is neither `DOWN` nor `UP`
abbrev pub IsPlain : replies.Reply → Type 0
IsPlain (replies.Told (world.Refused (Down d))) = ⊥
IsPlain (replies.Told (world.Refused (Up d))) = ⊥
IsPlain told = Unit {0}

-- A reply in which no one that is needed was down: a failure is told only where the count rose, and it switches what it says.
pub record IsPlainly {D : Type 0} (state : D → DiskState) (old new : Desk D) (told : replies.Reply) : Type 0 where
  pub plain : IsPlain told
  pub failed : HasFailed (counts_at state old) (counts_at state new) told
  pub after : After (switches_of old) commands.Next told (switches_of new)

-- of a table that is made ready: nothing changes beside it; or what stops it is told, a refusal of the pair, after which all is as it was, or a fault while it learns
abbrev pub ReadySwitches : {D : Type 0} → (D → DiskState) → Desk D → Desk D → NodeName → Result (Option Reply) NoMemory → Type 0
ReadySwitches state old new n (Ok None) =
    (rows.ready_refusal old.pair n ≡ None) × (switches_of new ≡ switches_of old) × (count_of new.pair ≡ count_of old.pair)
    × (len_of new.pair n ≡ len_of old.pair n) × (duty_of new.pair ≡ duty_of old.pair)
ReadySwitches state old new n (Ok (Some told)) =
    (f : PairFault) × (told ≡ reply.Refused (refusal.Pair f))
    × (((rows.ready_refusal old.pair n ≡ Some f) × (new.pair ≡ old.pair))
    ⊎ ((rows.ready_refusal old.pair n ≡ None) × IsPlainly state old new (fault_reply f)))
ReadySwitches state old new n (Err e) = Unit {0}

-- of a part that tells a reply where those whom it needs are up
abbrev pub PlainSwitches : {D : Type 0} → (D → DiskState) → Desk D → Desk D → Result Reply NoMemory → Type 0
PlainSwitches state old new (Ok told) = IsPlainly state old new (reply_of (table_of new) new.job told)
PlainSwitches state old new (Err e) = Unit {0}

-- What NEXT tells where the register and the holder are up: `DOWN` only of the other node, with more behind it, and `UP` never.
pub record IsUnderway {D : Type 0} (state : D → DiskState) (old new : Desk D) (told : List replies.Reply) : Type 0 where
  pub left : (d : DiskName) (more : List replies.Reply) → told ≡ replies.Told (world.Refused (Down d)) ∷ more
      → (more ≢ []) × (d ≡ disk_of (other (holder_of old))) × (is_on (switches_of old) d ≡ false)
  pub up : (d : DiskName) (more : List replies.Reply) → told ≡ replies.Told (world.Refused (Up d)) ∷ more → ⊥
  pub failed : All (HasFailed (counts_at state old) (counts_at state new)) told
  pub after : AfterAll commands.Next (switches_of old) told (switches_of new)

-- What has been told so far, where the command goes on: that the other node was left behind, after which the holder is alone; the register and the holder are up.
pub record GoesOn {D : Type 0} (state : D → DiskState) (old new : Desk D) (left : Option LeftBehind) : Type 0 where
  pub failed : All (HasFailed (counts_at state old) (counts_at state new)) (left_replies left)
  pub after : AfterAll commands.Next (switches_of old) (left_replies left) (switches_of new)
  pub first : (d : DiskName) (more : List replies.Reply) → left_replies left ≡ replies.Told (world.Refused (Down d)) ∷ more
      → (d ≡ disk_of (other (holder_of old))) × (is_on (switches_of old) d ≡ false)
  pub up : (d : DiskName) (more : List replies.Reply) → left_replies left ≡ replies.Told (world.Refused (Up d)) ∷ more → ⊥
  pub held : rows.held_refusal new.pair ≡ None
  pub alone : left ≢ None → (duty_of new.pair).mode ≡ Alone
  pub stays_alone : (duty_of old.pair).mode ≡ Alone → ((duty_of new.pair).mode ≡ Alone) × (left ≡ None)

-- What was told, and the command is over: where the holder was alone already, no one was left behind.
abbrev pub IsOver : {D : Type 0} → (D → DiskState) → Desk D → Desk D → Replied → Type 0
IsOver state old new told =
    IsUnderway state old new (replies_of (table_of new) new.job told) × ((duty_of old.pair).mode ≡ Alone → told.left ≡ None)

abbrev pub TurnSwitches : {D : Type 0} → (D → DiskState) → Desk D → Desk D → Result Turn NoMemory → Type 0
TurnSwitches state old new (Ok (On left)) = GoesOn state old new left
TurnSwitches state old new (Ok (Over told)) = IsOver state old new told
TurnSwitches state old new (Err e) = Unit {0}

-- one entry more is booked
pub record Advances {D : Type 0} (old new : Desk D) : Type 0 where
  pub more : count_of new.pair ≡ count_of old.pair + 1
  pub small : count_of new.pair < 2 ^ 32

abbrev pub IfBooked : Reply → Type 0 → Type 0
IfBooked (reply.Booked number code detail) Then = Then
IfBooked told Then = Unit {0}

abbrev pub IfWritten : Reply → Type 0 → Type 0
IfWritten (reply.Written number epoch) Then = Then
IfWritten told Then = Unit {0}

-- of a booking: the register and the holder stay up, under the same duty, and one entry more is booked
abbrev pub BookAdvances : {D : Type 0} → Desk D → Desk D → Result Reply NoMemory → Type 0
BookAdvances old new (Ok told) =
    IfBooked told ((duty_of new.pair ≡ duty_of old.pair) × (rows.held_refusal new.pair ≡ None) × Advances old new)
BookAdvances old new (Err e) = Unit {0}

-- of a write: the register and the holder stay up, under the same duty, and an entry is pending
abbrev pub WriteAdvances : {D : Type 0} → Desk D → Desk D → Result Reply NoMemory → Type 0
WriteAdvances old new (Ok told) =
    IfWritten told
    ((duty_of new.pair ≡ duty_of old.pair) × (count_of new.pair ≡ count_of old.pair)
    × (rows.held_refusal new.pair ≡ None) × (rows.no_flight new.pair ≡ None))
WriteAdvances old new (Err e) = Unit {0}

-- entries were booked
abbrev pub BooksMore : {D : Type 0} → Desk D → Desk D → Type 0
BooksMore old new = (count_of old.pair < count_of new.pair) × (count_of new.pair < 2 ^ 32)

-- of an entry that is written, passed on and booked: what was told, and where it is booked, the command may go on
abbrev pub BooksSwitches : {D : Type 0} → (D → DiskState) → Desk D → Desk D → Result Outcome NoMemory → Type 0
BooksSwitches state old new (Ok (Booked told)) = IsOver state old new told × GoesOn state old new told.left × BooksMore old new
BooksSwitches state old new (Ok (Ended told)) = IsOver state old new told
BooksSwitches state old new (Err e) = Unit {0}

abbrev pub BatchAdvances : {D : Type 0} → Desk D → Desk D → Result Turn NoMemory → Type 0
BatchAdvances old new (Ok (On left)) = BooksMore old new
BatchAdvances old new (Ok (Over told)) = Unit {0}
BatchAdvances old new (Err e) = Unit {0}

-- of a look at the job: it goes on only where nothing is switched
abbrev pub FoundSwitches : {D : Type 0} → (D → DiskState) → Desk D → Desk D → Result (Option Reply) NoMemory → Type 0
FoundSwitches state old new (Ok None) =
    (switches_of new ≡ switches_of old) × (count_of new.pair ≡ count_of old.pair) × (rows.held_refusal new.pair ≡ None)
FoundSwitches state old new (Ok (Some told)) = IsPlainly state old new (reply_of (table_of new) new.job told)
FoundSwitches state old new (Err e) = Unit {0}

-- a turn that ends the command tells what the desk can tell
abbrev pub TurnTells : {D : Type 0} → Desk D → Result Turn NoMemory → Type 0
TurnTells desk (Ok (On left)) = Unit {0}
TurnTells desk (Ok (Over told)) = CanTell (table_of desk) desk.job told.last
TurnTells desk (Err e) = Unit {0}

-- so does an entry that is booked, or ends the command
abbrev pub OutcomeTells : {D : Type 0} → Desk D → Result Outcome NoMemory → Type 0
OutcomeTells desk (Ok (Booked told)) = CanTell (table_of desk) desk.job told.last
OutcomeTells desk (Ok (Ended told)) = CanTell (table_of desk) desk.job told.last
OutcomeTells desk (Err e) = Unit {0}

-- the other node is lost by this fault of passing on
abbrev pub lost_by : NodeName → PairFault → Bool
lost_by n (fault.Down d) = is_disk_of n d
lost_by n (fault.Fault d) = is_disk_of n d
lost_by n other = false

-- the holder goes on alone, for this fault; or a reply ends the command
abbrev pub IsAloneNow : {D : Type 0} → Desk D → PairFault → Result Turn NoMemory → Moment → Moment → Type 0
IsAloneNow desk lost (Ok (On left)) m now =
    (duty : Duty) × (left ≡ Some (record { fault = lost; duty = Some duty }))
    × ((batch : Bool) → ComesTo (Goes_alone batch) (replies.Told (world.On_duty duty) ∷ []) (Some (Books batch)) m now)
IsAloneNow desk lost (Ok (Over told)) m now =
    (told.left ≡ Some (record { fault = lost; duty = None }))
    × ((batch : Bool) → ComesTo (Goes_alone batch) (reply_of (table_of desk) desk.job told.last ∷ []) None m now)
IsAloneNow desk lost (Err e) m now = (batch : Bool) → IsLeft (at_event m [] (Some (Goes_alone batch))) now

-- the same over any disks
abbrev pub AloneSwitches : {D : Type 0} → (D → DiskState) → Desk D → Desk D → PairFault → Result Turn NoMemory → Type 0
AloneSwitches state old new lost (Ok (On left)) =
    (duty : Duty) × (left ≡ Some (record { fault = lost; duty = Some duty })) × (duty.mode ≡ Alone)
    × IsPlainly state old new (replies.Told (world.On_duty duty))
    × (rows.held_refusal new.pair ≡ None) × (count_of new.pair ≡ count_of old.pair)
AloneSwitches state old new lost (Ok (Over told)) =
    (told.left ≡ Some (record { fault = lost; duty = None })) × IsPlainly state old new (reply_of (table_of new) new.job told.last)
AloneSwitches state old new lost (Err e) = Unit {0}
