-- The row of each command: its refusals in their order, where a disk may fail and what that leaves, and its success.
use Rattle.std.specs.Prelude.{ℕ, suc, List, length, Bool, true, false, Option, Some, None, Result, Ok, Err}
use Rattle.std.specs.FinMap.{get}
use Rattle.std.specs.Option.{option_map}
use Rattle.ali_base.specs.declared.names.NodeName.{NodeName}
use Rattle.audit_reports.specs.ReportText.{report_text}
use Rattle.audit_reports.specs.declared.report.Report.{Report as OfficeReport}
use Rattle.batch_desk.specs.JobReplies.{read_of, done_of}
use Rattle.batch_desk.specs.Jobs.{job_standing, next_of}
use Rattle.batch_desk.specs.declared.job.Job.{Job}
use Rattle.batch_desk.specs.declared.job.Job.TheVariants as jobs
use Rattle.batch_frame.specs.FrameFault.{frame_fault}
use Rattle.catch_up.specs.CatchingUp.{first_row}
use Rattle.office_commands.specs.Commands.{Command, Ask, Report, File, Edit, Write, Next, Batch, Catch_up, Ordered}
use Rattle.office_commands.specs.declared.order.Order.{Order}
use Rattle.office_commands.specs.declared.order.Order.TheVariants as order
use Rattle.command_machine.specs.Machine.{Machine, office_bounds, holder_of, count_of, state_of, history_of, with_world}
use Rattle.command_machine.specs.Replies.{Reply, Told, Answer, Reported, Framing, Standing, No_job, Read, Complete, Finished}
use Rattle.office_entry.specs.declared.entry.Entry.{Entry}
use Rattle.office_state.specs.OfficeState.{office_limits, State}
use Rattle.office_state.specs.declared.due_fault.DueFault.{DueFault}
use Rattle.pair_world.specs.Changes.{journal_written, written, read_failed, write_failed}
use Rattle.pair_world.specs.Refusals as refusals
use Rattle.pair_world.specs.Refusals.{Refusal, disk_of}
use Rattle.pair_world.specs.World.{World, holder_journal}
use Rattle.retrieval.specs.AnswerForm.{form}
use Rattle.sequence_once.specs.declared.standing.CycleFault.{CycleFault}
use Rattle.sequence_once.specs.declared.standing.Standing.{Standing as AnyStanding}
use Rattle.sequence_once.specs.declared.standing.Standing.TheVariants as standing
use Rattle.world_rows.specs.Rows.{Row, Unless, MayFail, Always, Success, row_in}
use Rattle.world_rows.specs.Told as told
use Rattle.world_rows.specs.WorldRows as world_rows

-- a refusal of the world as a reply
abbrev pub refused : Option Refusal → Option Reply
refused refusal = option_map (λ r. Told (told.Refused r)) refusal

-- a job whose standing is a fault
abbrev pub not_readable : Result AnyStanding CycleFault → Option Reply
not_readable (Ok standing) = None
not_readable (Err fault) = Some (Standing fault)

-- a job of which no entry is next: its standing is a fault, or it is complete
abbrev pub not_next : State → Job → Result AnyStanding CycleFault → Option Reply
not_next s job (Err fault) = Some (Standing fault)
not_next s job (Ok standing.Complete) = Some (Complete (done_of s job))
not_next s job (Ok standing.New) = None
not_next s job (Ok (standing.Resume line)) = None

-- a job that is complete has its reply
abbrev pub finished : State → Job → Result AnyStanding CycleFault → Option Reply
finished s job (Ok standing.Complete) = Some (Finished s job)
finished s job (Ok standing.New) = None
finished s job (Ok (standing.Resume line)) = None
finished s job (Err fault) = None

module _ (m : Machine) where
  -- the disk of a node may fail while its table learns
  abbrev pub learning : NodeName → Row Reply Machine → Row Reply Machine
  learning n row = MayFail (disk_of n) (with_world m (read_failed m.world n)) row

  -- the register and this node are up
  abbrev pub with_node : NodeName → Row Reply Machine → Row Reply Machine
  with_node n row = Unless (refused (refusals.duty_is_down m.world)) (Unless (refused (refusals.node_is_down m.world n)) row)

  -- the holder is on duty and up
  abbrev pub held : Row Reply Machine → Row Reply Machine
  held row = with_node (holder_of m) row

  -- a node answers where it is the holder, or in step with it
  abbrev pub in_duty : NodeName → Row Reply Machine → Row Reply Machine
  in_duty n row = with_node n (Unless (refused (refusals.not_in_duty m.world n)) row)

  -- `ASK`: a number's form in the state after all booked entries, and never one that is behind what was asked for
  abbrev pub ask_row : NodeName → List ℕ → ℕ → Row Reply Machine
  ask_row n tn since =
      let s = state_of m in
      in_duty n
      (Unless (refused (refusals.ahead m.world since))
      (learning n
      (Success (Answer (count_of m) (form (get s.table tn) tn)) m)))

  -- `REPORT`: the text of a report over all booked entries
  abbrev pub report_row : NodeName → OfficeReport → Row Reply Machine
  report_row n report =
      in_duty n (learning n (Success (Reported (count_of m) (report_text office_limits (history_of m) report)) m))

  -- `FILE` and `EDIT`: what is read becomes the job, and what is refused leaves the job that was
  abbrev pub read_row : Option Reply → Job → Row Reply Machine
  read_row fault job =
      Unless fault
      (held
      (learning (holder_of m)
      (Unless (not_readable (job_standing (state_of m) job))
      (Success (Read (read_of (state_of m) job)) (record m { job = Some job })))))

  -- the next entry of the job is written behind the booked ones
  abbrev pub append_row : Result Entry DueFault → Row Reply Machine
  append_row (Err fault) = Always (Told (told.Not_due fault))
  append_row (Ok entry) =
      MayFail (disk_of (holder_of m)) (with_world m (write_failed m.world (holder_of m) (journal_written m.world.base entry)))
      (Success
      (Told (told.Written (suc (length (holder_journal m.world.base))) m.world.base.duty.epoch))
      (with_world m (record m.world { base = written m.world.base entry })))

  abbrev pub job_row : Option Job → Row Reply Machine
  job_row None = Always No_job
  job_row (Some job) =
      learning (holder_of m)
      (Unless (not_next (state_of m) job (job_standing (state_of m) job))
      (Unless (refused (refusals.full m.world office_bounds)) (append_row (next_of (state_of m) job))))

  -- `WRITE`: only the holder writes, and only where no entry is pending
  abbrev pub write_row : NodeName → Row Reply Machine
  write_row n =
      with_node n
      (Unless (refused (refusals.not_holder m.world n))
      (Unless (refused (refusals.in_flight m.world)) (job_row m.job)))

  -- what NEXT and BATCH find: the holder; and of BATCH its job, which may be complete
  abbrev pub found_row : Bool → Option Job → Row Reply Machine → Row Reply Machine
  found_row false job row = row
  found_row true None row = row
  found_row true (Some job) row =
      learning (holder_of m) (Unless (finished (state_of m) job (job_standing (state_of m) job)) row)

  abbrev pub next_row : Bool → Row Reply Machine
  next_row batch = held (found_row batch m.job (Success (Told told.Ready) m))

  -- an event of the world, which leaves the job
  abbrev pub event_row : Row told.Told (World Entry) → Row Reply Machine
  event_row row = row_in Told (with_world m) row

  -- the event of an order; lasted says of a disk in doubt that its failed write did last
  abbrev pub order_row : Bool → Order → Row told.Told (World Entry)
  order_row lasted order.Book = world_rows.book_row office_limits m.world
  order_row lasted (order.Ship n number) = world_rows.ship_row office_limits m.world n number
  order_row lasted (order.Deliver message) = world_rows.deliver_row office_limits m.world message
  order_row lasted (order.Take n) = world_rows.take_row office_limits m.world office_bounds n
  order_row lasted order.Alone = world_rows.alone_row office_limits m.world office_bounds
  order_row lasted order.Pair = world_rows.pair_row office_limits m.world office_bounds
  order_row lasted (order.Stop n) = world_rows.stop_row office_limits m.world n
  order_row lasted (order.Start n) = world_rows.start_row office_limits m.world n lasted
  order_row lasted order.StartDuty = world_rows.start_duty_row office_limits m.world lasted
  order_row lasted order.Status = world_rows.status_row office_limits m.world

  -- the first event of a command
  abbrev pub command_row : Bool → Command → Row Reply Machine
  command_row lasted (Ask n position tn since) = ask_row n tn since
  command_row lasted (Report n report) = report_row n report
  command_row lasted (File content) = read_row (option_map Framing (frame_fault content)) (jobs.File content)
  command_row lasted (Edit editor serial edit) = read_row None (jobs.Edit editor serial edit)
  command_row lasted (Write n) = write_row n
  command_row lasted Next = next_row false
  command_row lasted Batch = next_row true
  command_row lasted Catch_up = event_row (first_row office_limits m.world)
  command_row lasted (Ordered order) = event_row (order_row lasted order)
