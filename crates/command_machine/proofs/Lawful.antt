-- Every event of a lawful machine leaves a lawful one, and the booked history only grows; and so does every command.
use Rattle.std.proofs.Common.{◌≡◌, ℕ, zero, suc, ◌≤◌, inl, inr, Bool, true, false, not, List, [], ◌∷◌, length, refl, ap, sym, ◌∙◌, subst, arith, Option, Some, None, Result, Ok, Err, option_map, nat_lt, if◌then◌else◌}
use Rattle.std.specs.List.{AllByRecursion}
use Rattle.ali_base.specs.declared.names.DiskName.{DiskName}
use Rattle.ali_base.specs.declared.names.NodeName.{NodeName}
use Rattle.audit_reports.specs.declared.report.Report.{Report as OfficeReport}
use Rattle.batch_desk.specs.Jobs.{IsJob, job_standing, next_of, entries_left}
use Rattle.batch_desk.specs.declared.job.Job.{Job}
use Rattle.batch_desk.specs.declared.job.Job.TheVariants as jobs
use Rattle.batch_desk.proofs.KeptStates.{IsKept, kept_state}
use Rattle.batch_desk.proofs.Steps.{ready, step, completed}
use Rattle.batch_frame.specs.FrameFault.{frame_fault}
use Rattle.batch_frame.specs.declared.fault.FrameFault.{FrameFault}
use Rattle.catch_up.specs.CatchingUp.{number_after, first_row}
use Rattle.catch_up.proofs.Courses.{Keeps as PassKeeps, pass_keeps, first_keeps}
use Rattle.office_entry.specs.declared.entry.Entry.{Entry}
use Rattle.office_state.specs.History.{AreDue, IsLegal}
use Rattle.office_state.specs.OfficeState.{State, office_limits}
use Rattle.office_state.specs.Verdict.{after}
use Rattle.office_state.specs.declared.due_fault.DueFault.{DueFault}
use Rattle.pair_core.specs.PairPassing.{pass_row}
use Rattle.pair_world.specs.Changes.{journal_written, read_failed, write_failed}
use Rattle.pair_world.specs.Frames.{Frame, Begins, entries}
use Rattle.pair_world.specs.Refusals as refusals
use Rattle.pair_world.specs.Refusals.{Refusal, Down, disk_of, is_alone}
use Rattle.pair_world.specs.Step.{CanWrite, Write, Book, Ship, Deliver, Take, Go_alone, Pair_up, Stop, Start, Start_duty, Ask}
use Rattle.pair_world.specs.World.{World, is_node, is_up, node_at, holder_journal}
use Rattle.pair_world.proofs.ExactRows.{write_exact}
use Rattle.pair_world.proofs.Items.{none_some}
use Rattle.pair_world.proofs.Lists.{Begins-refl, Begins-trans}
use Rattle.pair_world.proofs.RowTests.{passed, not_false, up_passed}
use Rattle.pair_world.proofs.Terms.{same_node}
use Rattle.sequence_once.specs.declared.standing.CycleFault.{CycleFault}
use Rattle.sequence_once.specs.declared.standing.Standing.{Standing}
use Rattle.sequence_once.specs.declared.standing.Standing.TheVariants as standing
use Rattle.world_rows.specs.Counts.{Counts}
use Rattle.world_rows.specs.Histories.{due_after}
use Rattle.world_rows.specs.Rows.{Row, Unless, MayFail, Always, Success, Gives}
use Rattle.world_rows.specs.Told.{Told as WorldTold}
use Rattle.world_rows.specs.Told as told
use Rattle.world_rows.specs.WorldRows.{alone_row, book_row}
use Rattle.world_rows.specs.WorldSteps.{OfficeEvent, IsStep}
use Rattle.world_rows.proofs.Deliveries.{deliver_steps}
use Rattle.world_rows.proofs.Events.{pair_steps}
use Rattle.world_rows.proofs.Steps.{step_is_lawful, step_only_grows, lawful_is_legal}
use Rattle.command_machine.specs.CommandRows.{refused, not_next, ask_row, report_row, read_row, append_row, job_row, write_row, found_row, next_row, event_row, order_row, command_row}
use Rattle.office_commands.specs.Commands as commands
use Rattle.office_commands.specs.Commands.{Command, IsCommand, IsOrder}
use Rattle.office_commands.specs.declared.order.Order.{Order}
use Rattle.office_commands.specs.declared.order.Order.TheVariants as order
use Rattle.command_machine.specs.Courses.{Event, First, Writes, Passes, Goes_alone, Books, Catches_up, row_of, is_disk_of, after_pass, after_number, then_comes}
use Rattle.command_machine.specs.Machine.{Machine, Moment, IsLawful, HasJob, office_bounds, holder_of, mirror_of, count_of, state_of, with_world}
use Rattle.command_machine.specs.Replies.{Reply, Told, Framing}
use Rattle.command_machine.specs.Steps.{Course, Moves, GoesOn, Runs, begun, over, Steps, StepsInPart, Replies}
use Rattle.command_machine.proofs.EventRows.{gives_out, book_steps, ship_steps, take_steps, alone_steps, stop_steps, start_steps, start_duty_steps, status_stays}

-- what every event of a lawful machine keeps: it is lawful, and the history begins with the one before
pub record Keeps (m now : Machine) : Type 0 where
  pub lawful : IsLawful now
  pub grows : Begins now.world.base.booked m.world.base.booked

keeps_self : (m : Machine) → IsLawful m → Keeps m m
keeps_self m lawful = record { lawful = lawful; grows = Begins-refl m.world.base.booked }

-- a step of the world
keeps_world : (m : Machine) (v : World Entry) (event : OfficeEvent) (said : WorldTold) → IsLawful m → IsStep office_limits office_bounds m.world event said v → Keeps m (with_world m v)
keeps_world m v event said lawful steps =
    record {
      lawful = record { world = step_is_lawful office_limits office_bounds m.world v event said lawful.world steps; job = lawful.job };
      grows = step_only_grows office_limits office_bounds m.world v event said lawful.world steps;
    }

-- wherever a row leads, that is kept
abbrev Leads : Machine → Row Reply Machine → Type 0
Leads m (Unless refusal row) = refusal ≡ None → Leads m row
Leads m (MayFail disk left row) = Keeps m left × Leads m row
Leads m (Always refusal) = Unit {0}
Leads m (Success reply left) = Keeps m left

leads_to : (before now : Counts) (failure : DiskName → Reply) (m v : Machine) (reply : Reply) → IsLawful m → (row : Row Reply Machine) → Leads m row → Gives before now failure m row reply v → Keeps m v
leads_to before now failure m v reply lawful (Unless refusal row) leads (inl g) = subst (λ (x : Machine). Keeps m x) (sym g.1) (keeps_self m lawful)
leads_to before now failure m v reply lawful (Unless refusal row) leads (inr g) = leads_to before now failure m v reply lawful row (leads g.0) g.1
leads_to before now failure m v reply lawful (MayFail disk left row) leads (inl g) = subst (λ (x : Machine). Keeps m x) (sym g.1) leads.0
leads_to before now failure m v reply lawful (MayFail disk left row) leads (inr g) = leads_to before now failure m v reply lawful row leads.1 g
leads_to before now failure m v reply lawful (Always refusal) leads g = subst (λ (x : Machine). Keeps m x) (sym g.1) (keeps_self m lawful)
leads_to before now failure m v reply lawful (Success done left) leads g = subst (λ (x : Machine). Keeps m x) (sym g.1) leads

-- a refusal that is not told does not hold

pub open_of : (o : Option Refusal) → refused o ≡ None → o ≡ None
open_of None e = refl
open_of (Some r) e = absurd (none_some (Told (told.Refused r)) (sym e))

framed : (o : Option FrameFault) → option_map Framing o ≡ None → o ≡ None
framed None e = refl
framed (Some fault) e = absurd (none_some (Framing fault) (sym e))

has_standing : (s : State) (job : Job) (r : Result Standing CycleFault) → not_next s job r ≡ None → (found : Standing) × (r ≡ Ok found)
has_standing s job (Ok standing.New) e = (standing.New, refl)
has_standing s job (Ok (standing.Resume line)) e = (standing.Resume line, refl)
has_standing s job (Ok standing.Complete) e = (standing.Complete, refl)
has_standing s job (Err fault) e = absurd (none_some _ (sym e))

module _ (m : Machine) (lawful : IsLawful m) where
  pub legal_of : IsLegal office_limits (entries m.world.base.booked)
  legal_of = lawful_is_legal office_limits office_bounds m.world lawful.world

  pub kept_of : IsKept (state_of m)
  kept_of = kept_state office_limits (entries m.world.base.booked) legal_of

  up_of : (n : NodeName) → refusals.node_is_down m.world n ≡ None → is_up m.world.base n
  up_of n e = up_passed (node_at m.world.base.nodes n).up _ e

  falls : (n : NodeName) → is_up m.world.base n → Keeps m (with_world m (read_failed m.world n))
  falls n up = keeps_world m (read_failed m.world n) (Ask n [] 0) (told.Failed (disk_of n)) lawful (up, refl)

  ask_leads : (n : NodeName) (tn : List ℕ) (since : ℕ) → Leads m (ask_row m n tn since)
  ask_leads n tn since = λ register up on_duty seen. (falls n (up_of n (open_of _ up)), keeps_self m lawful)

  report_leads : (n : NodeName) (report : OfficeReport) → Leads m (report_row m n report)
  report_leads n report = λ register up on_duty. (falls n (up_of n (open_of _ up)), keeps_self m lawful)

  read_leads : (fault : Option Reply) (job : Job) → (fault ≡ None → IsJob job) → Leads m (read_row m fault job)
  read_leads fault job is =
      λ none register up. (
        falls (holder_of m) (up_of (holder_of m) (open_of _ up)),
        λ new. record { lawful = record { world = lawful.world; job = is none }; grows = Begins-refl m.world.base.booked },
      )

  found_leads : (batch : Bool) (o : Option Job) → is_up m.world.base (holder_of m) → Leads m (found_row m batch o (Success (Told told.Ready) m))
  found_leads false o up = keeps_self m lawful
  found_leads true None up = keeps_self m lawful
  found_leads true (Some job) up = (falls (holder_of m) up, λ left. keeps_self m lawful)

  next_leads : (batch : Bool) → Leads m (next_row m batch)
  next_leads batch = λ register up. found_leads batch m.job (up_of (holder_of m) (open_of _ up))

  -- the next entry of a job may be booked
  due_next : (job : Job) (e : Entry) → IsJob job → not_next (state_of m) job (job_standing (state_of m) job) ≡ None → next_of (state_of m) job ≡ Ok e → due_after office_limits (entries m.world.base.booked) e
  due_next job e is new next =
      let s = state_of m in
      let does = step s job e (ready s job kept_of is) next in
      let stands = has_standing s job (job_standing s job) new in
      let all = completed s job stands.0 kept_of is stands.1 in
      let due : AreDue s (e ∷ entries_left (after s e) job) = subst (λ (es : List Entry). AreDue s es) does.left all.due in
      (due.0, due.1)

  append_leads : (r : Result Entry DueFault) → ((e : Entry) → r ≡ Ok e → (m.world.register_up ≡ true) × CanWrite (due_after office_limits) office_bounds m.world.base e) → Leads m (append_row m r)
  append_leads (Err fault) can = tt
  append_leads (Ok e) can =
      let it = can e refl in (
        keeps_world m (write_failed m.world (holder_of m) (journal_written m.world.base e)) (Write e) (told.Failed (disk_of (holder_of m))) lawful (it.0, inr (it.1, refl)),
        keeps_world m _ (Write e) (told.Written 0 0) lawful (it.0, (it.1, refl), refl),
      )

  job_leads : (n : NodeName) (o : Option Job) → HasJob o → refusals.duty_is_down m.world ≡ None → refusals.node_is_down m.world n ≡ None → refusals.not_holder m.world n ≡ None → refusals.in_flight m.world ≡ None → Leads m (job_row m o)
  job_leads n None is register up own free = tt
  job_leads n (Some job) is register up own free =
      let holds : n ≡ holder_of m = same_node n (holder_of m) (not_false (is_node n (holder_of m)) (passed (not (is_node n (holder_of m))) _ own)) in (
        falls (holder_of m) (subst (λ (x : NodeName). is_up m.world.base x) holds (up_of n up)),
        λ new full.
            append_leads (next_of (state_of m) job) (λ e next.
            let can = write_exact (due_after office_limits) m.world office_bounds n e lawful.world.sound (register, (up, (own, (free, (due_next job e is new next, (open_of _ full, tt)))))) in
            (can.0, can.2)),
      )

  write_leads : (n : NodeName) → Leads m (write_row m n)
  write_leads n = λ register up own free. job_leads n m.job lawful.job (open_of _ register) (open_of _ up) (open_of _ own) (open_of _ free)

  -- ---- events of the world

  module _ (before now : Counts) (said : WorldTold) (v : World Entry) where
    abbrev GivesIn : Row WorldTold (World Entry) → Type 0
    GivesIn row = Gives before now told.Failed m.world row said v

    by_step : (event : OfficeEvent) → IsStep office_limits office_bounds m.world event said v → Keeps m (with_world m v)
    by_step event steps = keeps_world m v event said lawful steps

    order_keeps : (lasted : Bool) (order : Order) → IsOrder order → GivesIn (order_row m lasted order) → Keeps m (with_world m v)
    order_keeps lasted order.Book is g = by_step Book (book_steps office_limits office_bounds before now m.world v said g)
    order_keeps lasted (order.Ship n number) is g = by_step (Ship number) (ship_steps office_limits office_bounds before now m.world v said n number is.0 g)
    order_keeps lasted (order.Deliver message) is g = by_step (Deliver message) (deliver_steps office_limits office_bounds before now m.world v message said g)
    order_keeps lasted (order.Take n) is g = by_step (Take n) (take_steps office_limits office_bounds before now m.world v said n g)
    order_keeps lasted order.Alone is g = by_step Go_alone (alone_steps office_limits office_bounds before now m.world v said g)
    order_keeps lasted order.Pair is g = by_step Pair_up (pair_steps office_limits office_bounds before now m.world v said lawful.world g)
    order_keeps lasted (order.Stop n) is g = by_step (Stop n) (stop_steps office_limits office_bounds before now m.world v said n g)
    order_keeps lasted (order.Start n) is g = by_step (Start n) (start_steps office_limits office_bounds before now m.world v said n lasted g)
    order_keeps lasted order.StartDuty is g = by_step Start_duty (start_duty_steps office_limits office_bounds before now m.world v said lasted g)
    order_keeps lasted order.Status is g =
        subst (λ (x : World Entry). Keeps m (with_world m x)) (sym (status_stays office_limits office_bounds before now m.world v said g)) (keeps_self m lawful)

    -- a frame is passed on
    passed_on : PassKeeps office_limits office_bounds m.world said v → Keeps m (with_world m v)
    passed_on kept =
        record {
          lawful = record { world = kept.lawful; job = lawful.job };
          grows = subst (λ (l : List (Frame Entry)). Begins l m.world.base.booked) (sym kept.booked) (Begins-refl m.world.base.booked);
        }

    pass_kept : (k : ℕ) → 1 ≤ k → GivesIn (pass_row office_limits m.world k) → PassKeeps office_limits office_bounds m.world said v
    pass_kept k low g = pass_keeps office_limits office_bounds before now m.world v k said lawful.world low g

    first_kept : GivesIn (first_row office_limits m.world) → PassKeeps office_limits office_bounds m.world said v
    first_kept g = first_keeps office_limits office_bounds before now m.world v said lawful.world g

-- the commands are ones, and frames are counted from 1
abbrev pub AllowedIn : Event → Type 0
AllowedIn (First command) = IsCommand command
AllowedIn (Writes batch) = Unit {0}
AllowedIn (Passes batch) = Unit {0}
AllowedIn (Goes_alone batch) = Unit {0}
AllowedIn (Books batch) = Unit {0}
AllowedIn (Catches_up number) = 1 ≤ number

abbrev pub AllowedNext : Option Event → Type 0
AllowedNext None = Unit {0}
AllowedNext (Some event) = AllowedIn event

passed_allowed : (batch alone : Bool) → AllowedIn (if alone then Books batch else Passes batch)
passed_allowed batch true = tt
passed_allowed batch false = tt

written_allowed : (batch pending alone : Bool) → AllowedIn (if pending then (if alone then Books batch else Passes batch) else Writes batch)
written_allowed batch true alone = passed_allowed batch alone
written_allowed batch false alone = tt

alone_allowed : (batch mirrors : Bool) → AllowedNext (if mirrors then Some (Goes_alone batch) else None)
alone_allowed batch true = tt
alone_allowed batch false = tt

after_allowed : (batch : Bool) (m : Machine) (said : WorldTold) → AllowedNext (after_pass batch m said)
after_allowed batch m (told.Refused (Down d)) = alone_allowed batch (is_disk_of (mirror_of m) d)
after_allowed batch m (told.Failed d) = alone_allowed batch (is_disk_of (mirror_of m) d)
after_allowed batch m (told.Behind len number) = tt
after_allowed batch m (told.Cut number) = tt
after_allowed batch m (told.Stored number made) = tt
after_allowed batch m (told.Have number made) = tt
after_allowed batch m (told.Have_end number made) = tt
after_allowed batch m said = tt

number_allowed : (o : Option ℕ) → ((j : ℕ) → o ≡ Some j → 1 ≤ j) → AllowedNext (after_number o)
number_allowed None counted = tt
number_allowed (Some j) counted = counted j refl

next_allowed : (m : Machine) (reply : Reply) → AllowedNext (then_comes (First commands.Next) m reply)
next_allowed m (Told told.Ready) = written_allowed false (nat_lt (count_of m) (length (holder_journal m.world.base))) (is_alone m.world.base.duty.mode)
next_allowed m reply = tt

batch_allowed : (m : Machine) (reply : Reply) → AllowedNext (then_comes (First commands.Batch) m reply)
batch_allowed m (Told told.Ready) = written_allowed true (nat_lt (count_of m) (length (holder_journal m.world.base))) (is_alone m.world.base.duty.mode)
batch_allowed m reply = tt

writes_allowed : (batch : Bool) (m : Machine) (reply : Reply) → AllowedNext (then_comes (Writes batch) m reply)
writes_allowed batch m (Told (told.Written number epoch)) = passed_allowed batch (is_alone m.world.base.duty.mode)
writes_allowed batch m reply = tt

passes_allowed : (batch : Bool) (m : Machine) (reply : Reply) → AllowedNext (then_comes (Passes batch) m reply)
passes_allowed batch m (Told said) = after_allowed batch m said
passes_allowed batch m reply = tt

goes_allowed : (batch : Bool) (m : Machine) (reply : Reply) → AllowedNext (then_comes (Goes_alone batch) m reply)
goes_allowed batch m (Told (told.On_duty duty)) = tt
goes_allowed batch m reply = tt

books_allowed : (batch : Bool) (m : Machine) (reply : Reply) → AllowedNext (then_comes (Books batch) m reply)
books_allowed true m (Told (told.Booked number verdict)) = tt
books_allowed batch m reply = tt

-- what an event keeps, and the event after it is allowed
pub record EventKeeps (m : Machine) (event : Event) (reply : Reply) (v : Machine) : Type 0 where
  pub keeps : Keeps m v
  pub next : AllowedNext (then_comes event v reply)

module _ (before now : Counts) (m v : Machine) (reply : Reply) (lawful : IsLawful m) where
  abbrev GivesOf : Row Reply Machine → Type 0
  GivesOf row = Gives before now (λ (disk : DiskName). Told (told.Failed disk)) m row reply v

  by_leads : (event : Event) (row : Row Reply Machine) → AllowedNext (then_comes event v reply) → Leads m row → GivesOf row → EventKeeps m event reply v
  by_leads event row next leads g = record { keeps = leads_to before now (λ (disk : DiskName). Told (told.Failed disk)) m v reply lawful row leads g; next = next }

  by_world : (event : Event) (row : Row WorldTold (World Entry)) → AllowedNext (then_comes event v reply)
      → ((said : WorldTold) (u : World Entry) → Gives before now told.Failed m.world row said u → Keeps m (with_world m u)) → GivesOf (event_row m row) → EventKeeps m event reply v
  by_world event row next keeps g =
      let given = gives_out Told (with_world m) before now told.Failed m.world row reply v g in
      record { keeps = subst (λ (x : Machine). Keeps m x) (sym given.left_is) (keeps given.reply given.left given.gives); next = next }

  -- a message of catching up
  by_pass : (event : Event) (row : Row WorldTold (World Entry)) → ((said : WorldTold) → then_comes event v (Told said) ≡ after_number (number_after said))
      → ((said : WorldTold) (u : World Entry) → Gives before now told.Failed m.world row said u → PassKeeps office_limits office_bounds m.world said u) → GivesOf (event_row m row) → EventKeeps m event reply v
  by_pass event row comes kept g =
      let given = gives_out Told (with_world m) before now told.Failed m.world row reply v g in
      let it = kept given.reply given.left given.gives in
      record {
        keeps = subst (λ (x : Machine). Keeps m x) (sym given.left_is) (passed_on m lawful before now given.reply given.left it);
        next =
            subst (λ (o : Option Event). AllowedNext o) (sym (ap (λ (r : Reply). then_comes event v r) given.told_is ∙ comes given.reply))
            (number_allowed (number_after given.reply) it.counted);
      }

  command_keeps : (lasted : Bool) (command : Command) → IsCommand command → GivesOf (command_row m lasted command) → EventKeeps m (First command) reply v
  command_keeps lasted (commands.Ask n position tn since) is g = by_leads (First (commands.Ask n position tn since)) (ask_row m n tn since) tt (ask_leads m lawful n tn since) g
  command_keeps lasted (commands.Report n report) is g = by_leads (First (commands.Report n report)) (report_row m n report) tt (report_leads m lawful n report) g
  command_keeps lasted (commands.File content) is g = by_leads (First (commands.File content)) (read_row m (option_map Framing (frame_fault content)) (jobs.File content)) tt (read_leads m lawful (option_map Framing (frame_fault content)) (jobs.File content) (framed (frame_fault content))) g
  command_keeps lasted (commands.Edit editor serial edit) is g = by_leads (First (commands.Edit editor serial edit)) (read_row m None (jobs.Edit editor serial edit)) tt (read_leads m lawful None (jobs.Edit editor serial edit) (λ e. is)) g
  command_keeps lasted (commands.Write n) is g = by_leads (First (commands.Write n)) (write_row m n) tt (write_leads m lawful n) g
  command_keeps lasted commands.Next is g = by_leads (First commands.Next) (next_row m false) (next_allowed v reply) (next_leads m lawful false) g
  command_keeps lasted commands.Batch is g = by_leads (First commands.Batch) (next_row m true) (batch_allowed v reply) (next_leads m lawful true) g
  command_keeps lasted commands.Catch_up is g = by_pass (First commands.Catch_up) (first_row office_limits m.world) (λ said. refl) (λ said u. first_kept m lawful before now said u) g
  command_keeps lasted (commands.Ordered order) is g = by_world (First (commands.Ordered order)) (order_row m lasted order) tt (λ said u. order_keeps m lawful before now said u lasted order is) g

  pub event_keeps : (lasted : Bool) (event : Event) → AllowedIn event → GivesOf (row_of lasted m event) → EventKeeps m event reply v
  unfolding row_of
  event_keeps lasted (First command) is g = command_keeps lasted command is g
  event_keeps lasted (Writes batch) is g = by_leads (Writes batch) (write_row m (holder_of m)) (writes_allowed batch v reply) (write_leads m lawful (holder_of m)) g
  event_keeps lasted (Passes batch) is g =
      by_world (Passes batch) (pass_row office_limits m.world (suc (count_of m))) (passes_allowed batch v reply)
      (λ said u gives. passed_on m lawful before now said u (pass_kept m lawful before now said u (suc (count_of m)) (omega arith) gives)) g
  event_keeps lasted (Goes_alone batch) is g =
      by_world (Goes_alone batch) (alone_row office_limits m.world office_bounds) (goes_allowed batch v reply)
      (λ said u gives. by_step m lawful before now said u Go_alone (alone_steps office_limits office_bounds before now m.world u said gives)) g
  event_keeps lasted (Books batch) is g =
      by_world (Books batch) (book_row office_limits m.world) (books_allowed batch v reply)
      (λ said u gives. by_step m lawful before now said u Book (book_steps office_limits office_bounds before now m.world u said gives)) g
  event_keeps lasted (Catches_up number) is g =
      by_pass (Catches_up number) (pass_row office_limits m.world number) (λ said. refl)
      (λ said u. pass_kept m lawful before now said u number is) g

pub moves_keep : (c d : Course) (event : Event) → AllowedIn event → IsLawful c.moment.machine → GoesOn c event d → Keeps c.moment.machine d.moment.machine
moves_keep c d event is lawful moves =
    (event_keeps c.moment.counts d.moment.counts c.moment.machine d.moment.machine moves.reply lawful moves.lasted event is moves.gives).keeps

move_keeps : (c next : Course) (o : Option Event) → AllowedNext o → IsLawful c.moment.machine → Moves c o next → Keeps c.moment.machine next.moment.machine × AllowedNext next.event
move_keeps c next None is lawful moves = absurd moves
move_keeps c next (Some event) is lawful moves =
    let kept = event_keeps c.moment.counts next.moment.counts c.moment.machine next.moment.machine moves.reply lawful moves.lasted event is moves.gives in
    (kept.keeps, subst (λ (o : Option Event). AllowedNext o) (sym moves.next) kept.next)

runs_keep : (n : ℕ) (c d : Course) → AllowedNext c.event → IsLawful c.moment.machine → Runs n c d → Keeps c.moment.machine d.moment.machine
runs_keep zero c d is lawful same = subst (λ (x : Course). Keeps c.moment.machine x.moment.machine) same (keeps_self c.moment.machine lawful)
runs_keep (suc n) c d is lawful (next, moves, runs) =
    let here = move_keeps c next c.event is lawful moves in
    let there = runs_keep n next d here.1 here.0.lawful runs in
    record { lawful = there.lawful; grows = Begins-trans there.grows here.0.grows }

-- a command that is done, and one that is left on its way
pub step_keeps : (m now : Moment) (command : Command) (said : List Reply) → IsCommand command → IsLawful m.machine → Steps m command said now → Keeps m.machine now.machine
step_keeps m now command said is lawful steps = runs_keep steps.events (begun m command) (over now said) is lawful steps.runs

pub part_keeps : (m now : Moment) (command : Command) (said : List Reply) → IsCommand command → IsLawful m.machine → StepsInPart m command said now → Keeps m.machine now.machine
part_keeps m now command said is lawful part =
    subst (λ (x : Machine). Keeps m.machine x) (sym part.machine) (runs_keep part.events (begun m command) (record { moment = part.last; told = said; event = part.event }) is lawful part.runs)

-- commands, one after the other
pub replies_keep : (list : List Command) (m now : Moment) (said : List Reply) → AllByRecursion IsCommand list → IsLawful m.machine → Replies m list said now → Keeps m.machine now.machine
replies_keep [] m now said are lawful (none, same) = subst (λ (x : Moment). Keeps m.machine x.machine) (sym same) (keeps_self m.machine lawful)
replies_keep (command ∷ list) m now said are lawful (first, rest, next, steps, replies, is) =
    let here = step_keeps m next command first are.0 lawful steps in
    let there = replies_keep list next now rest are.1 here.lawful replies in
    record { lawful = there.lawful; grows = Begins-trans there.grows here.grows }
