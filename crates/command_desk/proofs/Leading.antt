-- What the calls of the pair are to the machine.
use Rattle.std.proofs.Common.{◌≡◌, ◌≢◌, Bool, true, [], refl, ap, sym, ◌∙◌, subst, Option, Some, None, Result, Ok, Err, MatchResult}
use Rattle.ali_base.specs.declared.no_memory.NoMemory.{NoMemory}
use Rattle.command_machine.specs.CommandRows.{event_row}
use Rattle.command_machine.specs.Courses.{Event, First, row_of, then_comes, told_of}
use Rattle.command_machine.specs.Machine.{Machine, Moment, IsLawful, with_world, office_bounds}
use Rattle.command_machine.specs.Replies as replies
use Rattle.command_machine.specs.Steps.{GoesOn}
use Rattle.command_machine.proofs.Lawful.{AllowedIn, moves_keep}
use Rattle.command_desk.specs.DeskSteps.{Leads, Stays, EventDone, told_in, at_event}
use Rattle.command_desk.specs.MadeReply.{ShowsMachine, counts_at, fault_reply, reply_of, table_of}
use Rattle.command_desk.specs.declared.desk.Desk.{Desk}
use Rattle.command_desk.specs.declared.refusal.Refusal.TheVariants as refusal
use Rattle.command_desk.specs.declared.reply.Reply.{Reply}
use Rattle.command_desk.specs.declared.reply.Reply.TheVariants as reply
use Rattle.crash_disk.specs.DiskState.{DiskState}
use Rattle.office_commands.specs.Commands as commands
use Rattle.office_commands.specs.Commands.{IsOrder}
use Rattle.office_commands.specs.declared.order.Order.{Order}
use Rattle.office_commands.specs.declared.order.Order.TheVariants as order
use Rattle.office_entry.specs.declared.entry.Entry.{Entry}
use Rattle.office_state.specs.OfficeState.{office_limits}
use Rattle.office_state.specs.declared.limits.Limits.{Limits}
use Rattle.pair_core.specs.Pair.{Does, IsCall, Shows, bounds_of}
use Rattle.pair_core.specs.PairAnswers.{fault_told}
use Rattle.pair_core.specs.declared.faults.PairFault.{PairFault}
use Rattle.pair_core.specs.declared.faults.PairFault.TheVariants as faults
use Rattle.pair_world.specs.Refusals as refusals
use Rattle.pair_world.specs.Step.{Bounds}
use Rattle.pair_world.specs.World.{World}
use Rattle.world_rows.specs.Counts.{Counts, NeverFall}
use Rattle.world_rows.specs.Histories.{IsLawful as IsLawfulWorld}
use Rattle.world_rows.specs.Rows.{Row, Gives}
use Rattle.world_rows.specs.Told as world
use Rattle.world_rows.specs.Told.{Told}
use Rattle.world_rows.specs.WorldRows as rows
use Rattle.world_rows.proofs.Rows.{gives_in}

-- the row of a call of the pair, by its bounds
abbrev pub CallRow : Type 0
CallRow = Bounds → Limits → Bool → World Entry → Row Told (World Entry)

module _ {D : Type 0} (state : D → DiskState) (old new : Desk D) (call : IsCall state old.pair new.pair) (kept : new.job ≡ old.job) where
  -- the moment after the call, in this world
  abbrev pub moment_in : Moment → World Entry → Moment
  moment_in m v = record { machine = with_world m.machine v; counts = counts_at state new }

  pub never_fell : (m : Moment) → ShowsMachine state old m → NeverFall m.counts (counts_at state new)
  never_fell m shown = subst (λ (c : Counts). NeverFall c (counts_at state new)) (sym shown.counts) call.counts

  pub shown_in : (m : Moment) (v : World Entry) → ShowsMachine state old m → Shows state office_limits new.pair v → ShowsMachine state new (moment_in m v)
  shown_in m v shown shows = record { world = shows; job = kept ∙ shown.job; counts = refl; bounds = call.bounds ∙ shown.bounds }

  -- the world after the call, by the row of its event
  pub record IsFoundAt (row : CallRow) (t : Told) (m : Moment) : Type 0 where
    pub left : World Entry
    pub lasted : Bool
    pub gives : Gives m.counts (counts_at state new) world.Failed m.machine.world (row office_bounds office_limits lasted m.machine.world) t left
    pub shown : ShowsMachine state new (moment_in m left)

  pub lawful_old : (m : Moment) → ShowsMachine state old m → IsLawful m.machine → IsLawfulWorld office_limits (bounds_of old.pair) m.machine.world
  lawful_old m shown lawful = subst (λ (b : Bounds). IsLawfulWorld office_limits b m.machine.world) (sym shown.bounds) lawful.world

  pub found : (row : CallRow) (t : Told) (m : Moment) → Does state old.pair new.pair (row (bounds_of old.pair)) (Some t) → ShowsMachine state old m → IsLawful m.machine → IsFoundAt row t m
  found row t m does shown lawful =
      let its : Does state old.pair new.pair (row office_bounds) (Some t) = subst (λ (b : Bounds). Does state old.pair new.pair (row b) (Some t)) shown.bounds does in
      let one = its office_limits m.machine.world shown.world (lawful_old m shown lawful) in
      record {
        left = one.0;
        lasted = one.2.0;
        gives = subst (λ (c : Counts). Gives c (counts_at state new) world.Failed m.machine.world (row office_bounds office_limits one.2.0 m.machine.world) t one.0) (sym shown.counts) one.2.1;
        shown = shown_in m one.0 shown one.1;
      }

  -- nothing changes for want of memory
  pub stays_in : (row : CallRow) → Does state old.pair new.pair (row (bounds_of old.pair)) None → Leads state old new Stays
  stays_in row does m shown lawful =
      let one = does office_limits m.machine.world shown.world (lawful_old m shown lawful) in
      let same : one.0 ≡ m.machine.world = one.2 in (
        moment_in m one.0,
        shown_in m one.0 shown one.1,
        subst (λ (x : World Entry). IsLawful (with_world m.machine x)) (sym same) lawful,
        record { machine = ap (with_world m.machine) same; counts = never_fell m shown },
      )

  -- a call whose row is that of an event of the machine
  module _ (event : Event) (allowed : AllowedIn event) (row : CallRow)
      (same : (lasted : Bool) (m : Machine) → row_of lasted m event ≡ event_row m (row office_bounds office_limits lasted m.world)) where
    pub event_leads : (t : Told) → Does state old.pair new.pair (row (bounds_of old.pair)) (Some t) → Leads state old new (EventDone event (Ok (replies.Told t)))
    event_leads t does m shown lawful =
        let f = found row t m does shown lawful in
        let now = moment_in m f.left in
        let told : replies.Reply = replies.Told t in
        let put = gives_in (λ (x : Told). replies.Told x) (with_world m.machine) m.counts (counts_at state new) world.Failed m.machine.world (row office_bounds office_limits f.lasted m.machine.world) t f.left f.gives in
        let gives = subst (λ (r : Row replies.Reply Machine). Gives m.counts now.counts (λ disk. replies.Told (world.Failed disk)) m.machine r told now.machine) (sym (same f.lasted m.machine)) put in
        let goes : GoesOn (at_event m [] (Some event)) event (at_event now (told_of event now.machine told) (then_comes event now.machine told)) = record {
          lasted = f.lasted;
          reply = told;
          gives = gives;
          counts = never_fell m shown;
          told = refl;
          next = refl;
        } in
        let keeps = moves_keep (at_event m [] (Some event)) (at_event now (told_of event now.machine told) (then_comes event now.machine told)) event allowed lawful goes in
        (now, f.shown, keeps.lawful, (f.lasted, record { gives = gives; counts = never_fell m shown }))

-- a fault that is not want of memory is told
pub record IsTold (fault : PairFault) : Type 0 where
  pub told : Told
  pub is : fault_told fault ≡ Some told
  pub reply : fault_reply fault ≡ replies.Told told

pub told_fault : (fault : PairFault) → (fault ≡ faults.NoMemory → ⊥) → IsTold fault
told_fault (faults.Down d) other = record { told = world.Refused (refusals.Down d); is = refl; reply = refl }
told_fault (faults.Up d) other = record { told = world.Refused (refusals.Up d); is = refl; reply = refl }
told_fault (faults.OutOfDuty n e h) other = record { told = world.Refused (refusals.Out_of_duty n e h); is = refl; reply = refl }
told_fault (faults.InFlight n) other = record { told = world.Refused (refusals.In_flight n); is = refl; reply = refl }
told_fault faults.NoFlight other = record { told = world.Refused refusals.No_flight; is = refl; reply = refl }
told_fault (faults.Unstored n e) other = record { told = world.Refused (refusals.Unstored n e); is = refl; reply = refl }
told_fault (faults.NoEntry n l) other = record { told = world.Refused (refusals.No_entry n l); is = refl; reply = refl }
told_fault (faults.NoMessage n s) other = record { told = world.Refused (refusals.No_message n s); is = refl; reply = refl }
told_fault (faults.MessagesFull l) other = record { told = world.Refused (refusals.Messages_full l); is = refl; reply = refl }
told_fault (faults.NotPaired e h) other = record { told = world.Refused (refusals.Not_paired e h); is = refl; reply = refl }
told_fault (faults.Paired e h) other = record { told = world.Refused (refusals.Paired e h); is = refl; reply = refl }
told_fault (faults.NotInStep e d) other = record { told = world.Refused (refusals.Not_in_step e d); is = refl; reply = refl }
told_fault (faults.EpochEnd e) other = record { told = world.Refused (refusals.Epoch_end e); is = refl; reply = refl }
told_fault (faults.NotDue due) other = record { told = world.Not_due due; is = refl; reply = refl }
told_fault (faults.Full limit) other = record { told = world.Refused (refusals.Full limit); is = refl; reply = refl }
told_fault (faults.Fault d) other = record { told = world.Failed d; is = refl; reply = refl }
told_fault (faults.Foreign d) other = record { told = world.Foreign d; is = refl; reply = refl }
told_fault (faults.Damaged d frame) other = record { told = world.Damaged d frame; is = refl; reply = refl }
told_fault (faults.Short node have need) other = record { told = world.Refused (refusals.Short node have need); is = refl; reply = refl }
told_fault faults.NoMemory other = absurd (other refl)

-- how a refusal of the pair is told
abbrev pub RefusedSo : PairFault → Result Reply NoMemory → Type 0
RefusedSo fault r = MatchResult r (λ told. (told ≡ reply.Refused (refusal.Pair fault)) × (fault ≢ faults.NoMemory)) (λ e. fault ≡ faults.NoMemory)

module _ {D : Type 0} (state : D → DiskState) (old new : Desk D) (call : IsCall state old.pair new.pair) (kept : new.job ≡ old.job) where
  module _ (event : Event) (allowed : AllowedIn event) (row : CallRow)
      (same : (lasted : Bool) (m : Machine) → row_of lasted m event ≡ event_row m (row office_bounds office_limits lasted m.world)) where
    pub event_refused : (fault : PairFault) (r : Result Reply NoMemory) → RefusedSo fault r → Does state old.pair new.pair (row (bounds_of old.pair)) (fault_told fault) → Leads state old new (EventDone event (told_in new r))
    event_refused fault (Ok told) is does =
        let t = told_fault fault is.1 in
        let done = subst (λ (o : Option Told). Does state old.pair new.pair (row (bounds_of old.pair)) o) t.is does in
        let its : reply_of (table_of new) new.job told ≡ replies.Told t.told = ap (reply_of (table_of new) new.job) is.0 ∙ t.reply in
        subst (λ (x : replies.Reply). Leads state old new (EventDone event (Ok x))) (sym its) (event_leads state old new call kept event allowed row same t.told done)
    event_refused fault (Err e) is does =
        let undone = subst (λ (f : PairFault). Does state old.pair new.pair (row (bounds_of old.pair)) (fault_told f)) is does in
        λ m shown lawful.
        let one = stays_in state old new call kept row undone m shown lawful in
        (one.0, one.1, one.2, (true, one.3))

-- the rows of orders
abbrev pub order_call : Order → CallRow
order_call order.Book bounds limits lasted w = rows.book_row limits w
order_call (order.Ship n number) bounds limits lasted w = rows.ship_row limits w n number
order_call (order.Deliver message) bounds limits lasted w = rows.deliver_row limits w message
order_call (order.Take n) bounds limits lasted w = rows.take_row limits w bounds n
order_call order.Alone bounds limits lasted w = rows.alone_row limits w bounds
order_call order.Pair bounds limits lasted w = rows.pair_row limits w bounds
order_call (order.Stop n) bounds limits lasted w = rows.stop_row limits w n
order_call (order.Start n) bounds limits lasted w = rows.start_row limits w n lasted
order_call order.StartDuty bounds limits lasted w = rows.start_duty_row limits w lasted
order_call order.Status bounds limits lasted w = rows.status_row limits w

order_same : (o : Order) (lasted : Bool) (m : Machine) → row_of lasted m (First (commands.Ordered o)) ≡ event_row m (order_call o office_bounds office_limits lasted m.world)
unfolding row_of
order_same order.Book lasted m = refl
order_same (order.Ship n number) lasted m = refl
order_same (order.Deliver message) lasted m = refl
order_same (order.Take n) lasted m = refl
order_same order.Alone lasted m = refl
order_same order.Pair lasted m = refl
order_same (order.Stop n) lasted m = refl
order_same (order.Start n) lasted m = refl
order_same order.StartDuty lasted m = refl
order_same order.Status lasted m = refl

module _ {D : Type 0} (state : D → DiskState) (old new : Desk D) (call : IsCall state old.pair new.pair) (kept : new.job ≡ old.job) (o : Order) (is : IsOrder o) where
  pub order_leads : (t : Told) → Does state old.pair new.pair (order_call o (bounds_of old.pair)) (Some t) → Leads state old new (EventDone (First (commands.Ordered o)) (Ok (replies.Told t)))
  order_leads = event_leads state old new call kept (First (commands.Ordered o)) is (order_call o) (order_same o)

  pub order_refused : (fault : PairFault) (r : Result Reply NoMemory) → RefusedSo fault r → Does state old.pair new.pair (order_call o (bounds_of old.pair)) (fault_told fault)
      → Leads state old new (EventDone (First (commands.Ordered o)) (told_in new r))
  order_refused = event_refused state old new call kept (First (commands.Ordered o)) is (order_call o) (order_same o)
