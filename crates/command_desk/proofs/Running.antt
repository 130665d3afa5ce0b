-- Courses of a desk: events one after the other; the pending entry is passed on, the other node is left behind, and it is booked.
use Rattle.std.proofs.Common.{◌≡◌, ℕ, zero, suc, ◌<◌, ◌≤◌, Bool, true, false, List, [], ◌++◌, length, refl, ap, sym, ◌∙◌, subst, arith, nat_lt, Option, Some, None, Result, Ok, Err, if◌then◌else◌}
use Rattle.std.proofs.lemmas.Bool.Decides.{nat_tests}
use Rattle.std.proofs.lemmas.List.{append-nil, append_assoc}
use Rattle.ali_base.specs.declared.duty.Mode.{Mode}
use Rattle.ali_base.specs.declared.duty.Mode.TheVariants.{Both, Alone}
use Rattle.ali_base.specs.declared.names.NodeName.{NodeName}
use Rattle.ali_base.specs.declared.no_memory.NoMemory.{NoMemory}
use Rattle.command_machine.specs.CommandRows.{write_row}
use Rattle.command_machine.specs.Courses.{Event, First, Writes, Passes, Goes_alone, Books, row_of, then_comes, told_of, passed_or_booked, written_or_passed}
use Rattle.command_machine.specs.Machine.{Machine, Moment, holder_of, count_of}
use Rattle.command_machine.specs.Replies as replies
use Rattle.command_machine.specs.Steps.{Course, Runs, GoesOn, Moves, begun}
use Rattle.command_desk.specs.DeskSteps.{Leads, Stays, IsGiven, RowDone, EventDone, IsLeft, ComesTo, at_event}
use Rattle.command_desk.specs.MadeReply.{Carries, replies_of, table_of}
use Rattle.command_desk.specs.declared.desk.Desk.{Desk}
use Rattle.command_desk.specs.declared.reply.Replied.{Replied}
use Rattle.crash_disk.specs.DiskState.{DiskState}
use Rattle.office_commands.specs.Commands as commands
use Rattle.office_commands.specs.declared.order.Order.TheVariants as order
use Rattle.pair_world.specs.Refusals.{is_alone}
use Rattle.pair_world.specs.World.{holder_journal}

-- ---- courses alone

-- one after the other
pub runs_on : (j k : ℕ) (c d e : Course) → Runs j c d → Runs k d e → (n : ℕ) × Runs n c e
runs_on zero k c d e same runs = (k, subst (λ (x : Course). Runs k x e) (sym same) runs)
runs_on (suc j) k c d e first runs =
    let more = runs_on j k first.0 d e first.2 runs in
    (suc more.0, (first.0, first.1, more.1))

-- the same course, where this was told before it
abbrev after_replies : List replies.Reply → Course → Course
after_replies said c = record { moment = c.moment; told = said ++ c.told; event = c.event }

goes_after : (said : List replies.Reply) (c d : Course) (event : Event) → GoesOn c event d → GoesOn (after_replies said c) event (after_replies said d)
goes_after said c d event goes = record {
  lasted = goes.lasted;
  reply = goes.reply;
  gives = goes.gives;
  counts = goes.counts;
  told = ap (λ (l : List replies.Reply). said ++ l) goes.told ∙ sym (append_assoc said c.told (told_of event d.moment.machine goes.reply));
  next = goes.next;
}

moves_after : (said : List replies.Reply) (c d : Course) (o : Option Event) → Moves c o d → Moves (after_replies said c) o (after_replies said d)
moves_after said c d None moves = moves
moves_after said c d (Some event) moves = goes_after said c d event moves

runs_after : (n : ℕ) (said : List replies.Reply) (c d : Course) → Runs n c d → Runs n (after_replies said c) (after_replies said d)
runs_after zero said c d same = ap (after_replies said) same
runs_after (suc n) said c d (next, moves, runs) = (after_replies said next, moves_after said c next c.event moves, runs_after n said next d runs)

-- ---- from one event to another

module _ (event between : Event) (first : List replies.Reply) (m mid : Moment) (one : ComesTo event first (Some between) m mid) where
  -- what comes then comes after it
  pub comes_on : (second : List replies.Reply) (next : Option Event) (now : Moment) → ComesTo between second next mid now → ComesTo event (first ++ second) next m now
  comes_on second next now two =
      let later = runs_after two.0 first (at_event mid [] (Some between)) (at_event now second next) two.1 in
      let there = subst (λ (said : List replies.Reply). Runs two.0 (at_event mid said (Some between)) (at_event now (first ++ second) next)) (append-nil first) later in
      runs_on one.0 two.0 (at_event m [] (Some event)) (at_event mid first (Some between)) (at_event now (first ++ second) next) one.1 there

  -- what is left then is left after it
  pub left_on : (now : Moment) → IsLeft (at_event mid [] (Some between)) now → IsLeft (at_event m [] (Some event)) now
  left_on now left =
      let later = runs_after left.events first (at_event mid [] (Some between)) (at_event left.last left.told left.event) left.runs in
      let there = subst (λ (said : List replies.Reply). Runs left.events (at_event mid said (Some between)) (at_event left.last (first ++ left.told) left.event)) (append-nil first) later in
      let all = runs_on one.0 left.events (at_event m [] (Some event)) (at_event mid first (Some between)) (at_event left.last (first ++ left.told) left.event) one.1 there in
      record { events = all.0; last = left.last; told = first ++ left.told; event = left.event; runs = all.1; stays = left.stays }

-- one event
pub comes_by : (event : Event) (told : replies.Reply) (said : List replies.Reply) (next : Option Event) (m now : Moment) → EventDone event (Ok told) m now
    → told_of event now.machine told ≡ said → then_comes event now.machine told ≡ next → ComesTo event said next m now
comes_by event told said next m now done tells comes =
    let goes : GoesOn (at_event m [] (Some event)) event (at_event now said next) = record {
      lasted = done.0;
      reply = told;
      gives = done.1.gives;
      counts = done.1.counts;
      told = sym tells;
      next = sym comes;
    } in
    (1, (at_event now said next, goes, refl))

-- an event that is not done
pub left_by : (event : Event) (m now : Moment) → Stays m now → IsLeft (at_event m [] (Some event)) now
left_by event m now stays = record { events = 0; last = m; told = []; event = Some event; runs = refl; stays = stays }

-- no event
pub comes_already : (event next : Event) (m : Moment) → event ≡ next → ComesTo event [] (Some next) m m
comes_already event next m same = (0, ap (λ (e : Event). at_event m [] (Some e)) same)

-- the same from another event
pub comes_from : (event other : Event) (said : List replies.Reply) (next : Option Event) (m now : Moment) → event ≡ other → ComesTo other said next m now → ComesTo event said next m now
comes_from event other said next m now same comes = subst (λ (e : Event). ComesTo e said next m now) (sym same) comes

pub left_from : (event other : Event) (m now : Moment) → event ≡ other → IsLeft (at_event m [] (Some other)) now → IsLeft (at_event m [] (Some event)) now
left_from event other m now same left = subst (λ (e : Event). IsLeft (at_event m [] (Some e)) now) (sym same) left

-- ---- whole commands

module _ {D : Type 0} (state : D → DiskState) (old new : Desk D) (command : commands.Command) where
  pub carried : (told : Replied) → Leads state old new (ComesTo (First command) (replies_of (table_of new) new.job told) None) → Carries state old new command (Ok told)
  carried told leads m shown lawful =
      let one = leads m shown lawful in
      (one.0, one.1, one.2, record { events = one.3.0; runs = one.3.1 })

  pub carried_in_part : (e : NoMemory) → Leads state old new (λ m now. IsLeft (begun m command) now) → Carries state old new command (Err e)
  carried_in_part e leads m shown lawful =
      let one = leads m shown lawful in
      let left = one.3 in (
        one.0,
        one.1,
        one.2,
        (
          left.told,
          record {
            events = left.events;
            last = left.last;
            event = left.event;
            runs = left.runs;
            machine = left.stays.machine;
            counts = left.stays.counts;
          },
        ),
      )

-- ---- events that are the same of NEXT and of BATCH

module _ (result : Result replies.Reply NoMemory) (m now : Moment) (batch : Bool) where
  pub passes_alike : EventDone (Passes false) result m now → EventDone (Passes batch) result m now
  unfolding row_of
  passes_alike done = done

  pub goes_alike : EventDone (Goes_alone false) result m now → EventDone (Goes_alone batch) result m now
  unfolding row_of
  goes_alike done = done

  -- an order to book books
  pub books_alike : EventDone (First (commands.Ordered order.Book)) result m now → EventDone (Books batch) result m now
  unfolding row_of
  books_alike done = done

-- the holder writes
module _ (m now : Moment) (batch : Bool) (n : NodeName) (same : holder_of m.machine ≡ n) where
  pub writes_alike : (result : Result replies.Reply NoMemory) → RowDone (λ (x : Machine). write_row x n) result m now → EventDone (Writes batch) result m now
  unfolding row_of
  writes_alike (Ok told) done = (true, subst (λ (h : NodeName). IsGiven (write_row m.machine h) told m now) (sym same) done)
  writes_alike (Err e) done = (true, done)

-- ---- which event comes

-- the pending entry is passed on in mode Both
pub alone_is : (mode : Mode) → (mode ≡ Alone → ⊥) → is_alone mode ≡ false
alone_is Both not_alone = refl
alone_is Alone not_alone = absurd (not_alone refl)

module _ (batch : Bool) (m : Machine) where
  pub comes_booking : m.world.base.duty.mode ≡ Alone → passed_or_booked batch m ≡ Books batch
  comes_booking alone = ap (λ (mode : Mode). if is_alone mode then Books batch else Passes batch) alone

  pub comes_passing : (m.world.base.duty.mode ≡ Alone → ⊥) → passed_or_booked batch m ≡ Passes batch
  comes_passing not_alone = ap (λ (b : Bool). if b then Books batch else Passes batch) (alone_is m.world.base.duty.mode not_alone)

  pub comes_pending : count_of m < length (holder_journal m.world.base) → written_or_passed batch m ≡ passed_or_booked batch m
  comes_pending less =
      ap (λ (b : Bool). if b then passed_or_booked batch m else Writes batch) is
    where
      is : nat_lt (count_of m) (length (holder_journal m.world.base)) ≡ true
      is = grind (arith, nat_tests)

  pub comes_writing : length (holder_journal m.world.base) ≤ count_of m → written_or_passed batch m ≡ Writes batch
  comes_writing le =
      ap (λ (b : Bool). if b then passed_or_booked batch m else Writes batch) is
    where
      is : nat_lt (count_of m) (length (holder_journal m.world.base)) ≡ false
      is = grind (arith, nat_tests)
