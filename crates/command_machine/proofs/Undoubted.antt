-- Where no disk is in doubt and none fails, a command has one course.
use Rattle.std.proofs.Common.{◌≡◌, ℕ, zero, suc, ◌≤◌, inl, inr, Bool, true, false, List, [], ◌∷◌, ◌++◌, length, refl, ap, sym, ◌∙◌, subst, arith, Option, Some, None, Result, Ok, Err}
use Rattle.ali_base.specs.declared.duty.Duty.{Duty}
use Rattle.ali_base.specs.declared.names.DiskName.{DiskName}
use Rattle.ali_base.specs.declared.names.DiskName.TheVariants as disk
use Rattle.ali_base.specs.declared.names.NodeName.{NodeName}
use Rattle.ali_base.specs.declared.names.NodeName.TheVariants.{A, B}
use Rattle.batch_desk.specs.Jobs.{next_of}
use Rattle.batch_desk.specs.declared.job.Job.{Job}
use Rattle.catch_up.specs.CatchingUp.{first_number}
use Rattle.office_entry.specs.declared.entry.Entry.{Entry}
use Rattle.office_state.specs.OfficeState.{office_limits}
use Rattle.office_state.specs.declared.due_fault.DueFault.{DueFault}
use Rattle.pair_core.specs.PairPassing.{pass_row, passed_row}
use Rattle.pair_world.specs.Changes.{shipment, delivered, started, register_started}
use Rattle.pair_world.specs.Deliveries as answers
use Rattle.pair_world.specs.Deliveries.{Answer, answer}
use Rattle.pair_world.specs.Frames.{Frame, item_at}
use Rattle.pair_world.specs.Refusals as refusals
use Rattle.pair_world.specs.Refusals.{Test, disk_of}
use Rattle.pair_world.specs.World.{World, Resolved, Shipment, Message, Ships, Acks, NodeState, other, told_by, node_at, with_node, failed_write_at, put_failed_write, picked_node, with_failed_duty, recovered}
use Rattle.pair_world.proofs.Items.{none_some}
use Rattle.world_rows.specs.Counts.{Counts, count_at, NeverFall, NoneRose}
use Rattle.world_rows.specs.Rows.{Row, Unless, MayFail, Always, Success, Gives}
use Rattle.world_rows.specs.Told.{Failed}
use Rattle.world_rows.specs.Told as told
use Rattle.world_rows.specs.WorldRows.{unless, journal_at, answer_row, message_row}
use Rattle.world_rows.proofs.Rows.{one_reply}
use Rattle.command_machine.specs.CommandRows.{append_row, job_row, found_row, order_row, command_row, event_row}
use Rattle.office_commands.specs.Commands as commands
use Rattle.office_commands.specs.Commands.{Command}
use Rattle.office_commands.specs.declared.order.Order.{Order}
use Rattle.office_commands.specs.declared.order.Order.TheVariants as order
use Rattle.command_machine.specs.Courses.{Event, First, Writes, Passes, Goes_alone, Books, Catches_up, row_of, then_comes, told_of}
use Rattle.command_machine.specs.Laws.{IsSure}
use Rattle.command_machine.specs.Machine.{Machine, Moment, state_of, count_of}
use Rattle.command_machine.specs.Replies.{Reply, Told}
use Rattle.command_machine.specs.Steps.{Course, Moves, Runs, begun, over, Steps}

-- where no disk failed, what a row gives it gives whatever the counts are
pub calm : {R W : Type 0} (before now other later : Counts) (failure : DiskName → R) (w : W) → NoneRose before now → (row : Row R W) (reply : R) (v : W) → Gives before now failure w row reply v → Gives other later failure w row reply v
calm before now other later failure w none (Unless refusal row) reply v (inl g) = inl g
calm before now other later failure w none (Unless refusal row) reply v (inr g) = inr (g.0, calm before now other later failure w none row reply v g.1)
calm before now other later failure w none (MayFail disk left row) reply v (inl g) = absurd (none disk g.2)
calm before now other later failure w none (MayFail disk left row) reply v (inr g) = inr (calm before now other later failure w none row reply v g)
calm before now other later failure w none (Always refusal) reply v g = g
calm before now other later failure w none (Success done left) reply v g = g

-- counts that never fall and did not rise in the whole did not rise in a part

pub calm_first : (a b z : Counts) → NeverFall b z → NoneRose a z → NoneRose a b
calm_first a b z rest none disk rose = none disk (let more = rest disk in omega arith)

pub calm_rest : (a b z : Counts) → NeverFall a b → NoneRose a z → NoneRose b z
calm_rest a b z first none disk rose = none disk (let more = first disk in omega arith)

pub move_counts : (c d : Course) (o : Option Event) → Moves c o d → NeverFall c.moment.counts d.moment.counts
move_counts c d None moves = absurd moves
move_counts c d (Some event) moves = moves.counts

pub runs_never_fall : (n : ℕ) (c d : Course) → Runs n c d → NeverFall c.moment.counts d.moment.counts
runs_never_fall zero c d same disk = subst (λ (x : Course). count_at c.moment.counts disk ≤ count_at x.moment.counts disk) same (omega arith)
runs_never_fall (suc n) c d (next, moves, runs) disk =
    let here = move_counts c next c.event moves disk in
    let there = runs_never_fall n next d runs disk in
    omega arith

-- a row whose success leaves no disk in doubt
abbrev LeavesSure : Row Reply Machine → Type 0
LeavesSure (Unless refusal row) = LeavesSure row
LeavesSure (MayFail disk left row) = LeavesSure row
LeavesSure (Always refusal) = Unit {0}
LeavesSure (Success done left) = IsSure left

module _ (before now : Counts) (failure : DiskName → Reply) (m : Machine) (none : NoneRose before now) (sure : IsSure m) where
  stays_sure : (row : Row Reply Machine) (reply : Reply) (v : Machine) → LeavesSure row → Gives before now failure m row reply v → IsSure v
  stays_sure (Unless refusal row) reply v leaves (inl g) = subst (λ (x : Machine). IsSure x) (sym g.1) sure
  stays_sure (Unless refusal row) reply v leaves (inr g) = stays_sure row reply v leaves g.1
  stays_sure (MayFail disk left row) reply v leaves (inl g) = absurd (none disk g.2)
  stays_sure (MayFail disk left row) reply v leaves (inr g) = stays_sure row reply v leaves g
  stays_sure (Always refusal) reply v leaves g = subst (λ (x : Machine). IsSure x) (sym g.1) sure
  stays_sure (Success done left) reply v leaves g = subst (λ (x : Machine). IsSure x) (sym g.1) leaves

module _ (m : Machine) (sure : IsSure m) where
  append_sure : (r : Result Entry DueFault) → LeavesSure (append_row m r)
  append_sure (Ok e) = record { a = sure.a; b = sure.b; duty = sure.duty }
  append_sure (Err fault) = tt

  write_sure : (o : Option Job) → LeavesSure (job_row m o)
  write_sure None = tt
  write_sure (Some job) = append_sure (next_of (state_of m) job)

  found_sure : (batch : Bool) (o : Option Job) → LeavesSure (found_row m batch o (Success (Told told.Ready) m))
  found_sure false o = sure
  found_sure true None = sure
  found_sure true (Some job) = sure

  -- events of the world

  passed_sure : (k : ℕ) (x : Shipment Entry) (a : Answer Entry) → LeavesSure (event_row m (passed_row office_limits m.world k x a))
  passed_sure k x answers.Behind = record { a = sure.a; b = sure.b; duty = sure.duty }
  passed_sure k x (answers.Cut left) = record { a = sure.a; b = sure.b; duty = sure.duty }
  passed_sure k x (answers.Stored frame) = record { a = sure.a; b = sure.b; duty = sure.duty }
  passed_sure k x answers.Have = record { a = sure.a; b = sure.b; duty = sure.duty }
  passed_sure k x answers.Have_end = record { a = sure.a; b = sure.b; duty = sure.duty }

  pass_sure : (k : ℕ) → LeavesSure (event_row m (pass_row office_limits m.world k))
  pass_sure k =
      let x = shipment m.world.base k in
      passed_sure k x (answer (journal_at m.world (other x.sender)) (told_by x))

  answer_sure : (x : Shipment Entry) (made : ℕ) (base : Resolved Entry) (a : Answer Entry) → LeavesSure (event_row m (answer_row office_limits m.world x made (record m.world { base = base }) a))
  answer_sure x made base answers.Behind = record { a = sure.a; b = sure.b; duty = sure.duty }
  answer_sure x made base (answers.Cut left) = record { a = sure.a; b = sure.b; duty = sure.duty }
  answer_sure x made base (answers.Stored frame) = record { a = sure.a; b = sure.b; duty = sure.duty }
  answer_sure x made base answers.Have = record { a = sure.a; b = sure.b; duty = sure.duty }
  answer_sure x made base answers.Have_end = record { a = sure.a; b = sure.b; duty = sure.duty }

  message_sure : (i : ℕ) (o : Option (Message Entry)) → LeavesSure (event_row m (message_row office_limits m.world i o))
  message_sure i None = tt
  message_sure i (Some (Ships x)) = answer_sure x (suc (length m.world.base.messages)) (delivered m.world.base (Ships x)) (answer (journal_at m.world (other x.sender)) (told_by x))
  message_sure i (Some (Acks ack)) = record { a = sure.a; b = sure.b; duty = sure.duty }

  order_sure : (lasted : Bool) (order : Order) → LeavesSure (event_row m (order_row m lasted order))
  order_sure lasted order.Book = record { a = sure.a; b = sure.b; duty = sure.duty }
  order_sure lasted (order.Ship n number) = record { a = sure.a; b = sure.b; duty = sure.duty }
  order_sure lasted (order.Deliver message) = message_sure message (item_at m.world.base.messages message)
  order_sure lasted (order.Take n) = record { a = sure.a; b = sure.b; duty = sure.duty }
  order_sure lasted order.Alone = record { a = sure.a; b = sure.b; duty = sure.duty }
  order_sure lasted order.Pair = record { a = sure.a; b = sure.b; duty = sure.duty }
  order_sure lasted (order.Stop n) = record { a = sure.a; b = sure.b; duty = sure.duty }
  order_sure lasted (order.Start A) = record { a = refl; b = sure.b; duty = sure.duty }
  order_sure lasted (order.Start B) = record { a = sure.a; b = refl; duty = sure.duty }
  order_sure lasted order.StartDuty = record { a = sure.a; b = sure.b; duty = refl }
  order_sure lasted order.Status = record { a = sure.a; b = sure.b; duty = sure.duty }

  command_sure : (lasted : Bool) (command : Command) → LeavesSure (command_row m lasted command)
  command_sure lasted (commands.Ask n position tn since) = sure
  command_sure lasted (commands.Report n report) = sure
  command_sure lasted (commands.File content) = record { a = sure.a; b = sure.b; duty = sure.duty }
  command_sure lasted (commands.Edit editor serial edit) = record { a = sure.a; b = sure.b; duty = sure.duty }
  command_sure lasted (commands.Write n) = write_sure m.job
  command_sure lasted commands.Next = found_sure false m.job
  command_sure lasted commands.Batch = found_sure true m.job
  command_sure lasted commands.Catch_up = pass_sure (first_number m.world)
  command_sure lasted (commands.Ordered order) = order_sure lasted order

  event_sure : (lasted : Bool) (event : Event) → LeavesSure (row_of lasted m event)
  unfolding row_of
  event_sure lasted (First command) = command_sure lasted command
  event_sure lasted (Writes batch) = write_sure m.job
  event_sure lasted (Passes batch) = pass_sure (suc (count_of m))
  event_sure lasted (Goes_alone batch) = record { a = sure.a; b = sure.b; duty = sure.duty }
  event_sure lasted (Books batch) = record { a = sure.a; b = sure.b; duty = sure.duty }
  event_sure lasted (Catches_up number) = pass_sure number

  -- whether a failed write lasted does not matter

  picked : (o : Option (List (Frame Entry))) (lasted : Bool) (state : NodeState Entry) → o ≡ None → picked_node o lasted state ≡ picked_node o false state
  picked None lasted state e = refl
  picked (Some j) lasted state e = absurd (none_some j (sym e))

  picked_duty : (o : Option Duty) (lasted : Bool) (base : Resolved Entry) → o ≡ None → with_failed_duty o lasted base ≡ with_failed_duty o false base
  picked_duty None lasted base e = refl
  picked_duty (Some duty) lasted base e = absurd (none_some duty (sym e))

  none_failed : (n : NodeName) → failed_write_at m.world.failed_writes n ≡ None
  none_failed A = sure.a
  none_failed B = sure.b

  start_same : (n : NodeName) (lasted : Bool) → started m.world n lasted ≡ started m.world n false
  start_same n lasted =
      ap (λ (state : NodeState Entry). let w : World Entry = record m.world {
        base = with_node m.world.base n (record state { up = true; known = m.world.base.duty.epoch });
        failed_writes = put_failed_write m.world.failed_writes n None;
      } in w) (picked (failed_write_at m.world.failed_writes n) lasted (node_at m.world.base.nodes n) (none_failed n))

  start_duty_same : (lasted : Bool) → register_started m.world lasted ≡ register_started m.world false
  start_duty_same lasted =
      ap (λ (base : Resolved Entry). let w : World Entry = record m.world { base = recovered base; register_up = true; failed_duty = None } in w) (picked_duty m.world.failed_duty lasted m.world.base sure.duty)

  -- the rows of the starts that lead to this world

  abbrev starting : NodeName → World Entry → Row told.Told (World Entry)
  starting n v =
      let w = m.world in
      unless (state_of m) (Test (refusals.duty_is_down w) ∷ Test (refusals.node_is_up w n) ∷ [])
      (MayFail (disk_of n) w
      (unless (state_of m) (Test (refusals.short w n (journal_at v n)) ∷ [])
      (Success (told.Started n (length (journal_at v n)) w.base.duty.epoch) v)))

  abbrev starting_duty : World Entry → Row told.Told (World Entry)
  starting_duty v = unless (state_of m) (refusals.start_duty_row m.world) (MayFail disk.Duty m.world (Success (told.Started_duty v.base.duty) v))

  order_same : (lasted : Bool) (order : Order) → order_row m lasted order ≡ order_row m false order
  order_same lasted (order.Start n) = ap (λ (v : World Entry). starting n v) (start_same n lasted)
  order_same lasted order.StartDuty = ap (λ (v : World Entry). starting_duty v) (start_duty_same lasted)
  order_same lasted order = refl

  command_same : (lasted : Bool) (command : Command) → command_row m lasted command ≡ command_row m false command
  command_same lasted (commands.Ordered order) = ap (λ (row : Row told.Told (World Entry)). event_row m row) (order_same lasted order)
  command_same lasted command = refl

  event_same : (lasted : Bool) (event : Event) → row_of lasted m event ≡ row_of false m event
  unfolding row_of
  event_same lasted (First command) = command_same lasted command
  event_same lasted event = refl

-- a course, but for the counts
record Still : Type 0 where
  machine : Machine
  told : List Reply
  event : Option Event

abbrev still : Course → Still
still c = record { machine = c.moment.machine; told = c.told; event = c.event }

-- an event between these counts
record Goes (before now : Counts) (s : Still) (event : Event) (t : Still) : Type 0 where
  reply : Reply
  gives : Gives before now (λ disk. Told (Failed disk)) s.machine (row_of false s.machine event) reply t.machine
  told : t.told ≡ s.told ++ told_of event t.machine reply
  next : t.event ≡ then_comes event t.machine reply

abbrev GoesBy : Counts → Counts → Still → Option Event → Still → Type 0
GoesBy before now s None t = ⊥
GoesBy before now s (Some event) t = Goes before now s event t

still_goes : (c d : Course) (o : Option Event) → IsSure c.moment.machine → Moves c o d → GoesBy c.moment.counts d.moment.counts (still c) o (still d)
still_goes c d None sure moves = absurd moves
still_goes c d (Some event) sure moves =
    let m = c.moment.machine in
    record {
      reply = moves.reply;
      gives = subst (λ (row : Row Reply Machine). Gives c.moment.counts d.moment.counts (λ disk. Told (Failed disk)) m row moves.reply d.moment.machine) (event_same m sure moves.lasted event) moves.gives;
      told = moves.told;
      next = moves.next;
    }

still_sure : (c d : Course) (o : Option Event) → IsSure c.moment.machine → NoneRose c.moment.counts d.moment.counts → Moves c o d → IsSure d.moment.machine
still_sure c d None sure none moves = absurd moves
still_sure c d (Some event) sure none moves =
    let m = c.moment.machine in
    stays_sure c.moment.counts d.moment.counts (λ disk. Told (Failed disk)) m none sure (row_of moves.lasted m event) moves.reply d.moment.machine (event_sure m sure moves.lasted event) moves.gives

one_still : (before now other later : Counts) (s t u : Still) (o : Option Event) → NoneRose before now → NoneRose other later → GoesBy before now s o t → GoesBy other later s o u → t ≡ u
one_still before now other later s t u None calm_here calm_there goes going = absurd goes
one_still before now other later s t u (Some event) calm_here calm_there goes going =
    let failure : DiskName → Reply = λ disk. Told (Failed disk) in
    let row = row_of false s.machine event in
    let again = calm other later before now failure s.machine calm_there row going.reply u.machine going.gives in
    let one = one_reply before now failure s.machine calm_here row goes.reply going.reply t.machine u.machine goes.gives again in
    let said : t.told ≡ u.told = goes.told ∙ ap (λ r. s.told ++ told_of event t.machine r) one.0 ∙ ap (λ x. s.told ++ told_of event x going.reply) one.1 ∙ sym going.told in
    let comes : t.event ≡ u.event = goes.next ∙ ap (λ r. then_comes event t.machine r) one.0 ∙ ap (λ x. then_comes event x going.reply) one.1 ∙ sym going.next in
    ap (λ (x : Machine). let y : Still = record { machine = x; told = t.told; event = t.event } in y) one.1
    ∙ ap (λ (x : List Reply). let y : Still = record { machine = u.machine; told = x; event = t.event } in y) said
    ∙ ap (λ (x : Option Event). let y : Still = record { machine = u.machine; told = u.told; event = x } in y) comes

no_move : (c d : Course) (o : Option Event) → o ≡ None → Moves c o d → ⊥
no_move c d None e moves = moves
no_move c d (Some event) e moves = none_some event (sym e)

one_course : (n k : ℕ) (c c2 d d2 : Course) → still c ≡ still c2 → IsSure c.moment.machine → IsSure c2.moment.machine
    → NoneRose c.moment.counts d.moment.counts → NoneRose c2.moment.counts d2.moment.counts
    → Runs n c d → Runs k c2 d2 → d.event ≡ None → d2.event ≡ None → still d ≡ still d2
one_course zero zero c c2 d d2 same sure sure2 none none2 runs runs2 over over2 = ap (λ x. still x) (sym runs) ∙ same ∙ ap (λ x. still x) runs2
one_course zero (suc k) c c2 d d2 same sure sure2 none none2 runs (next, moves, runs2) over over2 =
    absurd (no_move c2 next c2.event (sym (ap (λ (s : Still). s.event) same) ∙ ap (λ (x : Course). x.event) runs ∙ over) moves)
one_course (suc n) zero c c2 d d2 same sure sure2 none none2 (next, moves, runs) runs2 over over2 =
    absurd (no_move c next c.event (ap (λ (s : Still). s.event) same ∙ ap (λ (x : Course). x.event) runs2 ∙ over2) moves)
one_course (suc n) (suc k) c c2 d d2 same sure sure2 none none2 (next, moves, runs) (next2, moves2, runs2) over over2 =
    let here = calm_first c.moment.counts next.moment.counts d.moment.counts (runs_never_fall n next d runs) none in
    let here2 = calm_first c2.moment.counts next2.moment.counts d2.moment.counts (runs_never_fall k next2 d2 runs2) none2 in
    let goes = still_goes c next c.event sure moves in
    let going : GoesBy c2.moment.counts next2.moment.counts (still c) c.event (still next2) =
    subst (λ (s : Still). GoesBy c2.moment.counts next2.moment.counts s s.event (still next2)) (sym same) (still_goes c2 next2 c2.event sure2 moves2)
    in
    let both : still next ≡ still next2 = one_still c.moment.counts next.moment.counts c2.moment.counts next2.moment.counts (still c) (still next) (still next2) c.event here here2 goes going in
    one_course n k next next2 d d2 both (still_sure c next c.event sure here moves) (still_sure c2 next2 c2.event sure2 here2 moves2)
    (calm_rest c.moment.counts next.moment.counts d.moment.counts (move_counts c next c.event moves) none)
    (calm_rest c2.moment.counts next2.moment.counts d2.moment.counts (move_counts c2 next2 c2.event moves2) none2)
    runs runs2 over over2

-- the replies and the machine of a command are one
pub one_step : (m now other : Moment) (command : Command) (said others : List Reply) → IsSure m.machine → NoneRose m.counts now.counts → NoneRose m.counts other.counts
    → Steps m command said now → Steps m command others other → (said ≡ others) × (now.machine ≡ other.machine)
one_step m now other command said others sure none none2 steps steps2 =
    let same = one_course steps.events steps2.events (begun m command) (begun m command) (over now said) (over other others) refl sure sure none none2 steps.runs steps2.runs refl refl in
    (ap (λ (s : Still). s.told) same, ap (λ (s : Still). s.machine) same)
