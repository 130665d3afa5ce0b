-- The table of a node is made ready: what the rows of the machine have of it, and what it switches.
use Rattle.std.proofs.Common.{◌≡◌, ◌≢◌, ◌⊎◌, inl, inr, ℕ, Bool, true, false, not, ◌&&◌, List, [], ◌∷◌, ◌++◌, map, take, refl, ap, sym, ◌∙◌, subst, arith, Option, Some, None, Result, Ok, Err, IsErr, option_map}
use Rattle.ali_base.specs.Steps.{when}
use Rattle.ali_base.specs.declared.duty.Duty.{Duty}
use Rattle.ali_base.specs.declared.duty.Mode.{Mode}
use Rattle.ali_base.specs.declared.duty.Mode.TheVariants.{Alone, Both}
use Rattle.ali_base.specs.declared.names.DiskName.{DiskName}
use Rattle.ali_base.specs.declared.names.NodeName.{NodeName}
use Rattle.ali_base.specs.declared.names.NodeName.TheVariants.{A, B}
use Rattle.ali_base.specs.declared.no_memory.NoMemory.{NoMemory}
use Rattle.audit_reports.specs.declared.report.Report.TheVariants.{Stats}
use Rattle.command_machine.specs.CommandRows.{refused, learning, held, in_duty, command_row}
use Rattle.command_machine.specs.Courses.{Event, First, row_of, then_comes, told_of}
use Rattle.command_machine.specs.Machine as machines
use Rattle.command_machine.specs.Machine.{Machine, Moment, IsLawful, with_world, office_bounds, history_of}
use Rattle.command_machine.specs.Replies as replies
use Rattle.command_machine.specs.Steps.{GoesOn}
use Rattle.command_machine.specs.Switches.{Switches, After, IsSwitched, answered, first_off, found_up, needed_by, switched, with_node}
use Rattle.command_machine.proofs.Lawful.{AllowedIn, moves_keep}
use Rattle.command_desk.specs.DeskSteps.{Leads, Stays, IsGiven, RowDone, EventDone, Readies, IsLearned, IsPlainly, ReadySwitches, at_event, part_told}
use Rattle.command_desk.specs.MadeReply.{ShowsMachine, counts_at, fault_reply, receiver_of, reply_of, switches_of, table_of}
use Rattle.command_desk.specs.OpenedDesk.{Keeps}
use Rattle.command_desk.specs.declared.desk.Desk.{Desk}
use Rattle.command_desk.specs.declared.refusal.Refusal.TheVariants as refusal
use Rattle.command_desk.specs.declared.reply.Reply.{Reply}
use Rattle.command_desk.specs.declared.reply.Reply.TheVariants as reply
use Rattle.command_desk.proofs.Leading.{CallRow, found, moment_in, never_fell, stays_in, told_fault}
use Rattle.command_desk.proofs.Switching.{plainly, quiet_when, row_passed, row_refused, unless_case}
use Rattle.crash_disk.specs.DiskState.{DiskState}
use Rattle.office_commands.specs.Commands as commands
use Rattle.office_commands.specs.Commands.{Command, IsCommand}
use Rattle.office_entry.specs.declared.entry.Entry.{Entry}
use Rattle.office_state.specs.History as history
use Rattle.office_state.specs.OfficeState.{State, office_limits}
use Rattle.pair_core.specs.Pair.{Does, IsCall, duty_of, is_node_up, is_up, node_of, count_of, len_of, table_of as table_at}
use Rattle.pair_core.specs.PairAnswers.{KeepsCourse, KeepsOther, LearningCauses, ReadyCauses, ReadyRest, fault_told}
use Rattle.pair_core.specs.PairRefusals as rows
use Rattle.pair_core.specs.PairRefusals.{first_of}
use Rattle.pair_core.specs.declared.faults.PairFault.{PairFault}
use Rattle.pair_core.specs.declared.faults.PairFault.TheVariants as fault
use Rattle.pair_core.specs.declared.pair.Pair.{Pair}
use Rattle.pair_core.proofs.PairRows as own
use Rattle.pair_core.proofs.PairRows.{AllNone, AreRow, Matches, all_none, not_when, tests}
use Rattle.pair_node.specs.NodeState.{learned_of}
use Rattle.pair_world.specs.Changes.{read_failed}
use Rattle.pair_world.specs.Frames.{Frame, Begins, entries}
use Rattle.pair_world.specs.Refusals as refusals
use Rattle.pair_world.specs.Refusals.{Refusal, disk_of, is_alone}
use Rattle.pair_world.specs.SoundWorld.{Invariant, Booked, Mirrored}
use Rattle.pair_world.specs.World.{World, is_node, node_at, other}
use Rattle.pair_world.proofs.Items.{none_some, some_is}
use Rattle.pair_world.proofs.RowTests.{in_duty_passed, in_duty_passes, passes}
use Rattle.pair_world.proofs.SoundSteps.{base_has_parts}
use Rattle.pair_world.proofs.Terms.{node_same}
use Rattle.world_rows.specs.Counts.{Counts, NeverFall, RoseAt}
use Rattle.world_rows.specs.Histories.{IsLawful as IsLawfulWorld, due_after}
use Rattle.world_rows.specs.Rows.{Row, Unless, MayFail, Always, Success, Gives}
use Rattle.world_rows.specs.Told as world
use Rattle.world_rows.specs.Told.{Told}
use Rattle.world_rows.specs.WorldRows as world_rows
use Rattle.world_rows.specs.WorldRows.{unless}

-- ---- moments

pub no_fall : (counts : Counts) → NeverFall counts counts
no_fall counts d = omega arith

pub never_fall_twice : (a b c : Counts) → NeverFall a b → NeverFall b c → NeverFall a c
never_fall_twice a b c first then d = omega (arith, first d, then d)

pub rose_since : (a b c : Counts) (d : DiskName) → NeverFall a b → RoseAt b c d → RoseAt a c d
rose_since a b c d first rose = omega (arith, first d, rose)

-- the moment itself
pub same_moment : {D : Type 0} (state : D → DiskState) (desk : Desk D) (Way : Moment → Moment → Type 0) → ((m : Moment) → ShowsMachine state desk m → IsLawful m.machine → Way m m) → Leads state desk desk Way
same_moment state desk Way way m shown lawful = (m, shown, lawful, way m shown lawful)

pub still : (m : Moment) → Stays m m
still m = record { machine = refl; counts = no_fall m.counts }

pub stays_twice : (m mid now : Moment) → Stays m mid → Stays mid now → Stays m now
stays_twice m mid now first then = record {
  machine = then.machine ∙ first.machine;
  counts = never_fall_twice m.counts mid.counts now.counts first.counts then.counts;
}

-- what a row gives after a look at the disks, it gives
module _ {R W : Type 0} (before mid now : Counts) (failure : DiskName → R) (w : W) (first : NeverFall before mid) where
  gives_since : (row : Row R W) (r : R) (v : W) → Gives mid now failure w row r v → Gives before now failure w row r v
  gives_since (Unless refusal row) r v (inl g) = inl g
  gives_since (Unless refusal row) r v (inr g) = inr (g.0, gives_since row r v g.1)
  gives_since (MayFail d left row) r v (inl g) = inl (g.0, g.1, rose_since before mid now d first g.2)
  gives_since (MayFail d left row) r v (inr g) = inr (gives_since row r v g)
  gives_since (Always refusal) r v g = g
  gives_since (Success done left) r v g = g

abbrev pub failed_told : DiskName → replies.Reply
failed_told disk = replies.Told (world.Failed disk)

-- what is given after nothing changed, is given
pub given_since : (row : Machine → Row replies.Reply Machine) (told : replies.Reply) (m mid now : Moment) → Stays m mid → IsGiven (row mid.machine) told mid now → IsGiven (row m.machine) told m now
given_since row told m mid now stays given =
    let later = subst (λ (x : Machine). Gives mid.counts now.counts failed_told x (row x) told now.machine) stays.machine given.gives in
    record {
      gives = gives_since m.counts mid.counts now.counts failed_told m.machine stays.counts (row m.machine) told now.machine later;
      counts = never_fall_twice m.counts mid.counts now.counts stays.counts given.counts;
    }

-- an event of a lawful machine leaves a lawful one
pub event_kept : (event : Event) → AllowedIn event → (lasted : Bool) (m now : Moment) (told : replies.Reply) → IsGiven (row_of lasted m.machine event) told m now → IsLawful m.machine → IsLawful now.machine
event_kept event allowed lasted m now told given lawful =
    let goes : GoesOn (at_event m [] (Some event)) event (at_event now (told_of event now.machine told) (then_comes event now.machine told)) = record {
      lasted = lasted;
      reply = told;
      gives = given.gives;
      counts = given.counts;
      told = refl;
      next = refl;
    } in
    (moves_keep (at_event m [] (Some event)) (at_event now (told_of event now.machine told) (then_comes event now.machine told)) event allowed lawful goes).lawful

pub command_kept : (command : Command) → IsCommand command → (m now : Moment) (told : replies.Reply) → IsGiven (command_row m.machine true command) told m now → IsLawful m.machine → IsLawful now.machine
unfolding row_of
command_kept command is m now told given lawful = event_kept (First command) is true m now told given lawful

-- the first event of a command is its row
pub command_done : {D : Type 0} (state : D → DiskState) (old new : Desk D) (command : Command) (r : Result replies.Reply NoMemory) → Leads state old new (RowDone (λ x. command_row x true command) r)
    → Leads state old new (EventDone (First command) r)
unfolding row_of
command_done state old new command (Ok told) leads m shown lawful = let one = leads m shown lawful in (one.0, one.1, one.2, (true, one.3))
command_done state old new command (Err e) leads m shown lawful = let one = leads m shown lawful in (one.0, one.1, one.2, (true, one.3))

-- ---- rows that begin with refusals

abbrev pub tested : List (Option Refusal) → Row replies.Reply Machine → Row replies.Reply Machine
tested [] row = row
tested (o ∷ more) row = Unless (refused o) (tested more row)

pub no_match : (o : Option Refusal) → Matches None o → o ≡ None
no_match None is = refl
no_match (Some r) is = absurd (none_some (Some (world.Refused r)) is)

or_some : (f : PairFault) (rest : List (Option PairFault)) → rows.or_first (Some f) rest ≡ Some f
or_some f [] = refl
or_some f (next ∷ more) = or_some f more

none_first : (rest : List (Option PairFault)) → rows.or_first None rest ≡ first_of rest
none_first [] = refl
none_first (next ∷ more) = refl

-- a refusal of the pair that is one of the world is told as that
fault_matched : (f : PairFault) (o : Option Refusal) → Matches (Some f) o → refused o ≡ Some (fault_reply f)
fault_matched f None is = absurd (none_some (fault_told f) (sym is))
fault_matched f (Some r) is =
    let same : fault_told f ≡ Some (world.Refused r) = some_is (fault_told f) (Some (world.Refused r)) is in
    let other : f ≡ fault.NoMemory → ⊥ = λ e. none_some (world.Refused r) (sym (ap fault_told e) ∙ same) in
    let t = told_fault f other in
    let its : t.told ≡ world.Refused r = some_is t.told (world.Refused r) (sym t.is ∙ same) in
    ap (λ (x : Told). Some (replies.Told x)) (sym its) ∙ ap (λ (x : replies.Reply). Some x) (sym t.reply)

module _ (before now : Counts) (m : Machine) where
  abbrev pub GivesIn : Row replies.Reply Machine → replies.Reply → Machine → Type 0
  GivesIn row told v = Gives before now (λ disk. replies.Told (world.Failed disk)) m row told v

  -- behind the refusals
  pub deeper : (os : List (Option Refusal)) (row next : Row replies.Reply Machine) (told : replies.Reply) (v : Machine) → (GivesIn row told v → GivesIn next told v) → GivesIn (tested os row) told v → GivesIn (tested os next) told v
  deeper [] row next told v leads g = leads g
  deeper (o ∷ os) row next told v leads (inl g) = inl g
  deeper (o ∷ os) row next told v leads (inr g) = inr (g.0, deeper os row next told v leads g.1)

  -- where none of the pair's holds
  pub passes_row : (owns : List (Option PairFault)) (os : List (Option Refusal)) → AreRow owns os → first_of owns ≡ None → (row : Row replies.Reply Machine) (told : replies.Reply) (v : Machine) → GivesIn row told v → GivesIn (tested os row) told v
  passes_row [] [] are none row told v g = g
  passes_row [] (o ∷ os) are none row told v g = absurd are
  passes_row (f ∷ owns) [] are none row told v g = absurd are
  passes_row (None ∷ owns) (o ∷ os) are none row told v g =
      let is = no_match o are.0 in
      inr (ap refused is, passes_row owns os (are.1 is) (sym (none_first owns) ∙ none) row told v g)
  passes_row (Some f ∷ owns) (o ∷ os) are none row told v g = absurd (none_some f (sym none ∙ or_some f owns))

  -- and nothing else is given then
  pub passed_row : (owns : List (Option PairFault)) (os : List (Option Refusal)) → AreRow owns os → first_of owns ≡ None → (row : Row replies.Reply Machine) (told : replies.Reply) (v : Machine) → GivesIn (tested os row) told v → GivesIn row told v
  passed_row [] [] are none row told v g = g
  passed_row [] (o ∷ os) are none row told v g = absurd are
  passed_row (f ∷ owns) [] are none row told v g = absurd are
  passed_row (None ∷ owns) (o ∷ os) are none row told v (inl g) = absurd (none_some told (sym (ap refused (no_match o are.0)) ∙ g.0))
  passed_row (None ∷ owns) (o ∷ os) are none row told v (inr g) = passed_row owns os (are.1 (no_match o are.0)) (sym (none_first owns) ∙ none) row told v g.1
  passed_row (Some f ∷ owns) (o ∷ os) are none row told v g = absurd (none_some f (sym none ∙ or_some f owns))

  -- the first that holds
  pub refused_row : (owns : List (Option PairFault)) (os : List (Option Refusal)) (f : PairFault) → AreRow owns os → first_of owns ≡ Some f → (row : Row replies.Reply Machine) → GivesIn (tested os row) (fault_reply f) m
  refused_row [] [] f are is row = absurd (none_some f is)
  refused_row [] (o ∷ os) f are is row = absurd are
  refused_row (g ∷ owns) [] f are is row = absurd are
  refused_row (None ∷ owns) (o ∷ os) f are is row =
      let none = no_match o are.0 in
      inr (ap refused none, refused_row owns os f (are.1 none) (sym (none_first owns) ∙ is) row)
  refused_row (Some g ∷ owns) (o ∷ os) f are is row =
      let same : g ≡ f = some_is g f (sym (or_some g owns) ∙ is) in
      inl (fault_matched g o are.0 ∙ ap (λ (x : PairFault). Some (fault_reply x)) same, refl)

-- a refusal of the world as a reply
pub refused_as : (o : Option Refusal) (t : Told) → option_map world.Refused o ≡ Some t → refused o ≡ Some (replies.Told t)
refused_as None t is = absurd (none_some t is)
refused_as (Some r) t is = ap (λ (x : Told). Some (replies.Told x)) (some_is (world.Refused r) t is)

pub passed_as : (o : Option Refusal) → option_map world.Refused o ≡ None → refused o ≡ None
passed_as None is = refl
passed_as (Some r) is = absurd (none_some (world.Refused r) (sym is))

-- a row of the world behind refusals, in a row of the machine
module _ (before now : Counts) (m : Machine) (s : State) (t : Told) (v : World Entry) where
  pub row_as : (os : List (Option Refusal)) (row : Row Told (World Entry)) (next : Row replies.Reply Machine)
      → (Gives before now world.Failed m.world row t v → GivesIn before now m next (replies.Told t) (with_world m v))
      → Gives before now world.Failed m.world (unless s (tests os) row) t v → GivesIn before now m (tested os next) (replies.Told t) (with_world m v)
  row_as [] row next leads g = leads g
  row_as (o ∷ os) row next leads (inl g) = inl (refused_as o t g.0, ap (with_world m) g.1)
  row_as (o ∷ os) row next leads (inr g) = inr (passed_as o g.0, row_as os row next leads g.1)

-- the row of a table that is made ready
module _ (before now : Counts) (m : Machine) (n : NodeName) (s : State) where
  abbrev learning_world : Row Told (World Entry)
  learning_world = MayFail (disk_of n) (read_failed m.world n) (Success world.Ready m.world)

  -- what stops it is given by each row whose table has to be ready
  ready_stops : (os : List (Option Refusal)) (t : Told) (v : World Entry) → (t ≡ world.Ready → ⊥) → Gives before now world.Failed m.world (unless s (tests os) learning_world) t v
      → (rest : Row replies.Reply Machine) → GivesIn before now m (tested os (learning m n rest)) (replies.Told t) (with_world m v)
  ready_stops os t v other g rest = row_as before now m s t v os learning_world (learning m n rest) behind g
    where
      behind : Gives before now world.Failed m.world learning_world t v → GivesIn before now m (learning m n rest) (replies.Told t) (with_world m v)
      behind (inl f) = inl (ap (λ (x : Told). replies.Told x) f.0, ap (with_world m) f.1, f.2)
      behind (inr f) = absurd (other f.0)

  -- and where it is ready, nothing is changed
  ready_same : (os : List (Option Refusal)) (v : World Entry) → Gives before now world.Failed m.world (unless s (tests os) learning_world) world.Ready v → v ≡ m.world
  ready_same [] v (inl g) = let no : world.Ready ≡ world.Failed (disk_of n) = g.0 in absurd (cc no)
  ready_same [] v (inr g) = g.1
  ready_same (o ∷ os) v (inl g) = g.1
  ready_same (o ∷ os) v (inr g) = ready_same os v g.1

-- the refusals of making a table ready
abbrev pub ready_owns : {D : Type 0} → Desk D → NodeName → List (Option PairFault)
ready_owns desk n = rows.duty_is_down desk.pair ∷ rows.node_is_down desk.pair n ∷ rows.not_in_duty desk.pair n ∷ []

abbrev pub ready_tests : Machine → NodeName → List (Option Refusal)
ready_tests m n = refusals.duty_is_down m.world ∷ refusals.node_is_down m.world n ∷ refusals.not_in_duty m.world n ∷ []

pub ready_are : {D : Type 0} (state : D → DiskState) (desk : Desk D) (n : NodeName) (m : Moment) → ShowsMachine state desk m → AreRow (ready_owns desk n) (ready_tests m.machine n)
ready_are state desk n m shown = own.ready_row state office_limits desk.pair m.machine.world shown.world n

-- of what the holder does
abbrev pub held_owns : {D : Type 0} → Desk D → List (Option PairFault)
held_owns desk = rows.duty_is_down desk.pair ∷ rows.node_is_down desk.pair (rows.holder desk.pair) ∷ []

abbrev pub held_tests : Machine → List (Option Refusal)
held_tests m = refusals.duty_is_down m.world ∷ refusals.node_is_down m.world (machines.holder_of m) ∷ []

pub held_are : {D : Type 0} (state : D → DiskState) (desk : Desk D) (m : Moment) → ShowsMachine state desk m → AreRow (held_owns desk) (held_tests m.machine)
held_are state desk m shown =
    (own.duty_is_down state office_limits desk.pair m.machine.world shown.world, λ up. (own.holder_is_down state office_limits desk.pair m.machine.world shown.world, λ _. tt))

-- ---- the table of a node in duty

abbrev pub IsInDuty : NodeName → Duty → Type 0
IsInDuty n duty = (n ≡ duty.holder) ⊎ (duty.mode ≡ Both)

module _ (w : World Entry) (lawful : IsLawfulWorld office_limits office_bounds w) where
  abbrev IsBegun : NodeName → Type 0
  IsBegun n = Begins (node_at w.base.nodes n).journal w.base.booked

  parts : Invariant (due_after office_limits) w.base
  parts = base_has_parts (due_after office_limits) w lawful.sound

  holder_begun : IsBegun w.base.duty.holder
  holder_begun = (parts.holds Booked).begins

  one_of : (n h : NodeName) → (n ≡ h) ⊎ (n ≡ other h)
  one_of A A = inl refl
  one_of A B = inr refl
  one_of B A = inr refl
  one_of B B = inl refl

  pub begun : (n : NodeName) → IsInDuty n w.base.duty → IsBegun n
  begun n (inl is) = subst IsBegun (sym is) holder_begun
  begun n (inr both) = by_name (one_of n w.base.duty.holder)
    where
      by_name : (n ≡ w.base.duty.holder) ⊎ (n ≡ other w.base.duty.holder) → IsBegun n
      by_name (inl is) = subst IsBegun (sym is) holder_begun
      by_name (inr is) = subst IsBegun (sym is) (parts.holds Mirrored both).holds

-- a node whose table may be made ready is in duty
pub serves : {D : Type 0} (desk : Desk D) (n : NodeName) → rows.ready_refusal desk.pair n ≡ None → IsInDuty n (duty_of desk.pair)
serves desk n none =
    let all = all_none (ready_owns desk n) none in
    let duty = duty_of desk.pair in
    in_duty_passed duty.mode n duty.holder refusals.No_flight
    (passes (is_alone duty.mode && not (is_node n duty.holder)) refusals.No_flight (not_when (is_alone duty.mode && not (is_node n duty.holder)) (rows.out_of_duty desk.pair n) all.1.1.0))

-- its table is the one after the booked history, once it has learned all that is booked
pub table_represents : {D : Type 0} (state : D → DiskState) (desk : Desk D) (n : NodeName) (m : Moment) → ShowsMachine state desk m → IsLawful m.machine → IsInDuty n (duty_of desk.pair)
    → is_node_up desk.pair n ≡ true → learned_of (node_of desk.pair n) ≡ count_of desk.pair → history.Represents office_limits (table_at desk.pair n) (history_of m.machine)
table_represents state desk n m shown lawful duty up all =
    let frames : List (Frame Entry) = (node_at m.machine.world.base.nodes n).journal in
    let here = subst (λ (d : Duty). IsInDuty n d) shown.world.duty duty in
    let front : take (learned_of (node_of desk.pair n)) frames ≡ m.machine.world.base.booked =
    ap (λ (k : ℕ). take k frames) (all ∙ shown.world.count) ∙ (begun m.machine.world lawful.world n here).front in
    subst (λ (fs : List (Frame Entry)). history.Represents office_limits (table_at desk.pair n) (entries fs)) front ((shown.world.nodes n).frames up).table

-- ---- it is made ready

module _ {D : Type 0} (state : D → DiskState) (old new : Desk D) (call : IsCall state old.pair new.pair) (kept : new.job ≡ old.job) (n : NodeName) where
  abbrev pub ready_call : CallRow
  ready_call bounds limits lasted w = world_rows.ready_row limits w n

  abbrev pub DoesReady : Option Told → Type 0
  DoesReady told = Does state old.pair new.pair (λ limits lasted w. world_rows.ready_row limits w n) told

  pub readies : DoesReady (Some world.Ready) → IsInDuty n (duty_of new.pair) → is_node_up new.pair n ≡ true → learned_of (node_of new.pair n) ≡ count_of new.pair
      → Leads state old new (Readies n (table_at new.pair n).state (Ok None))
  readies does duty up all m shown lawful =
      let f = found state old new call kept ready_call world.Ready m does shown lawful in
      let now : Moment = moment_in state old new call kept m f.left in
      let same : f.left ≡ m.machine.world = ready_same m.counts (counts_at state new) m.machine n (machines.state_of m.machine) (ready_tests m.machine n) f.left f.gives in
      let lawful_now : IsLawful now.machine = subst (λ (x : World Entry). IsLawful (with_world m.machine x)) (sym same) lawful in
      let its = table_represents state new n now f.shown lawful_now duty up all in
      (now, f.shown, lawful_now, (record { machine = ap (with_world m.machine) same; counts = never_fell state old new call kept m shown }, its.same))

  pub stops : (s : State) (t : Told) → (t ≡ world.Ready → ⊥) → DoesReady (Some t) → Leads state old new (Readies n s (Ok (Some (replies.Told t))))
  stops s t differs does m shown lawful =
      let f = found state old new call kept ready_call t m does shown lawful in
      let now : Moment = moment_in state old new call kept m f.left in
      let given : (rest : Row replies.Reply Machine) → IsGiven (in_duty m.machine n (learning m.machine n rest)) (replies.Told t) m now = λ rest. record {
        gives = ready_stops m.counts now.counts m.machine n (machines.state_of m.machine) (ready_tests m.machine n) t f.left differs f.gives rest;
        counts = never_fell state old new call kept m shown;
      } in
      (now, f.shown, command_kept (commands.Report n Stats) tt m now (replies.Told t) (given _) lawful, given)

  -- a fault of it is not that it is ready
  never_ready : (f : PairFault) (t : Told) → fault_told f ≡ Some t → t ≡ world.Ready → ⊥
  never_ready f t is same = by_fault f (is ∙ ap (λ (x : Told). Some x) same)
    where
      by_fault : (f : PairFault) → fault_told f ≡ Some world.Ready → ⊥
      by_fault (fault.Down d) e = absurd (cc)
      by_fault fault.NoMemory e = absurd (cc)
      by_fault f e = absurd (cc)

  pub ready_refused : (s : State) (f : PairFault) (told : Reply) → told ≡ reply.Refused (refusal.Pair f) → f ≢ fault.NoMemory → DoesReady (fault_told f)
      → Leads state old new (Readies n s (part_told new (Ok (Some told))))
  ready_refused s f told is differs does =
      let t = told_fault f differs in
      let done = subst (λ (o : Option Told). DoesReady o) t.is does in
      let its : reply_of (table_of new) new.job told ≡ replies.Told t.told = ap (reply_of (table_of new) new.job) is ∙ t.reply in
      subst (λ (r : replies.Reply). Leads state old new (Readies n s (Ok (Some r)))) (sym its) (stops s t.told (never_ready f t.told t.is) done)

  pub ready_undone : (s : State) (f : PairFault) (r : Result (Option Reply) NoMemory) → IsErr r → f ≡ fault.NoMemory → DoesReady (fault_told f) → Leads state old new (Readies n s (part_told new r))
  ready_undone s f (Ok told) err is does = absurd (cc err)
  ready_undone s f (Err e) err is does = stays_in state old new call kept ready_call (subst (λ (x : PairFault). DoesReady (fault_told x)) is does)

-- ---- what it switches

-- one node is up or down, and nothing else changed
pub switches_at : {D : Type 0} (old new : Desk D) (n : NodeName) (b : Bool) → is_up new.pair ≡ is_up old.pair → duty_of new.pair ≡ duty_of old.pair → KeepsOther old.pair new.pair n → is_node_up new.pair n ≡ b
    → switches_of new ≡ switched (switches_of old) (disk_of n) b
switches_at old new A b up duty kept is = λ i. record { register = up i; a = is i; b = kept.0 i; holder = (duty i).holder; mode = (duty i).mode; receivers = map receiver_of (kept.1 i) }
switches_at old new B b up duty kept is = λ i. record { register = up i; a = kept.0 i; b = is i; holder = (duty i).holder; mode = (duty i).mode; receivers = map receiver_of (kept.1 i) }

pub switches_stay : {D : Type 0} (old new : Desk D) (n : NodeName) → is_up new.pair ≡ is_up old.pair → duty_of new.pair ≡ duty_of old.pair → KeepsOther old.pair new.pair n → is_node_up new.pair n ≡ is_node_up old.pair n
    → switches_of new ≡ switches_of old
switches_stay old new A up duty kept is = switches_at old new A (is_node_up old.pair A) up duty kept is
switches_stay old new B up duty kept is = switches_at old new B (is_node_up old.pair B) up duty kept is

-- the same pair
pub switches_same : {D : Type 0} (old new : Desk D) → new.pair ≡ old.pair → switches_of new ≡ switches_of old
switches_same old new is = ap (λ (p : Pair _). switches_of (record { pair = p; job = old.job })) is

-- a table that is ready: nothing is switched, and its node is up, in duty and has learned all that is booked
pub record IsReady {D : Type 0} (old new : Desk D) (n : NodeName) : Type 0 where
  pub none : rows.ready_refusal old.pair n ≡ None
  pub switches : switches_of new ≡ switches_of old
  pub count : count_of new.pair ≡ count_of old.pair
  pub long : len_of new.pair n ≡ len_of old.pair n
  pub up : is_node_up new.pair n ≡ true
  pub learned : learned_of (node_of new.pair n) ≡ count_of new.pair
  pub duty_same : duty_of new.pair ≡ duty_of old.pair
  pub duty : IsInDuty n (duty_of new.pair)

module _ {D : Type 0} (state : D → DiskState) (old new : Desk D) (n : NodeName) (kept : KeepsOther old.pair new.pair n) where
  -- why a table is not learned
  pub unlearned : (f : PairFault) → LearningCauses state old.pair new.pair n f → KeepsCourse state old.pair new.pair → f ≢ fault.NoMemory → IsPlainly state old new (fault_reply f)
  unlearned (fault.Fault d) causes course differs =
      record { plain = tt; failed = causes.2; after = switches_at old new n false course.2 course.1 kept causes.1.1 ∙ ap (λ (x : DiskName). switched (switches_of old) x false) (sym causes.0) }
  unlearned (fault.Damaged d frame) causes course differs =
      record { plain = tt; failed = tt; after = switches_at old new n false course.2 course.1 kept causes.1.1 ∙ ap (λ (x : DiskName). switched (switches_of old) x false) (sym causes.0) }
  unlearned fault.NoMemory causes course differs = absurd (differs refl)
  unlearned f causes course differs = absurd causes

  -- it is ready
  pub is_ready : ReadyCauses state old.pair new.pair n (Ok tt) → IsReady old new n
  is_ready causes = by_case (unless_case (rows.ready_refusal old.pair n) old.pair new.pair (Ok tt) (ReadyRest state old.pair new.pair n (Ok tt)) causes)
    where
      by_case : ((f : PairFault) × (rows.ready_refusal old.pair n ≡ Some f) × ◌≡◌ {A = Result (Unit {0}) PairFault} (Ok tt) (Err f) × (new.pair ≡ old.pair)) ⊎ ((rows.ready_refusal old.pair n ≡ None) × ReadyRest state old.pair new.pair n (Ok tt)) → IsReady old new n
      by_case (inl (f, is, differs, same)) = absurd (cc differs)
      by_case (inr (none, rest)) = record {
        none = none;
        switches = switches_stay old new n rest.1.2 rest.1.1 kept (rest.0.1 ∙ sym rest.0.0);
        count = rest.1.0;
        long = rest.2;
        up = rest.0.1;
        learned = rest.3;
        duty_same = rest.1.1;
        duty = subst (λ (d : Duty). IsInDuty n d) (sym rest.1.1) (serves old n none);
      }

  -- it is not
  pub not_ready : (f : PairFault) → ReadyCauses state old.pair new.pair n (Err f) → f ≢ fault.NoMemory → (told : Reply) → told ≡ reply.Refused (refusal.Pair f) → ReadySwitches state old new n (Ok (Some told))
  not_ready f causes differs told is = by_case (unless_case (rows.ready_refusal old.pair n) old.pair new.pair (Err f) (ReadyRest state old.pair new.pair n (Err f)) causes)
    where
      err_is : (f g : PairFault) → ◌≡◌ {A = Result (Unit {0}) PairFault} (Err f) (Err g) → f ≡ g
      err_is f g e = cc

      by_case : ((g : PairFault) × (rows.ready_refusal old.pair n ≡ Some g) × ◌≡◌ {A = Result (Unit {0}) PairFault} (Err f) (Err g) × (new.pair ≡ old.pair)) ⊎ ((rows.ready_refusal old.pair n ≡ None) × ReadyRest state old.pair new.pair n (Err f)) → ReadySwitches state old new n (Ok (Some told))
      by_case (inl (g, first, same, pair)) = (f, is, inl (first ∙ ap (λ (x : PairFault). Some x) (sym (err_is f g same)), pair))
      by_case (inr (none, rest)) = (f, is, inr (none, unlearned f rest.0 rest.1 differs))

-- ---- of a command whose table has to be ready

-- a command that is no delivery switches after a reply what NEXT does
pub after_as : (s : Switches) (command : Command) → answered s command ≡ [] → (told : replies.Reply) (t : Switches) → After s commands.Next told t → After s command told t
after_as s command none (replies.Told (world.Stored number made)) t after = after ∙ ap (λ (l : List NodeName). record s { receivers = s.receivers ++ l }) (sym none)
after_as s command none (replies.Told (world.Have number made)) t after = after ∙ ap (λ (l : List NodeName). record s { receivers = s.receivers ++ l }) (sym none)
after_as s command none (replies.Told (world.Have_end number made)) t after = after ∙ ap (λ (l : List NodeName). record s { receivers = s.receivers ++ l }) (sym none)
after_as s command none told t after = after

module _ {D : Type 0} (state : D → DiskState) (old new : Desk D) (command : Command) (none : answered (switches_of old) command ≡ []) (found : found_up (switches_of old) command ≡ None) where
  -- one in which no one that is needed was down
  pub plain_switched : first_off (switches_of old) (needed_by (switches_of old) command) ≡ None → (told : replies.Reply) → IsPlainly state old new told
      → IsSwitched (counts_at state old) (counts_at state new) (switches_of old) command (told ∷ []) (switches_of new)
  plain_switched passed told is =
      plainly (counts_at state old) (counts_at state new) (switches_of old) command told (switches_of new) is.plain is.failed
      (after_as (switches_of old) command none told (switches_of new) is.after) passed found

  module _ (n : NodeName) (needs : needed_by (switches_of old) command ≡ with_node n) where
    pub ready_passed : rows.ready_refusal old.pair n ≡ None → first_off (switches_of old) (needed_by (switches_of old) command) ≡ None
    ready_passed passed = row_passed old n (rows.not_in_duty old.pair n ∷ []) passed command needs

    pub refused_switched : (f : PairFault) → rows.ready_refusal old.pair n ≡ Some f → IsSwitched (counts_at state old) (counts_at state new) (switches_of old) command (fault_reply f ∷ []) (switches_of old)
    refused_switched f is =
        let duty = duty_of old.pair in
        row_refused old n (rows.not_in_duty old.pair n ∷ []) f is
        (quiet_when (is_alone duty.mode && not (is_node n duty.holder)) (rows.out_of_duty old.pair n) tt, tt)
        (counts_at state old) (counts_at state new) command needs found

    pub ready_switched : (told : Reply) → ReadySwitches state old new n (Ok (Some told))
        → IsSwitched (counts_at state old) (counts_at state new) (switches_of old) command (reply_of (table_of new) new.job told ∷ []) (switches_of new)
    ready_switched told (f, is, why) = subst (λ (r : Reply). IsSwitched (counts_at state old) (counts_at state new) (switches_of old) command (reply_of (table_of new) new.job r ∷ []) (switches_of new)) (sym is) (by_case why)
      where
        by_case : ((rows.ready_refusal old.pair n ≡ Some f) × (new.pair ≡ old.pair)) ⊎ ((rows.ready_refusal old.pair n ≡ None) × IsPlainly state old new (fault_reply f))
            → IsSwitched (counts_at state old) (counts_at state new) (switches_of old) command (fault_reply f ∷ []) (switches_of new)
        by_case (inl (first, pair)) =
            subst (λ (s : Switches). IsSwitched (counts_at state old) (counts_at state new) (switches_of old) command (fault_reply f ∷ []) s) (sym (switches_same old new pair)) (refused_switched f first)
        by_case (inr (passed, plain)) = plain_switched (ready_passed passed) (fault_reply f) plain

-- ---- what is known after it

module _ {D : Type 0} (state : D → DiskState) (old new : Desk D) (n : NodeName) (o : Option Reply) where
  -- it went on
  pub ready_of : o ≡ None → ReadySwitches state old new n (Ok o) → IsLearned new n (Ok o) → IsReady old new n
  ready_of none switched learned =
      let on = subst (λ (x : Option Reply). ReadySwitches state old new n (Ok x)) none switched in
      let all = subst (λ (x : Option Reply). IsLearned new n (Ok x)) none learned in
      record {
        none = on.0;
        switches = on.1;
        count = on.2;
        long = on.3;
        up = all.1;
        learned = all.0;
        duty_same = on.4;
        duty = subst (λ (d : Duty). IsInDuty n d) (sym on.4) (serves old n on.0);
      }

  pub went_on : (s : State) → o ≡ None → Leads state old new (Readies n s (part_told new (Ok o))) → Leads state old new (Readies n s (Ok None))
  went_on s none leads = subst (λ (x : Option Reply). Leads state old new (Readies n s (part_told new (Ok x)))) none leads

  pub stays_ready : (s : State) → o ≡ None → Leads state old new (Readies n s (part_told new (Ok o))) → Leads state old new Stays
  stays_ready s none leads m shown lawful = let one = went_on s none leads m shown lawful in (one.0, one.1, one.2, one.3.0)

  -- it was stopped
  pub stopped_by : (s : State) (told : Reply) → o ≡ Some told → Leads state old new (Readies n s (part_told new (Ok o))) → Leads state old new (Readies n s (Ok (Some (reply_of (table_of new) new.job told))))
  stopped_by s told is leads = subst (λ (x : Option Reply). Leads state old new (Readies n s (part_told new (Ok x)))) is leads

  pub stopped_switches : (told : Reply) → o ≡ Some told → ReadySwitches state old new n (Ok o) → ReadySwitches state old new n (Ok (Some told))
  stopped_switches told is switched = subst (λ (x : Option Reply). ReadySwitches state old new n (Ok x)) is switched

-- ---- of the holder

-- where no refusal of a row holds, none of those that begin it does
pub none_all : (owns : List (Option PairFault)) → AllNone owns → first_of owns ≡ None
none_all [] all = refl
none_all (o ∷ owns) all = ap (λ (x : Option PairFault). rows.or_first x owns) all.0 ∙ none_first owns ∙ none_all owns all.1

pub held_free : {D : Type 0} (desk : Desk D) (n : NodeName) → n ≡ (duty_of desk.pair).holder → rows.ready_refusal desk.pair n ≡ None → rows.held_refusal desk.pair ≡ None
held_free desk n is none =
    let all = all_none (ready_owns desk n) none in
    none_all (held_owns desk) (all.0, (subst (λ (k : NodeName). rows.node_is_down desk.pair k ≡ None) is all.1.0, tt))

-- the holder is in duty
pub holder_serves : {D : Type 0} (desk : Desk D) (n : NodeName) → n ≡ (duty_of desk.pair).holder → rows.not_in_duty desk.pair n ≡ None
holder_serves desk n is =
    let duty = duty_of desk.pair in
    no_when (is_alone duty.mode && not (is_node n duty.holder)) (rows.out_of_duty desk.pair n) (not_out duty.mode n duty.holder (node_same n duty.holder is))
  where
    no_when : (b : Bool) (f : PairFault) → b ≡ false → when b f ≡ None
    no_when b f is = ap (λ (x : Bool). when x f) is

    not_out : (mode : Mode) (n h : NodeName) → is_node n h ≡ true → (is_alone mode && not (is_node n h)) ≡ false
    not_out Both n h is = refl
    not_out Alone n h is = ap not is

pub held_ready : {D : Type 0} (desk : Desk D) (n : NodeName) → n ≡ (duty_of desk.pair).holder → rows.held_refusal desk.pair ≡ None → rows.ready_refusal desk.pair n ≡ None
held_ready desk n is none =
    let all = all_none (held_owns desk) none in
    none_all (ready_owns desk n) (all.0, (subst (λ (h : NodeName). rows.node_is_down desk.pair h ≡ None) (sym is) all.1.0, (holder_serves desk n is, tt)))

module _ (before now : Counts) (m : Machine) where
  -- a row of the holder, whose table has to be ready
  pub held_learning : (n : NodeName) → n ≡ machines.holder_of m → (rest : Row replies.Reply Machine) (told : replies.Reply) (v : Machine) → GivesIn before now m (in_duty m n (learning m n rest)) told v
      → GivesIn before now m (held m (learning m (machines.holder_of m) rest)) told v
  held_learning n is rest told v g =
      drops (subst (λ (h : NodeName). GivesIn before now m (in_duty m h (learning m h rest)) told v) is g)
    where
      serving : refused (refusals.not_in_duty m.world (machines.holder_of m)) ≡ None
      serving = ap refused (in_duty_passes m.world.base.duty.mode (machines.holder_of m) (machines.holder_of m) _ (inl refl))

      drops : GivesIn before now m (in_duty m (machines.holder_of m) (learning m (machines.holder_of m) rest)) told v → GivesIn before now m (held m (learning m (machines.holder_of m) rest)) told v
      drops (inl d) = inl d
      drops (inr (d, inl u)) = inr (d, inl u)
      drops (inr (d, inr (u, inl o))) = absurd (none_some told (sym serving ∙ o.0))
      drops (inr (d, inr (u, inr (o, l)))) = inr (d, inr (u, l))

-- the holder of the desk is the machine's
pub holder_shown : {D : Type 0} (state : D → DiskState) (desk : Desk D) (m : Moment) → ShowsMachine state desk m → (duty_of desk.pair).holder ≡ machines.holder_of m.machine
holder_shown state desk m shown = ap (λ (d : Duty). d.holder) shown.world.duty

-- what the holder's row gives behind its refusals
pub held_gives : {D : Type 0} (state : D → DiskState) (desk : Desk D) (m : Moment) → ShowsMachine state desk m → rows.held_refusal desk.pair ≡ None → (now : Counts) (row : Row replies.Reply Machine) (told : replies.Reply) (v : Machine)
    → GivesIn m.counts now m.machine row told v → GivesIn m.counts now m.machine (held m.machine row) told v
held_gives state desk m shown none now row told v g = passes_row m.counts now m.machine (held_owns desk) (held_tests m.machine) (held_are state desk m shown) none row told v g

-- ---- what calls keep

pub keeps_here : {D : Type 0} (state : D → DiskState) (desk : Desk D) → Keeps state desk desk
keeps_here state desk = record { bounds = refl; counts = no_fall (counts_at state desk); booked = omega arith }

pub keeps_twice : {D : Type 0} (state : D → DiskState) (old mid new : Desk D) → Keeps state old mid → Keeps state mid new → Keeps state old new
keeps_twice state old mid new first then = record {
  bounds = then.bounds ∙ first.bounds;
  counts = never_fall_twice (counts_at state old) (counts_at state mid) (counts_at state new) first.counts then.counts;
  booked = omega (arith, first.booked, then.booked);
}

pub keeps_as : {D : Type 0} (state : D → DiskState) (old mid new : Desk D) → new.pair ≡ mid.pair → Keeps state old mid → Keeps state old new
keeps_as state old mid new same kept = subst (λ (p : Pair _). IsCall state old.pair p) (sym same) kept
