-- Requests and reports as a desk answers them, from a table that is ready.
use Rattle.std.proofs.Common.{◌≡◌, inl, inr, ℕ, ◌≤◌, ◌<◌, true, List, length, refl, ap, sym, ◌∙◌, subst, arith, nat_lt, Option, Some, None, Result, Ok, Err, IsErr}
use Rattle.std.specs.FinMap.{get}
use Rattle.std.proofs.lemmas.Bool.Decides.{nat_tests}
use Rattle.ali_base.specs.Steps.{when}
use Rattle.ali_base.specs.declared.names.NodeName.{NodeName}
use Rattle.ali_base.specs.declared.no_memory.NoMemory.{NoMemory}
use Rattle.audit_reports.specs.ReportText.{report_text}
use Rattle.audit_reports.specs.declared.report.Report.{Report}
use Rattle.command_machine.specs.CommandRows.{refused, learning, ask_row}
use Rattle.command_machine.specs.Courses.{First}
use Rattle.command_machine.specs.Machine.{Machine, Moment, count_of, history_of, state_of}
use Rattle.command_machine.specs.Replies as replies
use Rattle.command_desk.specs.DeskSteps.{Leads, Stays, RowDone, EventDone, Readies, told_in}
use Rattle.command_desk.specs.MadeReply.{ShowsMachine, fault_reply, only}
use Rattle.command_desk.specs.OpenedDesk.{Switched}
use Rattle.command_desk.specs.declared.desk.Desk.{Desk}
use Rattle.command_desk.specs.declared.reply.Reply.{Reply}
use Rattle.command_desk.proofs.Readying.{IsReady, command_done, deeper, no_fall, passes_row, ready_are, ready_owns, ready_tests, refused_row, same_moment, table_represents}
use Rattle.crash_disk.specs.DiskState.{DiskState}
use Rattle.office_commands.specs.Commands as commands
use Rattle.office_commands.specs.Commands.{Command}
use Rattle.office_entry.specs.declared.entry.Entry.{Entry}
use Rattle.office_state.specs.History.{Represents}
use Rattle.office_state.specs.OfficeState.{State, OfficeState, office_limits}
use Rattle.office_state.specs.declared.limits.Limits.{Limits}
use Rattle.pair_core.specs.Pair as pairs
use Rattle.pair_core.specs.PairRefusals as rows
use Rattle.pair_core.specs.declared.faults.PairFault.{PairFault}
use Rattle.pair_world.specs.Refusals as refusals
use Rattle.pair_world.proofs.RowTests.{lt_passes}
use Rattle.retrieval.specs.AnswerForm.{form}
use Rattle.world_rows.specs.Rows.{Row, Unless, Success}
use Rattle.world_rows.specs.Told as world

-- a part that is left for want of memory tells nothing
pub undone : {D : Type 0} (state : D → DiskState) (old new : Desk D) (command : Command) (r : Result Reply NoMemory) → IsErr r → Leads state old new Stays → Leads state old new (EventDone (First command) (told_in new r))
undone state old new command (Ok told) is leads = absurd (cc is)
undone state old new command (Err e) is leads = λ m shown lawful. let one = leads m shown lawful in (one.0, one.1, one.2, (true, one.3))

pub untold : {D : Type 0} (state : D → DiskState) (old new : Desk D) (command : Command) (r : Result Reply NoMemory) → IsErr r → Switched state old new command (only r)
untold state old new command (Ok told) is = absurd (cc is)
untold state old new command (Err e) is = tt

-- the form of a number in the office's table
pub form_made : {R : Type 0} (make : Option R → List ℕ) (look : State → Option R) (bytes : List ℕ) (row : Option R) (table office : OfficeState) → bytes ≡ make row → row ≡ look table.state → table ≡ office → bytes ≡ make (look office.state)
form_made make look bytes row table office made is same = made ∙ ap make (is ∙ ap (λ (x : OfficeState). look x.state) same)

-- ---- `ASK`

module _ {D : Type 0} (state : D → DiskState) (old : Desk D) (n : NodeName) (position : ℕ) (tn : List ℕ) (since : ℕ) where
  abbrev ask : Command
  ask = commands.Ask n position tn since

  abbrev answer_row : Machine → Row replies.Reply Machine
  answer_row m = let s = state_of m in Success (replies.Answer (count_of m) (form (get s.table tn) tn)) m

  abbrev ahead_row : Machine → Row replies.Reply Machine
  ahead_row m = Unless (refused (refusals.ahead m.world since)) (learning m n (answer_row m))

  reached : (m : Moment) → ShowsMachine state old m → since ≤ pairs.count_of old.pair → refused (refusals.ahead m.machine.world since) ≡ None
  reached m shown le =
      let booked : since ≤ length m.machine.world.base.booked = omega (arith, le, shown.world.count) in
      ap refused (lt_passes (length m.machine.world.base.booked) since _ booked)

  is_ahead : (k since : ℕ) → k < since → when (nat_lt k since) (refusals.Ahead since k) ≡ Some (refusals.Ahead since k)
  is_ahead k since less = grind (arith, nat_tests, less)

  pub ask_refused : (f : PairFault) → rows.ready_refusal old.pair n ≡ Some f → Leads state old old (EventDone (First ask) (Ok (fault_reply f)))
  ask_refused f is =
      command_done state old old ask (Ok (fault_reply f)) (same_moment state old (RowDone (λ x. ask_row x n tn since) (Ok (fault_reply f))) (λ m shown lawful. record {
        gives = refused_row m.counts m.counts m.machine (ready_owns old n) (ready_tests m.machine n) f (ready_are state old n m shown) is (ahead_row m.machine);
        counts = no_fall m.counts;
      }))

  pub ask_ahead : rows.ready_refusal old.pair n ≡ None → (count : ℕ) → count ≡ pairs.count_of old.pair → count < since → Leads state old old (EventDone (First ask) (Ok (replies.Told (world.Refused (refusals.Ahead since count)))))
  ask_ahead none count is less =
      let told = replies.Told (world.Refused (refusals.Ahead since count)) in
      command_done state old old ask (Ok told) (same_moment state old (RowDone (λ x. ask_row x n tn since) (Ok told)) (λ m shown lawful.
      let booked : length m.machine.world.base.booked ≡ count = sym (is ∙ shown.world.count) in
      let stands = subst (λ (k : ℕ). when (nat_lt k since) (refusals.Ahead since k) ≡ Some (refusals.Ahead since count)) (sym booked) (is_ahead count since less) in
      record {
        gives = passes_row m.counts m.counts m.machine (ready_owns old n) (ready_tests m.machine n) (ready_are state old n m shown) none (ahead_row m.machine) told m.machine (inl (ap refused stands, refl));
        counts = no_fall m.counts;
      }))

  pub ask_stops : (new : Desk D) (s : State) (told : replies.Reply) → since ≤ pairs.count_of old.pair → Leads state old new (Readies n s (Ok (Some told))) → Leads state old new (EventDone (First ask) (Ok told))
  ask_stops new s told le ready =
      command_done state old new ask (Ok told) (λ m shown lawful.
      let one = ready m shown lawful in
      let given = one.3 (answer_row m.machine) in (
        one.0,
        one.1,
        one.2,
        record {
          gives = deeper m.counts one.0.counts m.machine (ready_tests m.machine n) (learning m.machine n (answer_row m.machine)) (ahead_row m.machine) told one.0.machine (λ g. inr (reached m shown le, g)) given.gives;
          counts = given.counts;
        },
      ))

  pub ask_answered : rows.ready_refusal old.pair n ≡ None → (new : Desk D) (count : ℕ) (bytes : List ℕ) → since ≤ pairs.count_of old.pair → count ≡ pairs.count_of old.pair
      → bytes ≡ form (get (pairs.table_of new.pair n).state.table tn) tn → Leads state old new (Readies n (pairs.table_of new.pair n).state (Ok None)) → Leads state old new (EventDone (First ask) (Ok (replies.Answer count bytes)))
  ask_answered none new count bytes le is made ready =
      command_done state old new ask (Ok (replies.Answer count bytes)) (λ m shown lawful.
      let one = ready m shown lawful in
      let same : (pairs.table_of new.pair n).state ≡ state_of m.machine = one.3.1 ∙ ap (λ (x : Machine). state_of x) one.3.0.machine in
      let its : bytes ≡ (let s = state_of m.machine in form (get s.table tn) tn) = made ∙ ap (λ (s : State). form (get s.table tn) tn) same in
      let answer : replies.Answer count bytes ≡ replies.Answer (count_of m.machine) (let s = state_of m.machine in form (get s.table tn) tn) =
      ap (λ (k : ℕ). replies.Answer k bytes) (is ∙ shown.world.count) ∙ ap (λ (b : List ℕ). replies.Answer (count_of m.machine) b) its in (
        one.0,
        one.1,
        one.2,
        record {
          gives = passes_row m.counts one.0.counts m.machine (ready_owns old n) (ready_tests m.machine n) (ready_are state old n m shown) none (ahead_row m.machine) (replies.Answer count bytes) one.0.machine
              (inr (reached m shown le, inr (answer, one.3.0.machine)));
          counts = one.3.0.counts;
        },
      ))

-- ---- `REPORT`

module _ {D : Type 0} (state : D → DiskState) (old : Desk D) (n : NodeName) (report : Report) where
  abbrev reporting : Command
  reporting = commands.Report n report

  abbrev reported_row : Machine → Row replies.Reply Machine
  reported_row m = Success (replies.Reported (count_of m) (report_text office_limits (history_of m) report)) m

  pub report_stops : (new : Desk D) (s : State) (told : replies.Reply) → Leads state old new (Readies n s (Ok (Some told))) → Leads state old new (EventDone (First reporting) (Ok told))
  report_stops new s told ready =
      command_done state old new reporting (Ok told) (λ m shown lawful.
      let one = ready m shown lawful in
      (one.0, one.1, one.2, one.3 (reported_row m.machine)))

  pub report_written : (new : Desk D) → IsReady old new n → (count : ℕ) (text : List ℕ) → count ≡ pairs.count_of new.pair
      → ((limits : Limits) (history : List Entry) → Represents limits (pairs.table_of new.pair n) history → text ≡ report_text limits history report)
      → Leads state old new (Readies n (pairs.table_of new.pair n).state (Ok None)) → Leads state old new (EventDone (First reporting) (Ok (replies.Reported count text)))
  report_written new has count text is made ready =
      command_done state old new reporting (Ok (replies.Reported count text)) (λ m shown lawful.
      let one = ready m shown lawful in
      let same : one.0.machine ≡ m.machine = one.3.0.machine in
      let its : text ≡ report_text office_limits (history_of m.machine) report =
      made office_limits (history_of one.0.machine) (table_represents state new n one.0 one.1 one.2 has.duty has.up has.learned)
      ∙ ap (λ (x : Machine). report_text office_limits (history_of x) report) same in
      let number : count ≡ count_of m.machine = is ∙ one.1.world.count ∙ ap (λ (x : Machine). count_of x) same in
      let answer : replies.Reported count text ≡ replies.Reported (count_of m.machine) (report_text office_limits (history_of m.machine) report) =
      ap (λ (k : ℕ). replies.Reported k text) number ∙ ap (λ (b : List ℕ). replies.Reported (count_of m.machine) b) its in (
        one.0,
        one.1,
        one.2,
        record {
          gives = passes_row m.counts one.0.counts m.machine (ready_owns old n) (ready_tests m.machine n) (ready_are state old n m shown) has.none (learning m.machine n (reported_row m.machine)) (replies.Reported count text) one.0.machine
              (inr (answer, same));
          counts = one.3.0.counts;
        },
      ))
