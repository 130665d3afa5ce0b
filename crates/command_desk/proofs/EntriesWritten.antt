-- The next entry of the job as a desk writes it, and how it finds that there is none.
use Rattle.std.proofs.Common.{◌≡◌, ◌≢◌, ap₂, inl, inr, ℕ, suc, ◌+◌, ◌<◌, Bool, true, false, not, nat_lt, nat_le, List, [], ◌∷◌, length, refl, ap, sym, ◌∙◌, subst, arith, Option, Some, None, option_map, Result, Ok, Err, IsErr}
use Rattle.std.proofs.lemmas.Bool.Decides.{nat_tests}
use Rattle.ali_base.specs.Steps.{when}
use Rattle.ali_base.specs.declared.duty.Duty.{Duty}
use Rattle.ali_base.specs.declared.names.DiskName.TheVariants as disk
use Rattle.ali_base.specs.declared.names.NodeName.{NodeName}
use Rattle.ali_base.specs.declared.no_memory.NoMemory.{NoMemory}
use Rattle.batch_desk.specs.EditJobs.{edit_standing, next_edit}
use Rattle.batch_desk.specs.FileJobs.{file_standing, next_by}
use Rattle.batch_desk.specs.Jobs.{IsJob, job_standing, next_of}
use Rattle.batch_desk.specs.declared.job.Job.{Job}
use Rattle.batch_desk.specs.declared.job.Job.TheVariants.{File, Edit}
use Rattle.batch_desk.proofs.KeptStates.{IsKept}
use Rattle.batch_desk.proofs.Steps.{ready, step}
use Rattle.command_machine.specs.CommandRows.{refused, learning, not_next, append_row, job_row, write_row}
use Rattle.command_machine.specs.Courses.{First}
use Rattle.command_machine.specs.Machine as machines
use Rattle.command_machine.specs.Machine.{Machine, Moment, IsLawful, HasJob, office_bounds, state_of, with_world}
use Rattle.command_machine.specs.Replies as replies
use Rattle.command_machine.specs.Switches.{Switches, After, HasFailed, IsSwitched}
use Rattle.command_machine.proofs.Lawful.{kept_of}
use Rattle.command_desk.specs.DeskSteps.{Leads, LeadsOn, EventDone, IsGiven, IsPlain, IsPlainly, NextAnswers, PlainSwitches, Readies, ReadySwitches, RowDone, Stays, WriteAdvances, told_in}
use Rattle.command_desk.specs.MadeReply.{ShowsMachine, CanTell, counts_at, fault_reply, only, reply_of, switches_of, table_of}
use Rattle.command_desk.specs.OpenedDesk.{Switched}
use Rattle.command_desk.specs.declared.desk.Desk.{Desk}
use Rattle.command_desk.specs.declared.reply.Reply.{Reply}
use Rattle.command_desk.specs.declared.reply.Reply.TheVariants as reply
use Rattle.command_desk.proofs.Leading.{CallRow, RefusedSo, found, moment_in, never_fell, stays_in, told_fault}
use Rattle.command_desk.proofs.Switching.{quiet_when, row_passed, row_refused}
use Rattle.command_desk.proofs.Readying.{GivesIn, IsReady, command_done, command_kept, given_since, held_owns, held_ready, holder_shown, no_fall, none_all, passed_as, passed_row, passes_row, plain_switched, ready_are, ready_owns, ready_tests, refused_as, refused_row, rose_since, row_as, same_moment, stays_twice, switches_stay, unlearned}
use Rattle.crash_disk.specs.DiskState.{DiskState}
use Rattle.office_commands.specs.Commands as commands
use Rattle.office_entry.specs.declared.entry.Entry.{Entry}
use Rattle.office_entry.specs.declared.entry.Entry.TheVariants as entry
use Rattle.office_state.specs.Due.{IsDue, due_of, opening_due, line_due, edit_due, due_line}
use Rattle.office_state.specs.OfficeState.{State, office_limits}
use Rattle.office_state.specs.declared.due_fault.DueFault.{DueFault}
use Rattle.pair_core.specs.Pair as pairs
use Rattle.pair_core.specs.Pair.{Does, IsCall, count_of, duty_of, is_node_up, is_up, len_of}
use Rattle.pair_core.specs.PairAnswers.{KeepsOther, Unless as UnlessRefused, WriteCauses, WriteRest, fault_told}
use Rattle.pair_core.specs.PairRefusals as rows
use Rattle.pair_core.specs.PairRefusals.{first_of}
use Rattle.pair_core.specs.declared.faults.PairFault.{PairFault}
use Rattle.pair_core.specs.declared.faults.PairFault.TheVariants as fault
use Rattle.pair_core.proofs.PairRows as own
use Rattle.pair_core.proofs.PairRows.{AreRow, Matches, all_none, matched, not_when, when_not}
use Rattle.pair_node.proofs.Quiet.{long_as}
use Rattle.pair_world.specs.Changes.{journal_written, written, read_failed, write_failed}
use Rattle.pair_world.specs.Refusals as refusals
use Rattle.pair_world.specs.Refusals.{Refusal, disk_of}
use Rattle.pair_world.specs.World.{World, holder_journal, is_node, node_at}
use Rattle.pair_world.proofs.Items.{none_some, some_is}
use Rattle.pair_world.proofs.RowTests as row_tests
use Rattle.pair_world.proofs.Terms.{same_node}
use Rattle.sequence_once.specs.SerialStanding.{EditRecord, serial_standing, last_serial}
use Rattle.sequence_once.specs.declared.standing.CycleFault.{CycleFault}
use Rattle.sequence_once.specs.declared.standing.Standing.{Standing}
use Rattle.sequence_once.specs.declared.standing.Standing.TheVariants.{New, Resume, Complete}
use Rattle.world_rows.specs.Counts.{Counts, NeverFall}
use Rattle.world_rows.specs.Rows.{Row, Unless, MayFail, Success, Gives}
use Rattle.world_rows.specs.Told as world
use Rattle.world_rows.specs.Told.{Told}
use Rattle.world_rows.specs.WorldRows as world_rows
use Rattle.world_rows.specs.WorldRows.{unless}

-- ---- the next entry of a job

-- a job with a next entry is readable, and not complete
file_goes_on : (s : State) (bytes : List ℕ) (e : Entry) (r : Result Standing CycleFault) → next_by bytes r ≡ Ok e → not_next s (File bytes) r ≡ None
file_goes_on s bytes e (Ok New) h = refl
file_goes_on s bytes e (Ok (Resume line)) h = refl
file_goes_on s bytes e (Ok Complete) h = absurd (cc h)
file_goes_on s bytes e (Err fault) h = absurd (cc h)

edit_goes_on : (s : State) (job : Job) (this e : Entry) (r : Result Standing CycleFault) → next_edit this r ≡ Ok e → not_next s job r ≡ None
edit_goes_on s job this e (Ok New) h = refl
edit_goes_on s job this e (Ok (Resume line)) h = refl
edit_goes_on s job this e (Ok Complete) h = absurd (cc h)
edit_goes_on s job this e (Err fault) h = absurd (cc h)

goes_on : (s : State) (job : Job) (e : Entry) → next_of s job ≡ Ok e → not_next s job (job_standing s job) ≡ None
goes_on s (File bytes) e h = file_goes_on s bytes e (file_standing s bytes) h
goes_on s (Edit editor serial edit) e h = edit_goes_on s (Edit editor serial edit) (entry.Edit editor serial edit) e (edit_standing s editor serial edit) h

-- what may be booked next has no fault
new_serial : (last : Option EditRecord) (serial : ℕ) (digest : List ℕ) → serial ≡ last_serial last + 1 → serial_standing last serial digest ≡ Ok New
new_serial None serial digest h = grind (arith, nat_tests)
new_serial (Some e) serial digest h = grind (arith, nat_tests)

its_line : (cycle line : ℕ) → line_due (Some (cycle, line)) cycle line ≡ Ok tt
its_line cycle line = grind (arith, nat_tests)

is_due_ok : (s : State) (e : Entry) → IsDue s e → due_of s e ≡ Ok tt
is_due_ok s (entry.Open company cycle count day digest) due = ap (opening_due (due_line s company)) due
is_due_ok s (entry.Line company cycle line bytes) due = ap (λ (o : Option (ℕ × ℕ)). line_due o cycle line) due ∙ its_line cycle line
is_due_ok s (entry.Edit editor serial edit) due = ap edit_due (new_serial _ serial _ due)

-- what holds of the next entry of a lawful machine's job
record IsNext (m : Machine) (job : Job) (e : Entry) : Type 0 where
  due : due_of (state_of m) e ≡ Ok tt
  goes : not_next (state_of m) job (job_standing (state_of m) job) ≡ None

next_in : (m : Machine) (job : Job) (e : Entry) → IsLawful m → m.job ≡ Some job → next_of (state_of m) job ≡ Ok e → IsNext m job e
next_in m job e lawful has_job next =
    let s = state_of m in
    let kept : IsKept s = kept_of m lawful in
    let is : IsJob job = subst HasJob has_job lawful.job in
    let first = step s job e (ready s job kept is) next in
    record { due = is_due_ok s e first.due; goes = goes_on s job e next }

-- ---- the refusals of a write

abbrev pub write_owns : {D : Type 0} → Desk D → NodeName → List (Option PairFault)
write_owns desk n = rows.duty_is_down desk.pair ∷ rows.node_is_down desk.pair n ∷ rows.not_holder desk.pair n ∷ rows.in_flight desk.pair ∷ []

abbrev pub write_tests : Machine → NodeName → List (Option Refusal)
write_tests m n = refusals.duty_is_down m.world ∷ refusals.node_is_down m.world n ∷ refusals.not_holder m.world n ∷ refusals.in_flight m.world ∷ []

module _ {D : Type 0} (state : D → DiskState) (desk : Desk D) (m : Moment) (shown : ShowsMachine state desk m) where
  not_holder : (n : NodeName) → Matches (rows.not_holder desk.pair n) (refusals.not_holder m.machine.world n)
  not_holder n =
      subst (λ (d : Duty). Matches (rows.not_holder desk.pair n) (when (not (is_node n d.holder)) (refusals.Out_of_duty n d.epoch d.holder))) shown.world.duty
      (matched (not (is_node n (duty_of desk.pair).holder)) (not (is_node n (duty_of desk.pair).holder)) _ (refusals.Out_of_duty n (duty_of desk.pair).epoch (duty_of desk.pair).holder) refl refl)

  long_at : (n : NodeName) → is_node_up desk.pair n ≡ true → len_of desk.pair n ≡ length (node_at m.machine.world.base.nodes n).journal
  long_at n up = long_as state office_limits (pairs.node_of desk.pair n) (node_at m.machine.world.base.nodes n).journal ((shown.world.nodes n).frames up)

  in_flight : is_node_up desk.pair (rows.holder desk.pair) ≡ true → Matches (rows.in_flight desk.pair) (refusals.in_flight m.machine.world)
  in_flight up =
      let h = rows.holder desk.pair in
      let booked = length m.machine.world.base.booked in
      let long = length (node_at m.machine.world.base.nodes h).journal in
      let len_is : len_of desk.pair h ≡ long = long_at h up in
      let count_is : count_of desk.pair ≡ booked = shown.world.count in
      subst (λ (d : Duty). Matches (rows.in_flight desk.pair) (when (nat_lt booked (length (node_at m.machine.world.base.nodes d.holder).journal)) (refusals.In_flight (suc booked)))) shown.world.duty
      (matched (nat_lt (count_of desk.pair) (len_of desk.pair h)) (nat_lt booked long) (fault.InFlight (suc (count_of desk.pair))) (refusals.In_flight (suc booked))
      (λ i. nat_lt (count_is i) (len_is i)) (ap (λ (k : ℕ). Some (world.Refused (refusals.In_flight (suc k)))) count_is))

  up_there : (n : NodeName) → refusals.node_is_down m.machine.world n ≡ None → is_node_up desk.pair n ≡ true
  up_there n none = sym (shown.world.nodes n).up ∙ row_tests.up_passed (node_at m.machine.world.base.nodes n).up (refusals.Down (disk_of n)) none

  holder_up : (n : NodeName) → refusals.node_is_down m.machine.world n ≡ None → refusals.not_holder m.machine.world n ≡ None → is_node_up desk.pair (rows.holder desk.pair) ≡ true
  holder_up n up mine =
      let h = machines.holder_of m.machine in
      let is : n ≡ h = same_node n h (row_tests.not_false (is_node n h) (row_tests.passed (not (is_node n h)) (refusals.Out_of_duty n m.machine.world.base.duty.epoch h) mine)) in
      subst (λ (k : NodeName). is_node_up desk.pair k ≡ true) (is ∙ sym (holder_shown state desk m shown)) (up_there n up)

  pub write_are : (n : NodeName) → AreRow (write_owns desk n) (write_tests m.machine n)
  write_are n = (
    own.duty_is_down state office_limits desk.pair m.machine.world shown.world,
    λ _. (
      own.node_is_down state office_limits desk.pair m.machine.world shown.world n,
      λ up. (not_holder n, λ mine. (in_flight (holder_up n up mine), λ _. tt)),
    ),
  )

-- ---- an entry that is next is written as the machine writes it

module _ (m : Machine) (v : World Entry) (t : Told) (before now : Counts) (n : NodeName) (job : Job) (e : Entry) (has_job : m.job ≡ Some job) (next : next_of (state_of m) job ≡ Ok e)
    (goes : not_next (state_of m) job (job_standing (state_of m) job) ≡ None) (due : due_of (state_of m) e ≡ Ok tt) where
  abbrev Gave : Row Told (World Entry) → Type 0
  Gave row = Gives before now world.Failed m.world row t v

  abbrev Tells : Row replies.Reply Machine → Type 0
  Tells row = GivesIn before now m row (replies.Told t) (with_world m v)

  -- the write itself
  abbrev storing : Row Told (World Entry)
  storing =
      MayFail (disk_of (machines.holder_of m)) (write_failed m.world (machines.holder_of m) (journal_written m.world.base e))
      (Success (world.Written (suc (length (holder_journal m.world.base))) m.world.base.duty.epoch) (record m.world { base = written m.world.base e }))

  stores : Gave storing → Tells (append_row m (next_of (state_of m) job))
  stores g = subst (λ (r : Result Entry DueFault). Tells (append_row m r)) (sym next) (as_told g)
    where
      as_told : Gave storing → Tells (append_row m (Ok e))
      as_told (inl g) = inl (ap (λ (x : Told). replies.Told x) g.0, ap (with_world m) g.1, g.2)
      as_told (inr g) = inr (ap (λ (x : Told). replies.Told x) g.0, ap (with_world m) g.1)

  -- behind its refusals
  abbrev behind_row : Row Told (World Entry)
  behind_row =
      MayFail (disk_of (machines.holder_of m)) (read_failed m.world (machines.holder_of m))
      (Unless (world_rows.not_due (due_of (state_of m) e)) (Unless (option_map world.Refused (refusals.full m.world office_bounds)) storing))

  behind : Gave behind_row → Tells (job_row m m.job)
  behind g = subst (λ (o : Option Job). Tells (job_row m o)) (sym has_job) (as_job g)
    where
      as_job : Gave behind_row → Tells (job_row m (Some job))
      as_job (inl g) = inl (ap (λ (x : Told). replies.Told x) g.0, ap (with_world m) g.1, g.2)
      as_job (inr (inl g)) = absurd (none_some t (sym (ap world_rows.not_due due) ∙ g.0))
      as_job (inr (inr (u, inl g))) = inr (inr (goes, inl (refused_as (refusals.full m.world office_bounds) t g.0, ap (with_world m) g.1)))
      as_job (inr (inr (u, inr (l, g)))) = inr (inr (goes, inr (passed_as (refusals.full m.world office_bounds) l, stores g)))

  writes : Gave (world_rows.write_row office_limits m.world office_bounds n e) → Tells (write_row m n)
  writes g = row_as before now m (state_of m) t v (write_tests m n) behind_row (job_row m m.job) behind g

module _ {D : Type 0} (state : D → DiskState) (old new : Desk D) (call : IsCall state old.pair new.pair) (kept : new.job ≡ old.job) (n : NodeName) (e : Entry) where
  abbrev pub write_call : CallRow
  write_call bounds limits lasted w = world_rows.write_row limits w bounds n e

  abbrev pub DoesWrite : Option Told → Type 0
  DoesWrite told = Does state old.pair new.pair (write_call (pairs.bounds_of old.pair)) told

  pub written_leads : (t : Told) → DoesWrite (Some t) → LeadsOn state old new e (RowDone (λ x. write_row x n) (Ok (replies.Told t)))
  written_leads t does m shown lawful job has_job next =
      let f = found state old new call kept write_call t m does shown lawful in
      let is = next_in m.machine job e lawful has_job next in
      let now : Moment = moment_in state old new call kept m f.left in
      let given : IsGiven (write_row m.machine n) (replies.Told t) m now = record {
        gives = writes m.machine f.left t m.counts now.counts n job e has_job next is.goes is.due f.gives;
        counts = never_fell state old new call kept m shown;
      } in
      (now, f.shown, command_kept (commands.Write n) tt m now (replies.Told t) given lawful, given)

  pub write_told : (told : Reply) (t : Told) → reply_of (table_of new) new.job told ≡ replies.Told t → DoesWrite (Some t) → LeadsOn state old new e (RowDone (λ x. write_row x n) (told_in new (Ok told)))
  write_told told t is does = subst (λ (r : replies.Reply). LeadsOn state old new e (RowDone (λ x. write_row x n) (Ok r))) (sym is) (written_leads t does)

  pub write_refused : (f : PairFault) (r : Result Reply NoMemory) → RefusedSo f r → DoesWrite (fault_told f) → LeadsOn state old new e (RowDone (λ x. write_row x n) (told_in new r))
  write_refused f (Ok told) is does =
      let t = told_fault f is.1 in
      write_told told t.told (ap (reply_of (table_of new) new.job) is.0 ∙ t.reply) (subst (λ (o : Option Told). DoesWrite o) t.is does)
  write_refused f (Err end) is does =
      λ m shown lawful job has_job next. stays_in state old new call kept write_call (subst (λ (x : PairFault). DoesWrite (fault_told x)) is does) m shown lawful

-- ---- what a write switches

-- where no refusal holds, the rest of the causes does
pub where_none : {P T : Type 0} (o : Option PairFault) (old new : P) (result : Result T PairFault) (Rest : Type 0) → o ≡ None → UnlessRefused o old new result Rest → Rest
where_none o old new result Rest none is = subst (λ (x : Option PairFault). UnlessRefused x old new result Rest) none is

-- the node that may write is the holder
pub writer_is : {D : Type 0} (desk : Desk D) (n : NodeName) → rows.write_refusal desk.pair n ≡ None → n ≡ rows.holder desk.pair
writer_is desk n none =
    let all = all_none (write_owns desk n) none in
    same_node n (rows.holder desk.pair) (when_not (is_node n (rows.holder desk.pair)) (rows.out_of_duty desk.pair n) all.1.1.0)

module _ {D : Type 0} (old new : Desk D) (n : NodeName) (none : rows.write_refusal old.pair n ≡ None) where
  -- the holder stays up, under the same duty
  pub held_still : is_up new.pair ≡ is_up old.pair → duty_of new.pair ≡ duty_of old.pair → is_node_up new.pair n ≡ true → rows.held_refusal new.pair ≡ None
  held_still register duty up =
      let all = all_none (write_owns old n) none in
      let h : n ≡ rows.holder new.pair = writer_is old n none ∙ ap (λ (d : Duty). d.holder) (sym duty) in
      none_all (held_owns new) (
        ap (λ (b : Bool). when (not b) (fault.Down disk.Duty)) register ∙ all.0,
        (ap (λ (b : Bool). when (not b) (fault.Down (disk_of (rows.holder new.pair)))) (subst (λ (k : NodeName). is_node_up new.pair k ≡ true) h up), tt),
      )

  -- an entry is pending then
  pub pending_then : duty_of new.pair ≡ duty_of old.pair → count_of new.pair < len_of new.pair n → rows.no_flight new.pair ≡ None
  pending_then duty less =
      let h : n ≡ rows.holder new.pair = writer_is old n none ∙ ap (λ (d : Duty). d.holder) (sym duty) in
      let here : count_of new.pair < len_of new.pair (rows.holder new.pair) = subst (λ (k : NodeName). count_of new.pair < len_of new.pair k) h less in
      ap (λ (b : Bool). when b fault.NoFlight) (above (len_of new.pair (rows.holder new.pair)) (count_of new.pair) here)
    where
      above : (a b : ℕ) → b < a → nat_le a b ≡ false
      above a b h = grind (arith, nat_tests)

module _ {D : Type 0} (state : D → DiskState) (old new : Desk D) (n : NodeName) (e : Entry) (none : rows.write_refusal old.pair n ≡ None) (kept : KeepsOther old.pair new.pair n) where
  abbrev RestOf : Result ℕ PairFault → Type 0
  RestOf r = WriteRest state old.pair new.pair n e r

  rest_of : (r : Result ℕ PairFault) → WriteCauses state old.pair new.pair n e r → RestOf r
  rest_of r causes = where_none (rows.write_refusal old.pair n) old.pair new.pair r (RestOf r) none causes

  pub written_plain : (number epoch : ℕ) → WriteCauses state old.pair new.pair n e (Ok number) → IsPlainly state old new (replies.Told (world.Written number epoch))
  written_plain number epoch causes =
      let rest = rest_of (Ok number) causes in
      record { plain = tt; failed = tt; after = switches_stay old new n rest.1.2 rest.1.1 kept (rest.0.1 ∙ sym rest.0.0) }

  pub written_advances : (number epoch : ℕ) → WriteCauses state old.pair new.pair n e (Ok number) → WriteAdvances old new (Ok (reply.Written number epoch))
  written_advances number epoch causes =
      let rest = rest_of (Ok number) causes in
      let less : count_of new.pair < len_of new.pair n = omega (arith, rest.1.0, rest.3, rest.4) in
      (rest.1.1, rest.1.0, held_still old new n none rest.1.2 rest.1.1 rest.0.1, pending_then old new n none rest.1.1 less)

  unwritten : (f : PairFault) → f ≢ fault.NoMemory → RestOf (Err f) → IsPlainly state old new (fault_reply f)
  unwritten (fault.NotDue due) differs rest = record { plain = tt; failed = tt; after = switches_stay old new n rest.1.2 rest.1.1 kept (rest.0.1 ∙ sym rest.0.0) }
  unwritten (fault.Full limit) differs rest = record { plain = tt; failed = tt; after = switches_stay old new n rest.1.2 rest.1.1 kept (rest.0.1 ∙ sym rest.0.0) }
  unwritten f differs rest = unlearned state old new n kept f rest.0 rest.1 differs

  pub write_plain : (f : PairFault) (r : Result Reply NoMemory) → RefusedSo f r → WriteCauses state old.pair new.pair n e (Err f) → PlainSwitches state old new r
  write_plain f (Ok told) is causes = subst (λ (t : replies.Reply). IsPlainly state old new t) (sym (ap (reply_of (table_of new) new.job) is.0)) (unwritten f is.1 (rest_of (Err f) causes))
  write_plain f (Err end) is causes = tt

-- a refusal is not that an entry is written
pub refusal_advances : {D : Type 0} (old new : Desk D) (f : PairFault) (r : Result Reply NoMemory) → RefusedSo f r → WriteAdvances old new r
refusal_advances old new f (Ok told) is = subst (λ (t : Reply). WriteAdvances old new (Ok t)) (sym is.0) tt
refusal_advances old new f (Err end) is = tt

-- ---- the next entry is written after the table is made ready, or there is none

has_some : (o : Option Job) → (o ≡ None → ⊥) → (job : Job) × (o ≡ Some job)
has_some None some = absurd (some refl)
has_some (Some job) some = (job, refl)

next_has : (s : State) (o : Option Job) (e : Entry) → NextAnswers s o (Ok e) → (job : Job) × (o ≡ Some job) × (next_of s job ≡ Ok e)
next_has s None e is = absurd is
next_has s (Some job) e is = (job, refl, is)

none_has : (s : State) (o : Option Job) (told : Reply) → (o ≡ None → ⊥) → NextAnswers s o (Err told) → (job : Job) × (o ≡ Some job) × (not_next s job (job_standing s job) ≡ Some (reply_of s o told))
none_has s None told some is = absurd (some refl)
none_has s (Some job) told some is = (job, refl, is.stands)

done_since : (row : Machine → Row replies.Reply Machine) (m mid now : Moment) (r : Result replies.Reply NoMemory) → Stays m mid → RowDone row r mid now → RowDone row r m now
done_since row m mid now (Ok told) stays done = given_since row told m mid now stays done
done_since row m mid now (Err e) stays done = stays_twice m mid now stays done

module _ {D : Type 0} (old : Desk D) (n : NodeName) (none : rows.write_refusal old.pair n ≡ None) where
  pub writer_held : rows.held_refusal old.pair ≡ None
  writer_held =
      let all = all_none (write_owns old n) none in
      none_all (held_owns old) (all.0, (subst (λ (k : NodeName). rows.node_is_down old.pair k ≡ None) (writer_is old n none) all.1.0, tt))

  pub writer_ready : rows.ready_refusal old.pair n ≡ None
  writer_ready = held_ready old n (writer_is old n none) writer_held

  -- it may write still, once its table is ready
  pub writes_then : (mid : Desk D) → IsReady old mid n → rows.write_refusal mid.pair n ≡ None
  writes_then mid has =
      let all = all_none (write_owns old n) none in
      let less : nat_lt (count_of old.pair) (len_of old.pair (rows.holder old.pair)) ≡ false = not_when (nat_lt (count_of old.pair) (len_of old.pair (rows.holder old.pair))) (fault.InFlight (suc (count_of old.pair))) all.1.1.1.0 in
      let is : n ≡ rows.holder old.pair = writer_is old n none in
      let here : n ≡ rows.holder mid.pair = is ∙ ap (λ (d : Duty). d.holder) (sym has.duty_same) in
      let long : len_of mid.pair (rows.holder mid.pair) ≡ len_of old.pair (rows.holder old.pair) =
      ap (λ (k : NodeName). len_of mid.pair k) (sym here) ∙ has.long ∙ ap (λ (k : NodeName). len_of old.pair k) is in
      let free : nat_lt (count_of mid.pair) (len_of mid.pair (rows.holder mid.pair)) ≡ false = ap₂ nat_lt has.count long ∙ less in
      none_all (write_owns mid n) (
        ap (λ (s : Switches). when (not s.register) (fault.Down disk.Duty)) has.switches ∙ all.0,
        (
          ap (λ (b : Bool). when (not b) (fault.Down (disk_of n))) has.up,
          (
            subst (λ (d : Duty). when (not (is_node n d.holder)) (fault.OutOfDuty n d.epoch d.holder) ≡ None) (sym has.duty_same) all.1.1.0,
            (ap (λ (b : Bool). when b (fault.InFlight (suc (count_of mid.pair)))) free, tt),
          ),
        ),
      )

module _ {D : Type 0} (state : D → DiskState) (old : Desk D) (n : NodeName) (none : rows.write_refusal old.pair n ≡ None) where
  abbrev WriteDone : Result replies.Reply NoMemory → Moment → Moment → Type 0
  WriteDone r = RowDone (λ x. write_row x n) r

  -- what the row gives behind its refusals
  write_gives : (m : Moment) → ShowsMachine state old m → (now : Moment) (told : replies.Reply) → GivesIn m.counts now.counts m.machine (job_row m.machine m.machine.job) told now.machine → GivesIn m.counts now.counts m.machine (write_row m.machine n) told now.machine
  write_gives m shown now told g = passes_row m.counts now.counts m.machine (write_owns old n) (write_tests m.machine n) (write_are state old m shown n) none (job_row m.machine m.machine.job) told now.machine g

  pub without_job : old.job ≡ None → Leads state old old (WriteDone (Ok replies.No_job))
  without_job is = same_moment state old (WriteDone (Ok replies.No_job)) (λ m shown lawful. record {
    gives = write_gives m shown m replies.No_job (subst (λ (o : Option Job). GivesIn m.counts m.counts m.machine (job_row m.machine o) replies.No_job m.machine) (sym (sym shown.job ∙ is)) (refl, refl));
    counts = no_fall m.counts;
  })

  -- what is left of the row, where there is a job
  abbrev writing : Machine → Job → Row replies.Reply Machine
  writing m job = Unless (not_next (state_of m) job (job_standing (state_of m) job)) (Unless (refused (refusals.full m.world office_bounds)) (append_row m (next_of (state_of m) job)))

  job_gives : (m : Moment) → ShowsMachine state old m → (now : Moment) (told : replies.Reply) (job : Job) → old.job ≡ Some job → GivesIn m.counts now.counts m.machine (learning m.machine (machines.holder_of m.machine) (writing m.machine job)) told now.machine
      → GivesIn m.counts now.counts m.machine (write_row m.machine n) told now.machine
  job_gives m shown now told job has g =
      write_gives m shown now told (subst (λ (o : Option Job). GivesIn m.counts now.counts m.machine (job_row m.machine o) told now.machine) (sym (sym shown.job ∙ has)) g)

  pub table_stops : (new : Desk D) (s : State) (told : replies.Reply) → (old.job ≡ None → ⊥) → Leads state old new (Readies n s (Ok (Some told))) → Leads state old new (WriteDone (Ok told))
  table_stops new s told some ready m shown lawful =
      let job = has_some old.job some in
      let one = ready m shown lawful in
      let given = one.3 (writing m.machine job.0) in
      let g = passed_row m.counts one.0.counts m.machine (ready_owns old n) (ready_tests m.machine n) (ready_are state old n m shown) (writer_ready old n none) (learning m.machine n (writing m.machine job.0)) told one.0.machine given.gives in
      let at_holder = subst (λ (k : NodeName). GivesIn m.counts one.0.counts m.machine (learning m.machine k (writing m.machine job.0)) told one.0.machine) (writer_is old n none ∙ holder_shown state old m shown) g in
      (one.0, one.1, one.2, record { gives = job_gives m shown one.0 told job.0 job.1 at_holder; counts = given.counts })

  module _ (mid : Desk D) (has : IsReady old mid n) (kept : mid.job ≡ old.job) (ready : Leads state old mid (Readies n (pairs.table_of mid.pair n).state (Ok None))) where
    table_is : table_of mid ≡ (pairs.table_of mid.pair n).state
    table_is = ap (λ (k : NodeName). (pairs.table_of mid.pair k).state) (ap (λ (d : Duty). d.holder) has.duty_same ∙ sym (writer_is old n none))

    pub entry_written : (new : Desk D) (e : Entry) (r : Result Reply NoMemory) → NextAnswers (table_of mid) mid.job (Ok e) → LeadsOn state mid new e (RowDone (λ x. write_row x n) (told_in new r)) → Leads state old new (WriteDone (told_in new r))
    entry_written new e r next writes m shown lawful =
        let one = ready m shown lawful in
        let job = next_has (table_of mid) mid.job e next in
        let two = writes one.0 one.1 one.2 job.0 (sym one.1.job ∙ job.1) (subst (λ (s : State). next_of s job.0 ≡ Ok e) (table_is ∙ one.3.1) job.2) in
        (two.0, two.1, two.2, done_since (λ x. write_row x n) m one.0 two.0 (told_in new r) one.3.0 two.3)

    pub entry_missing : (told : Reply) → (old.job ≡ None → ⊥) → NextAnswers (table_of mid) mid.job (Err told) → Leads state old mid (WriteDone (Ok (reply_of (table_of mid) mid.job told)))
    entry_missing told some next m shown lawful =
        let one = ready m shown lawful in
        let job = none_has (table_of mid) mid.job told (λ is. some (sym kept ∙ is)) next in
        let same : table_of mid ≡ state_of m.machine = table_is ∙ one.3.1 ∙ ap (λ (x : Machine). state_of x) one.3.0.machine in
        let stands = subst (λ (s : State). not_next s job.0 (job_standing s job.0) ≡ Some (reply_of (table_of mid) mid.job told)) same job.2 in
        (one.0, one.1, one.2, record { gives = job_gives m shown one.0 (reply_of (table_of mid) mid.job told) job.0 (sym kept ∙ job.1) (inr (inl (stands, one.3.0.machine))); counts = one.3.0.counts })

-- why none is next is neither `DOWN` nor `UP` nor a failure
record IsQuietly (told : replies.Reply) : Type 0 where
  plain : IsPlain told
  failed : (before now : Counts) → HasFailed before now told
  after : (s : Switches) → After s commands.Next told s

not_next_quiet : (s : State) (job : Job) (r : Result Standing CycleFault) (told : replies.Reply) → not_next s job r ≡ Some told → IsQuietly told
not_next_quiet s job (Err fault) told is = subst IsQuietly (some_is (replies.Standing fault) told is) (record { plain = tt; failed = λ before now. tt; after = λ s. refl })
not_next_quiet s job (Ok Complete) told is = subst IsQuietly (some_is (replies.Complete _) told is) (record { plain = tt; failed = λ before now. tt; after = λ s. refl })
not_next_quiet s job (Ok New) told is = absurd (none_some told is)
not_next_quiet s job (Ok (Resume line)) told is = absurd (none_some told is)

none_quiet : (s : State) (o : Option Job) (told : Reply) → NextAnswers s o (Err told) → IsQuietly (reply_of s o told)
none_quiet s None told is = subst (λ (t : Reply). IsQuietly (reply_of s None t)) (sym is) (record { plain = tt; failed = λ before now. tt; after = λ s. refl })
none_quiet s (Some job) told is = not_next_quiet s job (job_standing s job) (reply_of s (Some job) told) is.stands

pub none_plain : {D : Type 0} (state : D → DiskState) (old mid : Desk D) → switches_of mid ≡ switches_of old → (told : Reply) → NextAnswers (table_of mid) mid.job (Err told) → IsPlainly state old mid (reply_of (table_of mid) mid.job told)
none_plain state old mid same told next =
    let q = none_quiet (table_of mid) mid.job told next in
    record {
      plain = q.plain;
      failed = q.failed (counts_at state old) (counts_at state mid);
      after = subst (λ (t : Switches). After (switches_of old) commands.Next (reply_of (table_of mid) mid.job told) t) (sym same) (q.after (switches_of old));
    }

not_told : (s : State) (job : Job) (r : Result Standing CycleFault) (t : Told) → not_next s job r ≡ Some (replies.Told t) → ⊥
not_told s job (Err fault) t is = absurd (cc)
not_told s job (Ok Complete) t is = absurd (cc)
not_told s job (Ok New) t is = absurd (cc)
not_told s job (Ok (Resume line)) t is = absurd (cc)

-- and not that an entry is written
pub none_advances : {D : Type 0} (old new : Desk D) (s : State) (o : Option Job) (told : Reply) → NextAnswers s o (Err told) → WriteAdvances old new (Ok told)
none_advances old new s None told is = subst (λ (t : Reply). WriteAdvances old new (Ok t)) (sym is) tt
none_advances old new s (Some job) (reply.Written number epoch) is = absurd (not_told s job (job_standing s job) (world.Written number epoch) is.stands)
none_advances old new s (Some job) told is = tt

pub none_can_tell : (s : State) (o : Option Job) (told : Reply) → NextAnswers s o (Err told) → CanTell s o told
none_can_tell s None told is = subst (λ (t : Reply). CanTell s None t) (sym is) tt
none_can_tell s (Some job) told is = is.can_tell

-- what stops the table is a refusal too
pub stopped_plain : {D : Type 0} (state : D → DiskState) (old new : Desk D) (n : NodeName) → rows.ready_refusal old.pair n ≡ None → (told : Reply) → ReadySwitches state old new n (Ok (Some told)) → PlainSwitches state old new (Ok told)
stopped_plain state old new n none told (f, is, inl (first, same)) = absurd (none_some f (sym none ∙ first))
stopped_plain state old new n none told (f, is, inr (passed, plain)) = subst (λ (t : replies.Reply). IsPlainly state old new t) (sym (ap (reply_of (table_of new) new.job) is)) plain

pub stopped_advances : {D : Type 0} (state : D → DiskState) (old new : Desk D) (n : NodeName) (told : Reply) → ReadySwitches state old new n (Ok (Some told)) → WriteAdvances old new (Ok told)
stopped_advances state old new n told (f, is, why) = subst (λ (t : Reply). WriteAdvances old new (Ok t)) (sym is) tt

-- after a look at the disks that switched nothing
failed_since : (a b c : Counts) → NeverFall a b → (told : replies.Reply) → HasFailed b c told → HasFailed a c told
failed_since a b c first (replies.Told (world.Failed d)) failed = rose_since a b c d first failed
failed_since a b c first told failed = failed

module _ {D : Type 0} (state : D → DiskState) (old mid new : Desk D) (first : NeverFall (counts_at state old) (counts_at state mid)) (same : switches_of mid ≡ switches_of old) where
  pub plain_since : (told : replies.Reply) → IsPlainly state mid new told → IsPlainly state old new told
  plain_since told is = record {
    plain = is.plain;
    failed = failed_since (counts_at state old) (counts_at state mid) (counts_at state new) first told is.failed;
    after = subst (λ (s : Switches). After s commands.Next told (switches_of new)) same is.after;
  }

  pub switches_since : (r : Result Reply NoMemory) → PlainSwitches state mid new r → PlainSwitches state old new r
  switches_since (Ok told) is = plain_since (reply_of (table_of new) new.job told) is
  switches_since (Err e) is = tt

pub advances_since : {D : Type 0} (old mid new : Desk D) → duty_of mid.pair ≡ duty_of old.pair → count_of mid.pair ≡ count_of old.pair → (r : Result Reply NoMemory) → WriteAdvances mid new r → WriteAdvances old new r
advances_since old mid new duty count (Ok (reply.Written number epoch)) is = (is.0 ∙ duty, is.1 ∙ count, is.2, is.3)
advances_since old mid new duty count (Ok told) is = tt
advances_since old mid new duty count (Err e) is = tt

-- ---- `WRITE`

module _ {D : Type 0} (state : D → DiskState) (old : Desk D) (n : NodeName) where
  pub write_row_refused : (f : PairFault) → rows.write_refusal old.pair n ≡ Some f → Leads state old old (EventDone (First (commands.Write n)) (Ok (fault_reply f)))
  write_row_refused f is =
      command_done state old old (commands.Write n) (Ok (fault_reply f)) (same_moment state old (RowDone (λ x. write_row x n) (Ok (fault_reply f))) (λ m shown lawful. record {
        gives = refused_row m.counts m.counts m.machine (write_owns old n) (write_tests m.machine n) f (write_are state old m shown n) is (job_row m.machine m.machine.job);
        counts = no_fall m.counts;
      }))

  pub write_refused_switches : (f : PairFault) → rows.write_refusal old.pair n ≡ Some f → IsSwitched (counts_at state old) (counts_at state old) (switches_of old) (commands.Write n) (fault_reply f ∷ []) (switches_of old)
  write_refused_switches f is =
      row_refused old n (rows.not_holder old.pair n ∷ rows.in_flight old.pair ∷ []) f is (
        quiet_when (not (is_node n (rows.holder old.pair))) (rows.out_of_duty old.pair n) tt,
        (quiet_when (nat_lt (count_of old.pair) (len_of old.pair (rows.holder old.pair))) (fault.InFlight (suc (count_of old.pair))) tt, tt),
      )
      (counts_at state old) (counts_at state old) (commands.Write n) refl refl

  pub write_switched : (new : Desk D) → rows.write_refusal old.pair n ≡ None → (r : Result Reply NoMemory) → PlainSwitches state old new r → Switched state old new (commands.Write n) (only r)
  write_switched new none (Ok told) is =
      plain_switched state old new (commands.Write n) refl refl (row_passed old n (rows.not_holder old.pair n ∷ rows.in_flight old.pair ∷ []) none (commands.Write n) refl) (reply_of (table_of new) new.job told) is
  write_switched new none (Err e) is = tt

  pub write_done : (new : Desk D) (r : Result Reply NoMemory) → Leads state old new (RowDone (λ x. write_row x n) (told_in new r)) → Leads state old new (EventDone (First (commands.Write n)) (told_in new r))
  write_done new r leads = command_done state old new (commands.Write n) (told_in new r) leads

-- ---- left for want of memory

module _ {D : Type 0} (state : D → DiskState) (old new : Desk D) where
  pub write_undone : (row : Machine → Row replies.Reply Machine) (r : Result Reply NoMemory) → IsErr r → Leads state old new Stays → Leads state old new (RowDone row (told_in new r))
  write_undone row (Ok told) is leads = absurd (cc is)
  write_undone row (Err e) is leads = leads

  pub nothing_switched : (r : Result Reply NoMemory) → IsErr r → PlainSwitches state old new r
  nothing_switched (Ok told) is = absurd (cc is)
  nothing_switched (Err e) is = tt

  pub nothing_written : (r : Result Reply NoMemory) → IsErr r → WriteAdvances old new r
  nothing_written (Ok told) is = absurd (cc is)
  nothing_written (Err e) is = tt
