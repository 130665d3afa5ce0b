-- Files and edits as a desk reads them: what is read against a table that is ready becomes the job.
use Rattle.std.proofs.Common.{◌≡◌, inl, inr, ℕ, List, [], ◌∷◌, refl, ap, sym, ◌∙◌, subst, Option, Some, None, option_map, Result, Ok, Err, IsOk, MatchResult}
use Rattle.ali_base.specs.declared.names.NodeName.{NodeName}
use Rattle.ali_base.specs.declared.no_memory.NoMemory.{NoMemory}
use Rattle.batch_desk.specs.FileJobs.{file_standing}
use Rattle.batch_desk.specs.JobReplies.{read_of}
use Rattle.batch_desk.specs.Jobs.{IsJob, job_standing}
use Rattle.batch_desk.specs.SubmitFaults.{IsJobOf, IsSubmitFault, IsEditFault}
use Rattle.batch_desk.specs.declared.job.Job.{Job}
use Rattle.batch_desk.specs.declared.job.Job.TheVariants.{File, Edit}
use Rattle.batch_desk.specs.declared.submit.SubmitFault.{SubmitFault}
use Rattle.batch_desk.specs.declared.submit.SubmitFault.TheVariants.{Frame, Due}
use Rattle.batch_frame.specs.FrameFault.{frame_fault}
use Rattle.batch_frame.specs.declared.fault.FrameFault.{FrameFault}
use Rattle.command_machine.specs.CommandRows.{learning, not_readable, read_row}
use Rattle.command_machine.specs.Courses.{First}
use Rattle.command_machine.specs.Machine as machines
use Rattle.command_machine.specs.Machine.{Machine, Moment, IsLawful, state_of}
use Rattle.command_machine.specs.Replies as replies
use Rattle.command_machine.specs.Switches.{Switches, IsSwitched, answered, first_off, found_up, needed_by, where_framed, with_node}
use Rattle.command_desk.specs.DeskSteps.{Leads, EventDone, IsPlainly, Readies, ReadySwitches, RowDone}
use Rattle.command_desk.specs.MadeReply.{ShowsMachine, counts_at, refusal_reply, reply_of, switches_of, table_of}
use Rattle.command_desk.specs.declared.desk.Desk.{Desk}
use Rattle.command_desk.specs.declared.refusal.Refusal.{Refusal}
use Rattle.command_desk.specs.declared.refusal.Refusal.TheVariants as refusal
use Rattle.command_desk.specs.declared.reply.Reply.{Reply}
use Rattle.command_desk.specs.declared.reply.Reply.TheVariants as reply
use Rattle.command_desk.proofs.Readying.{GivesIn, IsReady, command_done, held_free, held_gives, held_learning, holder_shown, no_fall, plain_switched, ready_passed, ready_switched, same_moment}
use Rattle.crash_disk.specs.DiskState.{DiskState}
use Rattle.office_commands.specs.Commands as commands
use Rattle.office_commands.specs.Commands.{Command}
use Rattle.office_state.specs.OfficeState.{State, office_limits}
use Rattle.pair_core.specs.Pair as pairs
use Rattle.pair_core.specs.Pair.{duty_of}
use Rattle.pair_core.specs.declared.pair.Pair.{Pair}
use Rattle.pair_world.proofs.Items.{none_some}
use Rattle.sequence_once.specs.declared.standing.CycleFault.{CycleFault}
use Rattle.sequence_once.specs.declared.standing.Standing.{Standing}
use Rattle.world_rows.specs.Rows.{Row, Unless, Success}

-- the command that reads a job, and the fault that is looked for before its table
abbrev pub reading : Job → Command
reading (File bytes) = commands.File bytes
reading (Edit editor serial edit) = commands.Edit editor serial edit

abbrev pub framing : Job → Option replies.Reply
framing (File bytes) = option_map replies.Framing (frame_fault bytes)
framing (Edit editor serial edit) = None

read_done : {D : Type 0} (state : D → DiskState) (old new : Desk D) (job : Job) (r : Result replies.Reply NoMemory) → Leads state old new (RowDone (λ x. read_row x (framing job) job) r) → Leads state old new (EventDone (First (reading job)) r)
read_done state old new (File bytes) r leads = command_done state old new (commands.File bytes) r leads
read_done state old new (Edit editor serial edit) r leads = command_done state old new (commands.Edit editor serial edit) r leads

-- what is read becomes the job
abbrev taking : Machine → Job → Row replies.Reply Machine
taking m job = Unless (not_readable (job_standing (state_of m) job)) (Success (replies.Read (read_of (state_of m) job)) (record m { job = Some job }))

-- a file that is none by its frame
pub frame_stops : {D : Type 0} (state : D → DiskState) (old : Desk D) (content : List ℕ) (fault : FrameFault) → frame_fault content ≡ Some fault → Leads state old old (EventDone (First (commands.File content)) (Ok (replies.Framing fault)))
frame_stops state old content fault is =
    read_done state old old (File content) (Ok (replies.Framing fault)) (same_moment state old (RowDone (λ x. read_row x (framing (File content)) (File content)) (Ok (replies.Framing fault))) (λ m shown lawful. record {
      gives = inl (ap (λ (f : Option FrameFault). option_map replies.Framing f) is, refl);
      counts = no_fall m.counts;
    }))

pub frame_switches : {D : Type 0} (state : D → DiskState) (old : Desk D) (content : List ℕ) (fault : FrameFault) → frame_fault content ≡ Some fault
    → IsSwitched (counts_at state old) (counts_at state old) (switches_of old) (commands.File content) (replies.Framing fault ∷ []) (switches_of old)
frame_switches state old content fault is =
    plain_switched state old old (commands.File content) refl refl (ap (λ (f : Option FrameFault). first_off (switches_of old) (where_framed f (switches_of old).holder)) is) (replies.Framing fault)
    (record { plain = tt; failed = tt; after = refl })

-- ---- a file without a fault of its frame, or an edit

framed_none : (o : Option FrameFault) → option_map replies.Framing o ≡ None → o ≡ None
framed_none None is = refl
framed_none (Some f) is = absurd (none_some (replies.Framing f) (sym is))

pub not_framed : (content : List ℕ) → frame_fault content ≡ None → framing (File content) ≡ None
not_framed content is = ap (λ (f : Option FrameFault). option_map replies.Framing f) is

needs_holder : (s : Switches) (job : Job) → framing job ≡ None → needed_by s (reading job) ≡ with_node s.holder
needs_holder s (File content) framed = ap (λ (f : Option FrameFault). where_framed f s.holder) (framed_none (frame_fault content) framed)
needs_holder s (Edit editor serial edit) framed = refl

none_up : (s : Switches) (job : Job) → found_up s (reading job) ≡ None
none_up s (File content) = refl
none_up s (Edit editor serial edit) = refl

none_answered : (s : Switches) (job : Job) → answered s (reading job) ≡ []
none_answered s (File content) = refl
none_answered s (Edit editor serial edit) = refl

module _ {D : Type 0} (state : D → DiskState) (old : Desk D) (own : NodeName) (held_by : own ≡ (duty_of old.pair).holder) (job : Job) (framed : framing job ≡ None) where
  needs_own : needed_by (switches_of old) (reading job) ≡ with_node own
  needs_own = needs_holder (switches_of old) job framed ∙ ap with_node (sym held_by)

  pub read_stops : (new : Desk D) (s : State) (told : replies.Reply) → Leads state old new (Readies own s (Ok (Some told))) → Leads state old new (EventDone (First (reading job)) (Ok told))
  read_stops new s told ready =
      read_done state old new job (Ok told) (λ m shown lawful.
      let one = ready m shown lawful in
      let given = one.3 (taking m.machine job) in
      let is : own ≡ machines.holder_of m.machine = held_by ∙ holder_shown state old m shown in
      (one.0, one.1, one.2, record { gives = inr (framed, held_learning m.counts one.0.counts m.machine own is (taking m.machine job) told one.0.machine given.gives); counts = given.counts }))

  pub read_stops_switches : (new : Desk D) (told : Reply) → ReadySwitches state old new own (Ok (Some told))
      → IsSwitched (counts_at state old) (counts_at state new) (switches_of old) (reading job) (reply_of (table_of new) new.job told ∷ []) (switches_of new)
  read_stops_switches new told switched =
      ready_switched state old new (reading job) (none_answered (switches_of old) job) (none_up (switches_of old) job) own needs_own told switched

  module _ (mid : Desk D) (has : IsReady old mid own) (ready : Leads state old mid (Readies own (pairs.table_of mid.pair own).state (Ok None))) where
    -- the table of the holder
    table_is : table_of mid ≡ (pairs.table_of mid.pair own).state
    table_is = ap (λ (n : NodeName). (pairs.table_of mid.pair n).state) (ap (λ (s : Switches). s.holder) has.switches ∙ sym held_by)

    same_table : (m now : Moment) → Readies own (pairs.table_of mid.pair own).state (Ok None) m now → table_of mid ≡ state_of m.machine
    same_table m now one = table_is ∙ one.1 ∙ ap (λ (x : Machine). state_of x) one.0.machine

    passed : first_off (switches_of old) (needed_by (switches_of old) (reading job)) ≡ None
    passed = ready_passed state old mid (reading job) (none_answered (switches_of old) job) (none_up (switches_of old) job) own needs_own has.none

    -- what the row gives behind the refusals
    row_given : (m : Moment) → ShowsMachine state old m → (now : Moment) (told : replies.Reply) → GivesIn m.counts now.counts m.machine (taking m.machine job) told now.machine
        → GivesIn m.counts now.counts m.machine (read_row m.machine (framing job) job) told now.machine
    row_given m shown now told g = inr (framed, held_gives state old m shown (held_free old own held_by has.none) now.counts (learning m.machine (machines.holder_of m.machine) (taking m.machine job)) told now.machine (inr g))

    pub read_plain : (new : Desk D) → switches_of new ≡ switches_of mid → (told : replies.Reply) → (switches_of new ≡ switches_of old → IsPlainly state old new told)
        → IsSwitched (counts_at state old) (counts_at state new) (switches_of old) (reading job) (told ∷ []) (switches_of new)
    read_plain new same told is = plain_switched state old new (reading job) (none_answered (switches_of old) job) (none_up (switches_of old) job) passed told (is (same ∙ has.switches))

    -- its standing is a fault
    pub read_refused : (fault : CycleFault) (told : Refusal) → job_standing (table_of mid) job ≡ Err fault → told ≡ refusal.Standing fault → Leads state old mid (EventDone (First (reading job)) (Ok (refusal_reply told)))
    read_refused fault told stands is =
        subst (λ (t : Refusal). Leads state old mid (EventDone (First (reading job)) (Ok (refusal_reply t)))) (sym is)
        (read_done state old mid job (Ok (replies.Standing fault)) (λ m shown lawful.
        let one = ready m shown lawful in
        let faulty : job_standing (state_of m.machine) job ≡ Err fault = subst (λ (s : State). job_standing s job ≡ Err fault) (same_table m one.0 one.3) stands in
        (one.0, one.1, one.2, record { gives = row_given m shown one.0 (replies.Standing fault) (inl (ap not_readable faulty, one.3.0.machine)); counts = one.3.0.counts })))

    pub read_refused_switches : (fault : CycleFault) (told : Refusal) → told ≡ refusal.Standing fault
        → IsSwitched (counts_at state old) (counts_at state mid) (switches_of old) (reading job) (refusal_reply told ∷ []) (switches_of mid)
    read_refused_switches fault told is =
        subst (λ (t : Refusal). IsSwitched (counts_at state old) (counts_at state mid) (switches_of old) (reading job) (refusal_reply t ∷ []) (switches_of mid)) (sym is)
        (read_plain mid refl (replies.Standing fault) (λ same. record { plain = tt; failed = tt; after = same }))

    -- or it is taken
    pub read_taken : (standing : Standing) → job_standing (table_of mid) job ≡ Ok standing → IsJob job → (new : Desk D) (told : Reply) → new.pair ≡ mid.pair → new.job ≡ Some job
        → told ≡ reply.Read (read_of (table_of mid) job) → Leads state old new (EventDone (First (reading job)) (Ok (reply_of (table_of new) new.job told)))
    read_taken standing stands is_job new told pair has_job is =
        read_done state old new job (Ok (reply_of (table_of new) new.job told)) (λ m shown lawful.
        let one = ready m shown lawful in
        let now : Moment = record { machine = record one.0.machine { job = Some job }; counts = one.0.counts } in
        let same = same_table m one.0 one.3 in
        let readable : job_standing (state_of m.machine) job ≡ Ok standing = subst (λ (s : State). job_standing s job ≡ Ok standing) same stands in
        let tells : reply_of (table_of new) new.job told ≡ replies.Read (read_of (state_of m.machine) job) =
        ap (λ (t : Reply). reply_of (table_of new) new.job t) is ∙ ap (λ (s : State). replies.Read (read_of s job)) same in
        let left : now.machine ≡ record m.machine { job = Some job } = ap (λ (x : Machine). record x { job = Some job }) one.3.0.machine in (
          now,
          record {
            world = subst (λ (x : Pair D). pairs.Shows state office_limits x one.0.machine.world) (sym pair) one.1.world;
            job = has_job;
            counts = one.1.counts ∙ ap (λ (x : Pair D). pairs.counts_of state x) (sym pair);
            bounds = ap (λ (x : Pair D). pairs.bounds_of x) pair ∙ one.1.bounds;
          },
          record { world = one.2.world; job = is_job },
          record { gives = row_given m shown now (reply_of (table_of new) new.job told) (inr (ap not_readable readable, (tells, left))); counts = one.3.0.counts },
        ))

    pub read_taken_switches : (new : Desk D) (told : Reply) → new.pair ≡ mid.pair → told ≡ reply.Read (read_of (table_of mid) job)
        → IsSwitched (counts_at state old) (counts_at state new) (switches_of old) (reading job) (reply_of (table_of new) new.job told ∷ []) (switches_of new)
    read_taken_switches new told pair is =
        subst (λ (t : Reply). IsSwitched (counts_at state old) (counts_at state new) (switches_of old) (reading job) (reply_of (table_of new) new.job t ∷ []) (switches_of new)) (sym is)
        (read_plain new (ap (λ (p : Pair D). switches_of (record { pair = p; job = None })) pair) (replies.Read (read_of (table_of mid) job)) (λ same. record { plain = tt; failed = tt; after = same }))

-- ---- what was read

-- a file that is none, without a fault of its frame, has the fault of its standing
pub standing_of_file : (s : State) (content : List ℕ) (fault : SubmitFault) → frame_fault content ≡ None → IsSubmitFault s content fault → IsEditFault (file_standing s content) fault
standing_of_file s content (Frame fault) none is = absurd (none_some fault (sym none ∙ is))
standing_of_file s content (Due fault) none is = is.1

pub is_read : (s : State) (content : List ℕ) (r : Result Job SubmitFault) (job : Job) → r ≡ Ok job → MatchResult r (λ job. IsJobOf s content job) (λ fault. IsSubmitFault s content fault) → IsJobOf s content job
is_read s content r job is h = subst (λ (x : Result Job SubmitFault). MatchResult x (λ job. IsJobOf s content job) (λ fault. IsSubmitFault s content fault)) is h

pub is_not_read : (s : State) (content : List ℕ) (r : Result Job SubmitFault) (fault : SubmitFault) → r ≡ Err fault → MatchResult r (λ job. IsJobOf s content job) (λ fault. IsSubmitFault s content fault) → IsSubmitFault s content fault
is_not_read s content r fault is h = subst (λ (x : Result Job SubmitFault). MatchResult x (λ job. IsJobOf s content job) (λ fault. IsSubmitFault s content fault)) is h

pub has_standing : (r : Result Standing CycleFault) → IsOk r → (standing : Standing) × (r ≡ Ok standing)
has_standing (Ok standing) ok = (standing, refl)
has_standing (Err fault) ok = absurd (cc ok)
