-- Whether the job is complete, as a desk finds it before each entry of `BATCH`.
use Rattle.std.proofs.Common.{◌≡◌, ◌≢◌, inl, inr, Bool, true, not, refl, ap, sym, ◌∙◌, subst, Option, Some, None, Result, Ok, Err, IfSome, IsErr}
use Rattle.ali_base.specs.Steps.{when}
use Rattle.ali_base.specs.declared.names.DiskName.TheVariants as disk
use Rattle.ali_base.specs.declared.names.NodeName.{NodeName}
use Rattle.ali_base.specs.declared.no_memory.NoMemory.{NoMemory}
use Rattle.batch_desk.specs.Jobs.{job_standing}
use Rattle.batch_desk.specs.declared.job.Job.{Job}
use Rattle.command_machine.specs.CommandRows.{finished, found_row, learning, next_row}
use Rattle.command_machine.specs.Courses.{First, row_of}
use Rattle.command_machine.specs.Machine as machines
use Rattle.command_machine.specs.Machine.{Machine, Moment, state_of}
use Rattle.command_machine.specs.Replies as replies
use Rattle.command_machine.specs.Switches.{Switches}
use Rattle.command_desk.specs.DeskSteps.{Leads, CompleteAnswers, FoundSwitches, IsFound, IsGiven, IsPlainly, Readies, Stays, part_told}
use Rattle.command_desk.specs.MadeReply.{ShowsMachine, CanTell, reply_of, table_of}
use Rattle.command_desk.specs.declared.desk.Desk.{Desk}
use Rattle.command_desk.specs.declared.reply.Reply.{Reply}
use Rattle.command_desk.proofs.NotReady.{stops_not_ready}
use Rattle.command_desk.proofs.Readying.{GivesIn, IsReady, held_are, held_gives, held_learning, held_owns, held_tests, holder_shown, no_fall, none_all, passed_row, same_moment, still}
use Rattle.crash_disk.specs.DiskState.{DiskState}
use Rattle.office_commands.specs.Commands as commands
use Rattle.office_state.specs.OfficeState.{State}
use Rattle.pair_core.specs.Pair as pairs
use Rattle.pair_core.specs.Pair.{duty_of, is_node_up}
use Rattle.pair_core.specs.PairRefusals as rows
use Rattle.pair_core.specs.declared.faults.PairFault.TheVariants as fault
use Rattle.pair_core.proofs.PairRows.{all_none}
use Rattle.pair_world.specs.Refusals.{disk_of}
use Rattle.sequence_once.specs.declared.standing.CycleFault.{CycleFault}
use Rattle.sequence_once.specs.declared.standing.Standing.{Standing}
use Rattle.sequence_once.specs.declared.standing.Standing.TheVariants as standing
use Rattle.world_rows.specs.Counts.{NeverFall}
use Rattle.world_rows.specs.Rows.{Row, Unless, Success}
use Rattle.world_rows.specs.Told as world

-- what a look at a job says of its standing
not_finished : (s : State) (job : Job) (r : Result Standing CycleFault) → (r ≡ Ok standing.Complete → ⊥) → finished s job r ≡ None
not_finished s job (Ok standing.New) differs = refl
not_finished s job (Ok (standing.Resume line)) differs = refl
not_finished s job (Ok standing.Complete) differs = absurd (differs refl)
not_finished s job (Err fault) differs = refl

goes_on : (s : State) (o : Option Job) → (o ≡ None → ⊥) → CompleteAnswers s o None → (job : Job) × (o ≡ Some job) × (finished s job (job_standing s job) ≡ None)
goes_on s None some is = absurd (some refl)
goes_on s (Some job) some is = (job, refl, not_finished s job (job_standing s job) is)

is_complete : (s : State) (o : Option Job) (told : Reply) → CompleteAnswers s o (Some told) → (job : Job) × (o ≡ Some job) × (finished s job (job_standing s job) ≡ Some (reply_of s o told))
is_complete s None told is = absurd (cc is)
is_complete s (Some job) told is =
    let tells : Some (reply_of s (Some job) told) ≡ Some (replies.Finished s job) = ap (λ (t : Reply). Some (reply_of s (Some job) t)) is.0 in
    (job, refl, ap (finished s job) is.1 ∙ sym tells)

pub complete_can_tell : (s : State) (o : Option Job) (r : Option Reply) → CompleteAnswers s o r → IfSome r (CanTell s o)
complete_can_tell s o None is = tt
complete_can_tell s None (Some told) is = absurd (cc is)
complete_can_tell s (Some job) (Some told) is = subst (λ (t : Reply). CanTell s (Some job) t) (sym is.0) is.1

complete_not_ready : (s : State) (o : Option Job) (told : Reply) → CompleteAnswers s o (Some told) → reply_of s o told ≢ replies.Told world.Ready
complete_not_ready s None told is = absurd (cc is)
complete_not_ready s (Some job) told is = subst (λ (t : Reply). reply_of s (Some job) t ≢ replies.Told world.Ready) (sym is.0) (apart job)
  where
    apart : (job : Job) → replies.Finished s job ≡ replies.Told world.Ready → ⊥
    apart job same = absurd (cc)

found_by : (m now : Moment) (told : replies.Reply) → IsGiven (next_row m.machine true) told m now → IsGiven (row_of true m.machine (First commands.Batch)) told m now
unfolding row_of
found_by m now told given = given

has_some : (o : Option Job) → (o ≡ None → ⊥) → (job : Job) × (o ≡ Some job)
has_some None some = absurd (some refl)
has_some (Some job) some = (job, refl)

module _ {D : Type 0} (state : D → DiskState) (old : Desk D) (none : rows.held_refusal old.pair ≡ None) (own : NodeName) (held_by : own ≡ (duty_of old.pair).holder) where
  -- what is left of the row where there is a job
  abbrev looking : Machine → Job → Row replies.Reply Machine
  looking m job = Unless (finished (state_of m) job (job_standing (state_of m) job)) (Success (replies.Told world.Ready) m)

  look_gives : (m now : Moment) → ShowsMachine state old m → (o : Option Job) → old.job ≡ o → (told : replies.Reply) → GivesIn m.counts now.counts m.machine (found_row m.machine true o (Success (replies.Told world.Ready) m.machine)) told now.machine
      → NeverFall m.counts now.counts → IsGiven (row_of true m.machine (First commands.Batch)) told m now
  look_gives m now shown o has told g counts =
      let row : Option Job → Row replies.Reply Machine = λ (x : Option Job). found_row m.machine true x (Success (replies.Told world.Ready) m.machine) in
      let here = subst (λ (x : Option Job). GivesIn m.counts now.counts m.machine (row x) told now.machine) (sym (sym shown.job ∙ has)) g in
      found_by m now told (record { gives = held_gives state old m shown none now.counts (row m.machine.job) told now.machine here; counts = counts })

  pub nothing_found : old.job ≡ None → Leads state old old (IsFound (Ok None))
  nothing_found is = same_moment state old (IsFound (Ok None)) (λ m shown lawful. (still m, look_gives m m shown None is (replies.Told world.Ready) (refl, refl) (no_fall m.counts)))

  pub found_stops : (new : Desk D) (s : State) (told : replies.Reply) → (old.job ≡ None → ⊥) → Leads state old new (Readies own s (Ok (Some told))) → Leads state old new (IsFound (Ok (Some told)))
  found_stops new s told some ready m shown lawful =
      let job = has_some old.job some in
      let one = ready m shown lawful in
      let given = one.3 (looking m.machine job.0) in
      let g = passed_row m.counts one.0.counts m.machine (held_owns old) (held_tests m.machine) (held_are state old m shown) none (learning m.machine (machines.holder_of m.machine) (looking m.machine job.0)) told one.0.machine
      (held_learning m.counts one.0.counts m.machine own (held_by ∙ holder_shown state old m shown) (looking m.machine job.0) told one.0.machine given.gives) in
      (one.0, one.1, one.2, (look_gives m one.0 shown (Some job.0) job.1 told g given.counts, stops_not_ready m one.0 own told one.3))

  module _ (mid : Desk D) (has : IsReady old mid own) (kept : mid.job ≡ old.job) (ready : Leads state old mid (Readies own (pairs.table_of mid.pair own).state (Ok None))) where
    table_is : table_of mid ≡ (pairs.table_of mid.pair own).state
    table_is = ap (λ (k : NodeName). (pairs.table_of mid.pair k).state) (ap (λ (s : Switches). s.holder) has.switches ∙ sym held_by)

    pub job_found : (r : Option Reply) → (old.job ≡ None → ⊥) → CompleteAnswers (table_of mid) mid.job r → Leads state old mid (IsFound (part_told mid (Ok r)))
    job_found (Some told) some is m shown lawful =
        let one = ready m shown lawful in
        let job = is_complete (table_of mid) mid.job told is in
        let same : table_of mid ≡ state_of m.machine = table_is ∙ one.3.1 ∙ ap (λ (x : Machine). state_of x) one.3.0.machine in
        let stands = subst (λ (s : State). finished s job.0 (job_standing s job.0) ≡ Some (reply_of (table_of mid) mid.job told)) same job.2 in (
          one.0,
          one.1,
          one.2,
          (
            look_gives m one.0 shown (Some job.0) (sym kept ∙ job.1) (reply_of (table_of mid) mid.job told) (inr (inl (stands, one.3.0.machine))) one.3.0.counts,
            complete_not_ready (table_of mid) mid.job told is,
          ),
        )
    job_found None some is m shown lawful =
        let one = ready m shown lawful in
        let job = goes_on (table_of mid) mid.job (λ e. some (sym kept ∙ e)) is in
        let same : table_of mid ≡ state_of m.machine = table_is ∙ one.3.1 ∙ ap (λ (x : Machine). state_of x) one.3.0.machine in
        let stands = subst (λ (s : State). finished s job.0 (job_standing s job.0) ≡ None) same job.2 in
        (one.0, one.1, one.2, (one.3.0, look_gives m one.0 shown (Some job.0) (sym kept ∙ job.1) (replies.Told world.Ready) (inr (inr (stands, (refl, one.3.0.machine)))) one.3.0.counts))

    -- the register and the holder are up still
    held_then : rows.held_refusal mid.pair ≡ None
    held_then =
        let all = all_none (held_owns old) none in
        let h : own ≡ rows.holder mid.pair = held_by ∙ sym (ap (λ (s : Switches). s.holder) has.switches) in
        none_all (held_owns mid) (
          ap (λ (s : Switches). when (not s.register) (fault.Down disk.Duty)) has.switches ∙ all.0,
          (ap (λ (b : Bool). when (not b) (fault.Down (disk_of (rows.holder mid.pair)))) (subst (λ (k : NodeName). is_node_up mid.pair k ≡ true) h has.up), tt),
        )

    finished_plain : (o : Option Job) (told : Reply) → CompleteAnswers (table_of mid) o (Some told) → IsPlainly state old mid (reply_of (table_of mid) o told)
    finished_plain None told is = absurd (cc is)
    finished_plain (Some job) told is = subst (λ (t : Reply). IsPlainly state old mid (reply_of (table_of mid) (Some job) t)) (sym is.0) (record { plain = tt; failed = tt; after = has.switches })

    pub found_switches : (r : Option Reply) → CompleteAnswers (table_of mid) mid.job r → FoundSwitches state old mid (Ok r)
    found_switches None is = (has.switches, has.count, held_then)
    found_switches (Some told) is = finished_plain mid.job told is

-- left for want of memory
module _ {D : Type 0} (state : D → DiskState) (old new : Desk D) where
  pub found_undone : (r : Result (Option Reply) NoMemory) → IsErr r → Leads state old new Stays → Leads state old new (IsFound (part_told new r))
  found_undone (Ok told) is leads = absurd (cc is)
  found_undone (Err e) is leads = leads

  pub found_nothing : (r : Result (Option Reply) NoMemory) → IsErr r → FoundSwitches state old new r
  found_nothing (Ok told) is = absurd (cc is)
  found_nothing (Err e) is = tt
