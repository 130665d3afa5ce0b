-- Where the holder is up and can book, and no disk fails, a BATCH books all that is left of its job, and ends with the job's reply.
use Rattle.std.proofs.Common.{◌≡◌, ℕ, zero, suc, ◌<◌, ◌≤◌, inl, inr, Bool, true, false, not, nat_lt, List, [], ◌∷◌, ◌++◌, length, take, refl, ap, sym, ◌∙◌, subst, arith, Option, Some, None, Result, Ok, Err, if◌then◌else◌}
use Rattle.std.proofs.lemmas.Bool.{le-ltb}
use Rattle.std.proofs.lemmas.List.{append-nil, append_assoc, length_push, length-append, length-map, take_all, map-append}
use Rattle.std.proofs.lemmas.List.Sums.{fold-append}
use Rattle.ali_base.specs.declared.duty.Mode.{Mode}
use Rattle.ali_base.specs.declared.duty.Mode.TheVariants.{Both, Alone}
use Rattle.ali_base.specs.declared.names.DiskName.{DiskName}
use Rattle.ali_base.specs.declared.names.NodeName.{NodeName}
use Rattle.ali_base.specs.declared.names.NodeName.TheVariants.{A, B}
use Rattle.batch_desk.specs.EditJobs.{edit_standing, next_edit}
use Rattle.batch_desk.specs.FileJobs.{file_standing, next_by}
use Rattle.batch_desk.specs.Jobs.{job_standing, next_of, entries_left}
use Rattle.batch_desk.specs.declared.job.Job.{Job}
use Rattle.batch_desk.specs.declared.job.Job.TheVariants as jobs
use Rattle.batch_desk.proofs.Steps.{IsStep, step, ready, none_left, next_or_complete}
use Rattle.catch_up.proofs.Completing.{holder_stays, put_there}
use Rattle.office_commands.specs.Commands.{Batch}
use Rattle.office_entry.specs.declared.entry.Entry.{Entry}
use Rattle.office_entry.specs.declared.entry.Entry.TheVariants as entry
use Rattle.office_state.specs.History.{state}
use Rattle.office_state.specs.OfficeState.{State, office_limits, empty_state}
use Rattle.office_state.specs.Verdict.{after}
use Rattle.pair_core.specs.PairPassing.{pass_row}
use Rattle.pair_world.specs.Changes.{written, booked_next, new_duty, duty_changed}
use Rattle.pair_world.specs.Frames.{Frame, entries}
use Rattle.pair_world.specs.Refusals as refusals
use Rattle.pair_world.specs.Refusals.{Refusal, Down, disk_of, is_alone}
use Rattle.pair_world.specs.SoundWorld.{Booked}
use Rattle.pair_world.specs.World.{World, NodeState, Nodes, node_at, put_node, other, is_node, is_up, holder_journal, pending}
use Rattle.pair_world.proofs.ExactRows.{book_passed, take_passed}
use Rattle.pair_world.proofs.RowTests.{passes, up_passes, lt_passes, le_passes}
use Rattle.pair_world.proofs.SoundSteps.{base_has_parts}
use Rattle.sequence_once.specs.declared.standing.CycleFault.{CycleFault}
use Rattle.sequence_once.specs.declared.standing.Standing.{Standing}
use Rattle.sequence_once.specs.declared.standing.Standing.TheVariants.{New, Resume, Complete}
use Rattle.world_rows.specs.Counts.{Counts, NoneRose}
use Rattle.world_rows.specs.Histories.{due_after}
use Rattle.world_rows.specs.Rows.{Row, Gives}
use Rattle.world_rows.specs.Told.{Told as WorldTold}
use Rattle.world_rows.specs.Told as told
use Rattle.world_rows.specs.WorldRows.{verdict_of}
use Rattle.world_rows.proofs.Rows.{gives_in, one_reply}
use Rattle.command_machine.specs.CommandRows.{refused, not_next, finished, append_row, job_row, event_row}
use Rattle.command_machine.specs.Courses.{Event, First, Writes, Passes, Goes_alone, Books, row_of, is_disk_of, then_comes, told_of}
use Rattle.command_machine.specs.Laws.{IsUsable, CanBook, CanBatch, MayTell}
use Rattle.command_machine.specs.Machine.{Machine, Moment, IsLawful, HasJob, office_bounds, holder_of, mirror_of, count_of, state_of, with_world}
use Rattle.command_machine.specs.Replies.{Reply, Told, Finished}
use Rattle.command_machine.specs.Steps.{Course, GoesOn, Moves, Runs, begun, over, Steps}
use Rattle.command_machine.proofs.FoundJobs.{shut, event_shut, finishes, finds}
use Rattle.command_machine.proofs.Lawful.{AllowedIn, moves_keep, kept_of}
use Rattle.command_machine.proofs.OneReply.{one_last, has_reply}
use Rattle.command_machine.proofs.PassedOn.{passed_down, passed, passed_up, passed_reaches}
use Rattle.command_machine.proofs.Undoubted.{calm_first, calm_rest, move_counts, runs_never_fall}

-- a job with a next entry is not complete, and its standing is no fault

next_of_file : (s : State) (bytes : List ℕ) (e : Entry) (r : Result Standing CycleFault) → next_by bytes r ≡ Ok e → (finished s (jobs.File bytes) r ≡ None) × (not_next s (jobs.File bytes) r ≡ None)
next_of_file s bytes e (Ok New) next = (refl, refl)
next_of_file s bytes e (Ok (Resume line)) next = (refl, refl)
next_of_file s bytes e (Ok Complete) next = cc
next_of_file s bytes e (Err fault) next = cc

next_of_edit : (s : State) (job : Job) (this e : Entry) (r : Result Standing CycleFault) → next_edit this r ≡ Ok e → (finished s job r ≡ None) × (not_next s job r ≡ None)
next_of_edit s job this e (Ok New) next = (refl, refl)
next_of_edit s job this e (Ok (Resume line)) next = cc
next_of_edit s job this e (Ok Complete) next = cc
next_of_edit s job this e (Err fault) next = cc

goes_on : (s : State) (job : Job) (e : Entry) → next_of s job ≡ Ok e → (finished s job (job_standing s job) ≡ None) × (not_next s job (job_standing s job) ≡ None)
goes_on s (jobs.File bytes) e next = next_of_file s bytes e (file_standing s bytes) next
goes_on s (jobs.Edit editor serial edit) e next = next_of_edit s (jobs.Edit editor serial edit) (entry.Edit editor serial edit) e (edit_standing s editor serial edit) next

-- ---- nodes

-- the other node's state stays
mirror_stays : (nodes : Nodes Entry) (n : NodeName) (state : NodeState Entry) → node_at (put_node nodes n state) (other n) ≡ node_at nodes (other n)
mirror_stays nodes A state = refl
mirror_stays nodes B state = refl

own : (n : NodeName) → not (is_node n n) ≡ false
own A = refl
own B = refl

own_disk : (n : NodeName) → is_disk_of n (disk_of n) ≡ true
own_disk A = refl
own_disk B = refl

-- what a batch rests on: the job, of which so much is booked and the rest is left
record IsOnWay (job : Job) (all : List Entry) (m : Machine) : Type 0 where
  lawful : IsLawful m
  usable : IsUsable m
  can_book : CanBook m
  has_job : m.job ≡ Some job
  free : length (holder_journal m.world.base) ≡ count_of m
  found : Standing
  stands : job_standing (state_of m) job ≡ Ok found
  all_is : entries m.world.base.booked ++ entries_left (state_of m) job ≡ all
  room : length all ≤ office_bounds.frames

-- and the same with its next entry written
record IsPending (job : Job) (all : List Entry) (m : Machine) : Type 0 where
  lawful : IsLawful m
  usable : IsUsable m
  can_book : CanBook m
  has_job : m.job ≡ Some job
  frame : Frame Entry
  journal : holder_journal m.world.base ≡ m.world.base.booked ++ frame ∷ []
  found : Standing
  stands : job_standing (after (state_of m) frame.entry) job ≡ Ok found
  all_is : entries m.world.base.booked ++ frame.entry ∷ entries_left (after (state_of m) frame.entry) job ≡ all
  room : length all ≤ office_bounds.frames

-- the other node has the pending entry, where there is need of it
abbrev IsStored : Machine → Type 0
IsStored m = m.world.base.duty.mode ≡ Both → count_of m < m.world.base.acked

-- the holder is not alone, and can be
abbrev CanLeave : Machine → Type 0
CanLeave m = (m.world.base.duty.mode ≡ Both) × (m.world.base.duty.epoch < office_bounds.last_epoch)

module _ (job : Job) (all : List Entry) where
  -- a batch before this event; where it is over, all is booked and the job's reply is told last
  abbrev IsAt : Machine → Option Event → List Reply → Type 0
  IsAt m None said = ((before : List Reply) × (said ≡ before ++ Finished (state_of m) job ∷ [])) × (entries m.world.base.booked ≡ all)
  IsAt m (Some (First Batch)) said = IsOnWay job all m
  IsAt m (Some (Writes true)) said = IsOnWay job all m × ((e : Entry) × (next_of (state_of m) job ≡ Ok e))
  IsAt m (Some (Passes true)) said = IsPending job all m × (m.world.base.duty.mode ≡ Both)
  IsAt m (Some (Goes_alone true)) said = IsPending job all m × CanLeave m
  IsAt m (Some (Books true)) said = IsPending job all m × IsStored m
  IsAt m (Some event) said = ⊥

  -- what the reply and the machine of an event are, decides what comes
  settled : (c d : Course) (event : Event) (moves : GoesOn c event d) (reply : Reply) (m : Machine) → moves.reply ≡ reply → d.moment.machine ≡ m → IsAt m (then_comes event m reply) (c.told ++ told_of event m reply) → IsAt d.moment.machine d.event d.told
  settled c d event moves reply m same machine at =
      let told_is : d.told ≡ c.told ++ told_of event m reply = moves.told ∙ ap (λ (x : Machine). c.told ++ told_of event x moves.reply) machine ∙ ap (λ (r : Reply). c.told ++ told_of event m r) same in
      let next_is : d.event ≡ then_comes event m reply = moves.next ∙ ap (λ (x : Machine). then_comes event x moves.reply) machine ∙ ap (λ (r : Reply). then_comes event m r) same in
      subst (λ (x : Machine). IsAt x d.event d.told) (sym machine)
      (subst (λ (o : Option Event). IsAt m o d.told) (sym next_is)
      (subst (λ (l : List Reply). IsAt m (then_comes event m reply) l) (sym told_is) at))

  module _ (before now : Counts) (m : Machine) where
    abbrev GivesIn : Row Reply Machine → Reply → Machine → Type 0
    GivesIn row reply v = Gives before now (λ (disk : DiskName). Told (told.Failed disk)) m row reply v

    -- what an event of the world gives
    world_gives : (row : Row WorldTold (World Entry)) (said : WorldTold) (v : World Entry) → Gives before now told.Failed m.world row said v → GivesIn (event_row m row) (Told said) (with_world m v)
    world_gives row said v gives = gives_in Told (with_world m) before now told.Failed m.world row said v gives

    -- ---- the next entry is written

    module _ (on : IsOnWay job all m) where
      journal_is : holder_journal m.world.base ≡ m.world.base.booked
      journal_is =
          let parts = base_has_parts (due_after office_limits) m.world on.lawful.world.sound in
          let begins = parts.holds Booked in
          sym (take_all (length m.world.base.booked) (holder_journal m.world.base) (let f = on.free in omega arith)) ∙ begins.begins.front

      module _ (e : Entry) (next : next_of (state_of m) job ≡ Ok e) where
        takes : IsStep (state_of m) job e
        takes =
            let is : HasJob (Some job) = subst (λ (o : Option Job). HasJob o) on.has_job on.lawful.job in
            step (state_of m) job e (ready (state_of m) job (kept_of m on.lawful) is) next

        all_left : entries m.world.base.booked ++ e ∷ entries_left (after (state_of m) e) job ≡ all
        all_left = sym (ap (λ (es : List Entry). entries m.world.base.booked ++ es) takes.left) ∙ on.all_is

        fits : length (holder_journal m.world.base) < office_bounds.frames
        fits =
            let l = ap length all_left in
            let f = on.free in
            let r = on.room in
            omega (arith, length-append (entries m.world.base.booked) (e ∷ entries_left (after (state_of m) e) job), length-map m.world.base.booked (λ (x : Frame Entry). x.entry))

        abbrev wrote : Machine
        wrote = with_world m (record m.world { base = written m.world.base e })

        abbrev written_reply : Reply
        written_reply = Told (told.Written (suc (length (holder_journal m.world.base))) m.world.base.duty.epoch)

        writes : (lasted : Bool) → GivesIn (row_of lasted m (Writes true)) written_reply wrote
        unfolding row_of
        writes lasted =
            let append : GivesIn (append_row m (next_of (state_of m) job)) written_reply wrote =
            subst (λ (r : Result Entry _). GivesIn (append_row m r) written_reply wrote) (sym next) (inr (refl, refl))
            in
            let full : refused (refusals.full m.world office_bounds) ≡ None = shut _ (le_passes office_bounds.frames (length (holder_journal m.world.base)) _ fits) in
            let new = (goes_on (state_of m) job e next).1 in
            let rest : GivesIn (job_row m m.job) written_reply wrote =
            subst (λ (o : Option Job). GivesIn (job_row m o) written_reply wrote) (sym on.has_job) (inr (inr (new, inr (full, append))))
            in
            let free : length (holder_journal m.world.base) ≤ count_of m = (let f = on.free in omega arith) in
            inr (
              shut _ (up_passes m.world.register_up _ on.usable.register),
              inr (
                shut _ (up_passes (node_at m.world.base.nodes (holder_of m)).up _ on.usable.up),
                inr (shut _ (passes _ _ (own (holder_of m))), inr (shut _ (lt_passes (count_of m) (length (holder_journal m.world.base)) _ free), rest)),
              ),
            )

        abbrev next_frame : Frame Entry
        next_frame = record { entry = e; epoch = m.world.base.duty.epoch }

        still_can : CanBook m → CanBook wrote
        still_can (inl alone) = inl alone
        still_can (inr (inl up)) = inr (inl (subst (λ (state : NodeState Entry). state.up ≡ true) (sym (mirror_stays m.world.base.nodes (holder_of m) _)) up))
        still_can (inr (inr left)) = inr (inr left)

        is_pending : IsLawful wrote → IsPending job all wrote
        is_pending lawful =
            record {
              lawful = lawful;
              usable = record {
                register = on.usable.register;
                up = subst (λ (state : NodeState Entry). state.up ≡ true) (sym (put_there m.world.base.nodes (holder_of m) _)) on.usable.up;
              };
              can_book = still_can on.can_book;
              has_job = on.has_job;
              frame = next_frame;
              journal =
                  ap (λ (state : NodeState Entry). state.journal) (put_there m.world.base.nodes (holder_of m) _)
                  ∙ ap (λ (j : List (Frame Entry)). j ++ next_frame ∷ []) journal_is;
              found = takes.standing;
              stands = takes.stands;
              all_is = all_left;
              room = on.room;
            }

        -- a holder that is alone books it at once
        passed_or_booked_at : IsLawful wrote → (mode : Mode) → m.world.base.duty.mode ≡ mode → (said : List Reply) → IsAt wrote (Some (if is_alone mode then Books true else Passes true)) said
        passed_or_booked_at lawful Alone is said = (is_pending lawful, λ both. absurd (cc))
        passed_or_booked_at lawful Both is said = (is_pending lawful, is)

    -- ---- it is passed on

    module _ (on : IsPending job all m) where
      longer : length (holder_journal m.world.base) ≡ suc (count_of m)
      longer = let j = ap length on.journal in omega (arith, length_push m.world.base.booked on.frame)

      module _ (both : m.world.base.duty.mode ≡ Both) where
        is_longer : count_of m < length (holder_journal m.world.base)
        is_longer = let l = longer in omega arith

        abbrev passed_world : World Entry
        passed_world = passed m.world on.lawful.world on.usable.register on.usable.up both is_longer before now

        abbrev passed_machine : Machine
        passed_machine = with_world m passed_world

        -- the other node is down: the holder can go on alone
        can_leave : (node_at m.world.base.nodes (mirror_of m)).up ≡ false → CanBook m → CanLeave m
        can_leave down (inl alone) = absurd (cc)
        can_leave down (inr (inl up)) = absurd (cc)
        can_leave down (inr (inr left)) = (both, left)

        passes_to : IsLawful passed_machine → is_up m.world.base (mirror_of m) → IsPending job all passed_machine × IsStored passed_machine
        passes_to lawful up = (
          record {
            lawful = lawful;
            usable = record {
              register = on.usable.register;
              up = subst (λ (state : NodeState Entry). state.up ≡ true) (sym (holder_stays m.world.base.nodes (holder_of m) _)) on.usable.up;
            };
            can_book = inr (inl (subst (λ (state : NodeState Entry). state.up ≡ true) (sym (put_there m.world.base.nodes (mirror_of m) _)) up));
            has_job = on.has_job;
            frame = on.frame;
            journal = ap (λ (state : NodeState Entry). state.journal) (holder_stays m.world.base.nodes (holder_of m) _) ∙ on.journal;
            found = on.found;
            stands = on.stands;
            all_is = on.all_is;
            room = on.room;
          },
          λ both_still. passed_reaches m.world on.lawful.world on.usable.register on.usable.up both is_longer before now,
        )

      -- ---- the holder goes on alone

      module _ (can : CanLeave m) where
        abbrev alone : Machine
        alone = with_world m (record m.world { base = duty_changed m.world.base (holder_of m) Alone m.world.base.booked })

        abbrev alone_reply : Reply
        alone_reply = Told (told.On_duty (new_duty m.world.base (holder_of m) Alone (count_of m)))

        goes : (lasted : Bool) → GivesIn (row_of lasted m (Goes_alone true)) alone_reply alone
        unfolding row_of
        goes lasted =
            let open_row = take_passed (due_after office_limits) m.world office_bounds (holder_of m) (on.usable.register, record { up = on.usable.up; both = can.0; epochs_left = can.1 }) in
            inr (event_shut _ open_row.0, inr (event_shut _ open_row.1.0, inr (event_shut _ open_row.1.1.0, inr (event_shut _ open_row.1.1.1.0, inr (refl, refl)))))

        goes_to : IsLawful alone → IsPending job all alone × IsStored alone
        goes_to lawful = (
          record {
            lawful = lawful;
            usable = record {
              register = on.usable.register;
              up = subst (λ (state : NodeState Entry). state.up ≡ true) (sym (put_there m.world.base.nodes (holder_of m) _)) on.usable.up;
            };
            can_book = inl refl;
            has_job = on.has_job;
            frame = on.frame;
            journal = ap (λ (state : NodeState Entry). state.journal) (put_there m.world.base.nodes (holder_of m) _) ∙ on.journal;
            found = on.found;
            stands = on.stands;
            all_is = on.all_is;
            room = on.room;
          },
          λ both. absurd (cc),
        )

      -- ---- it is booked

      module _ (stored : IsStored m) where
        abbrev booked : Machine
        booked = with_world m (record m.world { base = booked_next m.world.base })

        abbrev booked_reply : Reply
        booked_reply = Told (told.Booked (suc (count_of m)) (verdict_of (state_of m) (pending m.world.base)))

        books : (lasted : Bool) → GivesIn (row_of lasted m (Books true)) booked_reply booked
        unfolding row_of
        books lasted =
            let can = book_passed (due_after office_limits) m.world (on.usable.register, record { up = on.usable.up; pending = (let l = longer in omega arith); stored = stored }) in
            inr (event_shut _ can.0, inr (event_shut _ can.1.0, inr (event_shut _ can.1.1.0, inr (event_shut _ can.1.1.1.0, inr (refl, refl)))))

        grown : booked.world.base.booked ≡ m.world.base.booked ++ on.frame ∷ []
        grown =
            ap (λ (j : List (Frame Entry)). take (suc (count_of m)) j) on.journal
            ∙ take_all (suc (count_of m)) (m.world.base.booked ++ on.frame ∷ []) (omega (arith, length_push m.world.base.booked on.frame))

        entries_after : entries booked.world.base.booked ≡ entries m.world.base.booked ++ on.frame.entry ∷ []
        entries_after = ap (λ (h : List (Frame Entry)). entries h) grown ∙ map-append (λ (x : Frame Entry). x.entry) m.world.base.booked (on.frame ∷ [])

        state_after : state_of booked ≡ after (state_of m) on.frame.entry
        state_after =
            ap (λ (es : List Entry). state office_limits es) entries_after
            ∙ fold-append after (empty_state office_limits) (entries m.world.base.booked) (on.frame.entry ∷ [])

        is_on_way : IsLawful booked → IsOnWay job all booked
        is_on_way lawful =
            record {
              lawful = lawful;
              usable = record { register = on.usable.register; up = on.usable.up };
              can_book = on.can_book;
              has_job = on.has_job;
              free = ap length (on.journal ∙ sym grown);
              found = on.found;
              stands = ap (λ (s : State). job_standing s job) state_after ∙ on.stands;
              all_is =
                  ap (λ (es : List Entry). es ++ entries_left (state_of booked) job) entries_after
                  ∙ append_assoc (entries m.world.base.booked) (on.frame.entry ∷ []) (entries_left (state_of booked) job)
                  ∙ ap (λ (s : State). entries m.world.base.booked ++ on.frame.entry ∷ entries_left s job) state_after
                  ∙ on.all_is;
              room = on.room;
            }

  module _ (c d : Course) (none : NoneRose c.moment.counts d.moment.counts) where
    abbrev m : Machine
    m = c.moment.machine

    abbrev GivesHere : (event : Event) → Bool → Reply → Machine → Type 0
    GivesHere event lasted reply v = GivesIn c.moment.counts d.moment.counts m (row_of lasted m event) reply v

    -- the event's reply and the machine after it are these
    one : (event : Event) (moves : GoesOn c event d) (reply : Reply) (v : Machine) → GivesHere event moves.lasted reply v → (moves.reply ≡ reply) × (d.moment.machine ≡ v)
    one event moves reply v gives =
        one_reply c.moment.counts d.moment.counts (λ (disk : DiskName). Told (told.Failed disk)) m none (row_of moves.lasted m event) moves.reply reply d.moment.machine v moves.gives gives

    first_moves : IsOnWay job all m → GoesOn c (First Batch) d → IsAt d.moment.machine d.event d.told
    first_moves on moves = elim (next_or_complete (state_of m) job on.found on.stands) [
      | inl complete ↦ (
          let same = one (First Batch) moves (Finished (state_of m) job) m (finishes c.moment.counts d.moment.counts m job on.usable on.has_job moves.lasted complete) in
          let all_booked : entries m.world.base.booked ≡ all = sym (append-nil (entries m.world.base.booked)) ∙ sym (ap (λ (es : List Entry). entries m.world.base.booked ++ es) (none_left (state_of m) job complete)) ∙ on.all_is in
          settled c d (First Batch) moves (Finished (state_of m) job) m same.0 same.1 ((c.told, refl), all_booked))
      | inr next ↦ (
          let left = (goes_on (state_of m) job next.0 next.1).0 in
          let same = one (First Batch) moves (Told told.Ready) m (finds c.moment.counts d.moment.counts m job on.usable on.has_job moves.lasted left) in
          let not_flying : nat_lt (count_of m) (length (holder_journal m.world.base)) ≡ false = le-ltb (count_of m) (length (holder_journal m.world.base)) (let f = on.free in omega arith) in
          let at : IsAt m (then_comes (First Batch) m (Told told.Ready)) (c.told ++ []) =
          subst (λ (b : Bool). IsAt m (Some (if b then (if is_alone m.world.base.duty.mode then Books true else Passes true) else Writes true)) (c.told ++ [])) (sym not_flying) (on, next)
          in
          settled c d (First Batch) moves (Told told.Ready) m same.0 same.1 at)
    ]

    -- what a move leaves is lawful
    lawful_after : (event : Event) → AllowedIn event → IsLawful m → GoesOn c event d → (v : Machine) → d.moment.machine ≡ v → IsLawful v
    lawful_after event is lawful moves v same = subst (λ (x : Machine). IsLawful x) same (moves_keep c d event is lawful moves).lawful

    writes_moves : IsOnWay job all m → (e : Entry) → next_of (state_of m) job ≡ Ok e → GoesOn c (Writes true) d → IsAt d.moment.machine d.event d.told
    writes_moves on e next moves =
        let v = wrote c.moment.counts d.moment.counts m on e next in
        let reply = written_reply c.moment.counts d.moment.counts m on e next in
        let same = one (Writes true) moves reply v (writes c.moment.counts d.moment.counts m on e next moves.lasted) in
        let lawful : IsLawful v = lawful_after (Writes true) tt on.lawful moves v same.1 in
        settled c d (Writes true) moves reply v same.0 same.1 (passed_or_booked_at c.moment.counts d.moment.counts m on e next lawful m.world.base.duty.mode refl (c.told ++ []))

    -- the other node is up, or it is down
    passes_moves : IsPending job all m → (both : m.world.base.duty.mode ≡ Both) → GoesOn c (Passes true) d → (up : Bool) → (node_at m.world.base.nodes (mirror_of m)).up ≡ up → IsAt d.moment.machine d.event d.told
    unfolding row_of
    passes_moves on both moves true up =
        let row = pass_row office_limits m.world (suc (count_of m)) in
        let longer = is_longer c.moment.counts d.moment.counts m on both in
        let v = passed_machine c.moment.counts d.moment.counts m on both in
        let gives = passed_up m.world on.lawful.world on.usable.register on.usable.up both longer c.moment.counts d.moment.counts up in
        elim gives [
          | inl stored ↦ (
              let same = one (Passes true) moves (Told (told.Stored _ 0)) v (world_gives c.moment.counts d.moment.counts m row (told.Stored _ 0) _ stored) in
              let lawful = lawful_after (Passes true) tt on.lawful moves v same.1 in
              settled c d (Passes true) moves (Told (told.Stored _ 0)) v same.0 same.1 (passes_to c.moment.counts d.moment.counts m on both lawful up))
          | inr have ↦ (
              let same = one (Passes true) moves (Told (told.Have _ 0)) v (world_gives c.moment.counts d.moment.counts m row (told.Have _ 0) _ have) in
              let lawful = lawful_after (Passes true) tt on.lawful moves v same.1 in
              settled c d (Passes true) moves (Told (told.Have _ 0)) v same.0 same.1 (passes_to c.moment.counts d.moment.counts m on both lawful up))
        ]
    passes_moves on both moves false down =
        let row = pass_row office_limits m.world (suc (count_of m)) in
        let longer = is_longer c.moment.counts d.moment.counts m on both in
        let lost : WorldTold = told.Refused (Down (disk_of (mirror_of m))) in
        let gives = passed_down m.world on.lawful.world on.usable.register on.usable.up both longer c.moment.counts d.moment.counts down in
        let same = one (Passes true) moves (Told lost) m (world_gives c.moment.counts d.moment.counts m row lost m.world gives) in
        settled c d (Passes true) moves (Told lost) m same.0 same.1
        (subst (λ (b : Bool). IsAt m (if b then Some (Goes_alone true) else None) (c.told ++ Told lost ∷ [])) (sym (own_disk (mirror_of m)))
        (on, can_leave c.moment.counts d.moment.counts m on both down on.can_book))

    goes_moves : IsPending job all m → CanLeave m → GoesOn c (Goes_alone true) d → IsAt d.moment.machine d.event d.told
    goes_moves on can moves =
        let v = alone c.moment.counts d.moment.counts m on can in
        let reply = alone_reply c.moment.counts d.moment.counts m on can in
        let same = one (Goes_alone true) moves reply v (goes c.moment.counts d.moment.counts m on can moves.lasted) in
        let lawful : IsLawful v = lawful_after (Goes_alone true) tt on.lawful moves v same.1 in
        settled c d (Goes_alone true) moves reply v same.0 same.1 (goes_to c.moment.counts d.moment.counts m on can lawful)

    books_moves : IsPending job all m → IsStored m → GoesOn c (Books true) d → IsAt d.moment.machine d.event d.told
    books_moves on stored moves =
        let v = booked c.moment.counts d.moment.counts m on stored in
        let reply = booked_reply c.moment.counts d.moment.counts m on stored in
        let same = one (Books true) moves reply v (books c.moment.counts d.moment.counts m on stored moves.lasted) in
        let lawful : IsLawful v = lawful_after (Books true) tt on.lawful moves v same.1 in
        settled c d (Books true) moves reply v same.0 same.1 (is_on_way c.moment.counts d.moment.counts m on stored lawful)

    move_goes : (o : Option Event) → IsAt m o c.told → Moves c o d → IsAt d.moment.machine d.event d.told
    move_goes None at moves = absurd moves
    move_goes (Some (First Batch)) at moves = first_moves at moves
    move_goes (Some (Writes true)) at moves = writes_moves at.0 at.1.0 at.1.1 moves
    move_goes (Some (Passes true)) at moves = passes_moves at.0 at.1 moves (node_at m.world.base.nodes (mirror_of m)).up refl
    move_goes (Some (Goes_alone true)) at moves = goes_moves at.0 at.1 moves
    move_goes (Some (Books true)) at moves = books_moves at.0 at.1 moves
    move_goes (Some event) at moves = absurd at

  runs_go : (n : ℕ) (c d : Course) → NoneRose c.moment.counts d.moment.counts → IsAt c.moment.machine c.event c.told → Runs n c d → IsAt d.moment.machine d.event d.told
  runs_go zero c d none at same = subst (λ (x : Course). IsAt x.moment.machine x.event x.told) same at
  runs_go (suc n) c d none at (next, moves, runs) =
      let here = calm_first c.moment.counts next.moment.counts d.moment.counts (runs_never_fall n next d runs) none in
      let rest = calm_rest c.moment.counts next.moment.counts d.moment.counts (move_counts c next c.event moves) none in
      runs_go n next d rest (move_goes c next here c.event at moves) runs

pub batch_ends : (m now : Moment) (job : Job) (found : Standing) (said : List Reply) → IsLawful m.machine → CanBatch m.machine job → job_standing (state_of m.machine) job ≡ Ok found
    → NoneRose m.counts now.counts → Steps m Batch said now
    → (before : List Reply) × (said ≡ before ++ Finished (state_of now.machine) job ∷ []) × MayTell m.machine Batch before
    × (entries now.machine.world.base.booked ≡ entries m.machine.world.base.booked ++ entries_left (state_of m.machine) job)
batch_ends m now job found said lawful can stands none steps =
    let all = entries m.machine.world.base.booked ++ entries_left (state_of m.machine) job in
    let room : length all ≤ office_bounds.frames =
    (let r = can.room in omega (arith, length-append (entries m.machine.world.base.booked) (entries_left (state_of m.machine) job), length-map m.machine.world.base.booked (λ (x : Frame Entry). x.entry)))
    in
    let on : IsOnWay job all m.machine =
    record { lawful = lawful; usable = can.usable; can_book = can.can_book; has_job = can.has_job; free = can.free; found = found; stands = stands; all_is = refl; room = room }
    in
    let ends = runs_go job all steps.events (begun m Batch) (over now said) none on steps.runs in
    let has = has_reply m now said Batch steps in
    let last : has.1 ≡ Finished (state_of now.machine) job = one_last has.0 ends.0.0 has.1 (Finished (state_of now.machine) job) (sym has.2 ∙ ends.0.1) in
    (has.0, has.2 ∙ ap (λ (r : Reply). has.0 ++ r ∷ []) last, has.3, ends.1)
