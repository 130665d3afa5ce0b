-- A BATCH of a job that is complete finds it so at once, and books nothing.
use Rattle.std.proofs.Common.{◌≡◌, ℕ, zero, suc, inl, inr, Bool, true, false, nat_lt, List, [], ◌∷◌, ◌++◌, length, drop, refl, ap, sym, ◌∙◌, subst, Option, Some, None, Result, Ok, Err, if◌then◌else◌}
use Rattle.std.proofs.lemmas.List.Elements.{recursion_from_All}
use Rattle.std.proofs.lemmas.List.{take-append-drop, map-append}
use Rattle.ali_base.specs.declared.names.DiskName.{DiskName}
use Rattle.ali_base.specs.declared.names.NodeName.{NodeName}
use Rattle.batch_desk.specs.Jobs.{IsStillKept, job_standing, next_of}
use Rattle.batch_desk.specs.JobReplies.{job_reply}
use Rattle.batch_desk.specs.declared.job.Job.{Job}
use Rattle.batch_desk.proofs.Replies.{complete_again}
use Rattle.office_entry.specs.declared.entry.Entry.{Entry}
use Rattle.office_state.specs.History.{IsLegal, state}
use Rattle.office_state.specs.OfficeState.{State, office_limits}
use Rattle.office_state.specs.declared.due_fault.DueFault.{DueFault}
use Rattle.pair_core.specs.PairPassing.{pass_row}
use Rattle.pair_world.specs.Frames.{Frame, entries}
use Rattle.pair_world.specs.Refusals.{Refusal, Down, is_alone}
use Rattle.pair_world.specs.World.{World, holder_journal}
use Rattle.pair_world.proofs.Items.{none_some}
use Rattle.sequence_once.specs.declared.standing.CycleFault.{CycleFault}
use Rattle.sequence_once.specs.declared.standing.Standing.{Standing}
use Rattle.sequence_once.specs.declared.standing.Standing.TheVariants.{New, Resume, Complete}
use Rattle.world_rows.specs.Counts.{Counts, NoneRose}
use Rattle.world_rows.specs.Rows.{Row, Success, Gives}
use Rattle.world_rows.specs.Told.{Told as WorldTold}
use Rattle.world_rows.specs.Told as told
use Rattle.world_rows.specs.WorldRows.{alone_row, book_row}
use Rattle.world_rows.proofs.Rows.{one_reply}
use Rattle.command_machine.specs.CommandRows.{refused, not_next, finished, append_row, job_row, write_row, found_row, next_row, event_row}
use Rattle.office_commands.specs.Commands as commands
use Rattle.office_commands.specs.Commands.{Command, IsCommand, Batch}
use Rattle.command_machine.specs.Courses.{Event, First, Writes, Passes, Goes_alone, Books, Catches_up, row_of, passed_or_booked, is_disk_of, then_comes, told_of}
use Rattle.command_machine.specs.Machine.{Machine, Moment, office_bounds, holder_of, mirror_of, count_of, state_of, with_world}
use Rattle.command_machine.specs.Replies.{Reply, Told, Finished}
use Rattle.command_machine.specs.ReplyText.{reply_text}
use Rattle.command_machine.specs.Steps.{Course, GoesOn, Moves, Runs, begun, over, Steps}
use Rattle.command_machine.specs.Laws.{IsUsable, IsReadAgain}
use Rattle.command_machine.proofs.EventRows.{gives_out}
use Rattle.command_machine.proofs.FoundJobs.{finishes}
use Rattle.command_machine.proofs.Lawful.{legal_of, step_keeps, replies_keep}
use Rattle.command_machine.proofs.OneReply.{one_last}

-- a reply of the world is not that of a finished job
not_told : (s : State) (job : Job) (t : WorldTold) → Finished s job ≡ Told t → ⊥
not_told s job t e = absurd (cc)

refused_not : (o : Option Refusal) (s : State) (job : Job) → refused o ≡ Some (Finished s job) → ⊥
refused_not None s job e = none_some (Finished s job) e
refused_not (Some r) s job e = absurd (cc)

not_next_not : (s : State) (job : Job) (r : Result Standing CycleFault) (t : State) (other : Job) → not_next s job r ≡ Some (Finished t other) → ⊥
not_next_not s job (Ok New) t other e = none_some (Finished t other) e
not_next_not s job (Ok (Resume line)) t other e = none_some (Finished t other) e
not_next_not s job (Ok Complete) t other e = absurd (cc)
not_next_not s job (Err fault) t other e = absurd (cc)

-- the machine has this job, which is complete in this state
record IsFinished (m : Machine) (s : State) (job : Job) : Type 0 where
  same : s ≡ state_of m
  has_job : m.job ≡ Some job
  complete : job_standing (state_of m) job ≡ Ok Complete

by_standing : (t : State) (found : Job) (r : Result Standing CycleFault) (s : State) (job : Job) → finished t found r ≡ Some (Finished s job) → (r ≡ Ok Complete) × (s ≡ t) × (job ≡ found)
by_standing t found (Ok Complete) s job e = (refl, cc, cc)
by_standing t found (Ok New) s job e = absurd (none_some (Finished s job) e)
by_standing t found (Ok (Resume line)) s job e = absurd (none_some (Finished s job) e)
by_standing t found (Err fault) s job e = absurd (none_some (Finished s job) e)

ready_refused : (o : Option Refusal) → refused o ≡ Some (Told told.Ready) → ⊥
ready_refused None e = none_some (Told told.Ready) e
ready_refused (Some r) e = absurd (cc)

module _ (before now : Counts) (m v : Machine) where
  abbrev GivesIn : Row Reply Machine → Reply → Type 0
  GivesIn row reply = Gives before now (λ (disk : DiskName). Told (told.Failed disk)) m row reply v

  found_finished : (s : State) (job : Job) (o : Option Job) → m.job ≡ o → GivesIn (found_row m true o (Success (Told told.Ready) m)) (Finished s job) → IsFinished m s job × (v ≡ m)
  found_finished s job None is g = absurd (not_told s job told.Ready g.0)
  found_finished s job (Some found) is (inl g) = absurd (not_told s job _ g.0)
  found_finished s job (Some found) is (inr (inl g)) =
      let by = by_standing (state_of m) found (job_standing (state_of m) found) s job g.0 in
      let has : m.job ≡ Some job = is ∙ ap (λ (j : Job). Some j) (sym by.2) in (
        record { same = by.1; has_job = has; complete = ap (λ (j : Job). job_standing (state_of m) j) by.2 ∙ by.0 },
        g.1,
      )
  found_finished s job (Some found) is (inr (inr g)) = absurd (not_told s job told.Ready g.1.0)

  next_finished : (s : State) (job : Job) → GivesIn (next_row m true) (Finished s job) → IsFinished m s job × (v ≡ m)
  next_finished s job (inl g) = absurd (refused_not _ s job g.0)
  next_finished s job (inr (up, inl g)) = absurd (refused_not _ s job g.0)
  next_finished s job (inr (up, inr (node, g))) = found_finished s job m.job refl g

  append_finished : (s : State) (job : Job) (r : Result Entry DueFault) → GivesIn (append_row m r) (Finished s job) → ⊥
  append_finished s job (Err fault) g = not_told s job _ g.0
  append_finished s job (Ok e) (inl g) = not_told s job _ g.0
  append_finished s job (Ok e) (inr g) = not_told s job _ g.0

  job_finished : (s : State) (job : Job) (o : Option Job) → GivesIn (job_row m o) (Finished s job) → ⊥
  job_finished s job None g = absurd (let e = g.0 in cc)
  job_finished s job (Some found) (inl g) = not_told s job _ g.0
  job_finished s job (Some found) (inr (inl g)) = not_next_not (state_of m) found (job_standing (state_of m) found) s job g.0
  job_finished s job (Some found) (inr (inr (new, inl g))) = refused_not _ s job g.0
  job_finished s job (Some found) (inr (inr (new, inr (full, g)))) = append_finished s job (next_of (state_of m) found) g

  write_finished : (s : State) (job : Job) (n : NodeName) → GivesIn (write_row m n) (Finished s job) → ⊥
  write_finished s job n (inl g) = refused_not _ s job g.0
  write_finished s job n (inr (up, inl g)) = refused_not _ s job g.0
  write_finished s job n (inr (up, inr (node, inl g))) = refused_not _ s job g.0
  write_finished s job n (inr (up, inr (node, inr (own, inl g)))) = refused_not _ s job g.0
  write_finished s job n (inr (up, inr (node, inr (own, inr (free, g))))) = job_finished s job m.job g

  event_finished : (s : State) (job : Job) (row : Row WorldTold (World Entry)) → GivesIn (event_row m row) (Finished s job) → ⊥
  event_finished s job row g =
      let given = gives_out Told (with_world m) before now told.Failed m.world row (Finished s job) v g in
      not_told s job given.reply given.told_is

  -- a job that is complete is not gone on with
  found_ready : (job : Job) → job_standing (state_of m) job ≡ Ok Complete → GivesIn (found_row m true (Some job) (Success (Told told.Ready) m)) (Told told.Ready) → ⊥
  found_ready job complete (inl g) = absurd (let e = g.0 in cc)
  found_ready job complete (inr (inl g)) =
      absurd (let e : Some (Finished (state_of m) job) ≡ Some (Told told.Ready) = sym (ap (λ (r : Result Standing CycleFault). finished (state_of m) job r) complete) ∙ g.0 in cc)
  found_ready job complete (inr (inr g)) = none_some _ (sym g.0 ∙ ap (λ (r : Result Standing CycleFault). finished (state_of m) job r) complete)

  next_ready : (job : Job) → m.job ≡ Some job → job_standing (state_of m) job ≡ Ok Complete → GivesIn (next_row m true) (Told told.Ready) → ⊥
  next_ready job has complete (inl g) = ready_refused _ g.0
  next_ready job has complete (inr (up, inl g)) = ready_refused _ g.0
  next_ready job has complete (inr (up, inr (node, g))) =
      found_ready job complete (subst (λ (o : Option Job). GivesIn (found_row m true o (Success (Told told.Ready) m)) (Told told.Ready)) has g)

-- the events of a BATCH
abbrev IsBatch : Event → Type 0
IsBatch (First Batch) = Unit {0}
IsBatch (Writes true) = Unit {0}
IsBatch (Passes true) = Unit {0}
IsBatch (Goes_alone true) = Unit {0}
IsBatch (Books true) = Unit {0}
IsBatch event = ⊥

-- a reply of a finished job that comes last tells of the job of the machine
abbrev Ends : Machine → Option Event → List Reply → Type 0
Ends m None said = (before : List Reply) (s : State) (job : Job) → said ≡ before ++ Finished s job ∷ [] → IsFinished m s job
Ends m (Some event) said = IsBatch event

passed_batch : (v : Machine) (said : List Reply) (alone : Bool) → Ends v (Some (if alone then Books true else Passes true)) said
passed_batch v said true = tt
passed_batch v said false = tt

found_batch : (v : Machine) (said : List Reply) (pending : Bool) → Ends v (Some (if pending then passed_or_booked true v else Writes true)) said
found_batch v said true = passed_batch v said (is_alone v.world.base.duty.mode)
found_batch v said false = tt

-- what ends a BATCH is told last
abbrev EndsBy : Machine → Reply → Type 0
EndsBy v reply = (s : State) (job : Job) → reply ≡ Finished s job → IsFinished v s job

by_last : (v : Machine) (said : List Reply) (reply : Reply) → EndsBy v reply → Ends v None (said ++ reply ∷ [])
by_last v said reply last = λ before s job same. last s job (one_last said before reply (Finished s job) same)

left_ends : (v : Machine) (said : List Reply) (mirrors : Bool) (t : WorldTold) → EndsBy v (Told t) → Ends v (if mirrors then Some (Goes_alone true) else None) (said ++ Told t ∷ [])
left_ends v said true t last = tt
left_ends v said false t last = by_last v said (Told t) last

ends_next : (event : Event) (v : Machine) (said : List Reply) (reply : Reply) → IsBatch event → EndsBy v reply → Ends v (then_comes event v reply) (said ++ told_of event v reply)
ends_next (First Batch) v said (Told told.Ready) is last = found_batch v (said ++ []) (nat_lt (count_of v) (length (holder_journal v.world.base)))
ends_next (First commands.Next) v said reply is last = absurd is
ends_next (First commands.Catch_up) v said reply is last = absurd is
ends_next (Writes true) v said (Told (told.Written number epoch)) is last = passed_batch v (said ++ []) (is_alone v.world.base.duty.mode)
ends_next (Writes false) v said reply is last = absurd is
ends_next (Passes true) v said (Told (told.Refused (Down d))) is last = left_ends v said (is_disk_of (mirror_of v) d) (told.Refused (Down d)) last
ends_next (Passes true) v said (Told (told.Failed d)) is last = left_ends v said (is_disk_of (mirror_of v) d) (told.Failed d) last
ends_next (Passes true) v said (Told (told.Behind len number)) is last = tt
ends_next (Passes true) v said (Told (told.Cut number)) is last = tt
ends_next (Passes true) v said (Told (told.Stored number made)) is last = tt
ends_next (Passes true) v said (Told (told.Have number made)) is last = tt
ends_next (Passes true) v said (Told (told.Have_end number made)) is last = tt
ends_next (Passes false) v said reply is last = absurd is
ends_next (Goes_alone true) v said (Told (told.On_duty duty)) is last = tt
ends_next (Goes_alone false) v said reply is last = absurd is
ends_next (Books true) v said (Told (told.Booked number verdict)) is last = tt
ends_next (Catches_up number) v said reply is last = absurd is
ends_next event v said reply is last = by_last v said reply last

last_of : (c d : Course) (event : Event) → IsBatch event → (moves : GoesOn c event d) → EndsBy d.moment.machine moves.reply
unfolding row_of
last_of c d (First Batch) is moves s job same =
    let m = c.moment.machine in
    let v = d.moment.machine in
    let found = next_finished c.moment.counts d.moment.counts m v s job (subst (λ (r : Reply). GivesIn c.moment.counts d.moment.counts m v (next_row m true) r) same moves.gives) in
    subst (λ (x : Machine). IsFinished x s job) (sym found.1) found.0
last_of c d (Writes true) is moves s job same =
    let m = c.moment.machine in
    let v = d.moment.machine in
    absurd (write_finished c.moment.counts d.moment.counts m v s job (holder_of m) (subst (λ (r : Reply). GivesIn c.moment.counts d.moment.counts m v (write_row m (holder_of m)) r) same moves.gives))
last_of c d (Passes true) is moves s job same =
    let m = c.moment.machine in
    let v = d.moment.machine in
    let row = pass_row office_limits m.world (suc (count_of m)) in
    absurd (event_finished c.moment.counts d.moment.counts m v s job row (subst (λ (r : Reply). GivesIn c.moment.counts d.moment.counts m v (event_row m row) r) same moves.gives))
last_of c d (Goes_alone true) is moves s job same =
    let m = c.moment.machine in
    let v = d.moment.machine in
    let row = alone_row office_limits m.world office_bounds in
    absurd (event_finished c.moment.counts d.moment.counts m v s job row (subst (λ (r : Reply). GivesIn c.moment.counts d.moment.counts m v (event_row m row) r) same moves.gives))
last_of c d (Books true) is moves s job same =
    let m = c.moment.machine in
    let v = d.moment.machine in
    let row = book_row office_limits m.world in
    absurd (event_finished c.moment.counts d.moment.counts m v s job row (subst (λ (r : Reply). GivesIn c.moment.counts d.moment.counts m v (event_row m row) r) same moves.gives))
last_of c d event is moves s job same = absurd is

move_ends : (c d : Course) (o : Option Event) → Ends c.moment.machine o c.told → Moves c o d → Ends d.moment.machine d.event d.told
move_ends c d None ends moves = absurd moves
move_ends c d (Some event) ends moves =
    subst (λ (o : Option Event). Ends d.moment.machine o d.told) (sym moves.next)
    (subst (λ (l : List Reply). Ends d.moment.machine (then_comes event d.moment.machine moves.reply) l) (sym moves.told)
    (ends_next event d.moment.machine c.told moves.reply ends (last_of c d event ends moves)))

runs_end : (n : ℕ) (c d : Course) → Ends c.moment.machine c.event c.told → Runs n c d → Ends d.moment.machine d.event d.told
runs_end zero c d ends same = subst (λ (x : Course). Ends x.moment.machine x.event x.told) same ends
runs_end (suc n) c d ends (next, moves, runs) = runs_end n next d (move_ends c next c.event ends moves) runs

-- a BATCH that ends so leaves a machine with the job, complete
batch_found : (m now : Moment) (before : List Reply) (s : State) (job : Job) → Steps m Batch (before ++ Finished s job ∷ []) now → IsFinished now.machine s job
batch_found m now before s job steps = runs_end steps.events (begun m Batch) (over now (before ++ Finished s job ∷ [])) tt steps.runs before s job refl

head_is : (r s : Reply) → r ∷ [] ≡ s ∷ [] → r ≡ s
head_is r s e = cc

ended : (reply : Reply) (v : Machine) → (reply ≡ Told told.Ready → ⊥) → (then_comes (First Batch) v reply ≡ None) × (told_of (First Batch) v reply ≡ reply ∷ [])
ended (Told told.Ready) v other = absurd (other refl)
ended reply v other = (refl, refl)

no_more : (n : ℕ) (c d : Course) → c.event ≡ None → Runs n c d → c ≡ d
no_more zero c d none runs = runs
no_more (suc n) c d none (next, moves, runs) = absurd (subst (λ (o : Option Event). Moves c o next) none moves)

-- the event of a BATCH of a complete job is its last
record IsOnce (m now : Moment) (said : List Reply) : Type 0 where
  lasted : Bool
  reply : Reply
  gives : GivesIn m.counts now.counts m.machine now.machine (row_of lasted m.machine (First Batch)) reply
  said_is : said ≡ reply ∷ []

complete_batch : (n : ℕ) (m now : Moment) (job : Job) (said : List Reply) → m.machine.job ≡ Some job → job_standing (state_of m.machine) job ≡ Ok Complete
    → Runs n (begun m Batch) (over now said) → IsOnce m now said
unfolding row_of
complete_batch zero m now job said has complete runs = absurd (none_some (First Batch) (sym (ap (λ (c : Course). c.event) runs)))
complete_batch (suc n) m now job said has complete (next, moves, runs) =
    let v = next.moment.machine in
    let other : moves.reply ≡ Told told.Ready → ⊥ =
    λ e. next_ready m.counts next.moment.counts m.machine v job has complete (subst (λ (r : Reply). GivesIn m.counts next.moment.counts m.machine v (next_row m.machine true) r) e moves.gives)
    in
    let ends = ended moves.reply v other in
    let same = no_more n next (over now said) (moves.next ∙ ends.0) runs in
    record {
      lasted = moves.lasted;
      reply = moves.reply;
      gives = subst (λ (c : Course). GivesIn m.counts c.moment.counts m.machine c.moment.machine (next_row m.machine true) moves.reply) same moves.gives;
      said_is = sym (ap (λ (c : Course). c.told) same) ∙ moves.told ∙ ends.1;
    }

-- what BATCH finds books nothing

found_books : (before now : Counts) (m v : Machine) (reply : Reply) (o : Option Job) → GivesIn before now m v (found_row m true o (Success (Told told.Ready) m)) reply → v.world.base.booked ≡ m.world.base.booked
found_books before now m v reply None g = ap (λ (x : Machine). x.world.base.booked) g.1
found_books before now m v reply (Some job) (inl g) = ap (λ (x : Machine). x.world.base.booked) g.1
found_books before now m v reply (Some job) (inr (inl g)) = ap (λ (x : Machine). x.world.base.booked) g.1
found_books before now m v reply (Some job) (inr (inr g)) = ap (λ (x : Machine). x.world.base.booked) g.1.1

next_books : (before now : Counts) (m v : Machine) (reply : Reply) → GivesIn before now m v (next_row m true) reply → v.world.base.booked ≡ m.world.base.booked
next_books before now m v reply (inl g) = ap (λ (x : Machine). x.world.base.booked) g.1
next_books before now m v reply (inr (up, inl g)) = ap (λ (x : Machine). x.world.base.booked) g.1
next_books before now m v reply (inr (up, inr (node, g))) = found_books before now m v reply m.job g

module _ (m now again : Moment) (job : Job) (s : State) (is : IsReadAgain m now again job s) where
  -- the job is complete, and its reply the same
  record IsStill : Type 0 where
    complete : job_standing (state_of again.machine) job ≡ Ok Complete
    same : job_reply (state_of again.machine) job ≡ job_reply s job

  still : IsStill
  still =
      let old = now.machine.world.base.booked in
      let new = again.machine.world.base.booked in
      let here = step_keeps m now Batch (is.before ++ Finished s job ∷ []) tt is.lawful is.first in
      let there = replies_keep is.commands now again is.told (recursion_from_All IsCommand is.commands is.are) here.lawful is.between in
      let found = batch_found m now is.before s job is.first in
      let more = drop (length old) new in
      let whole : old ++ more ≡ new = ap (λ (xs : List (Frame Entry)). xs ++ more) (sym there.grows.front) ∙ take-append-drop (length old) new in
      let longer : entries old ++ entries more ≡ entries new = sym (map-append (λ (x : Frame Entry). x.entry) old more) ∙ ap (λ (xs : List (Frame Entry)). entries xs) whole in
      let legal : IsLegal office_limits (entries old ++ entries more) = subst (λ (es : List Entry). IsLegal office_limits es) (sym longer) (legal_of again.machine there.lawful) in
      let kept : IsStillKept (state office_limits (entries old ++ entries more)) job = subst (λ (es : List Entry). IsStillKept (state office_limits es) job) (sym longer) is.kept in
      let repeats = complete_again office_limits (entries old) (entries more) job legal found.complete kept in
      let same : job_reply (state_of again.machine) job ≡ job_reply (state_of now.machine) job = subst (λ (es : List Entry). job_reply (state office_limits es) job ≡ job_reply (state_of now.machine) job) longer repeats.same in
      record {
        complete = subst (λ (es : List Entry). job_standing (state office_limits es) job ≡ Ok Complete) longer repeats.complete;
        same = same ∙ sym (ap (λ (x : State). job_reply x job) found.same);
      }

  module _ (after : Moment) (said : List Reply) (steps : Steps again Batch said after) where
    once : IsOnce again after said
    once = complete_batch steps.events again after job said is.has_job still.complete steps.runs

    pub books_nothing : after.machine.world.base.booked ≡ again.machine.world.base.booked
    unfolding row_of
    books_nothing = next_books again.counts after.counts again.machine after.machine once.reply once.gives

    pub is_answered : IsUsable again.machine → NoneRose again.counts after.counts → said ≡ Finished (state_of again.machine) job ∷ []
    is_answered usable none =
        let gives = finishes again.counts after.counts again.machine job usable is.has_job once.lasted still.complete in
        let one = one_reply again.counts after.counts (λ (disk : DiskName). Told (told.Failed disk)) again.machine none (row_of once.lasted again.machine (First Batch)) once.reply (Finished (state_of again.machine) job) after.machine again.machine once.gives gives in
        once.said_is ∙ ap (λ (r : Reply). r ∷ []) one.0

  pub same_text : (after : Moment) (t : State) → Steps again Batch (Finished t job ∷ []) after → reply_text (Finished t job) ≡ reply_text (Finished s job)
  unfolding reply_text row_of
  same_text after t steps =
      let it = once after (Finished t job ∷ []) steps in
      let reply_is : it.reply ≡ Finished t job = head_is it.reply (Finished t job) (sym it.said_is) in
      let found = next_finished again.counts after.counts again.machine after.machine t job (subst (λ (r : Reply). GivesIn again.counts after.counts again.machine after.machine (next_row again.machine true) r) reply_is it.gives) in
      ap (λ (x : State). job_reply x job) found.0.same ∙ still.same
