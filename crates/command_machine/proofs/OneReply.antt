-- A command that is over has told one reply; NEXT and BATCH may have told before it that the node that is not the holder was left behind.
use Rattle.std.proofs.Common.{◌≡◌, ◌⊎◌, ℕ, zero, suc, inl, inr, Bool, true, false, nat_lt, List, [], ◌∷◌, ◌++◌, length, refl, ap, sym, ◌∙◌, subst, Option, Some, None, Result, Ok, Err, if◌then◌else◌}
use Rattle.std.proofs.lemmas.List.{append-nil}
use Rattle.ali_base.specs.declared.duty.Duty.{Duty}
use Rattle.ali_base.specs.declared.duty.Mode.{Mode}
use Rattle.ali_base.specs.declared.duty.Mode.TheVariants.{Both, Alone}
use Rattle.ali_base.specs.declared.names.DiskName.{DiskName}
use Rattle.ali_base.specs.declared.names.NodeName.{NodeName}
use Rattle.batch_desk.specs.Jobs.{next_of}
use Rattle.batch_desk.specs.declared.job.Job.{Job}
use Rattle.office_commands.specs.Commands as commands
use Rattle.office_commands.specs.Commands.{Command, Next, Batch, Catch_up}
use Rattle.office_entry.specs.declared.entry.Entry.{Entry}
use Rattle.office_state.specs.OfficeState.{office_limits}
use Rattle.office_state.specs.declared.due_fault.DueFault.{DueFault}
use Rattle.pair_core.specs.PairPassing.{pass_row, passed_row}
use Rattle.pair_world.specs.Changes.{shipment}
use Rattle.pair_world.specs.Deliveries as answers
use Rattle.pair_world.specs.Deliveries.{Answer, answer}
use Rattle.pair_world.specs.Refusals.{Down, is_alone}
use Rattle.pair_world.specs.World.{World, Shipment, holder_journal, other, told_by}
use Rattle.pair_world.specs.Step.{Go_alone}
use Rattle.world_rows.specs.Counts.{Counts}
use Rattle.world_rows.specs.Rows.{Row, Unless, MayFail, Always, Success, Gives}
use Rattle.world_rows.specs.Told.{Told as WorldTold}
use Rattle.world_rows.specs.Told as told
use Rattle.world_rows.specs.WorldRows.{alone_row, journal_at}
use Rattle.world_rows.specs.WorldSteps.{IsStep}
use Rattle.command_machine.specs.CommandRows.{append_row, job_row, found_row, event_row}
use Rattle.command_machine.specs.Courses.{Event, First, Writes, Passes, Goes_alone, Books, Catches_up, row_of, passed_or_booked, written_or_passed, is_disk_of, then_comes, told_of}
use Rattle.command_machine.specs.Laws.{IsLost, IsLeftBehind, MayTell}
use Rattle.command_machine.specs.Machine.{Machine, Moment, office_bounds, mirror_of, count_of, state_of, with_world}
use Rattle.command_machine.specs.Replies.{Reply, Told}
use Rattle.command_machine.specs.Steps.{Course, GoesOn, Moves, Runs, begun, over, Steps}
use Rattle.command_machine.proofs.EventRows.{gives_out, alone_steps}

-- the last of a list is one

last_or : Reply → List Reply → Reply
last_or d [] = d
last_or d (r ∷ list) = last_or r list

last_is : (list : List Reply) (d r : Reply) → last_or d (list ++ r ∷ []) ≡ r
unfolding last_or
last_is [] d r = refl
last_is (x ∷ list) d r = last_is list x r

pub one_last : (xs ys : List Reply) (r s : Reply) → xs ++ r ∷ [] ≡ ys ++ s ∷ [] → r ≡ s
one_last xs ys r s e = sym (last_is xs r r) ∙ ap (λ (l : List Reply). last_or r l) e ∙ last_is ys r s

-- ---- the duty stays

abbrev Stays : Machine → Row Reply Machine → Type 0
Stays m (Unless refusal row) = Stays m row
Stays m (MayFail disk left row) = (left.world.base.duty ≡ m.world.base.duty) × Stays m row
Stays m (Always refusal) = Unit {0}
Stays m (Success reply left) = left.world.base.duty ≡ m.world.base.duty

duty_stays : (before now : Counts) (failure : DiskName → Reply) (m v : Machine) (reply : Reply) (row : Row Reply Machine) → Stays m row → Gives before now failure m row reply v → v.world.base.duty ≡ m.world.base.duty
duty_stays before now failure m v reply (Unless refusal row) stays (inl g) = ap (λ (x : Machine). x.world.base.duty) g.1
duty_stays before now failure m v reply (Unless refusal row) stays (inr g) = duty_stays before now failure m v reply row stays g.1
duty_stays before now failure m v reply (MayFail disk left row) stays (inl g) = ap (λ (x : Machine). x.world.base.duty) g.1 ∙ stays.0
duty_stays before now failure m v reply (MayFail disk left row) stays (inr g) = duty_stays before now failure m v reply row stays.1 g
duty_stays before now failure m v reply (Always refusal) stays g = ap (λ (x : Machine). x.world.base.duty) g.1
duty_stays before now failure m v reply (Success done left) stays g = ap (λ (x : Machine). x.world.base.duty) g.1 ∙ stays

append_stays : (m : Machine) (r : Result Entry DueFault) → Stays m (append_row m r)
append_stays m (Ok e) = (refl, refl)
append_stays m (Err fault) = tt

write_stays : (m : Machine) (o : Option Job) → Stays m (job_row m o)
write_stays m None = tt
write_stays m (Some job) = (refl, append_stays m (next_of (state_of m) job))

found_stays : (m : Machine) (batch : Bool) (o : Option Job) → Stays m (found_row m batch o (Success (Told told.Ready) m))
found_stays m false o = refl
found_stays m true None = refl
found_stays m true (Some job) = (refl, refl)

passed_stays : (m : Machine) (k : ℕ) (x : Shipment Entry) (a : Answer Entry) → Stays m (event_row m (passed_row office_limits m.world k x a))
passed_stays m k x answers.Behind = refl
passed_stays m k x (answers.Cut left) = (refl, refl)
passed_stays m k x (answers.Stored frame) = (refl, refl)
passed_stays m k x answers.Have = refl
passed_stays m k x answers.Have_end = refl

passes_stays : (m : Machine) (k : ℕ) → Stays m (event_row m (pass_row office_limits m.world k))
passes_stays m k =
    let x = shipment m.world.base k in
    (refl, passed_stays m k x (answer (journal_at m.world (other x.sender)) (told_by x)))

-- ---- NEXT and BATCH, where this is the node that is not the holder

module _ (n : NodeName) where
  -- one reply comes last, and before it this was told
  abbrev Ends : List Reply → Type 0
  Ends said = (before : List Reply) × (last : Reply) × (said ≡ before ++ last ∷ []) × IsLeftBehind n before

  -- this node was left behind, and the holder is alone
  record WentAlone (m : Machine) (said : List Reply) : Type 0 where
    lost : WorldTold
    duty : Duty
    is_lost : IsLost n lost
    said_is : said ≡ Told lost ∷ Told (told.On_duty duty) ∷ []
    alone : m.world.base.duty.mode ≡ Alone

  abbrev OnWay : Machine → List Reply → Type 0
  OnWay m said = ((said ≡ []) × (mirror_of m ≡ n)) ⊎ WentAlone m said

  -- what is told before this event
  abbrev IsSaid : Machine → Option Event → List Reply → Type 0
  IsSaid m None said = Ends said
  IsSaid m (Some (First Next)) said = OnWay m said
  IsSaid m (Some (First Batch)) said = OnWay m said
  IsSaid m (Some (Writes batch)) said = OnWay m said
  IsSaid m (Some (Passes batch)) said = (said ≡ []) × (mirror_of m ≡ n)
  IsSaid m (Some (Goes_alone batch)) said = (lost : WorldTold) × IsLost n lost × (said ≡ Told lost ∷ [])
  IsSaid m (Some (Books batch)) said = OnWay m said
  IsSaid m (Some event) said = ⊥

  more : (v : Machine) (said : List Reply) (reply : Reply) → OnWay v said → Ends (said ++ reply ∷ [])
  more v said reply (inl none) = ([], reply, ap (λ (l : List Reply). l ++ reply ∷ []) none.0, tt)
  more v said reply (inr went) = (Told went.lost ∷ Told (told.On_duty went.duty) ∷ [], reply, ap (λ (l : List Reply). l ++ reply ∷ []) went.said_is, went.is_lost)

  none_more : (v : Machine) (o : Option Event) (said : List Reply) → IsSaid v o said → IsSaid v o (said ++ [])
  none_more v o said is = subst (λ (l : List Reply). IsSaid v o l) (sym (append-nil said)) is

  -- what is written is passed on only by a holder that is not alone
  passed_said : (batch : Bool) (v : Machine) (said : List Reply) (mode : Mode) → v.world.base.duty.mode ≡ mode → OnWay v said → IsSaid v (Some (if is_alone mode then Books batch else Passes batch)) said
  passed_said batch v said Alone is on = on
  passed_said batch v said Both is (inl none) = none
  passed_said batch v said Both is (inr went) = absurd (let alone = went.alone in cc)

  written_said : (batch : Bool) (v : Machine) (said : List Reply) (pending : Bool) → OnWay v said → IsSaid v (Some (if pending then passed_or_booked batch v else Writes batch)) said
  written_said batch v said true on = passed_said batch v said v.world.base.duty.mode refl on
  written_said batch v said false on = on

  next_said : (v : Machine) (said : List Reply) (reply : Reply) → OnWay v said → IsSaid v (then_comes (First Next) v reply) (said ++ told_of (First Next) v reply)
  next_said v said (Told told.Ready) on = none_more v (Some (written_or_passed false v)) said (written_said false v said (nat_lt (count_of v) (length (holder_journal v.world.base))) on)
  next_said v said reply on = more v said reply on

  batch_said : (v : Machine) (said : List Reply) (reply : Reply) → OnWay v said → IsSaid v (then_comes (First Batch) v reply) (said ++ told_of (First Batch) v reply)
  batch_said v said (Told told.Ready) on = none_more v (Some (written_or_passed true v)) said (written_said true v said (nat_lt (count_of v) (length (holder_journal v.world.base))) on)
  batch_said v said reply on = more v said reply on

  writes_said : (batch : Bool) (v : Machine) (said : List Reply) (reply : Reply) → OnWay v said → IsSaid v (then_comes (Writes batch) v reply) (said ++ told_of (Writes batch) v reply)
  writes_said batch v said (Told (told.Written number epoch)) on = none_more v (Some (passed_or_booked batch v)) said (passed_said batch v said v.world.base.duty.mode refl on)
  writes_said batch v said reply on = more v said reply on

  books_said : (batch : Bool) (v : Machine) (said : List Reply) (reply : Reply) → OnWay v said → IsSaid v (then_comes (Books batch) v reply) (said ++ told_of (Books batch) v reply)
  books_said true v said (Told (told.Booked number verdict)) on = none_more v (Some (First Batch)) said on
  books_said batch v said reply on = more v said reply on

  left_behind : (batch mirrors : Bool) (v : Machine) (lost : WorldTold) → (mirrors ≡ true → IsLost n lost) → IsSaid v (if mirrors then Some (Goes_alone batch) else None) (Told lost ∷ [])
  left_behind batch true v lost is = (lost, is refl, refl)
  left_behind batch false v lost is = ([], Told lost, refl, tt)

  lost_mirror : (v : Machine) (d : DiskName) → mirror_of v ≡ n → is_disk_of (mirror_of v) d ≡ true → is_disk_of n d ≡ true
  lost_mirror v d same is = ap (λ (x : NodeName). is_disk_of x d) (sym same) ∙ is

  passes_said : (batch : Bool) (v : Machine) (reply : Reply) → mirror_of v ≡ n → IsSaid v (then_comes (Passes batch) v reply) (told_of (Passes batch) v reply)
  passes_said batch v (Told (told.Refused (Down d))) same = left_behind batch (is_disk_of (mirror_of v) d) v (told.Refused (Down d)) (lost_mirror v d same)
  passes_said batch v (Told (told.Failed d)) same = left_behind batch (is_disk_of (mirror_of v) d) v (told.Failed d) (lost_mirror v d same)
  passes_said batch v (Told (told.Behind len number)) same = inl (refl, same)
  passes_said batch v (Told (told.Cut number)) same = inl (refl, same)
  passes_said batch v (Told (told.Stored number made)) same = inl (refl, same)
  passes_said batch v (Told (told.Have number made)) same = inl (refl, same)
  passes_said batch v (Told (told.Have_end number made)) same = inl (refl, same)
  passes_said batch v reply same = ([], reply, refl, tt)

  -- after the change of duty the holder is alone
  goes_said : (batch : Bool) (v : Machine) (lost said : WorldTold) → IsLost n lost → ((duty : Duty) → said ≡ told.On_duty duty → v.world.base.duty.mode ≡ Alone)
      → IsSaid v (then_comes (Goes_alone batch) v (Told said)) (Told lost ∷ told_of (Goes_alone batch) v (Told said))
  goes_said batch v lost (told.On_duty duty) is alone = inr (record { lost = lost; duty = duty; is_lost = is; said_is = refl; alone = alone duty refl })
  goes_said batch v lost said is alone = (Told lost ∷ [], Told said, refl, is)

  mirror_after : (m v : Machine) → v.world.base.duty ≡ m.world.base.duty → mirror_of m ≡ n → mirror_of v ≡ n
  mirror_after m v same is = ap (λ (duty : Duty). other duty.holder) same ∙ is

  on_way_after : (m v : Machine) (said : List Reply) → v.world.base.duty ≡ m.world.base.duty → OnWay m said → OnWay v said
  on_way_after m v said same (inl none) = inl (none.0, mirror_after m v same none.1)
  on_way_after m v said same (inr went) = inr (record { lost = went.lost; duty = went.duty; is_lost = went.is_lost; said_is = went.said_is; alone = ap (λ (duty : Duty). duty.mode) same ∙ went.alone })

  module _ (c d : Course) where
    -- what is told after an event, by its reply
    says : (event : Event) (moves : GoesOn c event d) → IsSaid d.moment.machine (then_comes event d.moment.machine moves.reply) (c.told ++ told_of event d.moment.machine moves.reply) → IsSaid d.moment.machine d.event d.told
    says event moves is =
        subst (λ (o : Option Event). IsSaid d.moment.machine o d.told) (sym moves.next)
        (subst (λ (l : List Reply). IsSaid d.moment.machine (then_comes event d.moment.machine moves.reply) l) (sym moves.told) is)

    -- the event leaves the duty
    same_duty : (event : Event) (moves : GoesOn c event d) → Stays c.moment.machine (row_of moves.lasted c.moment.machine event) → d.moment.machine.world.base.duty ≡ c.moment.machine.world.base.duty
    same_duty event moves is =
        duty_stays c.moment.counts d.moment.counts (λ (disk : DiskName). Told (told.Failed disk)) c.moment.machine d.moment.machine moves.reply (row_of moves.lasted c.moment.machine event) is moves.gives

    stays : (event : Event) (moves : GoesOn c event d) → Stays c.moment.machine (row_of moves.lasted c.moment.machine event) → OnWay c.moment.machine c.told → OnWay d.moment.machine c.told
    stays event moves is on = on_way_after c.moment.machine d.moment.machine c.told (same_duty event moves is) on

    goes_alone_says : (batch : Bool) (moves : GoesOn c (Goes_alone batch) d) (lost : WorldTold) → IsLost n lost → c.told ≡ Told lost ∷ [] → IsSaid d.moment.machine d.event d.told
    unfolding row_of
    goes_alone_says batch moves lost is said =
        let m = c.moment.machine in
        let v = d.moment.machine in
        let given = gives_out Told (with_world m) c.moment.counts d.moment.counts told.Failed m.world (alone_row office_limits m.world office_bounds) moves.reply v moves.gives in
        let step = alone_steps office_limits office_bounds c.moment.counts d.moment.counts m.world given.left given.reply given.gives in
        says (Goes_alone batch) moves
        (subst (λ (l : List Reply). IsSaid v (then_comes (Goes_alone batch) v moves.reply) (l ++ told_of (Goes_alone batch) v moves.reply)) (sym said)
        (subst (λ (r : Reply). IsSaid v (then_comes (Goes_alone batch) v r) (Told lost ∷ told_of (Goes_alone batch) v r)) (sym given.told_is)
        (goes_said batch v lost given.reply is (λ duty same. ap (λ (x : Machine). x.world.base.duty.mode) given.left_is ∙ is_alone_then m.world given.left given.reply duty same step))))
      where
        is_alone_then : (w u : World Entry) (reply : WorldTold) (duty : Duty) → reply ≡ told.On_duty duty → IsStep office_limits office_bounds w Go_alone reply u → u.base.duty.mode ≡ Alone
        is_alone_then w u reply duty same step =
            let it : IsStep office_limits office_bounds w Go_alone (told.On_duty duty) u = subst (λ (t : WorldTold). IsStep office_limits office_bounds w Go_alone t u) same step in
            ap (λ (base : _). base.duty.mode) it.1.1

    move_says : (o : Option Event) → IsSaid c.moment.machine o c.told → Moves c o d → IsSaid d.moment.machine d.event d.told
    unfolding row_of
    move_says None is moves = absurd moves
    move_says (Some (First Next)) is moves = says (First Next) moves (next_said d.moment.machine c.told moves.reply (stays (First Next) moves (found_stays c.moment.machine false c.moment.machine.job) is))
    move_says (Some (First Batch)) is moves = says (First Batch) moves (batch_said d.moment.machine c.told moves.reply (stays (First Batch) moves (found_stays c.moment.machine true c.moment.machine.job) is))
    move_says (Some (Writes batch)) is moves = says (Writes batch) moves (writes_said batch d.moment.machine c.told moves.reply (stays (Writes batch) moves (write_stays c.moment.machine c.moment.machine.job) is))
    move_says (Some (Passes batch)) is moves =
        says (Passes batch) moves
        (subst (λ (l : List Reply). IsSaid d.moment.machine (then_comes (Passes batch) d.moment.machine moves.reply) (l ++ told_of (Passes batch) d.moment.machine moves.reply)) (sym is.0)
        (passes_said batch d.moment.machine moves.reply
        (mirror_after c.moment.machine d.moment.machine (same_duty (Passes batch) moves (passes_stays c.moment.machine (suc (count_of c.moment.machine)))) is.1)))
    move_says (Some (Goes_alone batch)) is moves = goes_alone_says batch moves is.0 is.1 is.2
    move_says (Some (Books batch)) is moves = says (Books batch) moves (books_said batch d.moment.machine c.told moves.reply (stays (Books batch) moves (refl, refl) is))
    move_says (Some event) is moves = absurd is

  runs_say : (k : ℕ) (c d : Course) → IsSaid c.moment.machine c.event c.told → Runs k c d → IsSaid d.moment.machine d.event d.told
  runs_say zero c d is same = subst (λ (x : Course). IsSaid x.moment.machine x.event x.told) same is
  runs_say (suc k) c d is (next, moves, runs) = runs_say k next d (move_says c next c.event is moves) runs

-- ---- the other commands

-- nothing is told before the last event
abbrev IsOne : Option Event → List Reply → Type 0
IsOne None said = (last : Reply) × (said ≡ last ∷ [])
IsOne (Some (First Next)) said = ⊥
IsOne (Some (First Batch)) said = ⊥
IsOne (Some (First command)) said = said ≡ []
IsOne (Some (Catches_up number)) said = said ≡ []
IsOne (Some event) said = ⊥

one_next : (event : Event) (v : Machine) (reply : Reply) → IsOne (Some event) [] → IsOne (then_comes event v reply) (told_of event v reply)
one_next (First Next) v reply is = absurd is
one_next (First Batch) v reply is = absurd is
one_next (First Catch_up) v (Told (told.Behind len number)) is = refl
one_next (First Catch_up) v (Told (told.Cut number)) is = refl
one_next (First Catch_up) v (Told (told.Stored number made)) is = refl
one_next (First Catch_up) v (Told (told.Have number made)) is = refl
one_next (First Catch_up) v (Told (told.Have_end number made)) is = (_, refl)
one_next (Catches_up k) v (Told (told.Behind len number)) is = refl
one_next (Catches_up k) v (Told (told.Cut number)) is = refl
one_next (Catches_up k) v (Told (told.Stored number made)) is = refl
one_next (Catches_up k) v (Told (told.Have number made)) is = refl
one_next (Catches_up k) v (Told (told.Have_end number made)) is = (_, refl)
one_next (Writes batch) v reply is = absurd is
one_next (Passes batch) v reply is = absurd is
one_next (Goes_alone batch) v reply is = absurd is
one_next (Books batch) v reply is = absurd is
one_next event v reply is = (_, refl)

none_said : (event : Event) (said : List Reply) → IsOne (Some event) said → said ≡ []
none_said (First Next) said is = absurd is
none_said (First Batch) said is = absurd is
none_said (First command) said is = is
none_said (Catches_up number) said is = is
none_said event said is = absurd is

move_one : (c d : Course) (o : Option Event) → IsOne o c.told → Moves c o d → IsOne d.event d.told
move_one c d None is moves = absurd moves
move_one c d (Some event) is moves =
    let none = none_said event c.told is in
    let said : d.told ≡ told_of event d.moment.machine moves.reply = moves.told ∙ ap (λ (l : List Reply). l ++ told_of event d.moment.machine moves.reply) none in
    subst (λ (o : Option Event). IsOne o d.told) (sym moves.next)
    (subst (λ (l : List Reply). IsOne (then_comes event d.moment.machine moves.reply) l) (sym said)
    (one_next event d.moment.machine moves.reply (subst (λ (l : List Reply). IsOne (Some event) l) none is)))

runs_one : (n : ℕ) (c d : Course) → IsOne c.event c.told → Runs n c d → IsOne d.event d.told
runs_one zero c d is same = subst (λ (x : Course). IsOne x.event x.told) same is
runs_one (suc n) c d is (next, moves, runs) = runs_one n next d (move_one c next c.event is moves) runs

-- ---- each command

module _ (m now : Moment) (said : List Reply) where
  abbrev Has : Command → Type 0
  Has command = (before : List Reply) × (last : Reply) × (said ≡ before ++ last ∷ []) × MayTell m.machine command before

  only : (command : Command) → IsOne (Some (First command)) [] → Steps m command said now → (last : Reply) × (said ≡ last ∷ [])
  only command is steps = runs_one steps.events (begun m command) (over now said) is steps.runs

  pub has_reply : (command : Command) → Steps m command said now → Has command
  has_reply Next steps = runs_say (mirror_of m.machine) steps.events (begun m Next) (over now said) (inl (refl, refl)) steps.runs
  has_reply Batch steps = runs_say (mirror_of m.machine) steps.events (begun m Batch) (over now said) (inl (refl, refl)) steps.runs
  has_reply (commands.Ask n position tn since) steps = let one = only (commands.Ask n position tn since) refl steps in ([], one.0, one.1, refl)
  has_reply (commands.Report n report) steps = let one = only (commands.Report n report) refl steps in ([], one.0, one.1, refl)
  has_reply (commands.File content) steps = let one = only (commands.File content) refl steps in ([], one.0, one.1, refl)
  has_reply (commands.Edit editor serial edit) steps = let one = only (commands.Edit editor serial edit) refl steps in ([], one.0, one.1, refl)
  has_reply (commands.Write n) steps = let one = only (commands.Write n) refl steps in ([], one.0, one.1, refl)
  has_reply Catch_up steps = let one = only Catch_up refl steps in ([], one.0, one.1, refl)
  has_reply (commands.Ordered order) steps = let one = only (commands.Ordered order) refl steps in ([], one.0, one.1, refl)
