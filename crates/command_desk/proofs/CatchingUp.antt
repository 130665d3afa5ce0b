-- Catching up as a command of the machine: its messages are the events of the command's course, and what is told at last is the desk's reply.
use Rattle.std.proofs.Common.{◌≡◌, ◌⊎◌, inl, inr, ℕ, zero, suc, Bool, true, false, not, if◌then◌else◌, List, [], ◌∷◌, length, refl, ap, sym, ◌∙◌, subst, arith, Option, Some, None, Result, Ok, Err}
use Rattle.std.specs.Option.{option_map}
use Rattle.ali_base.specs.Steps.{when}
use Rattle.ali_base.specs.declared.duty.Mode.{Mode}
use Rattle.ali_base.specs.declared.duty.Mode.TheVariants.{Both, Alone}
use Rattle.ali_base.specs.declared.names.DiskName.{DiskName}
use Rattle.ali_base.specs.declared.names.DiskName.TheVariants as disk
use Rattle.ali_base.specs.declared.names.NodeName.{NodeName}
use Rattle.ali_base.specs.declared.names.NodeName.TheVariants.{A, B}
use Rattle.ali_base.specs.declared.no_memory.NoMemory.{NoMemory}
use Rattle.catch_up.specs.CatchUpAnswers.{CatchesUpDoes, CatchUpCauses, CatchUpRest, told_of as told_at_last}
use Rattle.catch_up.specs.CatchingUp.{CatchesUp, Course as Messages, ended, first_row, number_after}
use Rattle.command_machine.specs.CommandRows.{event_row}
use Rattle.command_machine.specs.Courses.{Event, First, Catches_up, after_number, row_of, then_comes, told_of, told_of_catching_up}
use Rattle.command_machine.specs.Machine.{Machine, Moment, IsLawful, with_world}
use Rattle.command_machine.specs.Replies as replies
use Rattle.command_machine.specs.Steps.{Course, GoesOn, Runs, Steps, over}
use Rattle.command_machine.specs.Switches.{Switches, and_mirror, first_off, is_on, switched}
use Rattle.command_machine.proofs.Lawful.{step_keeps}
use Rattle.command_desk.specs.DeskSteps.{at_event}
use Rattle.command_desk.specs.MadeReply.{Carries, ShowsMachine, counts_at, fault_reply, only, reply_of, switches_of, table_of}
use Rattle.command_desk.specs.declared.desk.Desk.{Desk}
use Rattle.command_desk.specs.declared.reply.Reply.{Reply}
use Rattle.command_desk.specs.declared.reply.Reply.TheVariants as reply
use Rattle.command_desk.proofs.Leading.{RefusedSo, lawful_old, never_fell, moment_in, shown_in, told_fault}
use Rattle.command_desk.proofs.OrderSwitches.{SwitchesTo, Tells, each_node, node_lost, none_switched, not_refused, on_is, refusal_case, refused_so, up_still}
use Rattle.command_desk.proofs.Switching.{is_down, plainly}
use Rattle.crash_disk.specs.DiskState.{DiskState}
use Rattle.office_commands.specs.Commands as commands
use Rattle.office_entry.specs.declared.entry.Entry.{Entry}
use Rattle.office_state.specs.OfficeState.{office_limits}
use Rattle.pair_core.specs.Pair.{IsCall, duty_of, is_node_up, is_up}
use Rattle.pair_core.specs.PairAnswers.{KeepsApart, KeepsCourse, PassKeeps, SameSent, fault_told}
use Rattle.pair_core.specs.PairPassing.{pass_row}
use Rattle.pair_core.specs.PairRefusals as rows
use Rattle.pair_core.specs.PairRefusals.{first_of}
use Rattle.pair_core.specs.declared.faults.PairFault.{PairFault}
use Rattle.pair_core.specs.declared.faults.PairFault.TheVariants as fault
use Rattle.pair_world.specs.Refusals.{disk_of, is_alone}
use Rattle.pair_world.specs.World.{World, holder_journal, other}
use Rattle.pair_world.proofs.Items.{none_some, some_is}
use Rattle.world_rows.specs.Counts.{Counts, NeverFall}
use Rattle.world_rows.specs.Rows.{Row, Unless as UnlessRow, MayFail, Always, Success, Gives}
use Rattle.world_rows.specs.Told as world
use Rattle.world_rows.specs.Told.{Told}
use Rattle.world_rows.proofs.Rows.{gives_in}

-- ---- the messages as events

-- what is no failure is given whatever the counts
given_at_once : (before now : Counts) (w : World Entry) (row : Row Told (World Entry)) (told : Told) (v : World Entry) → ((d : DiskName) → told ≡ world.Failed d → ⊥)
    → Gives before now world.Failed w row told v → Gives before before world.Failed w row told v
given_at_once before now w (UnlessRow refusal row) told v sound (inl is) = inl is
given_at_once before now w (UnlessRow refusal row) told v sound (inr rest) = inr (rest.0, given_at_once before now w row told v sound rest.1)
given_at_once before now w (MayFail d left row) told v sound (inl is) = absurd (sound d is.0)
given_at_once before now w (MayFail d left row) told v sound (inr rest) = inr (given_at_once before now w row told v sound rest)
given_at_once before now w (Always refusal) told v sound is = is
given_at_once before now w (Success done left) told v sound is = is

-- a message with one after it did not fail, and nothing is told of it
no_failure : (told : Told) (k : ℕ) → number_after told ≡ Some k → (d : DiskName) → told ≡ world.Failed d → ⊥
no_failure told k next d is = none_some k (ap number_after (sym is) ∙ next)

nothing_told : (m : Machine) (told : Told) (k : ℕ) → number_after told ≡ Some k → told_of_catching_up m told ≡ []
nothing_told m (world.Behind len number) k next = refl
nothing_told m (world.Cut number) k next = refl
nothing_told m (world.Stored number made) k next = refl
nothing_told m (world.Have number made) k next = refl
nothing_told m told k next = absurd (none_some k next)

-- an event of catching up: the first, or a message
pub record IsMessageOf (event : Event) (row : World Entry → Row Told (World Entry)) : Type 0 where
  pub is_row : (lasted : Bool) (m : Machine) → row_of lasted m event ≡ event_row m (row m.world)
  pub next : (m : Machine) (told : Told) → then_comes event m (replies.Told told) ≡ after_number (number_after told)
  pub tells : (m : Machine) (told : Told) → told_of event m (replies.Told told) ≡ told_of_catching_up m told

first_is : IsMessageOf (First commands.Catch_up) (first_row office_limits)
unfolding row_of
first_is = record { is_row = λ lasted m. refl; next = λ m told. refl; tells = λ m told. refl }

message_is : (k : ℕ) → IsMessageOf (Catches_up k) (λ w. pass_row office_limits w k)
unfolding row_of
message_is k = record { is_row = λ lasted m. refl; next = λ m told. refl; tells = λ m told. refl }

-- one of them
message_goes : (event : Event) (row : World Entry → Row Told (World Entry)) → IsMessageOf event row → (m : Moment) (now : Counts) → NeverFall m.counts now
    → (told : Told) (v : World Entry) (said : List replies.Reply) (next : Option Event)
    → Gives m.counts now world.Failed m.machine.world (row m.machine.world) told v → told_of_catching_up (with_world m.machine v) told ≡ said → after_number (number_after told) ≡ next
    → GoesOn (at_event m [] (Some event)) event (at_event (record { machine = with_world m.machine v; counts = now }) said next)
message_goes event row its m now later told v said next gives tells comes = record {
  lasted = false;
  reply = replies.Told told;
  gives =
      subst (λ (r : Row replies.Reply Machine). Gives m.counts now (λ disk. replies.Told (world.Failed disk)) m.machine r (replies.Told told) (with_world m.machine v)) (sym (its.is_row false m.machine))
      (gives_in (λ (x : Told). replies.Told x) (with_world m.machine) m.counts now world.Failed m.machine.world (row m.machine.world) told v gives);
  counts = later;
  told = sym (its.tells (with_world m.machine v) told ∙ tells);
  next = sym (its.next (with_world m.machine v) told ∙ comes);
}

-- how many events they are
abbrev RunsTo : Event → Moment → Moment → List replies.Reply → Type 0
RunsTo event m now said = (n : ℕ) × Runs n (at_event m [] (Some event)) (over now said)

messages_run : (event : Event) (row : World Entry → Row Told (World Entry)) → IsMessageOf event row → (m : Moment) (now : Counts) → NeverFall m.counts now
    → (turns : List (Told × World Entry)) (last : Told) (v : World Entry) → Messages office_limits m.counts now (row m.machine.world) m.machine.world turns last v
    → RunsTo event m (record { machine = with_world m.machine v; counts = now }) (told_of_catching_up (with_world m.machine v) last)
messages_run event row its m now later [] last v course =
    let end : Course = over (record { machine = with_world m.machine v; counts = now }) (told_of_catching_up (with_world m.machine v) last) in
    (suc zero, (end, message_goes event row its m now later last v (told_of_catching_up (with_world m.machine v) last) None course.0 refl (ap after_number course.1), refl))
messages_run event row its m now later (turn ∷ turns) last v course =
    let u : Moment = record { machine = with_world m.machine turn.1; counts = m.counts } in
    let k = course.1 in
    let rest = messages_run (Catches_up k) (λ w. pass_row office_limits w k) (message_is k) u now later turns last v course.3 in
    let here = message_goes event row its m m.counts (λ d. omega arith) turn.0 turn.1 [] (Some (Catches_up k))
    (given_at_once m.counts now m.machine.world (row m.machine.world) turn.0 turn.1 (no_failure turn.0 k course.2) course.0)
    (nothing_told u.machine turn.0 k course.2) (ap after_number course.2) in
    (suc rest.0, (at_event u [] (Some (Catches_up k)), here, rest.1))

-- ---- what is told at last

abbrev as_refusal : Option Told → Option (Result ℕ Told)
as_refusal o = option_map Err o

-- a refusal is told as it is
told_refused : (m : Machine) (f : PairFault) → (f ≡ fault.NoMemory → ⊥) → (last : Told) → fault_told f ≡ Some last → told_of_catching_up m last ≡ fault_reply f ∷ []
told_refused m fault.NoMemory some last is = absurd (some refl)
told_refused m f some last is = subst (λ (t : Told). told_of_catching_up m t ≡ fault_reply f ∷ []) (some_is _ last is) refl

-- the end is told with the length
told_length : (m : Machine) (last : Told) (len : ℕ) → Ok len ≡ ended last m.world → told_of_catching_up m last ≡ replies.Caught_up len ∷ []
told_length m (world.Have_end number made) len is = ap (λ n. replies.Caught_up n ∷ []) (sym (same len (length (holder_journal m.world.base)) is))
  where
    same : (a b : ℕ) → ◌≡◌ {A = Result ℕ Told} (Ok a) (Ok b) → a ≡ b
    same a b e = cc
told_length m last len is = absurd (not_ok len last is)
  where
    not_ok : (a : ℕ) (t : Told) → ◌≡◌ {A = Result ℕ Told} (Ok a) (Err t) → ⊥
    not_ok a t e = absurd (cc)

-- a refusal is none of the end
ended_err : (w : World Entry) (last t : Told) → Err t ≡ ended last w → t ≡ last
ended_err w (world.Have_end number made) t is = absurd (not_ok (length (holder_journal w.base)) t is)
  where
    not_ok : (a : ℕ) (t : Told) → ◌≡◌ {A = Result ℕ Told} (Err t) (Ok a) → ⊥
    not_ok a t e = absurd (cc)
ended_err w last t is = same t last is
  where
    same : (a b : Told) → ◌≡◌ {A = Result ℕ Told} (Err a) (Err b) → a ≡ b
    same a b e = cc

module _ {D : Type 0} (state : D → DiskState) (old new : Desk D) (call : IsCall state old.pair new.pair) (kept : new.job ≡ old.job) where
  -- the desk after it, in the machine
  pub record HasCaughtUpTo (m : Moment) (result : Result ℕ PairFault) : Type 0 where
    pub left : World Entry
    pub shown : ShowsMachine state new (moment_in state old new call kept m left)
    pub last : Told
    pub steps : Steps m commands.Catch_up (told_of_catching_up (with_world m.machine left) last) (moment_in state old new call kept m left)
    pub told : told_at_last result ≡ Some (ended last left)

  caught_up_to : (result : Result ℕ PairFault) → CatchesUpDoes state old.pair new.pair result → (m : Moment) → ShowsMachine state old m → IsLawful m.machine → HasCaughtUpTo m result
  caught_up_to result does m shown lawful =
      let one = does office_limits m.machine.world shown.world (lawful_old state old new call kept m shown lawful) in
      let catches : CatchesUp office_limits m.counts (counts_at state new) m.machine.world one.2 one.0 =
      subst (λ (c : Counts). CatchesUp office_limits c (counts_at state new) m.machine.world one.2 one.0) (sym shown.counts) one.3 in
      let runs = messages_run (First commands.Catch_up) (first_row office_limits) first_is m (counts_at state new) (never_fell state old new call kept m shown) catches.0 one.2 one.0 catches.1 in
      record {
        left = one.0;
        shown = shown_in state old new call kept m one.0 shown one.1;
        last = one.2;
        steps = record { events = runs.0; runs = runs.1 };
        told = one.4;
      }

  -- the command, once it is known what its reply is
  caught_carries : (result : Result ℕ PairFault) → CatchesUpDoes state old.pair new.pair result → (told : Reply)
      → ((m : Machine) (last : Told) → told_at_last result ≡ Some (ended last m.world) → told_of_catching_up m last ≡ reply_of (table_of new) new.job told ∷ [])
      → Carries state old new commands.Catch_up (only (Ok told))
  caught_carries result does told is m shown lawful =
      let it = caught_up_to result does m shown lawful in
      let now = moment_in state old new call kept m it.left in
      let keeps = step_keeps m now commands.Catch_up (told_of_catching_up now.machine it.last) tt lawful it.steps in (
        now,
        it.shown,
        keeps.lawful,
        subst (λ (l : List replies.Reply). Steps m commands.Catch_up l now) (is now.machine it.last it.told) it.steps,
      )

  pub length_carries : (len : ℕ) → CatchesUpDoes state old.pair new.pair (Ok len) → Carries state old new commands.Catch_up (only (Ok (reply.CaughtUp len)))
  length_carries len does = caught_carries (Ok len) does (reply.CaughtUp len) (λ m last is. told_length m last len (some_is _ _ is))

  pub refusal_carries : (f : PairFault) (r : Result Reply NoMemory) → RefusedSo f r → CatchesUpDoes state old.pair new.pair (Err f) → Carries state old new commands.Catch_up (only r)
  refusal_carries f (Ok told) is does =
      let t = told_fault f is.1 in
      caught_carries (Err f) does told (λ m last ends.
      let same : t.told ≡ last = ended_err m.world last t.told (some_is _ _ (sym (ap as_refusal t.is) ∙ ends)) in
      told_refused m f is.1 last (t.is ∙ ap (λ (x : Told). Some x) same) ∙ ap (λ (x : Reply). reply_of (table_of new) new.job x ∷ []) (sym is.0))
  refusal_carries f (Err e) is does =
      λ m shown lawful.
      let it = caught_up_to (Err f) does m shown lawful in
      absurd (none_some _ (sym (ap (λ (x : PairFault). as_refusal (fault_told x)) is) ∙ it.told))

-- ---- what it switches

-- of the register, the holder and, where that is alone, the other node: the first that is down
abbrev down_first : Bool → Bool → Bool → Mode → DiskName → DiskName → Option DiskName
down_first false a b mode d e = Some disk.Duty
down_first true false b mode d e = Some d
down_first true true b Both d e = None
down_first true true true Alone d e = None
down_first true true false Alone d e = Some e

abbrev CatchRow : Bool → Bool → Bool → Mode → DiskName → DiskName → PairFault → Option PairFault
CatchRow r a b mode d e paired = first_of (when (not r) (fault.Down disk.Duty) ∷ when (not a) (fault.Down d) ∷ when (not (is_alone mode)) paired ∷ when (not b) (fault.Down e) ∷ [])

catch_case : (r a b : Bool) (mode : Mode) (d e : DiskName) (paired f : PairFault) → CatchRow r a b mode d e paired ≡ Some f
    → ((x : DiskName) × (f ≡ fault.Down x) × (down_first r a b mode d e ≡ Some x)) ⊎ ((down_first r a b mode d e ≡ None) × (f ≡ paired))
catch_case false a b mode d e paired f h = inl (disk.Duty, some_is f (fault.Down disk.Duty) (sym h), refl)
catch_case true false b mode d e paired f h = inl (d, some_is f (fault.Down d) (sym h), refl)
catch_case true true b Both d e paired f h = inr (refl, some_is f paired (sym h))
catch_case true true true Alone d e paired f h = absurd (none_some f h)
catch_case true true false Alone d e paired f h = inl (e, some_is f (fault.Down e) (sym h), refl)

catch_passed : (r a b : Bool) (mode : Mode) (d e : DiskName) (paired : PairFault) → CatchRow r a b mode d e paired ≡ None → down_first r a b mode d e ≡ None
catch_passed false a b mode d e paired h = absurd (none_some (fault.Down disk.Duty) (sym h))
catch_passed true false b mode d e paired h = absurd (none_some (fault.Down d) (sym h))
catch_passed true true b Both d e paired h = refl
catch_passed true true true Alone d e paired h = refl
catch_passed true true false Alone d e paired h = absurd (none_some (fault.Down e) (sym h))

off_is : (s : Switches) (n : NodeName) (mode : Mode) → first_off s (and_mirror mode n) ≡ down_first s.register (is_on s (disk_of n)) (is_on s (disk_of (other n))) mode (disk_of n) (disk_of (other n))
off_is s n Both = by_case s.register (is_on s (disk_of n)) (is_on s (disk_of (other n))) (disk_of n) (disk_of (other n))
  where
    by_case : (r a b : Bool) (d e : DiskName) → (if r then (if a then None else Some d) else Some disk.Duty) ≡ down_first r a b Both d e
    by_case false a b d e = refl
    by_case true false b d e = refl
    by_case true true b d e = refl
off_is s n Alone = by_case s.register (is_on s (disk_of n)) (is_on s (disk_of (other n))) (disk_of n) (disk_of (other n))
  where
    by_case : (r a b : Bool) (d e : DiskName) → (if r then (if a then (if b then None else Some e) else Some d) else Some disk.Duty) ≡ down_first r a b Alone d e
    by_case false a b d e = refl
    by_case true false b d e = refl
    by_case true true false d e = refl
    by_case true true true d e = refl

module _ {D : Type 0} (state : D → DiskState) (old new : Desk D) where
  abbrev Its : NodeName
  Its = rows.holder old.pair

  abbrev ItsMode : Mode
  ItsMode = (duty_of old.pair).mode

  abbrev Needed : Option DiskName
  Needed = down_first (is_up old.pair) (is_node_up old.pair Its) (is_node_up old.pair (other Its)) ItsMode (disk_of Its) (disk_of (other Its))

  needed_is : first_off (switches_of old) (and_mirror ItsMode Its) ≡ Needed
  needed_is =
      off_is (switches_of old) Its ItsMode
      ∙ ap (λ (b : Bool). down_first (is_up old.pair) b (is_on (switches_of old) (disk_of (other Its))) ItsMode (disk_of Its) (disk_of (other Its))) (on_is old Its)
      ∙ ap (λ (b : Bool). down_first (is_up old.pair) (is_node_up old.pair Its) b ItsMode (disk_of Its) (disk_of (other Its))) (on_is old (other Its))

  abbrev Kept : Result ℕ PairFault → Type 0
  Kept result = PassKeeps old.pair new.pair result

  abbrev Says : replies.Reply → Type 0
  Says told = SwitchesTo state old new commands.Catch_up told

  passed_says : rows.catch_up_refusal old.pair ≡ None → (told : replies.Reply) → Tells state old new commands.Catch_up told → Says told
  passed_says none told it =
      plainly (counts_at state old) (counts_at state new) (switches_of old) commands.Catch_up told (switches_of new) it.plain it.failed it.after
      (needed_is ∙ catch_passed (is_up old.pair) (is_node_up old.pair Its) (is_node_up old.pair (other Its)) ItsMode (disk_of Its) (disk_of (other Its)) (fault.Paired (duty_of old.pair).epoch Its) none) refl

  refused_says : (f : PairFault) → rows.catch_up_refusal old.pair ≡ Some f → new.pair ≡ old.pair → Says (fault_reply f)
  refused_says f row same =
      elim (catch_case (is_up old.pair) (is_node_up old.pair Its) (is_node_up old.pair (other Its)) ItsMode (disk_of Its) (disk_of (other Its)) (fault.Paired (duty_of old.pair).epoch Its) f row) [
        | inl down ↦
            refused_so state old new commands.Catch_up f (fault.Down down.0) down.1 same
            (is_down (counts_at state old) (counts_at state new) (switches_of old) commands.Catch_up down.0 (needed_is ∙ down.2) refl)
        | inr paired ↦
            refused_so state old new commands.Catch_up f (fault.Paired (duty_of old.pair).epoch Its) paired.1 same
            (plainly (counts_at state old) (counts_at state new) (switches_of old) commands.Catch_up (fault_reply (fault.Paired (duty_of old.pair).epoch Its)) (switches_of old) tt tt refl (needed_is ∙ paired.0) refl)
      ]

  module _ (course : KeepsCourse state old.pair new.pair) where
    -- one of the two goes down
    lost : (n : NodeName) (d : DiskName) → d ≡ disk_of n → is_node_up new.pair n ≡ false → SameSent old.pair new.pair → KeepsApart old.pair new.pair d → switches_of new ≡ switched (switches_of old) d false
    lost n d is down sent apart =
        node_lost old new sent course.1 course.2 n d is down (apart (other n) (λ same. differ n (same ∙ is)))
      where
        differ : (n : NodeName) → disk_of (other n) ≡ disk_of n → ⊥
        differ A e = absurd (cc)
        differ B e = absurd (cc)

    catch_fails : (f : PairFault) → CatchUpRest state old.pair new.pair Its (Err f) → Kept (Err f) → Tells state old new commands.Catch_up (fault_reply f)
    catch_fails (fault.Fault d) rest keeps = record {
      plain = tt;
      failed = rest.1;
      after = elim rest.0 [
        | inl own ↦ lost Its d own.0 own.1.1 keeps.0 keeps.1
        | inr far ↦ lost (other Its) d far.0 far.1.1 keeps.0 keeps.1
      ];
    }
    catch_fails (fault.Damaged d frame) rest keeps = record { plain = tt; failed = tt; after = lost Its d rest.0 rest.1.1 keeps.0 keeps.1 }
    catch_fails f rest keeps = absurd rest

    pub catch_refused_switches : (f : PairFault) → CatchUpCauses state old.pair new.pair (Err f) → Kept (Err f) → Says (fault_reply f)
    catch_refused_switches f causes keeps = elim (refusal_case ℕ (rows.catch_up_refusal old.pair) old.pair new.pair f (CatchUpRest state old.pair new.pair Its (Err f)) causes) [
      | inl refused ↦ refused_says f refused.0 refused.1
      | inr more ↦ passed_says more.0 (fault_reply f) (catch_fails f more.1 keeps)
    ]

    pub caught_up_switches : (len : ℕ) → CatchUpCauses state old.pair new.pair (Ok len) → Kept (Ok len) → Says (replies.Caught_up len)
    caught_up_switches len causes keeps =
        let done = not_refused (rows.catch_up_refusal old.pair) old.pair new.pair len (CatchUpRest state old.pair new.pair Its (Ok len)) causes in
        let rest = done.1 in
        passed_says done.0 (replies.Caught_up len) (record {
          plain = tt;
          failed = tt;
          after = none_switched old new keeps.0 course.1 course.2
              (each_node old.pair new.pair Its (up_still old new Its rest.0.0 rest.0.1) (up_still old new (other Its) rest.1.0 rest.1.1));
        })
