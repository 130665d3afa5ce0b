-- CATCHUP is catching up in the world: what it tells is what is told of the last message. So where it tells a length, the other node has caught up; and where it is not refused and no disk fails, it tells one.
use Rattle.std.proofs.Common.{◌≡◌, ℕ, zero, suc, List, [], ◌∷◌, ◌++◌, length, refl, ap, sym, ◌∙◌, subst, arith, Option, Some, None}
use Rattle.catch_up.specs.CatchingUp.{number_after, first_row, Course as Messages, CatchesUp, IsInStep}
use Rattle.catch_up.proofs.Completing.{catching_up_ends}
use Rattle.catch_up.proofs.Courses.{gives_later, never_falls, catching_up_keeps, caught_up_in_step}
use Rattle.office_commands.specs.Commands.{Catch_up}
use Rattle.office_entry.specs.declared.entry.Entry.{Entry}
use Rattle.office_state.specs.OfficeState.{office_limits}
use Rattle.pair_core.specs.PairPassing.{pass_row}
use Rattle.pair_world.specs.World.{World, holder_journal}
use Rattle.pair_world.proofs.Items.{none_some}
use Rattle.world_rows.specs.Counts.{Counts, NeverFall, NoneRose}
use Rattle.world_rows.specs.Rows.{Row, Gives}
use Rattle.world_rows.specs.Told.{Told as WorldTold}
use Rattle.world_rows.specs.Told as told
use Rattle.command_machine.specs.CommandRows.{event_row}
use Rattle.command_machine.specs.Courses.{Event, First, Catches_up, row_of, after_number, then_comes, told_of, told_of_catching_up}
use Rattle.command_machine.specs.Laws.{CanCatchUp}
use Rattle.command_machine.specs.Machine.{Machine, Moment, IsLawful, office_bounds, with_world}
use Rattle.command_machine.specs.Replies.{Reply, Told, Caught_up}
use Rattle.command_machine.specs.Steps.{Course, GoesOn, Moves, Runs, begun, over, Steps}
use Rattle.command_machine.proofs.EventRows.{gives_out}
use Rattle.command_machine.proofs.Undoubted.{runs_never_fall}

-- the events of CATCHUP, and the row of each in the world

abbrev IsMessage : Option Event → Type 0
IsMessage (Some (First Catch_up)) = Unit {0}
IsMessage (Some (Catches_up number)) = Unit {0}
IsMessage event = ⊥

abbrev message_row : Option Event → World Entry → Row WorldTold (World Entry)
message_row (Some (Catches_up number)) w = pass_row office_limits w number
message_row event w = first_row office_limits w

-- one event is one message
record IsOne (c d : Course) (row : Row WorldTold (World Entry)) : Type 0 where
  said : WorldTold
  gives : Gives c.moment.counts d.moment.counts told.Failed c.moment.machine.world row said d.moment.machine.world
  counts : NeverFall c.moment.counts d.moment.counts
  told : d.told ≡ c.told ++ told_of_catching_up d.moment.machine said
  next : d.event ≡ after_number (number_after said)

module _ (c d : Course) where
  abbrev from : Machine
  from = c.moment.machine

  abbrev to : Machine
  to = d.moment.machine

  is_one : (event : Event) (row : Row WorldTold (World Entry)) (moves : GoesOn c event d)
      → Gives c.moment.counts d.moment.counts (λ disk. Told (told.Failed disk)) from (event_row from row) moves.reply to
      → ((said : WorldTold) → told_of event to (Told said) ≡ told_of_catching_up to said)
      → ((said : WorldTold) → then_comes event to (Told said) ≡ after_number (number_after said)) → IsOne c d row
  is_one event row moves gives says comes =
      let given = gives_out Told (with_world from) c.moment.counts d.moment.counts told.Failed from.world row moves.reply to gives in
      record {
        said = given.reply;
        gives =
            subst (λ (w : World Entry). Gives c.moment.counts d.moment.counts told.Failed from.world row given.reply w)
            (sym (ap (λ (x : Machine). x.world) given.left_is)) given.gives;
        counts = moves.counts;
        told = moves.told ∙ ap (λ (r : Reply). c.told ++ told_of event to r) given.told_is ∙ ap (λ (l : List Reply). c.told ++ l) (says given.reply);
        next = moves.next ∙ ap (λ (r : Reply). then_comes event to r) given.told_is ∙ comes given.reply;
      }

  message : (o : Option Event) → IsMessage o → Moves c o d → IsOne c d (message_row o from.world)
  unfolding row_of
  message None is moves = absurd is
  message (Some (First Catch_up)) is moves = is_one (First Catch_up) (first_row office_limits from.world) moves moves.gives (λ said. refl) (λ said. refl)
  message (Some (Catches_up k)) is moves = is_one (Catches_up k) (pass_row office_limits from.world k) moves moves.gives (λ said. refl) (λ said. refl)
  message (Some event) is moves = absurd is

-- a message with one after it is not told
untold : (m : Machine) (said : WorldTold) (k : ℕ) → number_after said ≡ Some k → told_of_catching_up m said ≡ []
untold m (told.Behind len number) k is = refl
untold m (told.Cut number) k is = refl
untold m (told.Stored number made) k is = refl
untold m (told.Have number made) k is = refl
untold m said k is = absurd (none_some k is)

-- what is over stays
over_stays : (n : ℕ) (c d : Course) → c.event ≡ None → Runs n c d → c ≡ d
over_stays zero c d none same = same
over_stays (suc n) c d none (next, moves, runs) = absurd (no_move c.event none moves)
  where
    no_move : (o : Option Event) → o ≡ None → Moves c o next → ⊥
    no_move None e moves = moves
    no_move (Some event) e moves = none_some event (sym e)

-- the messages of a course, and what is told at its end
record IsCourse (before now : Counts) (row : Row WorldTold (World Entry)) (w : World Entry) (d : Course) : Type 0 where
  turns : List (WorldTold × World Entry)
  last : WorldTold
  course : Messages office_limits before now row w turns last d.moment.machine.world
  told : d.told ≡ told_of_catching_up d.moment.machine last

module _ (n : ℕ) (c next d : Course) (before : Counts) (low : NeverFall before c.moment.counts) (none : c.told ≡ []) (runs : Runs n next d) (row : Row WorldTold (World Entry)) (one : IsOne c next row) where
  abbrev first : World Entry
  first = c.moment.machine.world

  abbrev second : World Entry
  second = next.moment.machine.world

  told_is : next.told ≡ told_of_catching_up next.moment.machine one.said
  told_is = one.told ∙ ap (λ (l : List Reply). l ++ told_of_catching_up next.moment.machine one.said) none

  gives_until : (now : Counts) → NeverFall next.moment.counts now → Gives before now told.Failed first row one.said second
  gives_until now high = gives_later before c.moment.counts next.moment.counts now low high told.Failed first row one.said second one.gives

  -- the end, or one message more before the rest
  one_more : (IsMessage next.event → next.told ≡ [] → IsCourse before d.moment.counts (message_row next.event second) second d) → (o : Option ℕ) → number_after one.said ≡ o → IsCourse before d.moment.counts row first d
  one_more rest None e =
      let same : next ≡ d = over_stays n next d (one.next ∙ ap (λ (o : Option ℕ). after_number o) e) runs in
      subst (λ (x : Course). IsCourse before x.moment.counts row first x) same
      (record { turns = []; last = one.said; course = (gives_until next.moment.counts (λ disk. omega arith), e); told = told_is })
  one_more rest (Some k) e =
      let comes : next.event ≡ Some (Catches_up k) = one.next ∙ ap (λ (o : Option ℕ). after_number o) e in
      let more = rest (subst (λ (o : Option Event). IsMessage o) (sym comes) tt) (told_is ∙ untold next.moment.machine one.said k e) in
      record {
        turns = (one.said, second) ∷ more.turns;
        last = more.last;
        course = (
          gives_until d.moment.counts (runs_never_fall n next d runs),
          k,
          e,
          subst (λ (o : Option Event). Messages office_limits before d.moment.counts (message_row o second) second more.turns more.last d.moment.machine.world) comes more.course,
        );
        told = more.told;
      }

runs_catch : (n : ℕ) (c d : Course) (before : Counts) → IsMessage c.event → c.told ≡ [] → d.event ≡ None → NeverFall before c.moment.counts → Runs n c d
    → IsCourse before d.moment.counts (message_row c.event c.moment.machine.world) c.moment.machine.world d
runs_catch zero c d before is none over low same = absurd (subst (λ (o : Option Event). IsMessage o) (ap (λ (x : Course). x.event) same ∙ over) is)
runs_catch (suc n) c d before is none over low (next, moves, runs) =
    let one = message c next c.event is moves in
    one_more n c next d before low none runs (message_row c.event c.moment.machine.world) one
    (λ message none. runs_catch n next d before message none over (never_falls before c.moment.counts next.moment.counts low one.counts) runs)
    (number_after one.said) refl

module _ (m now : Moment) (said : List Reply) where
  abbrev w : World Entry
  w = m.machine.world

  abbrev v : World Entry
  v = now.machine.world

  -- CATCHUP is a course of messages, and tells what is told at its end
  catches : Steps m Catch_up said now → (last : WorldTold) × CatchesUp office_limits m.counts now.counts w last v × (said ≡ told_of_catching_up now.machine last)
  catches steps =
      let it = runs_catch steps.events (begun m Catch_up) (over now said) m.counts tt refl refl (λ disk. omega arith) steps.runs in
      (it.last, (it.turns, it.course), it.told)

  -- only the end is told by a length
  by_last : (len : ℕ) (last : WorldTold) → IsLawful m.machine → CatchesUp office_limits m.counts now.counts w last v → Caught_up len ∷ [] ≡ told_of_catching_up now.machine last → IsInStep v len
  by_last len (told.Have_end number made) lawful course is =
      let same : len ≡ length (holder_journal v.base) = len_is len (length (holder_journal v.base)) is in
      subst (λ (n : ℕ). IsInStep v n) (sym same) (caught_up_in_step office_limits office_bounds m.counts now.counts w v number made lawful.world course)
    where
      len_is : (a b : ℕ) → ◌≡◌ {A = List Reply} (Caught_up a ∷ []) (Caught_up b ∷ []) → a ≡ b
      len_is a b e = cc
  by_last len last lawful course is = absurd (cc)

  in_step : (len : ℕ) → IsLawful m.machine → said ≡ Caught_up len ∷ [] → Steps m Catch_up said now → IsInStep v len
  in_step len lawful is steps = let it = catches steps in by_last len it.0 lawful it.1 (sym is ∙ it.2)

  -- where nothing refuses it and no disk fails, the length of the holder's journal is told
  pub catches_up : IsLawful m.machine → CanCatchUp m.machine → NoneRose m.counts now.counts → Steps m Catch_up said now
      → (said ≡ Caught_up (length (holder_journal w.base)) ∷ []) × IsInStep v (length (holder_journal w.base)) × (holder_journal v.base ≡ holder_journal w.base) × (v.base.booked ≡ w.base.booked)
  catches_up lawful can none steps =
      let it = catches steps in
      let ends = catching_up_ends office_limits office_bounds m.counts now.counts none w v it.0 lawful.world (can.usable.register, can.usable.up, can.mirror) can.alone it.1 in
      let tells : said ≡ Caught_up (length (holder_journal w.base)) ∷ [] =
      it.2 ∙ ap (λ (t : WorldTold). told_of_catching_up now.machine t) ends.0.2 ∙ ap (λ (j : List _). Caught_up (length j) ∷ []) ends.1
      in
      (tells, in_step (length (holder_journal w.base)) lawful tells steps, ends.1, (catching_up_keeps office_limits office_bounds m.counts now.counts it.0 v w lawful.world it.1).1)

-- where a length is told, the other node has caught up, whatever the disks did
pub told_in_step : (m now : Moment) (len : ℕ) → IsLawful m.machine → Steps m Catch_up (Caught_up len ∷ []) now → IsInStep now.machine.world len
told_in_step m now len lawful steps = in_step m now (Caught_up len ∷ []) len lawful refl steps
