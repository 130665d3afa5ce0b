-- What holds while messages are passed on, from the refusals of catching up to its end.
use Rattle.std.proofs.Common.{◌≡◌, inl, inr, ℕ, suc, ◌+◌, ◌<◌, ◌≤◌, List, [], ◌∷◌, length, refl, sym, ap, subst, ◌∙◌, arith, Option, Some, None, Result, Ok, Err, Bool, true, false, nat_lt}
use Rattle.std.specs.Prelude.{not, min, is_some}
use Rattle.std.specs.Option.{option_map}
use Rattle.std.proofs.lemmas.Bool.Decides.{nat_tests}
use Rattle.ali_base.specs.Steps.{when}
use Rattle.ali_base.specs.declared.duty.Duty.{Duty}
use Rattle.ali_base.specs.declared.names.DiskName.TheVariants as disks
use Rattle.ali_base.specs.declared.names.NodeName.{NodeName}
use Rattle.ali_base.specs.declared.names.NodeName.TheVariants.{A, B}
use Rattle.crash_disk.specs.DiskState.{DiskState, IsSound}
use Rattle.crash_disk.specs.Moments.{EachMoment}
use Rattle.crash_disk.proofs.Runs.{run_on, weaker, stays_here}
use Rattle.node_journal.specs.OpenJournal.{epochs_of}
use Rattle.node_journal.specs.declared.frame.TheConstants.{MOST_FRAMES}
use Rattle.office_entry.specs.declared.entry.Entry.{Entry}
use Rattle.office_state.specs.declared.limits.Limits.{Limits}
use Rattle.pair_core.specs.Pair.{Shows, Does, IsCall, PassMoments, LeavesJournal, LeavesDuties, disk_at, node_of, is_node_up, len_of, is_up, bounds_of, counts_of}
use Rattle.pair_core.specs.PairAnswers.{Unless, IsPassed, KeepsCourse, SameNode, SameSent, KeepsSound, PassRest, PassCauses, fault_told, told, passed_told}
use Rattle.pair_core.specs.PairPassing.{pass_row}
use Rattle.pair_core.specs.PairRefusals as rows
use Rattle.pair_core.specs.PairRefusals.{first_of, or_first}
use Rattle.pair_core.specs.declared.faults.PairFault.{PairFault}
use Rattle.pair_core.specs.declared.faults.PairFault.TheVariants as fault
use Rattle.pair_core.specs.declared.pair.Pair.{Pair}
use Rattle.pair_core.proofs.PairReport.{long, long_holder}
use Rattle.pair_core.proofs.PairRows.{Matches, AreRow, passed, refused, all_none, when_not, duty_is_down, node_is_down, holder_is_down, paired}
use Rattle.pair_node.specs.LearnedEntries.{IsGone}
use Rattle.pair_node.specs.NodeState.{journal_of}
use Rattle.pair_node.specs.declared.message.Ack.{Ack}
use Rattle.pair_node.specs.declared.message.Delivered.{Delivered}
use Rattle.pair_node.specs.declared.message.Delivered.TheVariants as delivered
use Rattle.pair_node.proofs.Quiet.{quiet}
use Rattle.pair_world.specs.Moments.{IsUnderWay}
use Rattle.pair_world.specs.Step.{Ship, Deliver, WorldStep}
use Rattle.pair_world.specs.Refusals as refusals
use Rattle.pair_world.specs.Refusals.{Refusal, disk_of}
use Rattle.pair_world.specs.World.{World, other, node_at, holder_journal, other_journal}
use Rattle.pair_world.proofs.SoundSteps.{base_has_parts, caught_up_is_equal}
use Rattle.world_rows.specs.Counts.{Counts, count_at}
use Rattle.world_rows.specs.Histories.{due_after, state_of, IsLawful}
use Rattle.world_rows.specs.Rows.{Gives}
use Rattle.world_rows.specs.Told.{Told, Refused, Failed, Have_end}
use Rattle.catch_up.specs.CatchingUp.{Course, CatchesUp, HasComeTo, with_shipment, IsInStep, ended, first_number, first_row, number_after}
use Rattle.pair_core.specs.PairRefusals.{catch_up_refusal}
use Rattle.catch_up.specs.CatchUpAnswers.{first_of_pair, answer_of, CatchesUpDoes, CatchUpMoments, JournalOnTheWay, DutiesOnTheWay, HasCaughtUp, CatchUpRest, CatchUpCauses}
use Rattle.catch_up.specs.Plan.{next_after, number_of}
use Rattle.catch_up.specs.declared.plan.CatchAnswer.{CatchAnswer}
use Rattle.catch_up.specs.declared.plan.CatchAnswer.TheVariants as answer
use Rattle.catch_up.proofs.Courses.{LeadsTo, Enters, leads_on, leads_out, come_on, come_later, on_the_way_later, gives_later, pass_lawful, never_falls, rose_later}
use Rattle.catch_up.proofs.Numbers.{Says, Within, after, stays_within, closer, distance_to}
use Rattle.catch_up.proofs.PassedNumbers.{says_passed, caught_up}

-- the epochs of a node's journal
abbrev pub epochs_at : {D : Type 0} → Pair D → NodeName → List ℕ
epochs_at p n = epochs_of (journal_of (node_of p n))

-- how far it is to the end
pub distance_of : {D : Type 0} → Pair D → Option ℕ → ℕ
distance_of p next = distance_to (epochs_at p (rows.holder p)) (epochs_at p (other (rows.holder p))) next

-- a world that the pair shows, and how the world from before led to it: to the next message, or to the end
abbrev pub WorldOn : {D : Type 0} → (D → DiskState) → Limits → Pair D → Pair D → World Entry → Option ℕ → World Entry → Type 0
WorldOn state limits old now w (Some k) u = LeadsTo limits (counts_of state old) (counts_of state now) w k u × HasComeTo limits (counts_of state old) (counts_of state now) w k u × Enters limits w
WorldOn state limits old now w None u = (k : ℕ) × CatchesUp limits (counts_of state old) (counts_of state now) w (Have_end k 0) u

-- So far messages were passed on, and this number comes next, none after the end.
pub record IsOnWay {D : Type 0} (state : D → DiskState) (old now : Pair D) (next : Option ℕ) : Type 0 where
  pub call : IsCall state old now
  pub course : KeepsCourse state old now
  pub up : is_up now ≡ true
  pub up_holder : is_node_up now (rows.holder old) ≡ true
  pub up_other : is_node_up now (other (rows.holder old)) ≡ true
  pub sent : SameSent old now
  pub epochs : epochs_at now (rows.holder old) ≡ epochs_at old (rows.holder old)
  pub within : Within (epochs_at now (rows.holder old)) (epochs_at now (other (rows.holder old))) next
  pub end : next ≡ None → HasCaughtUp now (rows.holder old) (len_of now (rows.holder old))
  pub worlds : (limits : Limits) (w : World Entry) → Shows state limits old w → IsLawful limits (bounds_of old) w
      → (u : World Entry) × Shows state limits now u × IsLawful limits (bounds_of now) u × WorldOn state limits old now w next u
  pub moments : CatchUpMoments state old now

-- ---- the refusals

-- it is told as a refusal
IsToldRefused : PairFault → Type 0
IsToldRefused f = (r : Refusal) × (fault_told f ≡ Some (Refused r))

stays_first : (f : PairFault) (owns : List (Option PairFault)) → or_first (Some f) owns ≡ Some f
stays_first f [] = refl
stays_first f (own ∷ owns) = stays_first f owns

next_first : (owns : List (Option PairFault)) → or_first None owns ≡ first_of owns
next_first [] = refl
next_first (own ∷ owns) = refl

told_first : (b : Bool) (own : PairFault) (rest : List (Option PairFault)) (f : PairFault) → IsToldRefused own → (first_of rest ≡ Some f → IsToldRefused f) → first_of (when b own ∷ rest) ≡ Some f → IsToldRefused f
told_first true own rest f is next e = subst IsToldRefused (same (sym (stays_first own rest) ∙ e)) is
  where
    same : Some own ≡ Some f → own ≡ f
    same e = cc
told_first false own rest f is next e = next (sym (next_first rest) ∙ e)

-- the tests of the row, of the pair and of its world
abbrev own_tests : {D : Type 0} → Pair D → List (Option PairFault)
own_tests p = rows.duty_is_down p ∷ rows.node_is_down p (rows.holder p) ∷ rows.paired p ∷ rows.node_is_down p (other (rows.holder p)) ∷ []

abbrev world_tests : World Entry → List (Option Refusal)
world_tests w = refusals.duty_is_down w ∷ refusals.node_is_down w w.base.duty.holder ∷ refusals.paired w ∷ refusals.node_is_down w (other w.base.duty.holder) ∷ []

module _ {D : Type 0} (p : Pair D) where
  refusal_told : (f : PairFault) → catch_up_refusal p ≡ Some f → IsToldRefused f
  unfolding IsToldRefused
  refusal_told f is =
      told_first _ _ (rows.node_is_down p (rows.holder p) ∷ rows.paired p ∷ rows.node_is_down p (other (rows.holder p)) ∷ []) f (_, refl)
      (told_first _ _ (rows.paired p ∷ rows.node_is_down p (other (rows.holder p)) ∷ []) f (_, refl)
      (told_first _ _ (rows.node_is_down p (other (rows.holder p)) ∷ []) f (_, refl)
      (told_first _ _ [] f (_, refl) (λ e. absurd (cc)))))
      is

module _ {D : Type 0} (state : D → DiskState) (limits : Limits) (p : Pair D) (w : World Entry) (shown : Shows state limits p w) where
  other_is_down : Matches (rows.node_is_down p (other (rows.holder p))) (refusals.node_is_down w (other w.base.duty.holder))
  other_is_down =
      subst (λ (d : Duty). Matches (rows.node_is_down p (other (rows.holder p))) (refusals.node_is_down w (other d.holder))) shown.duty
      (node_is_down state limits p w shown (other (rows.holder p)))

  -- the row of catching up
  catch_up_row : AreRow (own_tests p) (world_tests w)
  catch_up_row = (duty_is_down state limits p w shown, λ _. (holder_is_down state limits p w shown, λ _. (paired state limits p w shown, λ _. (other_is_down, λ _. tt))))

  -- the first number
  long_other : is_node_up p (other (rows.holder p)) ≡ true → len_of p (other (rows.holder p)) ≡ length (other_journal w.base)
  long_other up = long state limits p w shown (other (rows.holder p)) up ∙ ap (λ (d : Duty). length (node_at w.base.nodes (other d.holder)).journal) shown.duty

  first_is : is_node_up p (rows.holder p) ≡ true → is_node_up p (other (rows.holder p)) ≡ true → first_number w ≡ first_of_pair p
  first_is up up_other =
      let a : len_of p (rows.holder p) ≡ length (holder_journal w.base) = long_holder state limits p w shown up in
      let b : len_of p (other (rows.holder p)) ≡ length (other_journal w.base) = long_other up_other in
      let c : suc (min (length (holder_journal w.base)) (length (other_journal w.base))) ≡ min (length (holder_journal w.base)) (length (other_journal w.base)) + 1 = omega arith in
      c ∙ (λ i. min (sym a i) (sym b i) + 1)

  enters : catch_up_refusal p ≡ None → Enters limits w
  enters none before now told v gives = passed before now (state_of limits w) w (pass_row limits w (first_number w)) (own_tests p) (world_tests w) told v catch_up_row none gives

  module _ (before now : Counts) where
    begins : catch_up_refusal p ≡ None → LeadsTo limits before now w (first_number w) w
    begins none later never turns told v course = (turns, by_turns turns course)
      where
        by_turns : (turns : List (Told × World Entry)) → Course limits before later (pass_row limits w (first_number w)) w turns told v → Course limits before later (first_row limits w) w turns told v
        by_turns [] c = (passed before later (state_of limits w) w (pass_row limits w (first_number w)) (own_tests p) (world_tests w) told v catch_up_row none c.0, c.1)
        by_turns (turn ∷ turns) c = (passed before later (state_of limits w) w (pass_row limits w (first_number w)) (own_tests p) (world_tests w) turn.0 turn.1 catch_up_row none c.0, c.1, c.2, c.3)

-- where no call was made, a crash leaves what the world gives the disks
pub nothing_yet : {D : Type 0} (state : D → DiskState) (p : Pair D) → ((disk : D) → IsSound (state disk)) → CatchUpMoments state p p
nothing_yet state p sound limits w shown lawful = record {
  a = quiet (state (disk_at p disks.A)) (state (disk_at p disks.A)) (JournalOnTheWay limits (bounds_of p) (counts_of state p) (counts_of state p) w A) (sound (disk_at p disks.A)) (stays_here (state (disk_at p disks.A))) (λ image left. let it = (shown.nodes A).images image left in (it.0, it.1, w, inl refl, it.2));
  b = quiet (state (disk_at p disks.B)) (state (disk_at p disks.B)) (JournalOnTheWay limits (bounds_of p) (counts_of state p) (counts_of state p) w B) (sound (disk_at p disks.B)) (stays_here (state (disk_at p disks.B))) (λ image left. let it = (shown.nodes B).images image left in (it.0, it.1, w, inl refl, it.2));
  duty = quiet (state (disk_at p disks.Duty)) (state (disk_at p disks.Duty)) (DutiesOnTheWay limits (bounds_of p) (counts_of state p) (counts_of state p) w) (sound (disk_at p disks.Duty)) (stays_here (state (disk_at p disks.Duty))) (λ image left. let it = shown.images image left in (it.0, it.1, w, inl refl, it.2));
}

-- a refusal: nothing changes
pub refused_does : {D : Type 0} (state : D → DiskState) (p : Pair D) (f : PairFault) → catch_up_refusal p ≡ Some f → CatchesUpDoes state p p (Err f)
unfolding IsToldRefused
refused_does state p f is limits w shown lawful =
    let its = refusal_told p f is in (
      w,
      shown,
      Refused its.0,
      ([], (refused (counts_of state p) (counts_of state p) (state_of limits w) w (pass_row limits w (first_number w)) (own_tests p) (world_tests w) f (Refused its.0) (catch_up_row state limits p w shown) is its.1, refl)),
      ap (option_map Err) its.1,
      tt,
    )

pub refused_causes : {D : Type 0} (state : D → DiskState) (p : Pair D) (f : PairFault) → catch_up_refusal p ≡ Some f → CatchUpCauses state p p (Err f)
refused_causes {D} state p f is = subst (λ (o : Option PairFault). Unless {P = Pair D} {T = ℕ} o p p (Err f) (CatchUpRest state p p (rows.holder p) (Err f))) (sym is) (refl, refl)

pub refused_beside : {D : Type 0} (p : Pair D) (f : PairFault) → SameSent p p × KeepsSound p p f
refused_beside p f = (refl, by_fault f)
  where
    by_fault : (f : PairFault) → KeepsSound p p f
    by_fault (fault.Fault disk) = λ n not. refl
    by_fault (fault.Damaged disk frame) = λ n not. refl
    by_fault f = tt

-- ---- the beginning

-- where there is no refusal, the register is up, and so are both nodes
pub record AreUp {D : Type 0} (p : Pair D) : Type 0 where
  pub register : is_up p ≡ true
  pub holder : is_node_up p (rows.holder p) ≡ true
  pub beside : is_node_up p (other (rows.holder p)) ≡ true

pub are_up : {D : Type 0} (p : Pair D) → catch_up_refusal p ≡ None → AreUp p
are_up p none =
    let all = all_none (own_tests p) none in
    record {
      register = when_not (is_up p) (fault.Down disks.Duty) all.0;
      holder = when_not (is_node_up p (rows.holder p)) (fault.Down (disk_of (rows.holder p))) all.1.0;
      beside = when_not (is_node_up p (other (rows.holder p))) (fault.Down (disk_of (other (rows.holder p)))) all.1.1.1.0;
    }

pub first_on_way : {D : Type 0} (state : D → DiskState) (p : Pair D) (next : Option ℕ) → ((disk : D) → IsSound (state disk)) → catch_up_refusal p ≡ None → next ≡ Some (first_of_pair p) → IsOnWay state p p next
first_on_way state p next sound none is = subst (IsOnWay state p p) (sym is) (record {
  call = record { bounds = refl; counts = λ disk. omega arith; booked = omega arith };
  course = (refl, refl, refl);
  up = (are_up p none).register;
  up_holder = (are_up p none).holder;
  up_other = (are_up p none).beside;
  sent = refl;
  epochs = refl;
  within = (omega arith, omega arith, omega arith);
  end = λ e. absurd (cc);
  worlds = λ limits w shown lawful. (
    w,
    shown,
    lawful,
    subst (λ (k : ℕ). LeadsTo limits (counts_of state p) (counts_of state p) w k w × HasComeTo limits (counts_of state p) (counts_of state p) w k w × Enters limits w) (first_is state limits p w shown (are_up p none).holder (are_up p none).beside)
        (begins state limits p w shown (counts_of state p) (counts_of state p) none, ([], (refl, refl)), enters state limits p w shown none),
  );
  moments = nothing_yet state p sound;
})

-- ---- one message

all_pass : (a b c : Option PairFault) → a ≡ None → b ≡ None → c ≡ None → first_of (a ∷ b ∷ c ∷ []) ≡ None
all_pass a b c x y z = λ i. first_of (x i ∷ y i ∷ z i ∷ [])

-- message k may be passed on
may_ship : {D : Type 0} (p : Pair D) (k : ℕ) → is_up p ≡ true → is_node_up p (rows.holder p) ≡ true → k ≤ len_of p (rows.holder p) + 1 → rows.shipping_refusal p k ≡ None
may_ship p k up up_holder fits =
    let there : nat_lt (suc (len_of p (rows.holder p))) k ≡ false = grind (arith, nat_tests) in
    all_pass _ _ _ (ap (λ (b : Bool). when (not b) (fault.Down disks.Duty)) up) (ap (λ (b : Bool). when (not b) (fault.Down (disk_of (rows.holder p)))) up_holder) (ap (λ (b : Bool). when b (fault.NoEntry k (len_of p (rows.holder p)))) there)

module _ {D : Type 0} (state : D → DiskState) (old now new : Pair D) (k : ℕ) (way : IsOnWay state old now (Some k)) where
  holder_stays : rows.holder now ≡ rows.holder old
  holder_stays = ap (λ (d : Duty). d.holder) way.course.1

  -- what was answered, and why
  rest_of : (result : Result Delivered PairFault) → PassCauses state now new k result → PassRest state now new (rows.holder old) k result
  rest_of result causes =
      let up : is_node_up now (rows.holder now) ≡ true = subst (λ (n : NodeName). is_node_up now n ≡ true) (sym holder_stays) way.up_holder in
      let fits : k ≤ len_of now (rows.holder now) + 1 = subst (λ (n : NodeName). k ≤ len_of now n + 1) (sym holder_stays) way.within.1 in
      subst (λ (n : NodeName). PassRest state now new n k result) holder_stays
      (subst (λ (o : Option PairFault). Unless o now new result (PassRest state now new (rows.holder now) k result)) (may_ship now k way.up up fits) causes)

  call_on : IsCall state now new → IsCall state old new
  call_on call = record {
    bounds = call.bounds ∙ way.call.bounds;
    counts = never_falls (counts_of state old) (counts_of state now) (counts_of state new) way.call.counts call.counts;
    booked = omega (arith, way.call.booked, call.booked);
  }

  course_on : KeepsCourse state now new → KeepsCourse state old new
  course_on keeps = (keeps.0 ∙ way.course.0, keeps.1 ∙ way.course.1, keeps.2 ∙ way.course.2)

  module _ (call : IsCall state now new) where
    -- what a crash leaves meanwhile
    module _ (limits : Limits) (w : World Entry) (shown : Shows state limits old w) (lawful : IsLawful limits (bounds_of old) w) where
      abbrev at : World Entry
      at = (way.worlds limits w shown lawful).0

      abbrev under_way : World Entry
      under_way = with_shipment at k

      -- the message that comes next may be shipped
      ships : WorldStep {Q = List ℕ} (due_after limits) (bounds_of old) at (Ship k) under_way
      ships =
          let shows = (way.worlds limits w shown lawful).1 in
          let up : is_node_up now (rows.holder now) ≡ true = subst (λ (n : NodeName). is_node_up now n ≡ true) (sym holder_stays) way.up_holder in
          let up_there : (node_at at.base.nodes at.base.duty.holder).up ≡ true = subst (λ (d : Duty). (node_at at.base.nodes d.holder).up ≡ true) shows.duty ((shows.nodes (rows.holder now)).up ∙ up) in
          let long_is : len_of now (rows.holder now) ≡ length (holder_journal at.base) = long_holder state limits now at shows up in
          let fits : k ≤ len_of now (rows.holder now) + 1 = subst (λ (n : NodeName). k ≤ len_of now n + 1) (sym holder_stays) way.within.1 in
          (shows.register_up ∙ way.up, (record { up = up_there; from = omega (arith, way.within.0); within = omega (arith, fits, long_is) }, refl), refl)

      come : HasComeTo limits (counts_of state old) (counts_of state new) w k at
      come = come_later limits (counts_of state old) (counts_of state now) (counts_of state new) call.counts w k at (way.worlds limits w shown lawful).3.1

      journals_on : (n : NodeName) (s0 s1 s2 : DiskState) → EachMoment s0 s1 (JournalOnTheWay limits (bounds_of old) (counts_of state old) (counts_of state now) w n)
          → EachMoment s1 s2 (LeavesJournal limits (bounds_of now) under_way (Deliver (suc (length at.base.messages))) n) → EachMoment s0 s2 (JournalOnTheWay limits (bounds_of old) (counts_of state old) (counts_of state new) w n)
      journals_on n s0 s1 s2 past one =
          run_on s0 s1 s2 (JournalOnTheWay limits (bounds_of old) (counts_of state old) (counts_of state new) w n)
          (weaker s0 s1 (JournalOnTheWay limits (bounds_of old) (counts_of state old) (counts_of state now) w n) (JournalOnTheWay limits (bounds_of old) (counts_of state old) (counts_of state new) w n)
          (λ image l. (l.0, l.1, l.2, on_the_way_later limits (counts_of state old) (counts_of state now) (bounds_of old) (counts_of state new) call.counts w l.2 l.3, l.4)) past)
          (weaker s1 s2 (LeavesJournal limits (bounds_of now) under_way (Deliver (suc (length at.base.messages))) n) (JournalOnTheWay limits (bounds_of old) (counts_of state old) (counts_of state new) w n)
          (λ image l. (l.0, l.1, l.2.0, inr (k, at, come, ships, subst (λ b. IsUnderWay {Q = List ℕ} (due_after limits) b under_way (Deliver (suc (length at.base.messages))) l.2.0) way.call.bounds l.2.1), l.2.2)) one)

      duties_on : (s0 s1 s2 : DiskState) → EachMoment s0 s1 (DutiesOnTheWay limits (bounds_of old) (counts_of state old) (counts_of state now) w)
          → EachMoment s1 s2 (LeavesDuties limits (bounds_of now) under_way (Deliver (suc (length at.base.messages)))) → EachMoment s0 s2 (DutiesOnTheWay limits (bounds_of old) (counts_of state old) (counts_of state new) w)
      duties_on s0 s1 s2 past one =
          run_on s0 s1 s2 (DutiesOnTheWay limits (bounds_of old) (counts_of state old) (counts_of state new) w)
          (weaker s0 s1 (DutiesOnTheWay limits (bounds_of old) (counts_of state old) (counts_of state now) w) (DutiesOnTheWay limits (bounds_of old) (counts_of state old) (counts_of state new) w)
          (λ image l. (l.0, l.1, l.2, on_the_way_later limits (counts_of state old) (counts_of state now) (bounds_of old) (counts_of state new) call.counts w l.2 l.3, l.4)) past)
          (weaker s1 s2 (LeavesDuties limits (bounds_of now) under_way (Deliver (suc (length at.base.messages)))) (DutiesOnTheWay limits (bounds_of old) (counts_of state old) (counts_of state new) w)
          (λ image l. (l.0, l.1, l.2.0, inr (k, at, come, ships, subst (λ b. IsUnderWay {Q = List ℕ} (due_after limits) b under_way (Deliver (suc (length at.base.messages))) l.2.0) way.call.bounds l.2.1), l.2.2)) one)

    pub moments_on : PassMoments state now new k → CatchUpMoments state old new
    moments_on pass limits w shown lawful =
        let past = way.moments limits w shown lawful in
        let so_far = way.worlds limits w shown lawful in
        let one = pass limits so_far.0 so_far.1 so_far.2 in
        record {
          a = journals_on limits w shown lawful A (state (disk_at old disks.A)) (state (disk_at now disks.A)) (state (disk_at new disks.A)) past.a one.a;
          b = journals_on limits w shown lawful B (state (disk_at old disks.B)) (state (disk_at now disks.B)) (state (disk_at new disks.B)) past.b one.b;
          duty = duties_on limits w shown lawful (state (disk_at old disks.Duty)) (state (disk_at now disks.Duty)) (state (disk_at new disks.Duty)) past.duty one.duty;
        }

    module _ (it : Delivered) (does : Does state now new (λ limits lasted w. pass_row limits w k) (Some (passed_told it))) (rest : PassRest state now new (rows.holder old) k (Ok it)) where
      abbrev answered : IsPassed state now new (rows.holder old) k it
      answered = rest.3

      said : Says (epochs_at now (rows.holder old)) (epochs_at now (other (rows.holder old))) (epochs_at new (other (rows.holder old))) k it
      said = says_passed state now new (rows.holder old) k it answered way.within.0

      -- the world after the message
      lawful_after : (limits : Limits) (u v : World Entry) → IsLawful limits (bounds_of now) u → Gives (counts_of state now) (counts_of state new) Failed u (pass_row limits u k) (passed_told it) v → IsLawful limits (bounds_of new) v
      lawful_after limits u v lawful gives =
          subst (λ b. IsLawful limits b v) (sym call.bounds)
          (pass_lawful limits (bounds_of now) (counts_of state now) (counts_of state new) u v k (passed_told it) lawful way.within.0 gives)

      goes_on : (j : ℕ) → number_after (passed_told it) ≡ Some j → (limits : Limits) (w : World Entry) → Shows state limits old w → IsLawful limits (bounds_of old) w
          → (u : World Entry) × Shows state limits new u × IsLawful limits (bounds_of new) u × (LeadsTo limits (counts_of state old) (counts_of state new) w j u × HasComeTo limits (counts_of state old) (counts_of state new) w j u × Enters limits w)
      goes_on j is limits w shown lawful =
          let so_far = way.worlds limits w shown lawful in
          let one = does limits so_far.0 so_far.1 so_far.2 in (
            one.0,
            one.1,
            lawful_after limits so_far.0 one.0 so_far.2 one.2.1,
            (
              leads_on limits (counts_of state old) (counts_of state now) (counts_of state new) w so_far.0 k so_far.3.0 way.call.counts call.counts (passed_told it) one.0 one.2.1 j is,
              come_on limits (counts_of state old) (counts_of state new) w k so_far.0 so_far.3.2 (come_later limits (counts_of state old) (counts_of state now) (counts_of state new) call.counts w k so_far.0 so_far.3.1)
                  (passed_told it) one.0 j
                  (gives_later (counts_of state old) (counts_of state now) (counts_of state new) (counts_of state new) way.call.counts (λ disk. omega arith) Failed so_far.0 (pass_row limits so_far.0 k) (passed_told it) one.0 one.2.1) is,
              so_far.3.2,
            ),
          )

    module _ (ack : Ack) (does : Does state now new (λ limits lasted w. pass_row limits w k) (Some (passed_told (delivered.HaveEnd ack)))) (rest : PassRest state now new (rows.holder old) k (Ok (delivered.HaveEnd ack))) where
      comes_out : (limits : Limits) (w : World Entry) → Shows state limits old w → IsLawful limits (bounds_of old) w
          → (u : World Entry) × Shows state limits new u × IsLawful limits (bounds_of new) u × ((j : ℕ) × CatchesUp limits (counts_of state old) (counts_of state new) w (Have_end j 0) u)
      comes_out limits w shown lawful =
          let so_far = way.worlds limits w shown lawful in
          let one = does limits so_far.0 so_far.1 so_far.2 in (
            one.0,
            one.1,
            lawful_after (delivered.HaveEnd ack) does rest limits so_far.0 one.0 so_far.2 one.2.1,
            (ack.number, leads_out limits (counts_of state old) (counts_of state now) (counts_of state new) w so_far.0 k so_far.3.0 way.call.counts call.counts (Have_end ack.number 0) one.0 one.2.1 refl),
          )

    worlds_on : (it : Delivered) (does : Does state now new (λ limits lasted w. pass_row limits w k) (Some (passed_told it))) (rest : PassRest state now new (rows.holder old) k (Ok it)) → (limits : Limits) (w : World Entry) → Shows state limits old w → IsLawful limits (bounds_of old) w
        → (u : World Entry) × Shows state limits new u × IsLawful limits (bounds_of new) u × WorldOn state limits old new w (after it) u
    worlds_on (delivered.Stale epoch known) does rest = absurd (said (delivered.Stale epoch known) does rest)
    worlds_on (delivered.Behind len number) does rest = goes_on (delivered.Behind len number) does rest (len + 1) refl
    worlds_on (delivered.Cut j) does rest = goes_on (delivered.Cut j) does rest j refl
    worlds_on (delivered.Stored ack) does rest = goes_on (delivered.Stored ack) does rest (ack.number + 1) refl
    worlds_on (delivered.Have ack) does rest = goes_on (delivered.Have ack) does rest (ack.number + 1) refl
    worlds_on (delivered.HaveEnd ack) does rest = comes_out ack does rest
    worlds_on (delivered.Acked ack) does rest = absurd (said (delivered.Acked ack) does rest)

    end_on : (it : Delivered) → Says (epochs_at now (rows.holder old)) (epochs_at now (other (rows.holder old))) (epochs_at new (other (rows.holder old))) k it → IsPassed state now new (rows.holder old) k it → after it ≡ None → HasCaughtUp new (rows.holder old) (len_of new (rows.holder old))
    end_on (delivered.Stale epoch known) says is none = absurd says
    end_on (delivered.Behind len number) says is none = absurd (cc)
    end_on (delivered.Cut j) says is none = absurd (cc)
    end_on (delivered.Stored ack) says is none = absurd (cc)
    end_on (delivered.Have ack) says is none = absurd (cc)
    end_on (delivered.HaveEnd ack) says is none = caught_up state now new (rows.holder old) k ack is way.within.0
    end_on (delivered.Acked ack) says is none = absurd says

    -- the message was answered
    pub passes_on : (it : Delivered) → Does state now new (λ limits lasted w. pass_row limits w k) (told passed_told (Ok it)) → PassMoments state now new k → PassCauses state now new k (Ok it) → (next : Option ℕ) → next ≡ after it → IsOnWay state old new next
    passes_on it does moments causes next next_is =
        let rest = rest_of (Ok it) causes in
        let is : IsPassed state now new (rows.holder old) k it = rest.3 in
        let says = said it does rest in
        subst (IsOnWay state old new) (sym next_is) (record {
          call = call_on call;
          course = course_on rest.2;
          up = rest.2.2 ∙ way.up;
          up_holder = rest.0.1;
          up_other = rest.1.1;
          sent = is.sent ∙ way.sent;
          epochs = is.epochs ∙ way.epochs;
          within = subst (λ (es : List ℕ). Within es (epochs_at new (other (rows.holder old))) (after it)) (sym is.epochs) (stays_within (epochs_at now (rows.holder old)) (epochs_at now (other (rows.holder old))) (epochs_at new (other (rows.holder old))) k way.within it says);
          end = end_on it says is;
          worlds = worlds_on it does rest;
          moments = moments_on moments;
        })

    -- and the end is nearer
    pub comes_closer : (it : Delivered) → Does state now new (λ limits lasted w. pass_row limits w k) (told passed_told (Ok it)) → PassCauses state now new k (Ok it) → (next : Option ℕ) → next ≡ after it → distance_of new next < distance_of now (Some k)
    unfolding distance_of
    comes_closer it does causes next next_is =
        let rest = rest_of (Ok it) causes in
        let is : IsPassed state now new (rows.holder old) k it = rest.3 in
        let near = closer (epochs_at now (rows.holder old)) (epochs_at now (other (rows.holder old))) (epochs_at new (other (rows.holder old))) k way.within it (said it does rest) in
        let one : distance_to (epochs_at new (rows.holder old)) (epochs_at new (other (rows.holder old))) (after it) < distance_to (epochs_at now (rows.holder old)) (epochs_at now (other (rows.holder old))) (Some k) =
        subst (λ (es : List ℕ). distance_to es (epochs_at new (other (rows.holder old))) (after it) < distance_to (epochs_at now (rows.holder old)) (epochs_at now (other (rows.holder old))) (Some k)) (sym is.epochs) near in
        let new_holder : rows.holder new ≡ rows.holder old = ap (λ (d : Duty). d.holder) (course_on rest.2).1 in
        subst (λ (n : NodeName). distance_to (epochs_at new n) (epochs_at new (other n)) next < distance_to (epochs_at now (rows.holder now)) (epochs_at now (other (rows.holder now))) (Some k)) (sym new_holder)
        (subst (λ (n : NodeName). distance_to (epochs_at new (rows.holder old)) (epochs_at new (other (rows.holder old))) next < distance_to (epochs_at now n) (epochs_at now (other n)) (Some k)) (sym holder_stays)
        (subst (λ (o : Option ℕ). distance_to (epochs_at new (rows.holder old)) (epochs_at new (other (rows.holder old))) o < distance_to (epochs_at now (rows.holder old)) (epochs_at now (other (rows.holder old))) (Some k)) (sym next_is) one))

    -- what the plan hears of it
    pub is_answer : (it : Delivered) → Does state now new (λ limits lasted w. pass_row limits w k) (told passed_told (Ok it)) → PassCauses state now new k (Ok it) → (is_some (answer_of it) ≡ true) × ((a : CatchAnswer) → answer_of it ≡ Some a → number_of a ≤ k)
    is_answer it does causes = by_answer it (said it does (rest_of (Ok it) causes))
      where
        numbered : (a b : CatchAnswer) → Some b ≡ Some a → number_of b ≤ k → number_of a ≤ k
        numbered a b e fits = subst (λ (x : CatchAnswer). number_of x ≤ k) (same e) fits
          where
            same : Some b ≡ Some a → b ≡ a
            same e = cc

        by_answer : (it : Delivered) → Says (epochs_at now (rows.holder old)) (epochs_at now (other (rows.holder old))) (epochs_at new (other (rows.holder old))) k it → (is_some (answer_of it) ≡ true) × ((a : CatchAnswer) → answer_of it ≡ Some a → number_of a ≤ k)
        by_answer (delivered.Stale epoch known) says = absurd says
        by_answer (delivered.Behind len number) says = (refl, λ a e. numbered a (answer.Behind len) e (absurd (omega (arith, says, way.within.0, way.within.2))))
        by_answer (delivered.Cut j) (inl here) = (refl, λ a e. numbered a (answer.Cut j) e (omega (arith, here.0)))
        by_answer (delivered.Cut j) (inr before) = (refl, λ a e. numbered a (answer.Cut j) e (omega (arith, before.1)))
        by_answer (delivered.Stored ack) says = (refl, λ a e. numbered a (answer.Stored ack.number) e (omega (arith, says.0)))
        by_answer (delivered.Have ack) says = (refl, λ a e. numbered a (answer.Have ack.number) e (omega (arith, says.0)))
        by_answer (delivered.HaveEnd ack) says = (refl, λ a e. numbered a (answer.HaveEnd ack.number) e (omega (arith, says.0)))
        by_answer (delivered.Acked ack) says = absurd says

    -- ---- a fault ends it

    module _ (none : catch_up_refusal old ≡ None) where
      out : (f : PairFault) (t : Told) → fault_told f ≡ Some t → number_after t ≡ None → ((v : World Entry) → ended t v ≡ Err t) → Does state now new (λ limits lasted w. pass_row limits w k) (Some t) → CatchesUpDoes state old new (Err f)
      out f t same last is does limits w shown lawful =
          let so_far = way.worlds limits w shown lawful in
          let one = does limits so_far.0 so_far.1 so_far.2 in (
            one.0,
            one.1,
            t,
            leads_out limits (counts_of state old) (counts_of state now) (counts_of state new) w so_far.0 k so_far.3.0 way.call.counts call.counts t one.0 one.2.1 last,
            ap (option_map Err) same ∙ ap Some (sym (is one.0)),
            tt,
          )

      fault_does : (f : PairFault) → PassRest state now new (rows.holder old) k (Err f) → Does state now new (λ limits lasted w. pass_row limits w k) (told passed_told (Err f)) → CatchesUpDoes state old new (Err f)
      fault_does (fault.Fault disk) rest does = out (fault.Fault disk) _ refl refl (λ v. refl) does
      fault_does (fault.Damaged disk frame) rest does = out (fault.Damaged disk frame) _ refl refl (λ v. refl) does
      fault_does (fault.Down disk) rest does = absurd (apart (is_node_up now (other (rows.holder old))) way.up_other rest.2.0)
        where
          apart : (b : Bool) → b ≡ true → b ≡ false → ⊥
          apart b e f = absurd (cc)
      fault_does f rest does = absurd rest

      fault_rest : (f : PairFault) → PassRest state now new (rows.holder old) k (Err f) → CatchUpRest state old new (rows.holder old) (Err f)
      fault_rest (fault.Fault disk) rest = (
        elim rest.0 [
          | inl here ↦ inl (here.0, ((are_up old none).holder, here.1.1))
          | inr there ↦ inr (there.0, ((are_up old none).beside, there.1.1))
        ],
        rose_later (count_at (counts_of state old) disk) (count_at (counts_of state now) disk) (count_at (counts_of state new) disk) (count_at (counts_of state new) disk) (way.call.counts disk) (omega arith) rest.1,
      )
      fault_rest (fault.Damaged disk frame) rest = (
        rest.0,
        ((are_up old none).holder, rest.1.1),
        record {
          from = omega (arith, way.within.0, rest.2);
          to = omega (arith, way.within.1, rest.2, ap length way.epochs);
          during = now;
          epochs = way.epochs;
          gone = subst (λ (j : ℕ). IsGone state (journal_of (node_of now (rows.holder old))) j) (sym rest.2) rest.3;
        },
      )
      fault_rest (fault.Down disk) rest = absurd (apart (is_node_up now (other (rows.holder old))) way.up_other rest.2.0)
        where
          apart : (b : Bool) → b ≡ true → b ≡ false → ⊥
          apart b e f = absurd (cc)
      fault_rest f rest = absurd rest

      fault_course : (f : PairFault) → PassRest state now new (rows.holder old) k (Err f) → KeepsCourse state old new
      fault_course (fault.Fault disk) rest = course_on rest.2
      fault_course (fault.Damaged disk frame) rest = course_on rest.4
      fault_course (fault.Down disk) rest = course_on rest.3
      fault_course f rest = absurd rest

      pub ends_does : (f : PairFault) → PassCauses state now new k (Err f) → Does state now new (λ limits lasted w. pass_row limits w k) (told passed_told (Err f)) → CatchesUpDoes state old new (Err f)
      ends_does f causes does = fault_does f (rest_of (Err f) causes) does

      pub ends_causes : (f : PairFault) → PassCauses state now new k (Err f) → CatchUpCauses state old new (Err f)
      ends_causes f causes = subst (λ (o : Option PairFault). Unless {P = Pair D} {T = ℕ} o old new (Err f) (CatchUpRest state old new (rows.holder old) (Err f))) (sym none) (fault_rest f (rest_of (Err f) causes))

      pub ends_course : (f : PairFault) → PassCauses state now new k (Err f) → KeepsCourse state old new
      ends_course f causes = fault_course f (rest_of (Err f) causes)

      -- both nodes were up so far
      nodes_so_far : (n : NodeName) → SameNode old now n
      nodes_so_far n = by_name (rows.holder old) n refl
        where
          by_name : (h n : NodeName) → h ≡ rows.holder old → SameNode old now n
          by_name A A is = subst (SameNode old now) (sym is) (way.up_holder ∙ sym (are_up old none).holder)
          by_name A B is = subst (λ h. SameNode old now (other h)) (sym is) (way.up_other ∙ sym (are_up old none).beside)
          by_name B A is = subst (λ h. SameNode old now (other h)) (sym is) (way.up_other ∙ sym (are_up old none).beside)
          by_name B B is = subst (SameNode old now) (sym is) (way.up_holder ∙ sym (are_up old none).holder)

      pub ends_beside : (f : PairFault) → SameSent now new × KeepsSound now new f → SameSent old new × KeepsSound old new f
      ends_beside f keeps = (keeps.0 ∙ way.sent, by_fault f keeps.1)
        where
          by_fault : (f : PairFault) → KeepsSound now new f → KeepsSound old new f
          by_fault (fault.Fault disk) sound = λ n not. sound n not ∙ nodes_so_far n
          by_fault (fault.Damaged disk frame) sound = λ n not. sound n not ∙ nodes_so_far n
          by_fault f sound = tt

      pub ends_call : IsCall state old new
      ends_call = call_on call

heard_same : (b a : CatchAnswer) → Some b ≡ Some a → next_after a ≡ next_after b
heard_same b a e = sym (ap next_after (same e))
  where
    same : Some b ≡ Some a → b ≡ a
    same e = cc

-- the number after what the plan heard
pub heard_is : (it : Delivered) (a : CatchAnswer) → answer_of it ≡ Some a → next_after a ≡ after it
heard_is (delivered.Stale epoch known) a e = absurd (cc)
heard_is (delivered.Behind len number) a e = heard_same (answer.Behind len) a e
heard_is (delivered.Cut j) a e = heard_same (answer.Cut j) a e
heard_is (delivered.Stored ack) a e = heard_same (answer.Stored ack.number) a e
heard_is (delivered.Have ack) a e = heard_same (answer.Have ack.number) a e
heard_is (delivered.HaveEnd ack) a e = heard_same (answer.HaveEnd ack.number) a e
heard_is (delivered.Acked ack) a e = absurd (cc)

-- ---- the end

module _ {D : Type 0} (state : D → DiskState) (old new : Pair D) (way : IsOnWay state old new None) (len : ℕ) (is : len ≡ len_of new (rows.holder new)) where
  new_holder : rows.holder new ≡ rows.holder old
  new_holder = ap (λ (d : Duty). d.holder) way.course.1

  len_is : len ≡ len_of new (rows.holder old)
  len_is = is ∙ ap (λ (n : NodeName). len_of new n) new_holder

  has_caught_up : HasCaughtUp new (rows.holder old) len
  has_caught_up = subst (HasCaughtUp new (rows.holder old)) (sym len_is) (way.end refl)

  -- in the world after it the journals are the same
  in_step : (limits : Limits) (v : World Entry) → Shows state limits new v → IsLawful limits (bounds_of new) v → IsInStep v len
  in_step limits v shown lawful =
      let up : is_node_up new (rows.holder new) ≡ true = subst (λ (n : NodeName). is_node_up new n ≡ true) (sym new_holder) way.up_holder in
      let long_is : len ≡ length (holder_journal v.base) = is ∙ long_holder state limits new v shown up in
      let heard : len < v.base.ended = subst (λ (e : ℕ). len < e) shown.ended has_caught_up.ended in
      record {
        journals = caught_up_is_equal (due_after limits) v.base (base_has_parts (due_after limits) v lawful.sound) (subst (λ (n : ℕ). n < v.base.ended) long_is heard);
        long = long_is;
        ended = heard;
      }

  pub end_does : CatchesUpDoes state old new (Ok len)
  end_does limits w shown lawful =
      let out = way.worlds limits w shown lawful in
      let step = in_step limits out.0 out.1 out.2 in
      (out.0, out.1, Have_end out.3.0 0, out.3.1, ap (λ (n : ℕ). Some (Ok n)) step.long, step)

  pub end_causes : catch_up_refusal old ≡ None → CatchUpCauses state old new (Ok len)
  end_causes none =
      subst (λ (o : Option PairFault). Unless {P = Pair D} {T = ℕ} o old new (Ok len) (CatchUpRest state old new (rows.holder old) (Ok len))) (sym none)
      (((are_up old none).holder, way.up_holder), ((are_up old none).beside, way.up_other), has_caught_up, way.epochs)

-- no journal has more frames than this
pub few_frames : {D : Type 0} (p : Pair D) (n : NodeName) → len_of p n ≤ MOST_FRAMES
few_frames p n = let one = (node_of p n).within in let two = (node_of p n).few in omega arith

pub few_first : {D : Type 0} (p : Pair D) → first_of_pair p ≤ MOST_FRAMES + 1
few_first p = omega (arith, few_frames p (rows.holder p))
