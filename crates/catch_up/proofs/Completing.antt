-- Where the register and both nodes are up and no disk fails, no message of catching up is refused, and it comes to the end.
use Rattle.std.proofs.Common.{◌≡◌, ◌⊎◌, inl, inr, ℕ, suc, ◌+◌, ◌-◌, ◌<◌, ◌≤◌, List, [], ◌∷◌, length, refl, sym, ap, subst, ◌∙◌, arith, Option, Some, None, true, false, nat_lt, ◌==◌, option_map}
use Rattle.std.proofs.lemmas.Bool.{cond_both}
use Rattle.std.proofs.lemmas.Bool.Decides.{nat_tests}
use Rattle.ali_base.specs.declared.duty.Mode.TheVariants.{Alone}
use Rattle.ali_base.specs.declared.names.DiskName.{DiskName}
use Rattle.ali_base.specs.declared.names.NodeName.{NodeName}
use Rattle.ali_base.specs.declared.names.NodeName.TheVariants.{A, B}
use Rattle.office_entry.specs.declared.entry.Entry.{Entry}
use Rattle.office_state.specs.declared.limits.Limits.{Limits}
use Rattle.pair_core.specs.PairPassing.{pass_row, passed_row}
use Rattle.pair_world.specs.Changes.{shipment, read_failed}
use Rattle.pair_world.specs.Deliveries as answers
use Rattle.pair_world.specs.Deliveries.{Answer, NodeMessage, answer, answer_in, differs_before, old_next}
use Rattle.pair_world.specs.Frames.{Frame, epoch_at}
use Rattle.pair_world.specs.Passing.{passed, passed_acked}
use Rattle.pair_world.specs.Refusals.{Refusal, Item, Test, Next, disk_of, catch_up_row, shipping_row, receiving_row}
use Rattle.pair_world.specs.Replies.{receiver, state_left}
use Rattle.pair_world.specs.SoundWorld.{Known}
use Rattle.pair_world.specs.Step.{Bounds}
use Rattle.pair_world.specs.World.{World, Shipment, NodeState, Nodes, node_at, put_node, other, told_by, holder_journal, is_up}
use Rattle.pair_world.proofs.ExactRows.{catch_up_passed, shipping_passed, receiving_passed}
use Rattle.pair_world.proofs.Items.{some_is, none_some, slice_get_within}
use Rattle.pair_world.proofs.SoundSteps.{base_has_parts}
use Rattle.world_rows.specs.Counts.{Counts, NoneRose}
use Rattle.world_rows.specs.Histories.{due_after, state_of, IsLawful}
use Rattle.world_rows.specs.Rows.{Row, MayFail, Gives}
use Rattle.world_rows.specs.Told.{Told, Refused, Failed, Have_end}
use Rattle.world_rows.specs.WorldRows.{unless, journal_at}
use Rattle.world_rows.proofs.Items.{ArePassed}
use Rattle.catch_up.specs.CatchingUp.{number_after, first_number, first_row, Course, CatchesUp}
use Rattle.catch_up.proofs.Courses.{Keeps, pass_keeps, first_keeps}

-- ---- what an answer says of the number after it

-- a frame was told
abbrev HasFrame : NodeMessage Entry → Type 0
HasFrame m = (frame : Frame Entry) × (m.frame ≡ Some frame)

abbrev Says : List (Frame Entry) → NodeMessage Entry → Answer Entry → Type 0
Says journal m answers.Behind = length journal < m.preceding
Says journal m (answers.Cut left) = left ≤ m.preceding
Says journal m (answers.Stored frame) = HasFrame m
Says journal m answers.Have = HasFrame m
Says journal m answers.Have_end = Unit {0}

module _ (journal : List (Frame Entry)) (m : NodeMessage Entry) where
  abbrev IsSaid : Answer Entry → Type 0
  IsSaid a = Says journal m a

  says_in : (o : Option (Frame Entry)) → m.frame ≡ o → IsSaid (answer_in journal m o)
  says_in (Some frame) is =
      cond_both (nat_lt m.preceding (length journal)) _ _ (λ (a : Answer Entry). IsSaid a)
      (λ there. cond_both (epoch_at journal (suc m.preceding) == frame.epoch) _ _ (λ (a : Answer Entry). IsSaid a) (λ same. (frame, is)) (λ apart. omega arith))
      (λ past. cond_both (differs_before journal m) _ _ (λ (a : Answer Entry). IsSaid a) (λ apart. omega arith) (λ same. (frame, is)))
  says_in None is =
      cond_both (differs_before journal m) _ _ (λ (a : Answer Entry). IsSaid a)
      (λ apart. omega arith)
      (λ same. cond_both (old_next journal m) _ _ (λ (a : Answer Entry). IsSaid a) (λ old. omega arith) (λ end. tt))

  says : IsSaid (answer journal m)
  unfolding answer
  says =
      cond_both (nat_lt (length journal) m.preceding) _ _ (λ (a : Answer Entry). IsSaid a)
      (λ short. let less : length journal < m.preceding = grind (arith, nat_tests) in less)
      (λ fits. says_in m.frame refl)

-- ---- one message

-- the register and both nodes are up
abbrev pub AreUp : World Entry → Type 0
AreUp w = (w.register_up ≡ true) × is_up w.base w.base.duty.holder × is_up w.base (other w.base.duty.holder)

-- the end was told, or a number comes next that the holder has, or that is the one after its last
abbrev LeadsOn : ℕ → Told → Type 0
LeadsOn len told = ((number : ℕ) × (made : ℕ) × (told ≡ Have_end number made)) ⊎ ((j : ℕ) × (number_after told ≡ Some j) × (j ≤ suc len))

-- what a message leaves where it is not refused
record GoesOn (w : World Entry) (told : Told) (v : World Entry) : Type 0 where
  up : AreUp v
  journal : holder_journal v.base ≡ holder_journal w.base
  leads : LeadsOn (length (holder_journal w.base)) told

pub holder_stays : (nodes : Nodes Entry) (n : NodeName) (state : NodeState Entry) → node_at (put_node nodes (other n) state) n ≡ node_at nodes n
holder_stays nodes A state = refl
holder_stays nodes B state = refl

pub put_there : (nodes : Nodes Entry) (n : NodeName) (state : NodeState Entry) → node_at (put_node nodes n state) n ≡ state
put_there nodes A state = refl
put_there nodes B state = refl

module _ (limits : Limits) (before now : Counts) (none : NoneRose before now) (w v : World Entry) (told : Told) where
  abbrev GivesIn : Row Told (World Entry) → Type 0
  GivesIn row = Gives before now Failed w row told v

  -- refusals that do not hold are passed, and so is a disk that did not fail

  past : (items : List (Item Entry)) (row : Row Told (World Entry)) → ArePassed (state_of limits w) items → GivesIn (unless (state_of limits w) items row) → GivesIn row
  past [] row shut gives = gives
  past (Test refusal ∷ items) row shut (inl refused) = absurd (none_some told (sym (ap (λ (x : Option Refusal). option_map Refused x) shut.0) ∙ refused.0))
  past (Test refusal ∷ items) row shut (inr rest) = past items row shut.1 rest.1
  past (Next entry ∷ items) row shut (inl refused) = absurd (none_some told (sym shut.0 ∙ refused.0))
  past (Next entry ∷ items) row shut (inr rest) = past items row shut.1 rest.1

  unfailed : (disk : DiskName) (left : World Entry) (row : Row Told (World Entry)) → GivesIn (MayFail disk left row) → GivesIn row
  unfailed disk left row (inl fault) = absurd (none disk fault.2)
  unfailed disk left row (inr rest) = rest

  module _ (k : ℕ) (up : AreUp w) (low : 1 ≤ k) (within : k ≤ suc (length (holder_journal w.base))) where
    abbrev x : Shipment Entry
    x = shipment w.base k

    abbrev mirror : NodeName
    mirror = other w.base.duty.holder

    up_still : AreUp (passed w k)
    up_still = (
      up.0,
      subst (λ (state : NodeState Entry). state.up ≡ true) (sym (holder_stays w.base.nodes w.base.duty.holder (state_left (receiver w.base x) (told_by x)))) up.1,
      subst (λ (state : NodeState Entry). state.up ≡ true) (sym (put_there w.base.nodes mirror (state_left (receiver w.base x) (told_by x)))) up.2,
    )

    journal_still : holder_journal (passed w k).base ≡ holder_journal w.base
    journal_still = ap (λ (state : NodeState Entry). state.journal) (holder_stays w.base.nodes w.base.duty.holder (state_left (receiver w.base x) (told_by x)))

    goes_on : (u : World Entry) → AreUp u → holder_journal u.base ≡ holder_journal w.base → v ≡ u → LeadsOn (length (holder_journal w.base)) told → GoesOn w told v
    goes_on u its same is leads = record {
      up = subst (λ (z : World Entry). AreUp z) (sym is) its;
      journal = ap (λ (z : World Entry). holder_journal z.base) is ∙ same;
      leads = leads;
    }

    leads_to : (t : Told) → told ≡ t → (j : ℕ) → number_after t ≡ Some j → j ≤ suc (length (holder_journal w.base)) → LeadsOn (length (holder_journal w.base)) told
    leads_to t is j after low = inr (j, ap number_after is ∙ after, low)

    -- a frame that was told is the holder's
    has_frame : HasFrame (told_by x) → suc (k - 1) + 1 ≤ suc (length (holder_journal w.base))
    has_frame has = omega (arith, slice_get_within (holder_journal w.base) (k - 1) has.0 has.1)

    by_answer : (a : Answer Entry) → Says (journal_at w mirror) (told_by x) a → GivesIn (passed_row limits w k x a) → GoesOn w told v
    by_answer answers.Behind said gives = goes_on (passed w k) up_still journal_still gives.1 (leads_to _ gives.0 (length (journal_at w mirror) + 1) refl (omega (arith, said, within)))
    by_answer (answers.Cut left) said (inl fault) = absurd (none _ fault.2)
    by_answer (answers.Cut left) said (inr gives) = goes_on (passed w k) up_still journal_still gives.1 (leads_to _ gives.0 (suc left) refl (omega (arith, said, within, low)))
    by_answer (answers.Stored frame) said (inl fault) = absurd (none _ fault.2)
    by_answer (answers.Stored frame) said (inr gives) = goes_on (passed_acked w k false) up_still journal_still gives.1 (leads_to _ gives.0 (suc (k - 1) + 1) refl (has_frame said))
    by_answer answers.Have said gives = goes_on (passed_acked w k false) up_still journal_still gives.1 (leads_to _ gives.0 (suc (k - 1) + 1) refl (has_frame said))
    by_answer answers.Have_end said gives = goes_on (passed_acked w k true) up_still journal_still gives.1 (inl (suc x.preceding, 0, gives.0))

    abbrev answered : Row Told (World Entry)
    answered = passed_row limits w k x (answer (journal_at w mirror) (told_by x))

    abbrev received : Row Told (World Entry)
    received = unless (state_of limits w) (receiving_row w x) answered

    pass_goes_on : (bounds : Bounds) → IsLawful limits bounds w → GivesIn (pass_row limits w k) → GoesOn w told v
    pass_goes_on bounds lawful gives =
        let h = w.base.duty.holder in
        let known = (base_has_parts (due_after limits) w lawful.sound).holds Known in
        let ships = shipping_passed (due_after limits) w k (up.0, record { up = up.1; from = omega (arith, low); within = within }) in
        let gets = receiving_passed (due_after limits) w x (up.2, known.none_later mirror) in
        let sent : GivesIn received = unfailed (disk_of h) (read_failed w h) received (past (shipping_row w k) (MayFail (disk_of h) (read_failed w h) received) ships gives) in
        by_answer (answer (journal_at w mirror) (told_by x)) (says (journal_at w mirror) (told_by x)) (past (receiving_row w x) answered gets sent)

-- ---- the whole course

module _ (limits : Limits) (bounds : Bounds) (before now : Counts) (none : NoneRose before now) where
  record Does (w : World Entry) (told : Told) (v : World Entry) : Type 0 where
    keeps : Keeps limits bounds w told v
    on : GoesOn w told v

  pass_does : (w : World Entry) (k : ℕ) → IsLawful limits bounds w → AreUp w → 1 ≤ k → k ≤ suc (length (holder_journal w.base))
      → (told : Told) (v : World Entry) → Gives before now Failed w (pass_row limits w k) told v → Does w told v
  pass_does w k lawful up low within told v gives = record {
    keeps = pass_keeps limits bounds before now w v k told lawful low gives;
    on = pass_goes_on limits before now none w v told k up low within bounds lawful gives;
  }

  first_does : (w : World Entry) → IsLawful limits bounds w → AreUp w → w.base.duty.mode ≡ Alone
      → (told : Told) (v : World Entry) → Gives before now Failed w (first_row limits w) told v → Does w told v
  first_does w lawful up alone told v gives =
      let can = catch_up_passed (due_after limits) w (up.0, up.1, alone, up.2) in
      let message : Gives before now Failed w (pass_row limits w (first_number w)) told v = past limits before now none w v told (catch_up_row w) (pass_row limits w (first_number w)) can gives in
      record {
        keeps = first_keeps limits bounds before now w v told lawful gives;
        on = pass_goes_on limits before now none w v told (first_number w) up (omega arith) (grind arith) bounds lawful message;
      }

  -- the end is told, and the holder's journal stays
  abbrev pub Ends : World Entry → Told → World Entry → Type 0
  Ends w told v = ((number : ℕ) × (made : ℕ) × (told ≡ Have_end number made)) × (holder_journal v.base ≡ holder_journal w.base)

  no_number : {P : Type 0} (o : Option ℕ) (j : ℕ) → o ≡ None → o ≡ Some j → P
  no_number o j shut is = absurd (none_some j (sym shut ∙ is))

  same_number : (o : Option ℕ) (j k : ℕ) → o ≡ Some j → o ≡ Some k → j ≡ k
  same_number o j k one two = some_is j k (sym one ∙ two)

  course_ends : (turns : List (Told × World Entry)) (row : Row Told (World Entry)) (w : World Entry) (told : Told) (v : World Entry)
      → ((t : Told) (u : World Entry) → Gives before now Failed w row t u → Does w t u) → Course limits before now row w turns told v → Ends w told v
  course_ends [] row w told v does course =
      let it = does told v course.0 in
      elim it.on.leads [
        | inl end ↦ (end, it.on.journal)
        | inr more ↦ no_number (number_after told) more.0 course.1 more.1
      ]
  course_ends (turn ∷ turns) row w told v does course =
      let it = does turn.0 turn.1 course.0 in
      let u = turn.1 in
      let k = course.1 in
      elim it.on.leads [
        | inl end ↦ no_number (number_after turn.0) k (ap number_after end.2) course.2
        | inr more ↦ (
            let same : more.0 ≡ k = same_number (number_after turn.0) more.0 k more.1 course.2 in
            let long : length (holder_journal u.base) ≡ length (holder_journal w.base) = ap length it.on.journal in
            let fits : k ≤ suc (length (holder_journal u.base)) = omega (arith, same, long, more.2) in
            let rest = course_ends turns (pass_row limits u k) u told v (pass_does u k it.keeps.lawful it.on.up (it.keeps.counted k course.2) fits) course.3 in
            (rest.0, rest.1 ∙ it.on.journal))
      ]

  -- catching up comes to the end
  pub catching_up_ends : (w v : World Entry) (last : Told) → IsLawful limits bounds w → AreUp w → w.base.duty.mode ≡ Alone → CatchesUp limits before now w last v → Ends w last v
  catching_up_ends w v last lawful up alone catches = course_ends catches.0 (first_row limits w) w last v (first_does w lawful up alone) catches.1
