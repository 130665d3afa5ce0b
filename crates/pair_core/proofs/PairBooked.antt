-- A booking of a pair is its row of the world.
use Rattle.std.proofs.Common.{◌≡◌, ℕ, suc, ◌+◌, ◌-◌, ◌<◌, ◌≤◌, inl, inr, List, [], ◌∷◌, length, map, refl, sym, ap, subst, ◌∙◌, arith, Option, Some, None, Ok, Err, true, false}
use Rattle.std.specs.Prelude.{slice_get, not, ◌&&◌, nat_le, is_none}
use Rattle.std.proofs.lemmas.List.{length-take-le}
use Rattle.ali_base.specs.Steps.{when}
use Rattle.ali_base.specs.declared.duty.Duty.{Duty}
use Rattle.ali_base.specs.declared.names.NodeName.{NodeName}
use Rattle.crash_disk.specs.DiskState.{DiskState, IsSound}
use Rattle.duty_register.specs.DutyImage as duties
use Rattle.duty_register.specs.OpenRegister as register
use Rattle.duty_register.specs.declared.register.Register.{Register}
use Rattle.node_journal.specs.OpenJournal as journals
use Rattle.office_entry.specs.declared.entry.Entry.{Entry}
use Rattle.office_state.specs.Verdict.{verdict}
use Rattle.office_state.specs.declared.limits.Limits.{Limits}
use Rattle.office_state.specs.declared.verdict.Verdict.{Verdict}
use Rattle.pair_world.specs.Changes.{read_failed, booked_next}
use Rattle.pair_world.specs.Frames.{Frame}
use Rattle.pair_world.specs.Refusals as refusals
use Rattle.pair_world.specs.Refusals.{disk_of, is_alone}
use Rattle.pair_world.specs.Step.{Book}
use Rattle.pair_world.specs.World.{World, node_at, failed_write_at, holder_journal, pending, duty_list, MayList}
use Rattle.world_rows.specs.Counts.{Counts, RoseAt}
use Rattle.world_rows.specs.Histories.{IsLawful, state_of}
use Rattle.world_rows.specs.Rows.{Row, MayFail, Success, Gives}
use Rattle.world_rows.specs.Told.{Told, Refused, Failed, Booked}
use Rattle.world_rows.specs.WorldRows.{book_row, verdict_of}
use Rattle.pair_node.specs.LearnedEntries.{Learns, IsVerdictAt, NextAnswers}
use Rattle.pair_node.specs.NodeState as node
use Rattle.pair_node.specs.declared.faults.LearnFault.{LearnFault}
use Rattle.pair_node.proofs.Learned.{learns_on, fails_on}
use Rattle.pair_core.specs.Pair.{Shows, ShowsNode, AreMoments, IsCall, node_of, is_node_up, is_up, len_of, count_of, duty_of, bounds_of, counts_of}
use Rattle.pair_core.specs.PairAnswers.{LearningCauses, ReadyRest, BookRest, KeepsCourse, told, fault_told}
use Rattle.pair_core.specs.PairChanges.{IsBesideNode, IsLearned, NotLearnedAt}
use Rattle.pair_core.specs.PairNodes.{node_in, put, sent_told}
use Rattle.pair_core.specs.PairRefusals as rows
use Rattle.pair_core.specs.PairWrites.{HasOneMore}
use Rattle.pair_core.specs.declared.faults.PairFault.{PairFault}
use Rattle.pair_core.specs.declared.faults.PairFault.TheVariants as fault
use Rattle.pair_core.specs.declared.nodes.Nodes.{Nodes as OwnNodes}
use Rattle.pair_core.specs.declared.pair.Pair.{Pair}
use Rattle.pair_core.proofs.PairLearned.{Gave, IsFault, IsInStep, in_step, learned_shown, long_at, not_learned, failed_learning, beside_on, bounds_kept, put_again, is_call}
use Rattle.pair_core.proofs.PairRows as own
use Rattle.pair_core.proofs.PairRows.{AreRow, Matches, matched, all_none, not_when, when_not, le_false_lt}
use Rattle.pair_core.proofs.PairShown.{at_each}
use Rattle.pair_core.proofs.PairWritten.{no_flight, up_there, node_represented, node_moments}
use Rattle.pair_node.proofs.Quiet.{quiet}

-- ---- refusals of the pair that are those of the world

module _ {D : Type 0} (state : D → DiskState) (limits : Limits) (p : Pair D) (w : World Entry) (shown : Shows state limits p w) where
  unstored : Matches (rows.unstored p) (refusals.unstored w)
  unstored = subst (λ (d : Duty). Matches (rows.unstored p) (when (not (is_alone d.mode) && nat_le w.base.acked (length w.base.booked)) (refusals.Unstored (suc (length w.base.booked)) d.epoch))) shown.duty
      (matched (not (is_alone (duty_of p).mode) && nat_le p.acked (count_of p)) (not (is_alone (duty_of p).mode) && nat_le w.base.acked (length w.base.booked)) (fault.Unstored (suc (count_of p)) (duty_of p).epoch) (refusals.Unstored (suc (length w.base.booked)) (duty_of p).epoch)
      (λ i. not (is_alone (duty_of p).mode) && nat_le (shown.acked i) (shown.count i)) (ap (λ (m : ℕ). Some (Refused (refusals.Unstored (suc m) (duty_of p).epoch))) shown.count))

  holder_there : refusals.node_is_down w w.base.duty.holder ≡ None → is_node_up p (rows.holder p) ≡ true
  holder_there none = subst (λ m. is_node_up p m ≡ true) (ap (λ (d : Duty). d.holder) (sym shown.duty)) (up_there state limits p w shown w.base.duty.holder none)

  -- the row of a booking
  book_tests : AreRow (rows.duty_is_down p ∷ rows.node_is_down p (rows.holder p) ∷ rows.no_flight p ∷ rows.unstored p ∷ [])
      (refusals.duty_is_down w ∷ refusals.node_is_down w w.base.duty.holder ∷ refusals.no_flight w ∷ refusals.unstored w ∷ [])
  book_tests = (own.duty_is_down state limits p w shown, λ _. (own.holder_is_down state limits p w shown, λ up. (no_flight state limits p w shown (holder_there up), λ _. (unstored, λ _. tt))))

-- ---- a booking whose refusals are passed

-- the rest of its row
abbrev book_rest : Limits → World Entry → Row Told (World Entry)
book_rest limits w =
    let h = w.base.duty.holder in
    MayFail (disk_of h) (read_failed w h)
    (Success (Booked (suc (length w.base.booked)) (verdict_of (state_of limits w) (pending w.base))) (record w { base = booked_next w.base }))

-- what holds then
pub record IsPassed {D : Type 0} (p : Pair D) : Type 0 where
  pub register_up : is_up p ≡ true
  pub up : is_node_up p (rows.holder p) ≡ true
  pub pending : count_of p < len_of p (rows.holder p)

pub book_passed : {D : Type 0} (p : Pair D) → rows.book_refusal p ≡ None → IsPassed p
book_passed p none =
    let all = all_none (rows.duty_is_down p ∷ rows.node_is_down p (rows.holder p) ∷ rows.no_flight p ∷ rows.unstored p ∷ []) none in
    record {
      register_up = own.up_for p (rows.node_is_down p (rows.holder p) ∷ rows.no_flight p ∷ rows.unstored p ∷ []) none;
      up = when_not (is_node_up p (rows.holder p)) (fault.Down (disk_of (rows.holder p))) all.1.0;
      pending = le_false_lt (len_of p (rows.holder p)) (count_of p) (not_when (nat_le (len_of p (rows.holder p)) (count_of p)) fault.NoFlight all.1.1.0);
    }

beside_nodes : {D : Type 0} (old mid new : Pair D) (n : NodeName) → IsBesideNode old mid n → HasOneMore mid new n → new.nodes ≡ put old.nodes n (node_of new n)
beside_nodes old mid new n first more = more.nodes ∙ ap (λ (x : OwnNodes _). put x n (node_of new n)) first.nodes ∙ put_again old.nodes n (node_of mid n) (node_of new n)

-- the pending entry is learned, and booked
module _ {D : Type 0} (state : D → DiskState) (limits : Limits) (mid new : Pair D) (w : World Entry) (n : NodeName) (shown : Shows state limits mid w) (up : is_node_up mid n ≡ true) (mine : n ≡ w.base.duty.holder)
    (learns : Learns state (node_of mid n) (node_of new n)) (more : HasOneMore mid new n) (flight : count_of mid < len_of mid n) where
  own_node : node.is_usable (node_of new n) ≡ true → ShowsNode state limits n (node_of new n) (node_at w.base.nodes n) (failed_write_at w.failed_writes n)
  own_node still =
      node_represented state limits new n (node_at w.base.nodes n) (failed_write_at w.failed_writes n) still ((shown.nodes n).up ∙ up) ((shown.nodes n).known ∙ sym learns.known)
      (learns.represents limits (node_at w.base.nodes n).journal ((shown.nodes n).frames up))

  one_booked : length (booked_next w.base).booked ≡ suc (length w.base.booked)
  one_booked =
      let long = long_at state limits mid w n shown up in
      length-take-le (suc (length w.base.booked)) (holder_journal w.base) (subst (λ m. suc (length w.base.booked) ≤ length (node_at w.base.nodes m).journal) mine (omega (arith, flight, long, shown.count)))

  pub booked_shown : node.is_usable (node_of new n) ≡ true → Shows state limits new (record w { base = booked_next w.base })
  booked_shown still = record {
    tells = shown.tells;
    nodes = subst (λ (x : OwnNodes D). (k : NodeName) → ShowsNode state limits k (node_in x k) (node_at w.base.nodes k) (failed_write_at w.failed_writes k)) (sym more.nodes)
        (at_each mid n (node_of new n) (λ k y. ShowsNode state limits k y (node_at w.base.nodes k) (failed_write_at w.failed_writes k)) shown.nodes (own_node still));
    duty = more.duty ∙ shown.duty;
    register_up = shown.register_up ∙ ap (λ (f : Option Duty). is_none f) (sym more.failed);
    failed = more.failed ∙ shown.failed;
    images = subst (λ (r : Register D). (image : List ℕ) → (state (register.disk_of r)).may_leave image → (list : List Duty) × duties.StandsFor list image × MayList w list) (sym more.register) shown.images;
    duties = λ is. subst (λ (r : Register D). register.Represents state r (duty_list w.base.duty w.base.past)) (sym more.register) (shown.duties (ap (λ (f : Option Duty). is_none f) (sym more.failed) ∙ is));
    count = omega (arith, more.count, shown.count, one_booked);
    acked = more.acked ∙ shown.acked;
    ended = more.ended ∙ shown.ended;
    messages = ap (λ ms. map sent_told ms.items) more.messages ∙ shown.messages;
  }

module _ {D : Type 0} (state : D → DiskState) (limits : Limits) (old : Pair D) (w : World Entry) (shown : Shows state limits old w) (lawful : IsLawful limits (bounds_of old) w) (none : rows.book_refusal old ≡ None) where
  abbrev n : NodeName
  n = rows.holder old

  lift : (now : Counts) (t : Told) (v : World Entry) → Gives (counts_of state old) now Failed w (book_rest limits w) t v → Gives (counts_of state old) now Failed w (book_row limits w) t v
  lift now t v gives = own.passed (counts_of state old) now (state_of limits w) w (book_rest limits w)
      (rows.duty_is_down old ∷ rows.node_is_down old (rows.holder old) ∷ rows.no_flight old ∷ rows.unstored old ∷ [])
      (refusals.duty_is_down w ∷ refusals.node_is_down w w.base.duty.holder ∷ refusals.no_flight w ∷ refusals.unstored w ∷ []) t v (book_tests state limits old w shown) none gives

  mine : n ≡ w.base.duty.holder
  mine = ap (λ (d : Duty). d.holder) shown.duty

  -- the table does not learn
  pub book_unread : (new : Pair D) → IsLearned state old new n → (f : PairFault) → LearningCauses state old new n f → Gave state limits old new w (λ lasted u. book_row limits u) (fault_told f)
  book_unread new learned f causes =
      not_learned state limits old new w n shown learned lawful (inl mine) (λ lasted u. book_row limits u)
      (λ rose. lift (counts_of state new) (Failed (disk_of n)) (read_failed w n)
      (inl (ap (λ m. Failed (disk_of m)) mine, ap (λ m. read_failed w m) mine, subst (λ m. RoseAt (counts_of state old) (counts_of state new) (disk_of m)) mine rose)))
      f causes

  module _ (mid new : Pair D) (learned : IsLearned state old mid n) (ready : ReadyRest state old mid n (Ok tt)) (learns : Learns state (node_of mid n) (node_of new n)) (more : HasOneMore mid new n) where
    still : is_node_up mid n ≡ true
    still = ready.0.1

    mid_shown : Shows state limits mid w
    mid_shown = learned_shown state limits old mid w n shown learned (book_passed old none).up still

    step : IsInStep state limits mid w n mid_shown still
    step = in_step state limits mid w n mid_shown still (subst (λ b. IsLawful limits b w) (sym (bounds_kept state old mid n learned.1.nodes learned.1.register learned.0.journal.fixed)) lawful) (inl mine) ready.3

    flight : count_of mid < len_of mid n
    flight = omega (arith, (book_passed old none).pending, learned.1.count, ready.2)

    -- the verdict is that of the pending frame
    verdict_is : (v : Verdict) → IsVerdictAt state (node_of mid n) (node.learned_of (node_of mid n) + 1) v → v ≡ verdict_of (state_of limits w) (pending w.base)
    verdict_is v found =
        let frames : List (Frame Entry) = (node_at w.base.nodes n).journal in
        let index : node.learned_of (node_of mid n) + 1 - 1 ≡ length w.base.booked = omega (arith, step.learned) in
        let f : Frame Entry = journals.frame_at (node.journal_of (node_of mid n)) (node.learned_of (node_of mid n) + 1) found.0 in
        let at : slice_get frames (length w.base.booked) ≡ Some f = subst (λ (k : ℕ). slice_get frames k ≡ Some f) index (found.1.listed frames step.represents.journal) in
        let here : pending w.base ≡ Some f = subst (λ m. slice_get (node_at w.base.nodes m).journal (length w.base.booked) ≡ Some f) mine at in
        found.2 ∙ ap (λ s. verdict s found.0) step.table ∙ ap (verdict_of (state_of limits w)) (sym here)

    pub booked_does : (v : Verdict) → NextAnswers state (node_of mid n) (node_of new n) (Ok v) → Gave state limits old new w (λ lasted u. book_row limits u) (Some (Booked (count_of new) v))
    booked_does v answer =
        let number : count_of new ≡ suc (length w.base.booked) = omega (arith, more.count, learned.1.count, shown.count) in
        let same = verdict_is v answer.2 in (
          record w { base = booked_next w.base },
          booked_shown state limits mid new w n mid_shown still mine learns more flight answer.1,
          (false, lift (counts_of state new) (Booked (count_of new) v) (record w { base = booked_next w.base }) (inr ((λ i. Booked (number i) (same i)), refl))),
        )

    pub booked_moments : ((disk : D) → IsSound (state disk)) → AreMoments state limits old new w Book
    booked_moments sound =
        let all = learns_on state (node_of old n) (node_of mid n) (node_of new n) (sound _) learned.0 learns in
        let nodes : new.nodes ≡ put old.nodes n (node_of new n) = (beside_nodes old mid new n learned.1 more) in
        node_moments state limits old new w Book n shown nodes (more.register ∙ learned.1.register) sound
        (quiet (state (node.disk_of (node_of old n))) (state (node.disk_of (node_of new n))) _ (sound _) all.journal.stays
        (λ image left. let it = (shown.nodes n).images image left in (it.0, it.1, (w, inl refl, it.2))))

-- ---- why each answer of a booking comes

pub unread_causes : {D : Type 0} (state : D → DiskState) (old new : Pair D) (n : NodeName) (f : PairFault) → LearningCauses state old new n f → KeepsCourse state old new → BookRest state old new n (Err f)
unread_causes state old new n f causes course = (causes, course)

module _ {D : Type 0} (state : D → DiskState) (old mid new : Pair D) (n : NodeName) (up : is_up old ≡ true) (pending : count_of old < len_of old n) (learned : IsLearned state old mid n) (ready : ReadyRest state old mid n (Ok tt)) where
  pub booked_causes : (v : Verdict) → NextAnswers state (node_of mid n) (node_of new n) (Ok v) → Learns state (node_of mid n) (node_of new n) → HasOneMore mid new n → BookRest state old new n (Ok (record { number = count_of new; code = v.code; detail = v.detail }))
  booked_causes v answer learns more =
      let number : count_of new ≡ count_of old + 1 = omega (arith, more.count, learned.1.count) in
      let at : node.learned_of (node_of mid n) + 1 ≡ count_of new = omega (arith, number, ready.3, learned.1.count) in (
        (ready.0.0, answer.1),
        pending,
        number,
        number,
        more.duty ∙ learned.1.duty,
        ap (λ (f : Option Duty). is_none f) (more.failed ∙ learned.1.failed) ∙ up,
        (node_of mid n, learned.0, learns, ready.3 ∙ learned.1.count, subst (λ (k : ℕ). IsVerdictAt state (node_of mid n) k v) at answer.2),
      )

  pub booked_call : ((disk : D) → IsSound (state disk)) → Learns state (node_of mid n) (node_of new n) → HasOneMore mid new n → IsCall state old new
  booked_call sound learns more =
      let all = learns_on state (node_of old n) (node_of mid n) (node_of new n) (sound _) learned.0 learns in
      is_call state old new n (beside_nodes old mid new n learned.1 more) (more.register ∙ learned.1.register) all.journal.fixed (omega (arith, more.count, learned.1.count))

  -- the pending entry is not learned
  pub unbooked : (far : Pair D) → ((disk : D) → IsSound (state disk)) → (f : LearnFault) (told : PairFault) → NextAnswers state (node_of mid n) (node_of far n) (Err f) → Learns state (node_of mid n) (node_of far n) → IsBesideNode mid far n → NotLearnedAt far new n f told → IsFault state old new n told
  unbooked far sound f told answer learns beside is =
      failed_learning state old far new n f told ready.0.0
      (learns_on state (node_of old n) (node_of mid n) (node_of far n) (sound _) learned.0 learns, beside_on old mid far n learned.1 beside)
      (fails_on state (node_of old n) (node_of mid n) (node_of far n) f learned.0 answer.1) is

-- a refusal of the row of a booking: the world stays
pub book_refused : {D : Type 0} (state : D → DiskState) (limits : Limits) (p : Pair D) (w : World Entry) → Shows state limits p w → (f : PairFault) → rows.book_refusal p ≡ Some f
    → Gave state limits p p w (λ lasted u. book_row limits u) (fault_told f)
book_refused state limits p w shown f is =
    own.refused_does state limits p w shown (λ lasted u. book_row limits u) f (rows.duty_is_down p ∷ rows.node_is_down p (rows.holder p) ∷ rows.no_flight p ∷ rows.unstored p ∷ []) is
    (λ t same. own.refused (counts_of state p) (counts_of state p) (state_of limits w) w (book_rest limits w)
    (rows.duty_is_down p ∷ rows.node_is_down p (rows.holder p) ∷ rows.no_flight p ∷ rows.unstored p ∷ [])
    (refusals.duty_is_down w ∷ refusals.node_is_down w w.base.duty.holder ∷ refusals.no_flight w ∷ refusals.unstored w ∷ [])
    f t (book_tests state limits p w shown) is same)
