-- What passing a frame on does in the worlds that a pair shows, and why each answer comes.
use Rattle.std.proofs.Common.{◌≡◌, ℕ, suc, ◌+◌, ◌-◌, ◌≤◌, inl, inr, List, [], ◌∷◌, ◌++◌, length, refl, sym, ap, subst, ◌∙◌, arith, Option, Some, None, Result, Ok, Err, Bool, true, false}
use Rattle.std.specs.Prelude.{not, nat_lt, is_none, slice_get, option_map, if◌then◌else◌}
use Rattle.std.proofs.lemmas.Bool.Decides.{nat_tests}
use Rattle.std.proofs.lemmas.Option.{same_Some}
use Rattle.ali_base.specs.Steps.{when}
use Rattle.ali_base.specs.Faults.{Rose}
use Rattle.ali_base.specs.declared.duty.Duty.{Duty}
use Rattle.ali_base.specs.declared.names.DiskName.TheVariants as disks
use Rattle.ali_base.specs.declared.names.NodeName.{NodeName}
use Rattle.ali_base.specs.declared.names.NodeName.TheVariants.{A, B}
use Rattle.crash_disk.specs.CrashOutcomes.{Stays}
use Rattle.crash_disk.specs.DiskState.{DiskState, IsSound}
use Rattle.crash_disk.specs.Moments.{EachMoment}
use Rattle.crash_disk.proofs.Runs.{stays_here}
use Rattle.duty_register.specs.OpenRegister as register
use Rattle.duty_register.specs.declared.register.Register.{Register}
use Rattle.node_journal.specs.OpenJournal as journals
use Rattle.node_journal.specs.declared.faults.DiskFault.{DiskFault}
use Rattle.office_entry.specs.declared.entry.Entry.{Entry}
use Rattle.office_state.specs.declared.limits.Limits.{Limits}
use Rattle.pair_world.specs.Changes.{shipment, shipped, ack_delivered, read_failed, write_failed, journal_stored}
use Rattle.pair_world.specs.Deliveries as answers
use Rattle.pair_world.specs.Deliveries.{Answer, NodeMessage, answer, told_as, reply_to, ack_of, message_from}
use Rattle.pair_world.specs.Frames.{Frame, item_at, OnItem}
use Rattle.pair_world.specs.Moments.{IsUnderWay}
use Rattle.pair_world.specs.Passing.{passed as passed_world, passed_acked}
use Rattle.pair_world.specs.Refusals as refusals
use Rattle.pair_world.specs.Refusals.{disk_of}
use Rattle.pair_world.specs.Replies.{receiver_changed}
use Rattle.pair_world.specs.Step.{CanStore, Deliver, FailsToStore, OnShipment}
use Rattle.pair_world.specs.World.{World, Resolved, Message, Ships, Shipment, known, node_at, other, acked_to, holder_journal, told_by}
use Rattle.world_rows.specs.Counts.{Counts, RoseAt}
use Rattle.world_rows.specs.Histories.{due_after, state_of}
use Rattle.world_rows.specs.Rows.{Row, Gives, MayFail, Unless as RowUnless}
use Rattle.world_rows.specs.Told.{Told, Refused, Failed}
use Rattle.world_rows.specs.WorldRows.{unless, journal_at}
use Rattle.world_rows.specs.WorldSteps.{OfficeEvent, Comes}
use Rattle.pair_node.specs.Messages.{as_told, as_delivered, as_ack, ack_made}
use Rattle.pair_node.specs.NodeState as node
use Rattle.pair_node.specs.StoredMessage.{is_change}
use Rattle.pair_node.specs.declared.message.Ack.{Ack}
use Rattle.pair_node.specs.declared.message.Delivered.{Delivered}
use Rattle.pair_node.specs.declared.message.Message.{Message as OwnMessage}
use Rattle.pair_node.specs.declared.node.Node.{Node}
use Rattle.pair_core.specs.Pair.{Shows, AreMoments, IsCall, LeavesJournal, node_of, is_node_up, is_up, len_of, duty_of, counts_of, disk_at, bounds_of}
use Rattle.pair_core.specs.PairAnswers.{fault_told, passed_told, acked_after, ended_after, may_pass, IsStored, PassRest, KeepsCourse}
use Rattle.pair_core.specs.PairChanges.{IsBesideNode}
use Rattle.pair_core.specs.PairMessages.{IsStoring, IsMade, MadeAnswers, hearing}
use Rattle.pair_core.specs.PairPassing.{pass_row, passed_row}
use Rattle.pair_core.specs.PairRefusals as rows
use Rattle.pair_core.specs.declared.faults.PairFault.{PairFault}
use Rattle.pair_core.specs.declared.faults.PairFault.TheVariants as fault
use Rattle.pair_core.specs.declared.pair.Pair.{Pair}
use Rattle.pair_core.proofs.PairDelivered.{heard_is, fresh_told, it_is, own_frames}
use Rattle.pair_core.proofs.PairMessages.{call_on, node_call, else_same, rose_at, heard_shown, heard_call, read_shown, read_down, stored_shown, store_failed, after_stored, told_there, fails_there, store_moments, one_moves, still_moments}
use Rattle.pair_core.proofs.PairReceived.{fresh_test}
use Rattle.pair_core.proofs.PairRows as own
use Rattle.pair_core.proofs.PairRows.{AreRow, passed, refused, refused_does, all_none, when_not, not_when}
use Rattle.pair_core.proofs.PairShipped.{shipping_are}
use Rattle.pair_core.proofs.PairShown.{all_stay}

not_other : (n : NodeName) → n ≡ other n → ⊥
not_other A is = absurd (cc)
not_other B is = absurd (cc)

-- ---- what is passed on is never stale, and is no acknowledgement

answer_passes : (frames : List (Frame Entry)) (t : NodeMessage Entry) (a : Answer Entry) → may_pass (as_delivered (told_as frames t a)) ≡ true
answer_passes frames t answers.Behind = refl
answer_passes frames t answers.Have = refl
answer_passes frames t (answers.Cut left) = refl
answer_passes frames t (answers.Stored f) = refl
answer_passes frames t answers.Have_end = refl

reply_passes : (known : ℕ) (frames : List (Frame Entry)) (t : NodeMessage Entry) → known ≤ t.epoch → may_pass (as_delivered (reply_to known frames t)) ≡ true
reply_passes known frames t fresh = by_test (nat_lt t.epoch known) refl
  where
    by_test : (b : Bool) → nat_lt t.epoch known ≡ b → may_pass (as_delivered (if b then answers.Told_stale t.epoch known else told_as frames t (answer frames t))) ≡ true
    by_test true is = absurd (grind (arith, nat_tests))
    by_test false is = answer_passes frames t (answer frames t)

-- the refusal that a node is down says so
down_is : (b : Bool) (g f : PairFault) → when (not b) g ≡ Some f → (b ≡ false) × (g ≡ f)
down_is true g f is = absurd (cc)
down_is false g f is = (refl, same_Some g f is)

-- the last of the messages
last_there : (ms : List (Message Entry)) (t : Message Entry) → item_at (ms ++ t ∷ []) (suc (length ms)) ≡ Some t
last_there ms t = at_end ms
  where
    at_end : (ms : List (Message Entry)) → slice_get (ms ++ t ∷ []) (length ms) ≡ Some t
    at_end [] = refl
    at_end (y ∷ ms) = at_end ms

-- ---- what a frame that is passed on finds where no refusal holds

module _ {D : Type 0} (p : Pair D) (k : ℕ) (none : rows.shipping_refusal p k ≡ None) where
  all : own.AllNone (rows.duty_is_down p ∷ rows.node_is_down p (rows.holder p) ∷ rows.no_entry p k ∷ [])
  all = all_none (rows.duty_is_down p ∷ rows.node_is_down p (rows.holder p) ∷ rows.no_entry p k ∷ []) none

  pub passing_register : is_up p ≡ true
  passing_register = when_not (is_up p) (fault.Down disks.Duty) all.0

  pub passing_up : is_node_up p (rows.holder p) ≡ true
  passing_up = when_not (is_node_up p (rows.holder p)) (fault.Down (disk_of (rows.holder p))) all.1.0

  pub passing_near : k ≤ len_of p (rows.holder p) + 1
  passing_near = near (len_of p (rows.holder p)) (not_when (nat_lt (suc (len_of p (rows.holder p))) k) (fault.NoEntry k (len_of p (rows.holder p))) all.1.1.0)
    where
      near : (l : ℕ) → nat_lt (suc l) k ≡ false → k ≤ l + 1
      near l is = grind (arith, nat_tests)

-- ---- why each answer comes

module _ {D : Type 0} (state : D → DiskState) (old p1 : Pair D) (k : ℕ) (none : rows.shipping_refusal old k ≡ None) where
  abbrev n : NodeName
  n = rows.holder old

  module _ (result : Result OwnMessage PairFault) (made : IsMade state old p1 n k result) where
    course : KeepsCourse state old p1
    course = (made.beside.count, made.beside.duty, ap (λ (o : Option Duty). is_none o) made.beside.failed)

    pub made_call : IsCall state old p1
    made_call = node_call state old p1 n made.beside made.read.journal.fixed

    -- the other node is as it was
    pub other_same : node_of p1 (other n) ≡ node_of old (other n)
    other_same = else_same state old p1 n made.beside (other n) (λ is. not_other n (sym is))

  pub pass_err : (f : PairFault) → IsMade state old p1 n k (Err f) → PassRest state old p1 n k (Err f)
  pass_err f made = by_fault f made.answer (course (Err f) made)
    where
      by_fault : (f : PairFault) → MadeAnswers state old p1 n k (Err f) → KeepsCourse state old p1 → PassRest state old p1 n k (Err f)
      by_fault (fault.Fault disk) answer kept = (
        inl (answer.0, (passing_up old k none, answer.2)),
        subst (RoseAt (counts_of state old) (counts_of state p1)) (sym answer.0) (rose_at state old p1 n answer.1),
        kept,
      )
      by_fault (fault.Damaged disk frame) answer kept = (answer.0, (passing_up old k none, answer.3), answer.1, answer.2, kept)
      by_fault refusal answer kept = absurd answer

  module _ (m : OwnMessage) (made : IsMade state old p1 n k (Ok m)) where
    -- the other node is down
    pub pass_down : (f : PairFault) → rows.node_is_down p1 (other n) ≡ Some f → PassRest state old p1 n k (Err f)
    pass_down f is =
        let down = down_is (is_node_up p1 (other n)) (fault.Down (disk_of (other n))) f is in
        subst (λ (g : PairFault). PassRest state old p1 n k (Err g)) down.1 (
          refl,
          (passing_up old k none, made.answer.2),
          (ap (λ (x : Node D). node.is_usable x) (sym (other_same (Ok m) made)) ∙ down.0, down.0),
          course (Ok m) made,
        )

    module _ (p2 : Pair D) (beside : IsBesideNode p1 p2 (other n)) (up : is_node_up p1 (other n) ≡ true) where
      course_on : KeepsCourse state old p2
      course_on =
          let first = course (Ok m) made in
          (beside.count ∙ first.0, beside.duty ∙ first.1, ap (λ (o : Option Duty). is_none o) beside.failed ∙ first.2)

      was_up : is_node_up old (other n) ≡ true
      was_up = ap (λ (x : Node D). node.is_usable x) (sym (other_same (Ok m) made)) ∙ up

      -- the holder is as it was once the message was made
      holder_same : node_of p2 n ≡ node_of p1 n
      holder_same = else_same state p1 p2 (other n) beside n (not_other n)

      -- the disk of the other node failed
      pub rose_over : (e : DiskFault) → IsStoring state (node_of p1 (other n)) (node_of p2 (other n)) m (Err e) → RoseAt (counts_of state old) (counts_of state p2) (disk_of (other n))
      rose_over e stored =
          rose_at state old p2 (other n)
          (subst (λ (x : Node D). Rose (state (node.disk_of x)).faults (state (node.disk_of (node_of p2 (other n)))).faults) (other_same (Ok m) made) stored.changed.answer.0)

      pub pass_failed : (e : DiskFault) → IsStoring state (node_of p1 (other n)) (node_of p2 (other n)) m (Err e) → PassRest state old p2 n k (Err (fault.Fault (disk_of (other n))))
      pass_failed e stored = (inr (refl, (was_up, stored.changed.answer.1)), rose_over e stored, course_on)

      pub pass_call : (result : Result Delivered DiskFault) → IsStoring state (node_of p1 (other n)) (node_of p2 (other n)) m result → IsCall state old p2
      pass_call result stored = call_on state old p1 p2 (made_call (Ok m) made) (node_call state p1 p2 (other n) beside stored.changed.fixed)

      module _ (it : Delivered) (stored : IsStoring state (node_of p1 (other n)) (node_of p2 (other n)) m (Ok it)) where
        fresh : may_pass it ≡ true
        fresh =
            let own_is = it_is (node_of p1 (other n)) (node_of p2 (other n)) m it stored.answer in
            let epoch : (duty_of p1).epoch ≡ m.epoch = ap (λ (d : Duty). d.epoch) made.beside.duty ∙ sym made.answer.0.present in
            let late = p1.known (other n) in
            ap may_pass own_is ∙ reply_passes (node.known_of (node_of p1 (other n))) (own_frames (node_of p1 (other n)) (node_of p2 (other n)) m it stored.answer) (as_told m) (omega (arith, late, epoch))

        pub pass_ok : PassRest state old (hearing p2 (ack_made it)) n k (Ok it)
        pass_ok = (
          (passing_up old k none, ap (λ (x : Node D). node.is_usable x) holder_same ∙ made.answer.2),
          (was_up, stored.changed.answer.1),
          course_on,
          record {
            message = m;
            made = made.answer.0;
            stored = subst (λ (x : Node D). IsStored x (node_of p2 (other n)) m it) (other_same (Ok m) made) (record { answers = stored.answer; left = stored.changed.answer.0 });
            epochs = ap (λ (x : Node D). journals.epochs_of (node.journal_of x)) holder_same ∙ made.read.journal.known;
            acked = ap (acked_after (ack_made it)) (beside.acked ∙ made.beside.acked);
            ended = ap (ended_after (ack_made it)) (beside.ended ∙ made.beside.ended);
            sent = ap (λ ms. ms.items) (beside.messages ∙ made.beside.messages);
            fresh = fresh;
          },
        )

        pub heard_on_call : IsCall state old (hearing p2 (ack_made it))
        heard_on_call = call_on state old p2 (hearing p2 (ack_made it)) (pass_call (Ok it) stored) (heard_call state p2 (ack_made it))

-- ---- in the worlds that the pair shows

module _ {D : Type 0} (state : D → DiskState) (limits : Limits) (old : Pair D) (w : World Entry) (k : ℕ) (shown : Shows state limits old w) where
  abbrev h : NodeName
  h = w.base.duty.holder

  abbrev x : Shipment Entry
  x = shipment w.base k

  abbrev journal : List (Frame Entry)
  journal = journal_at w (other h)

  abbrev delivery : OfficeEvent
  delivery = Deliver (suc (length w.base.messages))

  abbrev stores : Row Told (World Entry)
  stores = passed_row limits w k x (answer journal (told_by x))

  abbrev receives : Row Told (World Entry)
  receives = unless (state_of limits w) (refusals.receiving_row w x) stores

  abbrev reads : Row Told (World Entry)
  reads = MayFail (disk_of h) (read_failed w h) receives

  pub pass_refused : (f : PairFault) → rows.shipping_refusal old k ≡ Some f → (v : World Entry) × Shows state limits old v × Comes (counts_of state old) (counts_of state old) w (λ lasted u. pass_row limits u k) (fault_told f) v
  pass_refused f is =
      refused_does state limits old w shown (λ lasted u. pass_row limits u k) f
      (rows.duty_is_down old ∷ rows.node_is_down old (rows.holder old) ∷ rows.no_entry old k ∷ []) is
      (λ t same. refused (counts_of state old) (counts_of state old) (state_of limits w) w reads
      (rows.duty_is_down old ∷ rows.node_is_down old (rows.holder old) ∷ rows.no_entry old k ∷ [])
      (refusals.duty_is_down w ∷ refusals.node_is_down w h ∷ refusals.no_entry w k ∷ [])
      f t (shipping_are state limits old w shown k) is same)

  module _ (p1 : Pair D) (none : rows.shipping_refusal old k ≡ None) where
    passes : (now : Counts) (t : Told) (v : World Entry) → Gives (counts_of state old) now Failed w reads t v → Gives (counts_of state old) now Failed w (pass_row limits w k) t v
    passes now t v gives =
        passed (counts_of state old) now (state_of limits w) w reads
        (rows.duty_is_down old ∷ rows.node_is_down old (rows.holder old) ∷ rows.no_entry old k ∷ [])
        (refusals.duty_is_down w ∷ refusals.node_is_down w h ∷ refusals.no_entry w k ∷ [])
        t v (shipping_are state limits old w shown k) none gives

    held_up : is_node_up old h ≡ true
    held_up = ap (λ (d : Duty). is_node_up old d.holder) (sym shown.duty) ∙ passing_up old k none

    -- the message is not made
    pub pass_unmade : (f : PairFault) → IsMade state old p1 h k (Err f) → (v : World Entry) × Shows state limits p1 v × Comes (counts_of state old) (counts_of state p1) w (λ lasted u. pass_row limits u k) (fault_told f) v
    pass_unmade f made = by_fault f made.answer
      where
        by_fault : (f : PairFault) → MadeAnswers state old p1 h k (Err f) → (v : World Entry) × Shows state limits p1 v × Comes (counts_of state old) (counts_of state p1) w (λ lasted u. pass_row limits u k) (fault_told f) v
        by_fault (fault.Fault disk) answer = (
          read_failed w h,
          read_down state limits old p1 w h shown made.beside made.read answer.2,
          (false, passes (counts_of state p1) (Failed disk) (read_failed w h) (inl (ap Failed answer.0, refl, rose_at state old p1 h answer.1))),
        )
        by_fault (fault.Damaged disk frame) answer = absurd (answer.2.none (node_at w.base.nodes h).journal ((shown.nodes h).frames held_up).journal)
        by_fault refusal answer = absurd answer

    module _ (m : OwnMessage) (made : IsMade state old p1 h k (Ok m)) where
      told : as_told m ≡ told_by x
      told =
          made.answer.0.told (node_at w.base.nodes h).journal ((shown.nodes h).frames held_up).journal
          ∙ ap (λ (d : Duty). message_from d.epoch (holder_journal w.base) k) shown.duty

      made_shown : Shows state limits p1 w
      made_shown = read_shown state limits old p1 w h shown made.beside made.read held_up made.answer.2

      -- the other node is down
      pub pass_other_down : (f : PairFault) → rows.node_is_down p1 (other h) ≡ Some f → (v : World Entry) × Shows state limits p1 v × Comes (counts_of state old) (counts_of state p1) w (λ lasted u. pass_row limits u k) (fault_told f) v
      pass_other_down f is =
          let down = down_is (is_node_up p1 (other h)) (fault.Down (disk_of (other h))) f is in
          subst (λ (g : PairFault). (v : World Entry) × Shows state limits p1 v × Comes (counts_of state old) (counts_of state p1) w (λ lasted u. pass_row limits u k) (fault_told g) v) down.1 (
            w,
            made_shown,
            (
              false,
              passes (counts_of state p1) (Refused (refusals.Down (disk_of (other h)))) w (inr (
                  refused (counts_of state old) (counts_of state p1) (state_of limits w) w (RowUnless (option_map Refused (refusals.stale w x)) stores)
                  (rows.node_is_down p1 (other h) ∷ []) (refusals.node_is_down w (other h) ∷ []) f (Refused (refusals.Down (disk_of (other h))))
                  (own.node_is_down state limits p1 w made_shown (other h), λ _. tt) is (ap fault_told (sym down.1))
                  )),
            ),
          )

      module _ (p2 : Pair D) (beside : IsBesideNode p1 p2 (other h)) (up : is_node_up p1 (other h) ≡ true) where
        fresh_there : known w.base (other h) ≤ x.epoch
        fresh_there =
            let late = p1.known (other h) in
            let mine : known w.base (other h) ≡ node.known_of (node_of p1 (other h)) = (made_shown.nodes (other h)).known in
            let epoch : (duty_of p1).epoch ≡ w.base.duty.epoch = ap (λ (d : Duty). d.epoch) made_shown.duty in
            omega (arith, late, mine, epoch)

        receives_then : (now : Counts) (t : Told) (v : World Entry) → Gives (counts_of state old) now Failed w stores t v → Gives (counts_of state old) now Failed w receives t v
        receives_then now t v gives =
            passed (counts_of state old) now (state_of limits w) w (RowUnless (option_map Refused (refusals.stale w x)) stores)
            (rows.node_is_down p1 (other h) ∷ []) (refusals.node_is_down w (other h) ∷ []) t v
            (own.node_is_down state limits p1 w made_shown (other h), λ _. tt) (ap (λ (b : Bool). when (not b) (fault.Down (disk_of (other h)))) up) (inr (fresh_test w x fresh_there, gives))

        -- its disk fails where the journal is changed
        row_fails : (a : Answer Entry) → is_change (as_delivered (told_as journal (told_by x) a)) ≡ true → RoseAt (counts_of state old) (counts_of state p2) (disk_of (other h))
            → Gives (counts_of state old) (counts_of state p2) Failed w (passed_row limits w k x a) (Failed (disk_of (other h))) (write_failed w (other h) (journal_stored w.base x))
        row_fails answers.Behind is rose = absurd (cc)
        row_fails answers.Have is rose = absurd (cc)
        row_fails (answers.Cut left) is rose = inl (refl, refl, rose)
        row_fails (answers.Stored f) is rose = inl (refl, refl, rose)
        row_fails answers.Have_end is rose = absurd (cc)

        pub pass_unstored : (e : DiskFault) → IsSound (state (node.disk_of (node_of p2 (other h)))) → RoseAt (counts_of state old) (counts_of state p2) (disk_of (other h)) → IsStoring state (node_of p1 (other h)) (node_of p2 (other h)) m (Err e)
            → (v : World Entry) × Shows state limits p2 v × Comes (counts_of state old) (counts_of state p2) w (λ lasted u. pass_row limits u k) (Some (Failed (disk_of (other h)))) v
        pass_unstored e sound rose stored =
            let v : World Entry = write_failed w (other h) (journal_stored w.base x) in (
              v,
              subst (λ (js : List (Frame Entry)). Shows state limits p2 (write_failed w (other h) js)) (after_stored state limits p1 p2 w x m told made_shown up beside fresh_there) (store_failed state limits p1 p2 w x m told made_shown up beside e sound stored),
              (
                false,
                passes (counts_of state p2) (Failed (disk_of (other h))) v (inr (receives_then (counts_of state p2) (Failed (disk_of (other h))) v
                    (row_fails (answer journal (told_by x)) (ap is_change (sym (fresh_told w x fresh_there)) ∙ fails_there state limits p1 p2 w x m told made_shown up beside e stored) rose))),
              ),
            )

        abbrev R : Resolved Entry
        R = receiver_changed w.base x

        -- the world after an acknowledgement was heard, or none
        abbrev heard_world : Option Ack → World Entry
        heard_world ack = record w { base = record R { acked = acked_after ack w.base.acked; ended = ended_after ack w.base.ended } }

        acked_world : (end : Bool) → heard_world (Some (as_ack (ack_of (told_by x) end))) ≡ passed_acked w k end
        acked_world end =
            let back : suc x.preceding - 1 ≡ x.preceding = omega arith in
            ap (λ b. record w { base = b }) (heard_is R h (as_ack (ack_of (told_by x) end)) (omega arith))
            ∙ (λ i. record w { base = ack_delivered R (acked_to h (record { epoch = x.epoch; preceding = back i; end = end })) })

        abbrev Given : Delivered → Answer Entry → Type 0
        Given it a = (v : World Entry) × (heard_world (ack_made it) ≡ v) × Gives (counts_of state old) (counts_of state p2) Failed w (passed_row limits w k x a) (passed_told it) v

        row_gives : (a : Answer Entry) → Given (as_delivered (told_as journal (told_by x) a)) a
        row_gives answers.Behind = (passed_world w k, refl, (refl, refl))
        row_gives answers.Have = (passed_acked w k false, acked_world false, (refl, refl))
        row_gives (answers.Cut left) = (passed_world w k, refl, inr (refl, refl))
        row_gives (answers.Stored f) = (passed_acked w k false, acked_world false, inr (refl, refl))
        row_gives answers.Have_end = (passed_acked w k true, acked_world true, (refl, refl))

        pub pass_done : (it : Delivered) → IsStoring state (node_of p1 (other h)) (node_of p2 (other h)) m (Ok it)
            → (v : World Entry) × Shows state limits (hearing p2 (ack_made it)) v × Comes (counts_of state old) (counts_of state p2) w (λ lasted u. pass_row limits u k) (Some (passed_told it)) v
        pass_done it stored =
            let told_is : it ≡ as_delivered (told_as journal (told_by x) (answer journal (told_by x))) = told_there state limits p1 p2 w x m told made_shown up beside it stored ∙ fresh_told w x fresh_there in
            let given : Given it (answer journal (told_by x)) = subst (λ (d : Delivered). Given d (answer journal (told_by x))) (sym told_is) (row_gives (answer journal (told_by x))) in (
              given.0,
              subst (Shows state limits (hearing p2 (ack_made it))) given.1 (heard_shown state limits p2 (record w { base = R }) (ack_made it) (stored_shown state limits p1 p2 w x m told made_shown up beside it stored)),
              (false, passes (counts_of state p2) (passed_told it) given.0 (inr (receives_then (counts_of state p2) (passed_told it) given.0 given.2))),
            )

        -- what a failed write leaves is a fault of the delivery
        abbrev ms : List (Message Entry)
        ms = w.base.messages ++ Ships x ∷ []

        abbrev sent_world : World Entry
        sent_world = record w { base = shipped w.base k }

        under_way : CanStore w.base x → IsUnderWay (due_after limits) (bounds_of old) sent_world delivery (write_failed sent_world (other h) (journal_stored w.base x))
        under_way can =
            inr (
              shown.register_up ∙ passing_register old k none,
              subst (λ (o : Option (Message Entry)). OnItem o (λ t. OnShipment t (λ y. FailsToStore sent_world y (write_failed sent_world (other h) (journal_stored w.base x))))) (sym (last_there w.base.messages (Ships x)))
                  (inr (record { up = can.up; not_stale = can.not_stale; not_behind = can.not_behind }, refl)),
            )

        pub pass_stored_moments : ((disk : D) → IsSound (state disk)) → (result : Result Delivered DiskFault) → IsStoring state (node_of p1 (other h)) (node_of p2 (other h)) m result
            → AreMoments state limits old p2 sent_world (Deliver (suc (length w.base.messages)))
        pass_stored_moments sound result stored =
            one_moves state limits old p2 w ms (Deliver (suc (length w.base.messages))) shown sound (other h) each others duty
          where
            first : node.disk_of (node_of p1 (other h)) ≡ node.disk_of (node_of old (other h))
            first = ap (λ (y : Node D). node.disk_of y) (else_same state old p1 h made.beside (other h) (λ is. not_other h (sym is)))

            each : EachMoment (state (node.disk_of (node_of old (other h)))) (state (node.disk_of (node_of p2 (other h)))) (LeavesJournal limits (bounds_of old) sent_world (Deliver (suc (length w.base.messages))) (other h))
            each =
                subst (λ (d : D). EachMoment (state d) (state (node.disk_of (node_of p2 (other h)))) (LeavesJournal limits (bounds_of old) sent_world (Deliver (suc (length w.base.messages))) (other h))) first
                (store_moments state limits p1 p2 w x m told made_shown up beside (bounds_of old) ms (Deliver (suc (length w.base.messages))) under_way result stored)

            stays_of : (j : NodeName) → Stays (state (node.disk_of (node_of old j))) (state (node.disk_of (node_of p1 j)))
            stays_of A = all_stay state old p1 h made.beside made.read.journal.stays disks.A
            stays_of B = all_stay state old p1 h made.beside made.read.journal.stays disks.B

            others : (j : NodeName) → (j ≡ other h → ⊥) → Stays (state (node.disk_of (node_of old j))) (state (node.disk_of (node_of p2 j)))
            others j not = subst (λ (y : Node D). Stays (state (node.disk_of (node_of old j))) (state (node.disk_of y))) (sym (else_same state p1 p2 (other h) beside j not)) (stays_of j)

            duty : Stays (state (disk_at old disks.Duty)) (state (disk_at p2 disks.Duty))
            duty = subst (λ (r : Register D). Stays (state (disk_at old disks.Duty)) (state (register.disk_of r))) (sym (beside.register ∙ made.beside.register)) (stays_here (state (disk_at old disks.Duty)))

  -- no more than reading is done
  pub pass_read_moments : ((disk : D) → IsSound (state disk)) → (p1 : Pair D) (result : Result OwnMessage PairFault) → IsMade state old p1 h k result → AreMoments state limits old p1 (record w { base = shipped w.base k }) (Deliver (suc (length w.base.messages)))
  pass_read_moments sound p1 result made =
      still_moments state limits old p1 w (w.base.messages ++ Ships x ∷ []) (Deliver (suc (length w.base.messages))) shown sound (all_stay state old p1 h made.beside made.read.journal.stays)

  pub pass_none_moments : ((disk : D) → IsSound (state disk)) → AreMoments state limits old old (record w { base = shipped w.base k }) (Deliver (suc (length w.base.messages)))
  pass_none_moments sound = still_moments state limits old old w (w.base.messages ++ Ships x ∷ []) (Deliver (suc (length w.base.messages))) shown sound (λ disk. stays_here (state (disk_at old disk)))
