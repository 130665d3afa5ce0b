-- What the delivery of a message does in the worlds that a pair shows, and why each answer comes.
use Rattle.std.proofs.Common.{◌≡◌, ℕ, suc, ◌+◌, ◌-◌, ◌<◌, ◌≤◌, ◌⊎◌, inl, inr, List, [], ◌∷◌, ◌++◌, length, map, refl, sym, ap, subst, ◌∙◌, arith, Option, Some, None, Result, Ok, Err, Bool, true, false}
use Rattle.std.specs.Prelude.{not, nat_lt, nat_le, is_none, slice_get, option_map, if◌then◌else◌}
use Rattle.std.proofs.lemmas.Bool.Decides.{nat_tests}
use Rattle.ali_base.specs.Steps.{when}
use Rattle.ali_base.specs.declared.duty.Duty.{Duty}
use Rattle.ali_base.specs.declared.names.DiskName.{DiskName}
use Rattle.ali_base.specs.declared.names.DiskName.TheVariants as disks
use Rattle.ali_base.specs.declared.names.NodeName.{NodeName}
use Rattle.crash_disk.specs.CrashOutcomes.{Stays}
use Rattle.crash_disk.specs.DiskState.{DiskState, IsSound}
use Rattle.crash_disk.specs.Moments.{EachMoment}
use Rattle.crash_disk.proofs.Runs.{stays_here}
use Rattle.duty_register.specs.OpenRegister as register
use Rattle.duty_register.specs.declared.register.Register.{Register}
use Rattle.node_journal.specs.declared.faults.DiskFault.{DiskFault}
use Rattle.office_entry.specs.declared.entry.Entry.{Entry}
use Rattle.office_state.specs.declared.limits.Limits.{Limits}
use Rattle.pair_world.specs.Changes.{with_ack, delivered, write_failed, journal_stored}
use Rattle.pair_world.specs.Deliveries.{answer, told_as, ack_end, reply_to}
use Rattle.pair_world.specs.Frames.{Frame, item_at, OnItem}
use Rattle.pair_world.specs.Moments.{IsUnderWay}
use Rattle.pair_world.specs.Refusals as refusals
use Rattle.pair_world.specs.Refusals.{Refusal, message_limit, disk_of}
use Rattle.pair_world.specs.Replies.{receiver, state_left}
use Rattle.pair_world.specs.Step.{CanStore, Deliver, FailsToStore, OnShipment}
use Rattle.pair_world.specs.World.{World, Message, Ships, Acks, Shipment, Ack as WorldAck, known, put_node, other, sent_by, acked_to, told_by}
use Rattle.world_rows.specs.Counts.{Counts, RoseAt}
use Rattle.world_rows.specs.Histories.{due_after, state_of}
use Rattle.world_rows.specs.Rows.{Row, Gives, Unless as RowUnless, Success}
use Rattle.world_rows.specs.Told.{Told, Refused, Failed, Acked, Acked_end}
use Rattle.world_rows.specs.WorldRows.{answer_row, message_row, deliver_row, journal_at, acked_told}
use Rattle.world_rows.specs.WorldSteps.{OfficeEvent, Comes}
use Rattle.pair_node.specs.Messages.{as_told, as_delivered, ack_made}
use Rattle.pair_node.specs.NodeState as node
use Rattle.pair_node.specs.StoredMessage.{is_change}
use Rattle.pair_node.specs.declared.message.Ack.{Ack}
use Rattle.pair_node.specs.declared.message.Delivered.{Delivered}
use Rattle.pair_node.specs.declared.message.Delivered.TheVariants as delivering
use Rattle.pair_node.specs.declared.message.Message.{Message as OwnMessage}
use Rattle.pair_node.specs.declared.node.Node.{Node}
use Rattle.pair_core.specs.Pair.{Shows, AreMoments, IsCall, LeavesJournal, node_of, is_node_up, is_up, duty_of, counts_of, disk_at, bounds_of, sent_of}
use Rattle.pair_core.specs.PairAnswers.{fault_told, told, delivered_told, heard, counted, IsAnswered, IsStored, Unless, StoreRest, HearRest, KeepsCourse}
use Rattle.pair_core.specs.PairChanges.{IsBesideNode}
use Rattle.pair_core.specs.PairMessages.{IsBesideMessages, IsStoring, IsHeard, hearing}
use Rattle.pair_core.specs.PairNodes.{sent_told}
use Rattle.pair_core.specs.PairRefusals as rows
use Rattle.pair_core.specs.PairRefusals.{first_of}
use Rattle.pair_core.specs.declared.faults.PairFault.{PairFault}
use Rattle.pair_core.specs.declared.faults.PairFault.TheVariants as fault
use Rattle.pair_core.specs.declared.pair.Pair.{Pair}
use Rattle.pair_core.specs.declared.sent.Sent.{Sent as AnySent}
use Rattle.pair_core.specs.declared.sent.Sent.TheVariants as sent
use Rattle.pair_core.proofs.PairDelivered.{item_there, heard_is, acks_told, answer_gives, answer_fails, fresh_told, stale_told, fresh_world, stale_world}
use Rattle.pair_core.proofs.PairMessages.{sent_shown, sent_call, node_same, disks_same, counts_same, call_on, node_call, else_same, rose_at, heard_shown, heard_call, call_here, stored_shown, store_failed, after_stored, late_or_not, told_there, fails_there, store_moments, one_moves, still_moments}
use Rattle.pair_core.proofs.PairRows as own
use Rattle.pair_core.proofs.PairRows.{AreRow, Matches, passed, refused, refused_does, all_none, when_not, not_when}
use Rattle.pair_core.proofs.PairShipped.{many, messages_full}

no_test : (b : Bool) (r : Refusal) → b ≡ false → option_map Refused (when b r) ≡ None
no_test true r is = absurd (cc)
no_test false r is = refl

a_test : (b : Bool) (r : Refusal) → b ≡ true → option_map Refused (when b r) ≡ Some (Refused r)
a_test true r is = refl
a_test false r is = absurd (cc)

pub fresh_test : (w : World Entry) (x : Shipment Entry) → known w.base (other x.sender) ≤ x.epoch → option_map Refused (refusals.stale w x) ≡ None
fresh_test w x fresh = no_test (nat_lt x.epoch (known w.base (other x.sender))) (refusals.Stale x.epoch (known w.base (other x.sender))) (grind (arith, nat_tests))

pub stale_test : (w : World Entry) (x : Shipment Entry) → x.epoch < known w.base (other x.sender) → option_map Refused (refusals.stale w x) ≡ Some (Refused (refusals.Stale x.epoch (known w.base (other x.sender))))
stale_test w x late = a_test (nat_lt x.epoch (known w.base (other x.sender))) (refusals.Stale x.epoch (known w.base (other x.sender))) (grind (arith, nat_tests))

-- the acknowledgement of an answer, from the messages before
answered_from : {D : Type 0} (p1 p2 p3 : Pair D) (to : NodeName) (ack : Option Ack) (made : ℕ) → sent_of p2 ≡ sent_of p1 → IsAnswered p2 p3 to ack made → IsAnswered p1 p3 to ack made
answered_from p1 p2 p3 to None made same all = (all.0, all.1 ∙ same)
answered_from p1 p2 p3 to (Some ack) made same all = (all.0 ∙ ap (λ (l : List AnySent). length l + 1) same, all.1 ∙ ap (λ (l : List AnySent). l ++ sent.Acknowledgement to ack ∷ []) same)

-- where no acknowledgement is made, nothing is put on its way
none_made : {D : Type 0} (p2 p3 : Pair D) (to : NodeName) (o : Option Ack) (made : ℕ) → o ≡ None → IsAnswered p2 p3 to o made → sent_of p3 ≡ sent_of p2
none_made p2 p3 to None made is all = all.1
none_made p2 p3 to (Some ack) made is all = absurd (cc)

-- ---- a shipment

module _ {D : Type 0} (p : Pair D) (sender : NodeName) (none : rows.shipment_refusal p sender ≡ None) where
  all : own.AllNone (rows.duty_is_down p ∷ rows.node_is_down p (other sender) ∷ rows.messages_full p ∷ [])
  all = all_none (rows.duty_is_down p ∷ rows.node_is_down p (other sender) ∷ rows.messages_full p ∷ []) none

  pub delivery_up : is_node_up p (other sender) ≡ true
  delivery_up = when_not (is_node_up p (other sender)) (fault.Down (disk_of (other sender))) all.1.0

  pub delivery_register : is_up p ≡ true
  delivery_register = when_not (is_up p) (fault.Down disks.Duty) all.0

  pub delivery_few : length (sent_of p) < message_limit
  delivery_few = few (length (sent_of p)) (not_when (nat_le message_limit (length (sent_of p))) (fault.MessagesFull message_limit) all.1.1.0)
    where
      few : (l : ℕ) → nat_le message_limit l ≡ false → l < message_limit
      few l is = grind (arith, nat_tests)

module _ {D : Type 0} (state : D → DiskState) (old p1 p2 : Pair D) (sender : NodeName) (m : OwnMessage) (room : IsBesideMessages old p1) (same : sent_of p1 ≡ sent_of old) (none : rows.shipment_refusal old sender ≡ None) (beside : IsBesideNode p1 p2 (other sender)) where
  abbrev n : NodeName
  n = other sender

  pub room_up : is_node_up p1 n ≡ true
  room_up = ap (λ (x : Node D). node.is_usable x) (node_same state old p1 room n) ∙ delivery_up old sender none

  sent_same : sent_of p2 ≡ sent_of old
  sent_same = ap (λ ms. ms.items) beside.messages ∙ same

  course : KeepsCourse state old p2
  course = (beside.count ∙ room.count, beside.duty ∙ room.duty, ap (λ (o : Option Duty). is_none o) (beside.failed ∙ room.failed))

  rose : (e : DiskFault) → IsStoring state (node_of p1 n) (node_of p2 n) m (Err e) → RoseAt (counts_of state old) (counts_of state p2) (disk_of n)
  rose e stored = subst (λ (c : Counts). RoseAt c (counts_of state p2) (disk_of n)) (counts_same state old p1 room) (rose_at state p1 p2 n stored.changed.answer.0)

  pub store_err : (e : DiskFault) → IsStoring state (node_of p1 n) (node_of p2 n) m (Err e) → StoreRest state old p2 sender m (Err (fault.Fault (disk_of n)))
  store_err e stored = (refl, (delivery_up old sender none, stored.changed.answer.1), rose e stored, course, sent_same)

  pub store_err_call : (e : DiskFault) → IsStoring state (node_of p1 n) (node_of p2 n) m (Err e) → IsCall state old p2
  store_err_call e stored = call_on state old p1 p2 (sent_call state old p1 room) (node_call state p1 p2 n beside stored.changed.fixed)

  module _ (p3 : Pair D) (it : Delivered) (made : ℕ) (after : IsBesideMessages p2 p3) (stored : IsStoring state (node_of p1 n) (node_of p2 n) m (Ok it)) where
    pub store_call : IsCall state old p3
    store_call = call_on state old p2 p3 (call_on state old p1 p2 (sent_call state old p1 room) (node_call state p1 p2 n beside stored.changed.fixed)) (sent_call state p2 p3 after)

    pub store_ok : IsAnswered p2 p3 sender (ack_made it) made → StoreRest state old p3 sender m (Ok (it, made))
    store_ok answered = (
      (delivery_up old sender none, ap (λ (x : Node D). node.is_usable x) (node_same state p2 p3 after n) ∙ stored.changed.answer.1),
      (after.count ∙ course.0, after.duty ∙ course.1, ap (λ (o : Option Duty). is_none o) after.failed ∙ course.2),
      subst (λ (x : Node D). IsStored x (node_of p3 n) m it) (node_same state old p1 room n)
          (subst (λ (x : Node D). IsStored (node_of p1 n) x m it) (sym (node_same state p2 p3 after n)) (record { answers = stored.answer; left = stored.changed.answer.0 })),
      answered_from old p2 p3 sender (ack_made it) made sent_same answered,
    )

module _ {D : Type 0} (state : D → DiskState) (limits : Limits) (p : Pair D) (w : World Entry) (sender : NodeName) (shown : Shows state limits p w) where
  pub shipment_are : AreRow (rows.duty_is_down p ∷ rows.node_is_down p (other sender) ∷ rows.messages_full p ∷ [])
      (refusals.duty_is_down w ∷ refusals.node_is_down w (other sender) ∷ refusals.messages_full w ∷ [])
  shipment_are = (own.duty_is_down state limits p w shown, λ _. (own.node_is_down state limits p w shown (other sender), λ _. (messages_full state limits p w shown, λ _. tt)))

  -- the message of this number in the world
  pub there_is : (i : ℕ) (s : AnySent) → 1 ≤ i → slice_get (sent_of p) (i - 1) ≡ Some s → item_at w.base.messages i ≡ Some (sent_told s)
  there_is i s low at = ap (λ (ms : List (Message Entry)). item_at ms i) (sym shown.messages) ∙ item_there (sent_of p) i low ∙ ap (option_map sent_told) at

  pub none_there : (i : ℕ) → 1 ≤ i → slice_get (sent_of p) (i - 1) ≡ None → item_at w.base.messages i ≡ None
  none_there i low at = ap (λ (ms : List (Message Entry)). item_at ms i) (sym shown.messages) ∙ item_there (sent_of p) i low ∙ ap (option_map sent_told) at

module _ {D : Type 0} (state : D → DiskState) (limits : Limits) (old : Pair D) (w : World Entry) (i : ℕ) (sender : NodeName) (m : OwnMessage) (shown : Shows state limits old w) (low : 1 ≤ i) (at : slice_get (sent_of old) (i - 1) ≡ Some (sent.Shipment sender m)) where
  abbrev x : Shipment Entry
  x = sent_by sender (as_told m)

  there : item_at w.base.messages i ≡ Some (Ships x)
  there = there_is state limits old w sender shown i (sent.Shipment sender m) low at

  abbrev after_it : World Entry
  after_it = record w { base = delivered w.base (Ships x) }

  abbrev delivery : OfficeEvent
  delivery = Deliver i

  abbrev stored_world : World Entry
  stored_world = record w { base = record w.base { nodes = put_node w.base.nodes (other sender) (state_left (receiver w.base x) (told_by x)) } }

  abbrev tested : Row Told (World Entry)
  tested = RowUnless (option_map Refused (refusals.stale w x)) (answer_row limits w x (suc (length w.base.messages)) after_it (answer (journal_at w (other sender)) (told_by x)))

  as_row : (before now : Counts) (t : Told) (v : World Entry) → Gives before now Failed w (message_row limits w i (Some (Ships x))) t v → Gives before now Failed w (deliver_row limits w i) t v
  as_row before now t v gives = subst (λ (o : Option (Message Entry)). Gives before now Failed w (message_row limits w i o) t v) (sym there) gives

  pub shipment_refused : (f : PairFault) → rows.shipment_refusal old sender ≡ Some f → (v : World Entry) × Shows state limits old v × Comes (counts_of state old) (counts_of state old) w (λ lasted u. deliver_row limits u i) (fault_told f) v
  shipment_refused f is =
      refused_does state limits old w shown (λ lasted u. deliver_row limits u i) f
      (rows.duty_is_down old ∷ rows.node_is_down old (other sender) ∷ rows.messages_full old ∷ []) is
      (λ t same. as_row (counts_of state old) (counts_of state old) t w (refused (counts_of state old) (counts_of state old) (state_of limits w) w tested
      (rows.duty_is_down old ∷ rows.node_is_down old (other sender) ∷ rows.messages_full old ∷ [])
      (refusals.duty_is_down w ∷ refusals.node_is_down w (other sender) ∷ refusals.messages_full w ∷ [])
      f t (shipment_are state limits old w sender shown) is same))

  module _ (p1 p2 : Pair D) (room : IsBesideMessages old p1) (same : sent_of p1 ≡ sent_of old) (none : rows.shipment_refusal old sender ≡ None) where
    pub room_shows : Shows state limits p1 w
    room_shows = sent_shown state old p1 room limits w w.base.messages shown (ap (map sent_told) same ∙ shown.messages)

    passes : (now : Counts) (t : Told) (v : World Entry) → Gives (counts_of state old) now Failed w tested t v → Gives (counts_of state old) now Failed w (deliver_row limits w i) t v
    passes now t v gives =
        as_row (counts_of state old) now t v (passed (counts_of state old) now (state_of limits w) w tested
        (rows.duty_is_down old ∷ rows.node_is_down old (other sender) ∷ rows.messages_full old ∷ [])
        (refusals.duty_is_down w ∷ refusals.node_is_down w (other sender) ∷ refusals.messages_full w ∷ [])
        t v (shipment_are state limits old w sender shown) none gives)

    module _ (beside : IsBesideNode p1 p2 (other sender)) where
      up : is_node_up p1 (other sender) ≡ true
      up = room_up state old p1 p2 sender m room same none beside

      split : (known w.base (other sender) ≤ x.epoch) ⊎ (x.epoch < known w.base (other sender))
      split = late_or_not state limits p1 p2 w x m refl room_shows up beside

      -- the disk of the receiver failed
      pub shipment_fails : (e : DiskFault) → IsSound (state (node.disk_of (node_of p2 (other sender)))) → IsStoring state (node_of p1 (other sender)) (node_of p2 (other sender)) m (Err e)
          → (v : World Entry) × Shows state limits p2 v × Comes (counts_of state old) (counts_of state p2) w (λ lasted u. deliver_row limits u i) (Some (Failed (disk_of (other sender)))) v
      shipment_fails e sound stored = by_epoch split
        where
          change : is_change (as_delivered (reply_to (receiver w.base x).known (journal_at w (other sender)) (told_by x))) ≡ true
          change = fails_there state limits p1 p2 w x m refl room_shows up beside e stored

          no_change : delivering.Stale x.epoch (known w.base (other sender)) ≡ delivering.Stale x.epoch (known w.base (other sender)) → is_change (delivering.Stale x.epoch (known w.base (other sender))) ≡ true → ⊥
          no_change same is = absurd (cc)

          by_epoch : (known w.base (other sender) ≤ x.epoch) ⊎ (x.epoch < known w.base (other sender)) → (v : World Entry) × Shows state limits p2 v × Comes (counts_of state old) (counts_of state p2) w (λ lasted u. deliver_row limits u i) (Some (Failed (disk_of (other sender)))) v
          by_epoch (inl fresh) = (
            write_failed w (other sender) (journal_stored w.base x),
            subst (λ (js : List (Frame Entry)). Shows state limits p2 (write_failed w (other sender) js)) (after_stored state limits p1 p2 w x m refl room_shows up beside fresh) (store_failed state limits p1 p2 w x m refl room_shows up beside e sound stored),
            (
              false,
              passes (counts_of state p2) (Failed (disk_of (other sender))) (write_failed w (other sender) (journal_stored w.base x)) (inr (
                fresh_test w x fresh,
                answer_fails w x limits (counts_of state old) (counts_of state p2) (answer (journal_at w (other sender)) (told_by x)) (ap is_change (sym (fresh_told w x fresh)) ∙ change) (rose state old p1 p2 sender m room same none beside e stored),
              )),
            ),
          )
          by_epoch (inr late) = absurd (no_change refl (ap is_change (sym (stale_told w x late)) ∙ change))

      -- it is stored
      pub shipment_done : (it : Delivered) → IsStoring state (node_of p1 (other sender)) (node_of p2 (other sender)) m (Ok it) → (p3 : Pair D) (made : ℕ) → IsBesideMessages p2 p3 → IsAnswered p2 p3 sender (ack_made it) made
          → (v : World Entry) × Shows state limits p3 v × Comes (counts_of state old) (counts_of state p3) w (λ lasted u. deliver_row limits u i) (Some (delivered_told (it, made))) v
      shipment_done it stored p3 made after answered = by_epoch split
        where
          mid : Shows state limits p2 stored_world
          mid = stored_shown state limits p1 p2 w x m refl room_shows up beside it stored

          it_is : it ≡ as_delivered (reply_to (receiver w.base x).known (journal_at w (other sender)) (told_by x))
          it_is = told_there state limits p1 p2 w x m refl room_shows up beside it stored

          by_epoch : (known w.base (other sender) ≤ x.epoch) ⊎ (x.epoch < known w.base (other sender)) → (v : World Entry) × Shows state limits p3 v × Comes (counts_of state old) (counts_of state p3) w (λ lasted u. deliver_row limits u i) (Some (delivered_told (it, made))) v
          by_epoch (inl fresh) =
              let told : it ≡ as_delivered (told_as (journal_at w (other sender)) (told_by x) (answer (journal_at w (other sender)) (told_by x))) = it_is ∙ fresh_told w x fresh in
              let all : IsAnswered p2 p3 sender (ack_made (as_delivered (told_as (journal_at w (other sender)) (told_by x) (answer (journal_at w (other sender)) (told_by x))))) made = subst (λ (d : Delivered). IsAnswered p2 p3 sender (ack_made d) made) told answered in
              let long : length (sent_of p2) + 1 ≡ suc (length w.base.messages) = omega (arith, many state limits p2 stored_world mid) in (
                after_it,
                subst (Shows state limits p3) (fresh_world w x fresh)
                    (sent_shown state p2 p3 after limits stored_world (with_ack x (ack_end (answer (journal_at w (other sender)) (told_by x))) w.base.messages) mid (acks_told w x p2 p3 mid.messages made (answer (journal_at w (other sender)) (told_by x)) all)),
                (
                  false,
                  passes (counts_of state p3) (delivered_told (it, made)) after_it (inr (
                    fresh_test w x fresh,
                    subst (λ (d : Delivered). Gives (counts_of state old) (counts_of state p3) Failed w (answer_row limits w x (suc (length w.base.messages)) after_it (answer (journal_at w (other sender)) (told_by x))) (delivered_told (d, made)) after_it) (sym told)
                        (answer_gives w x limits (counts_of state old) (counts_of state p3) p2 p3 made (answer (journal_at w (other sender)) (told_by x)) refl all long),
                  )),
                ),
              )
          by_epoch (inr late) =
              let told : it ≡ delivering.Stale x.epoch (known w.base (other sender)) = it_is ∙ stale_told w x late in (
                w,
                subst (Shows state limits p3) (stale_world w x late)
                    (sent_shown state p2 p3 after limits stored_world w.base.messages mid (ap (map sent_told) (none_made p2 p3 sender (ack_made it) made (ap ack_made told) answered) ∙ mid.messages)),
                (
                  false,
                  passes (counts_of state p3) (delivered_told (it, made)) w (inl (
                    stale_test w x late ∙ ap (λ (d : Delivered). Some (delivered_told (d, made))) (sym told),
                    refl,
                  )),
                ),
              )

      -- what a failed write leaves is a fault of the delivery
      under_way : is_up old ≡ true → CanStore w.base x → IsUnderWay (due_after limits) (bounds_of old) w delivery (write_failed w (other sender) (journal_stored w.base x))
      under_way register can =
          inr (shown.register_up ∙ register, subst (λ (o : Option (Message Entry)). OnItem o (λ t. OnShipment t (λ y. FailsToStore w y (write_failed w (other sender) (journal_stored w.base x))))) (sym there) (inr (can, refl)))

      -- a crash at any moment of it
      pub shipment_moments : ((disk : D) → IsSound (state disk)) → (result : Result Delivered DiskFault) → IsStoring state (node_of p1 (other sender)) (node_of p2 (other sender)) m result → (p3 : Pair D) → IsBesideMessages p2 p3
          → AreMoments state limits old p3 w (Deliver i)
      shipment_moments sound result stored p3 after =
          one_moves state limits old p3 w w.base.messages (Deliver i) shown sound (other sender) each others duty
        where
          first : (k : NodeName) → node.disk_of (node_of p1 k) ≡ node.disk_of (node_of old k)
          first k = ap (λ (y : Node D). node.disk_of y) (node_same state old p1 room k)

          last : (k : NodeName) → node.disk_of (node_of p3 k) ≡ node.disk_of (node_of p2 k)
          last k = ap (λ (y : Node D). node.disk_of y) (node_same state p2 p3 after k)

          each : EachMoment (state (node.disk_of (node_of old (other sender)))) (state (node.disk_of (node_of p3 (other sender)))) (LeavesJournal limits (bounds_of old) w (Deliver i) (other sender))
          each =
              subst (λ (d : D). EachMoment (state d) (state (node.disk_of (node_of p3 (other sender)))) (LeavesJournal limits (bounds_of old) w (Deliver i) (other sender))) (first (other sender))
              (subst (λ (d : D). EachMoment (state (node.disk_of (node_of p1 (other sender)))) (state d) (LeavesJournal limits (bounds_of old) w (Deliver i) (other sender))) (sym (last (other sender)))
              (store_moments state limits p1 p2 w x m refl room_shows up beside (bounds_of old) w.base.messages (Deliver i) (under_way (delivery_register old sender none)) result stored))

          others : (k : NodeName) → (k ≡ other sender → ⊥) → Stays (state (node.disk_of (node_of old k))) (state (node.disk_of (node_of p3 k)))
          others k not =
              let is : node.disk_of (node_of p3 k) ≡ node.disk_of (node_of old k) = last k ∙ ap (λ (y : Node D). node.disk_of y) (else_same state p1 p2 (other sender) beside k not) ∙ first k in
              subst (λ (d : D). Stays (state (node.disk_of (node_of old k))) (state d)) (sym is) (stays_here (state (node.disk_of (node_of old k))))

          duty : Stays (state (disk_at old disks.Duty)) (state (disk_at p3 disks.Duty))
          duty =
              let is : disk_at p3 disks.Duty ≡ disk_at old disks.Duty = disks_same state p2 p3 after disks.Duty ∙ ap (λ (r : Register D). register.disk_of r) beside.register ∙ disks_same state old p1 room disks.Duty in
              subst (λ (d : D). Stays (state (disk_at old disks.Duty)) (state d)) (sym is) (stays_here (state (disk_at old disks.Duty)))

-- ---- an acknowledgement

module _ {D : Type 0} (state : D → DiskState) (old : Pair D) (to : NodeName) (ack : Ack) where
  abbrev present : ℕ
  present = (duty_of old).epoch

  -- by its refusal, or by whether it is stale
  ack_by : (Q : Pair D → Result (Delivered × ℕ) PairFault → Type 0)
      → ((f : PairFault) → rows.ack_refusal old to ≡ Some f → Q old (Err f))
      → (rows.ack_refusal old to ≡ None → nat_lt ack.epoch present ≡ true → Q old (Ok (delivering.Stale ack.epoch present, 0)))
      → (rows.ack_refusal old to ≡ None → nat_lt ack.epoch present ≡ false → Q (hearing old (Some ack)) (Ok (delivering.Acked ack, 0)))
      → (new : Pair D) (result : Result (Delivered × ℕ) PairFault) → IsHeard old new to ack result → Q new result
  ack_by Q refuses stale hears new result is = by_refusal (rows.ack_refusal old to) refl is
    where
      both : (q : Pair D) (r : Result (Delivered × ℕ) PairFault) → result ≡ r → new ≡ q → Q q r → Q new result
      both q r same now it = subst (λ (p : Pair D). Q p result) (sym now) (subst (Q q) (sym same) it)

      by_epoch : (b : Bool) → nat_lt ack.epoch present ≡ b → rows.ack_refusal old to ≡ None
          → (result ≡ Ok (if b then delivering.Stale ack.epoch present else delivering.Acked ack, 0)) × (new ≡ hearing old (when (not b) ack)) → Q new result
      by_epoch true test none h = both old (Ok (delivering.Stale ack.epoch present, 0)) h.0 h.1 (stale none test)
      by_epoch false test none h = both (hearing old (Some ack)) (Ok (delivering.Acked ack, 0)) h.0 h.1 (hears none test)

      by_refusal : (o : Option PairFault) → rows.ack_refusal old to ≡ o → Unless o old new result ((result ≡ Ok (heard ack present, 0)) × (new ≡ hearing old (counted ack present))) → Q new result
      by_refusal (Some f) at h = both old (Err f) h.0 h.1 (refuses f at)
      by_refusal None at h = by_epoch (nat_lt ack.epoch present) refl at h

  -- the causes
  pub ack_causes : (new : Pair D) (result : Result (Delivered × ℕ) PairFault) → IsHeard old new to ack result → Unless (rows.ack_refusal old to) old new result (HearRest state old new ack result)
  ack_causes new result is = by_refusal (rows.ack_refusal old to) is
    where
      rest : (q : Pair D) (r : Result (Delivered × ℕ) PairFault) → r ≡ Ok (heard ack present, 0) → q ≡ hearing old (counted ack present) → HearRest state old q ack r
      rest q r same now = subst (λ (p : Pair D). HearRest state old p ack r) (sym now) (subst (HearRest state old (hearing old (counted ack present)) ack) (sym same) (refl, refl, (refl, refl, refl), refl, refl, refl))

      by_refusal : (o : Option PairFault) → Unless o old new result ((result ≡ Ok (heard ack present, 0)) × (new ≡ hearing old (counted ack present))) → Unless o old new result (HearRest state old new ack result)
      by_refusal (Some f) h = h
      by_refusal None h = rest new result h.0 h.1

  pub ack_call : (new : Pair D) (result : Result (Delivered × ℕ) PairFault) → IsHeard old new to ack result → IsCall state old new
  ack_call = ack_by (λ p r. IsCall state old p) (λ f is. call_here state old) (λ none test. call_here state old) (λ none test. heard_call state old (Some ack))

module _ {D : Type 0} (state : D → DiskState) (limits : Limits) (old : Pair D) (w : World Entry) (i : ℕ) (to : NodeName) (ack : Ack) (shown : Shows state limits old w) (low : 1 ≤ i) (first : 1 ≤ ack.number) (at : slice_get (sent_of old) (i - 1) ≡ Some (sent.Acknowledgement to ack)) where
  abbrev heard_ack : WorldAck
  heard_ack = acked_to to (record { epoch = ack.epoch; preceding = ack.number - 1; end = ack.end })

  ack_there : item_at w.base.messages i ≡ Some (Acks heard_ack)
  ack_there = there_is state limits old w to shown i (sent.Acknowledgement to ack) low at

  abbrev hears : Row Told (World Entry)
  hears = Success (acked_told limits w heard_ack) (record w { base = delivered w.base (Acks heard_ack) })

  abbrev after_tests : Row Told (World Entry)
  after_tests = RowUnless (option_map Refused (refusals.stale_ack w heard_ack)) hears

  as_ack_row : (before now : Counts) (t : Told) (v : World Entry) → Gives before now Failed w (message_row limits w i (Some (Acks heard_ack))) t v → Gives before now Failed w (deliver_row limits w i) t v
  as_ack_row before now t v gives = subst (λ (o : Option (Message Entry)). Gives before now Failed w (message_row limits w i o) t v) (sym ack_there) gives

  ack_are : AreRow (rows.duty_is_down old ∷ rows.node_is_down old to ∷ []) (refusals.duty_is_down w ∷ refusals.node_is_down w to ∷ [])
  ack_are = (own.duty_is_down state limits old w shown, λ _. (own.node_is_down state limits old w shown to, λ _. tt))

  present_is : (duty_of old).epoch ≡ w.base.duty.epoch
  present_is = ap (λ (d : Duty). d.epoch) shown.duty

  told_number : (b : Bool) → (if b then Acked_end (suc (ack.number - 1)) ack.epoch else Acked (suc (ack.number - 1)) ack.epoch) ≡ delivered_told (delivering.Acked (record ack { end = b }), 0)
  told_number true = let one : suc (ack.number - 1) ≡ ack.number = omega (arith, first) in ap (λ (k : ℕ). Acked_end k ack.epoch) one
  told_number false = let one : suc (ack.number - 1) ≡ ack.number = omega (arith, first) in ap (λ (k : ℕ). Acked k ack.epoch) one

  pub ack_does : (new : Pair D) (result : Result (Delivered × ℕ) PairFault) → IsHeard old new to ack result
      → (v : World Entry) × Shows state limits new v × Comes (counts_of state old) (counts_of state new) w (λ lasted u. deliver_row limits u i) (told delivered_told result) v
  ack_does = ack_by state old to ack (λ p r. (v : World Entry) × Shows state limits p v × Comes (counts_of state old) (counts_of state p) w (λ lasted u. deliver_row limits u i) (told delivered_told r) v)
      (λ f is. refused_does state limits old w shown (λ lasted u. deliver_row limits u i) f (rows.duty_is_down old ∷ rows.node_is_down old to ∷ []) is
      (λ t same. as_ack_row (counts_of state old) (counts_of state old) t w (refused (counts_of state old) (counts_of state old) (state_of limits w) w after_tests
      (rows.duty_is_down old ∷ rows.node_is_down old to ∷ []) (refusals.duty_is_down w ∷ refusals.node_is_down w to ∷ []) f t ack_are is same)))
      (λ none test. (
        w,
        shown,
        (
          false,
          gives none (delivered_told (delivering.Stale ack.epoch (duty_of old).epoch, 0)) w (inl (
            a_test (nat_lt ack.epoch w.base.duty.epoch) (refusals.Stale ack.epoch w.base.duty.epoch) (ap (λ (k : ℕ). nat_lt ack.epoch k) (sym present_is) ∙ test) ∙ ap (λ (k : ℕ). Some (Refused (refusals.Stale ack.epoch k))) (sym present_is),
            refl,
          )),
        ),
      ))
      (λ none test. (
        record w { base = delivered w.base (Acks heard_ack) },
        subst (Shows state limits (hearing old (Some ack))) (ap (λ b. record w { base = b }) (heard_is w.base to ack first)) (heard_shown state limits old w (Some ack) shown),
        (
          false,
          gives none (delivered_told (delivering.Acked ack, 0)) (record w { base = delivered w.base (Acks heard_ack) }) (inr (
            no_test (nat_lt ack.epoch w.base.duty.epoch) (refusals.Stale ack.epoch w.base.duty.epoch) (ap (λ (k : ℕ). nat_lt ack.epoch k) (sym present_is) ∙ test),
            (sym (told_number ack.end), refl),
          )),
        ),
      ))
    where
      gives : rows.ack_refusal old to ≡ None → (t : Told) (v : World Entry) → Gives (counts_of state old) (counts_of state old) Failed w after_tests t v → Gives (counts_of state old) (counts_of state old) Failed w (deliver_row limits w i) t v
      gives none t v g = as_ack_row (counts_of state old) (counts_of state old) t v (passed (counts_of state old) (counts_of state old) (state_of limits w) w after_tests
          (rows.duty_is_down old ∷ rows.node_is_down old to ∷ []) (refusals.duty_is_down w ∷ refusals.node_is_down w to ∷ []) t v ack_are none g)

  pub ack_moments : ((disk : D) → IsSound (state disk)) → (new : Pair D) (result : Result (Delivered × ℕ) PairFault) → IsHeard old new to ack result → AreMoments state limits old new w (Deliver i)
  ack_moments sound = ack_by state old to ack (λ p r. AreMoments state limits old p w (Deliver i))
      (λ f is. still_moments state limits old old w w.base.messages (Deliver i) shown sound (λ disk. stays_here (state (disk_at old disk))))
      (λ none test. still_moments state limits old old w w.base.messages (Deliver i) shown sound (λ disk. stays_here (state (disk_at old disk))))
      (λ none test. still_moments state limits old (hearing old (Some ack)) w w.base.messages (Deliver i) shown sound heard_stays)
    where
      heard_stays : (disk : DiskName) → Stays (state (disk_at old disk)) (state (disk_at (hearing old (Some ack)) disk))
      heard_stays disks.A = stays_here (state (disk_at old disks.A))
      heard_stays disks.B = stays_here (state (disk_at old disks.B))
      heard_stays disks.Duty = stays_here (state (disk_at old disks.Duty))
