-- What the shipment of a frame does in the worlds that a pair shows.
use Rattle.std.proofs.Common.{◌≡◌, ℕ, suc, ◌+◌, ◌≤◌, inl, inr, List, [], ◌∷◌, ◌++◌, length, map, refl, sym, ap, subst, ◌∙◌, arith, Option, Some, None, Result, Ok, Err, Bool, true, false}
use Rattle.std.specs.Prelude.{not, nat_lt, nat_le, is_none}
use Rattle.std.proofs.lemmas.Bool.Decides.{nat_tests}
use Rattle.std.proofs.lemmas.List.{map-append, length-map}
use Rattle.ali_base.specs.Steps.{when}
use Rattle.ali_base.specs.declared.duty.Duty.{Duty}
use Rattle.ali_base.specs.declared.names.DiskName.{DiskName}
use Rattle.ali_base.specs.declared.names.NodeName.{NodeName}
use Rattle.ali_base.specs.declared.names.NodeName.TheVariants.{A, B}
use Rattle.crash_disk.specs.CrashOutcomes.{Stays}
use Rattle.crash_disk.specs.DiskState.{DiskState, IsSound}
use Rattle.crash_disk.proofs.Runs.{stays_on}
use Rattle.office_entry.specs.declared.entry.Entry.{Entry}
use Rattle.office_state.specs.declared.limits.Limits.{Limits}
use Rattle.pair_world.specs.Changes.{shipment, shipped, read_failed}
use Rattle.pair_world.specs.Deliveries.{message_from}
use Rattle.pair_world.specs.Refusals as refusals
use Rattle.pair_world.specs.Refusals.{Refusal, message_limit, disk_of}
use Rattle.pair_world.specs.World.{World, Ships, is_node, node_at, sent_by, holder_journal}
use Rattle.world_rows.specs.Counts.{Counts, RoseAt}
use Rattle.world_rows.specs.Histories.{state_of}
use Rattle.world_rows.specs.Rows.{Row, MayFail, Success, Gives}
use Rattle.world_rows.specs.Told.{Told, Refused, Sent, Failed}
use Rattle.world_rows.specs.WorldRows.{ship_row}
use Rattle.pair_node.specs.LearnedEntries.{IsGone}
use Rattle.world_rows.specs.WorldSteps.{Comes}
use Rattle.pair_node.specs.Messages.{IsMessage, as_told}
use Rattle.pair_node.specs.NodeState as node
use Rattle.pair_node.specs.declared.message.Message.{Message as OwnMessage}
use Rattle.pair_node.specs.declared.node.Node.{Node}
use Rattle.pair_core.specs.Pair.{Shows, IsCall, node_of, is_node_up, len_of, duty_of, counts_of, disk_at, sent_of}
use Rattle.pair_core.specs.PairAnswers.{fault_told, Unless, ShipRest, KeepsCourse}
use Rattle.pair_core.specs.PairMessages.{IsBesideMessages, IsMade, MadeAnswers}
use Rattle.pair_core.specs.PairNodes.{sent_told}
use Rattle.pair_core.specs.PairRefusals as rows
use Rattle.pair_core.specs.PairRefusals.{first_of}
use Rattle.pair_core.specs.declared.faults.PairFault.{PairFault}
use Rattle.pair_core.specs.declared.faults.PairFault.TheVariants as fault
use Rattle.pair_core.specs.declared.pair.Pair.{Pair}
use Rattle.pair_core.specs.declared.sent.Sent.{Sent as AnySent}
use Rattle.pair_core.specs.declared.sent.Sent.TheVariants as sent
use Rattle.pair_core.proofs.PairMessages.{sent_shown, sent_stays, sent_call, node_same, counts_same, call_on, node_call, rose_at, read_shown, read_down}
use Rattle.pair_core.proofs.PairReport.{long_holder}
use Rattle.pair_core.proofs.PairRows as own
use Rattle.pair_core.proofs.PairRows.{Matches, AreRow, matched, passed, refused, refused_does, all_none, when_not, not_when}
use Rattle.pair_core.proofs.PairShown.{all_stay}

pub same_node : (n m : NodeName) → is_node n m ≡ true → n ≡ m
same_node A A is = refl
same_node A B is = absurd (cc)
same_node B A is = absurd (cc)
same_node B B is = refl

pub up_when : (b : Bool) (r : Refusal) → when (not b) r ≡ None → b ≡ true
up_when true r is = refl
up_when false r is = absurd (cc)

-- ---- the causes, where a refusal holds or none does

pub unless_none : {P X : Type 0} (o : Option PairFault) (old new : P) (result : Result X PairFault) (Rest : Type 0) → o ≡ None → Rest → Unless o old new result Rest
unless_none None old new result Rest is rest = rest
unless_none (Some f) old new result Rest is rest = absurd (cc)

-- ---- the refusals of the rows of messages

module _ {D : Type 0} (state : D → DiskState) (limits : Limits) (p : Pair D) (w : World Entry) (shown : Shows state limits p w) where
  pub many : length (sent_of p) ≡ length w.base.messages
  many = sym (length-map (sent_of p) sent_told) ∙ ap length shown.messages

  pub not_holder : (n : NodeName) → Matches (rows.not_holder p n) (refusals.not_holder w n)
  not_holder n = subst (λ (d : Duty). Matches (rows.not_holder p n) (when (not (is_node n d.holder)) (refusals.Out_of_duty n d.epoch d.holder))) shown.duty
      (matched (not (is_node n (duty_of p).holder)) _ _ (refusals.Out_of_duty n (duty_of p).epoch (duty_of p).holder) refl refl)

  pub messages_full : Matches (rows.messages_full p) (refusals.messages_full w)
  messages_full = matched (nat_le message_limit (length (sent_of p))) (nat_le message_limit (length w.base.messages)) _ _ (ap (nat_le message_limit) many) refl

  pub no_entry : is_node_up p (rows.holder p) ≡ true → (k : ℕ) → Matches (rows.no_entry p k) (refusals.no_entry w k)
  no_entry up k =
      let long = long_holder state limits p w shown up in
      matched (nat_lt (suc (len_of p (rows.holder p))) k) (nat_lt (suc (length (holder_journal w.base))) k) _ _ (ap (λ (l : ℕ). nat_lt (suc l) k) long) (ap (λ (l : ℕ). Some (Refused (refusals.No_entry k l))) long)

  -- the holder is up where its node is
  holder_up : (n : NodeName) → refusals.node_is_down w n ≡ None → refusals.not_holder w n ≡ None → is_node_up p (rows.holder p) ≡ true
  holder_up n up holds =
      let is : n ≡ w.base.duty.holder = same_node n w.base.duty.holder (up_when (is_node n w.base.duty.holder) _ holds) in
      let own : n ≡ rows.holder p = is ∙ ap (λ (d : Duty). d.holder) (sym shown.duty) in
      subst (λ k. is_node_up p k ≡ true) own (sym (shown.nodes n).up ∙ up_when (node_at w.base.nodes n).up _ up)

  pub ship_are : (n : NodeName) (k : ℕ) → AreRow (rows.duty_is_down p ∷ rows.node_is_down p n ∷ rows.not_holder p n ∷ rows.no_entry p k ∷ rows.messages_full p ∷ [])
      (refusals.duty_is_down w ∷ refusals.node_is_down w n ∷ refusals.not_holder w n ∷ refusals.no_entry w k ∷ refusals.messages_full w ∷ [])
  ship_are n k = (own.duty_is_down state limits p w shown, λ _. (own.node_is_down state limits p w shown n, λ up. (not_holder n, λ holds. (no_entry (holder_up n up holds) k, λ _. (messages_full, λ _. tt)))))

  pub shipping_are : (k : ℕ) → AreRow (rows.duty_is_down p ∷ rows.node_is_down p (rows.holder p) ∷ rows.no_entry p k ∷ [])
      (refusals.duty_is_down w ∷ refusals.node_is_down w w.base.duty.holder ∷ refusals.no_entry w k ∷ [])
  shipping_are k = (own.duty_is_down state limits p w shown, λ _. (own.holder_is_down state limits p w shown, λ up. (no_entry (up_there up) k, λ _. tt)))
    where
      up_there : refusals.node_is_down w w.base.duty.holder ≡ None → is_node_up p (rows.holder p) ≡ true
      up_there up = sym (shown.nodes (rows.holder p)).up ∙ ap (λ (d : Duty). (node_at w.base.nodes d.holder).up) shown.duty ∙ up_when (node_at w.base.nodes w.base.duty.holder).up _ up

-- ---- what a shipment finds where no refusal holds

module _ {D : Type 0} (p : Pair D) (n : NodeName) (k : ℕ) (none : rows.ship_refusal p n k ≡ None) where
  all : own.AllNone (rows.duty_is_down p ∷ rows.node_is_down p n ∷ rows.not_holder p n ∷ rows.no_entry p k ∷ rows.messages_full p ∷ [])
  all = all_none (rows.duty_is_down p ∷ rows.node_is_down p n ∷ rows.not_holder p n ∷ rows.no_entry p k ∷ rows.messages_full p ∷ []) none

  pub ships_up : is_node_up p n ≡ true
  ships_up = when_not (is_node_up p n) (fault.Down (disk_of n)) all.1.0

  pub ships_held : n ≡ rows.holder p
  ships_held = same_node n (rows.holder p) (when_not (is_node n (rows.holder p)) (rows.out_of_duty p n) all.1.1.0)

  pub ships_near : k ≤ len_of p n + 1
  ships_near = subst (λ h. k ≤ len_of p h + 1) (sym ships_held) (near (len_of p (rows.holder p)) (not_when (nat_lt (suc (len_of p (rows.holder p))) k) (fault.NoEntry k (len_of p (rows.holder p))) all.1.1.1.0))
    where
      near : (l : ℕ) → nat_lt (suc l) k ≡ false → k ≤ l + 1
      near l is = grind (arith, nat_tests)

  pub ships_few : length (sent_of p) + 1 ≤ message_limit
  ships_few = few (length (sent_of p)) (not_when (nat_le message_limit (length (sent_of p))) (fault.MessagesFull message_limit) all.1.1.1.1.0)
    where
      few : (l : ℕ) → nat_le message_limit l ≡ false → l + 1 ≤ message_limit
      few l is = grind (arith, nat_tests)

-- ---- the shipment

module _ {D : Type 0} (state : D → DiskState) (old p1 p2 : Pair D) (n : NodeName) (k : ℕ) (room : IsBesideMessages old p1) (none : rows.ship_refusal old n k ≡ None) where
  pub ship_up : is_node_up p1 n ≡ true
  ship_up = ap (λ (x : Node D). node.is_usable x) (node_same state old p1 room n) ∙ ships_up old n k none

  pub ship_near : k ≤ len_of p1 n + 1
  ship_near = subst (λ (x : Node D). k ≤ node.count_of x + 1) (sym (node_same state old p1 room n)) (ships_near old n k none)

  -- a failure from the pair that has made room
  failed : (disk : DiskName) → disk ≡ disk_of n → RoseAt (counts_of state p1) (counts_of state p2) (disk_of n) → RoseAt (counts_of state old) (counts_of state p2) disk
  failed disk is rose = subst (λ (c : Counts). RoseAt c (counts_of state p2) disk) (counts_same state old p1 room) (subst (RoseAt (counts_of state p1) (counts_of state p2)) (sym is) rose)

  module _ (result : Result OwnMessage PairFault) (made : IsMade state p1 p2 n k result) where
    pub ship_stays : ((disk : D) → IsSound (state disk)) → (disk : DiskName) → Stays (state (disk_at old disk)) (state (disk_at p2 disk))
    ship_stays sound disk =
        stays_on (state (disk_at old disk)) (state (disk_at p1 disk)) (state (disk_at p2 disk)) (sound (disk_at old disk)) (sent_stays state old p1 room disk)
        (all_stay state p1 p2 n made.beside made.read.journal.stays disk)

    pub ship_call : IsCall state old p2
    ship_call = call_on state old p1 p2 (sent_call state old p1 room) (node_call state p1 p2 n made.beside made.read.journal.fixed)

    pub ship_course : KeepsCourse state old p2
    ship_course = (made.beside.count ∙ room.count, made.beside.duty ∙ room.duty, ap (λ (o : Option Duty). is_none o) (made.beside.failed ∙ room.failed))

  pub ship_err : (f : PairFault) → IsMade state p1 p2 n k (Err f) → ShipRest state old p2 n k (Err f)
  ship_err f made = by_fault f made.answer (ship_course (Err f) made)
    where
      by_fault : (f : PairFault) → MadeAnswers state p1 p2 n k (Err f) → KeepsCourse state old p2 → ShipRest state old p2 n k (Err f)
      by_fault (fault.Fault disk) answer course = (answer.0, (ships_up old n k none, answer.2), failed disk answer.0 (rose_at state p1 p2 n answer.1), course)
      by_fault (fault.Damaged disk frame) answer course = (answer.0, (ships_up old n k none, answer.3), answer.1, subst (λ (x : Node D). IsGone state (node.journal_of x) k) (node_same state old p1 room n) answer.2, course)
      by_fault refusal answer course = absurd answer

  pub message_there : (m : OwnMessage) → IsMessage state (node_of p1 n) k (duty_of p1).epoch m → IsMessage state (node_of old n) k (duty_of old).epoch m
  message_there m made =
      subst (λ (x : Node D). IsMessage state x k (duty_of old).epoch m) (node_same state old p1 room n)
      (subst (λ (d : Duty). IsMessage state (node_of p1 n) k d.epoch m) room.duty made)

module _ {D : Type 0} (state : D → DiskState) (limits : Limits) (old p1 p2 : Pair D) (w : World Entry) (n : NodeName) (k : ℕ) (shown : Shows state limits old w) (room : IsBesideMessages old p1) (same : sent_of p1 ≡ sent_of old) (none : rows.ship_refusal old n k ≡ None) where
  -- room is made, and the world stays
  pub room_shown : Shows state limits p1 w
  room_shown = sent_shown state old p1 room limits w w.base.messages shown (ap (map sent_told) same ∙ shown.messages)

  held_there : n ≡ w.base.duty.holder
  held_there = ships_held old n k none ∙ ap (λ (d : Duty). d.holder) shown.duty

  abbrev rest : Row Told (World Entry)
  rest = MayFail (disk_of w.base.duty.holder) (read_failed w w.base.duty.holder) (Success (Sent (suc (length w.base.messages))) (record w { base = shipped w.base k }))

  passes : (new : Pair D) (reply : Told) (v : World Entry) → Gives (counts_of state old) (counts_of state new) Failed w rest reply v → Gives (counts_of state old) (counts_of state new) Failed w (ship_row limits w n k) reply v
  passes new reply v gives =
      passed (counts_of state old) (counts_of state new) (state_of limits w) w rest
      (rows.duty_is_down old ∷ rows.node_is_down old n ∷ rows.not_holder old n ∷ rows.no_entry old k ∷ rows.messages_full old ∷ [])
      (refusals.duty_is_down w ∷ refusals.node_is_down w n ∷ refusals.not_holder w n ∷ refusals.no_entry w k ∷ refusals.messages_full w ∷ [])
      reply v (ship_are state limits old w shown n k) none gives

  up : is_node_up p1 n ≡ true
  up = ship_up state old p1 p2 n k room none

  pub ship_fails : (f : PairFault) → IsMade state p1 p2 n k (Err f) → (v : World Entry) × Shows state limits p2 v × Comes (counts_of state old) (counts_of state p2) w (λ lasted u. ship_row limits u n k) (fault_told f) v
  ship_fails f made = by_fault f made.answer
    where
      by_fault : (f : PairFault) → MadeAnswers state p1 p2 n k (Err f) → (v : World Entry) × Shows state limits p2 v × Comes (counts_of state old) (counts_of state p2) w (λ lasted u. ship_row limits u n k) (fault_told f) v
      by_fault (fault.Fault disk) answer = (
        read_failed w n,
        read_down state limits p1 p2 w n room_shown made.beside made.read answer.2,
        (
          false,
          passes p2 (Failed disk) (read_failed w n) (inl (
            ap Failed (answer.0 ∙ ap disk_of held_there),
            ap (read_failed w) held_there,
            subst (λ h. RoseAt (counts_of state old) (counts_of state p2) (disk_of h)) held_there (failed state old p1 p2 n k room none (disk_of n) refl (rose_at state p1 p2 n answer.1)),
          )),
        ),
      )
      by_fault (fault.Damaged disk frame) answer = absurd (answer.2.none (node_at w.base.nodes n).journal ((room_shown.nodes n).frames up).journal)
      by_fault refusal answer = absurd answer

  -- the message is the one of the world
  pub shipment_is : (m : OwnMessage) → IsMessage state (node_of p1 n) k (duty_of p1).epoch m → sent_by n (as_told m) ≡ shipment w.base k
  shipment_is m made =
      let epoch : (duty_of p1).epoch ≡ w.base.duty.epoch = ap (λ (d : Duty). d.epoch) room_shown.duty in
      let told : as_told m ≡ message_from (duty_of p1).epoch (node_at w.base.nodes n).journal k = made.told (node_at w.base.nodes n).journal ((room_shown.nodes n).frames up).journal in
      ap (sent_by n) told ∙ (λ i. sent_by (held_there i) (message_from (epoch i) (node_at w.base.nodes (held_there i)).journal k))

  pub ship_done : (m : OwnMessage) → IsMade state p1 p2 n k (Ok m) → (p3 : Pair D) (number : ℕ) → IsBesideMessages p2 p3 → sent_of p3 ≡ sent_of p2 ++ sent.Shipment n m ∷ [] → number ≡ length (sent_of p2) + 1
      → (v : World Entry) × Shows state limits p3 v × Comes (counts_of state old) (counts_of state p3) w (λ lasted u. ship_row limits u n k) (Some (Sent number)) v
  ship_done m made p3 number beside is long =
      let read = read_shown state limits p1 p2 w n room_shown made.beside made.read up made.answer.2 in
      let messages : map sent_told (sent_of p3) ≡ w.base.messages ++ Ships (shipment w.base k) ∷ [] =
      ap (map sent_told) is ∙ map-append sent_told (sent_of p2) (sent.Shipment n m ∷ []) ∙ (λ i. read.messages i ++ Ships (shipment_is m made.answer.0 i) ∷ []) in
      let next : number ≡ suc (length w.base.messages) = omega (arith, long, many state limits p2 w read) in (
        record w { base = shipped w.base k },
        sent_shown state p2 p3 beside limits w (w.base.messages ++ Ships (shipment w.base k) ∷ []) read messages,
        (false, passes p3 (Sent number) (record w { base = shipped w.base k }) (inr (ap Sent next, refl))),
      )

-- a shipment that is refused
pub ship_refused : {D : Type 0} (state : D → DiskState) (limits : Limits) (p : Pair D) (w : World Entry) (n : NodeName) (k : ℕ) → Shows state limits p w → (f : PairFault) → rows.ship_refusal p n k ≡ Some f
    → (v : World Entry) × Shows state limits p v × Comes (counts_of state p) (counts_of state p) w (λ lasted u. ship_row limits u n k) (fault_told f) v
ship_refused state limits p w n k shown f is =
    refused_does state limits p w shown (λ lasted u. ship_row limits u n k) f
    (rows.duty_is_down p ∷ rows.node_is_down p n ∷ rows.not_holder p n ∷ rows.no_entry p k ∷ rows.messages_full p ∷ []) is
    (λ t same. refused (counts_of state p) (counts_of state p) (state_of limits w) w
    (MayFail (disk_of w.base.duty.holder) (read_failed w w.base.duty.holder) (Success (Sent (suc (length w.base.messages))) (record w { base = shipped w.base k })))
    (rows.duty_is_down p ∷ rows.node_is_down p n ∷ rows.not_holder p n ∷ rows.no_entry p k ∷ rows.messages_full p ∷ [])
    (refusals.duty_is_down w ∷ refusals.node_is_down w n ∷ refusals.not_holder w n ∷ refusals.no_entry w k ∷ refusals.messages_full w ∷ [])
    f t (ship_are state limits p w shown n k) is same)

-- why a shipment is answered by its number
pub ship_ok : {D : Type 0} (state : D → DiskState) (old p1 p2 p3 : Pair D) (n : NodeName) (k : ℕ) (m : OwnMessage) (number : ℕ) (room : IsBesideMessages old p1) → sent_of p1 ≡ sent_of old → (none : rows.ship_refusal old n k ≡ None) (made : IsMade state p1 p2 n k (Ok m)) (after : IsBesideMessages p2 p3)
    → sent_of p3 ≡ sent_of p2 ++ sent.Shipment n m ∷ [] → number ≡ length (sent_of p2) + 1 → ShipRest state old p3 n k (Ok number)
ship_ok state old p1 p2 p3 n k m number room same none made after all is =
    let before : sent_of p2 ≡ sent_of old = ap (λ ms. ms.items) made.beside.messages ∙ same in
    let course = ship_course state old p1 p2 n k room none (Ok m) made in (
      (ships_up old n k none, ap (λ (x : Node _). node.is_usable x) (node_same state p2 p3 after n) ∙ made.answer.2),
      (after.count ∙ course.0, after.duty ∙ course.1, ap (λ (o : Option Duty). is_none o) after.failed ∙ course.2),
      is ∙ ap (λ (l : List AnySent). length l + 1) before,
      (m, message_there state old p1 p2 n k room none m made.answer.0, all ∙ ap (λ (l : List AnySent). l ++ sent.Shipment n m ∷ []) before),
    )
