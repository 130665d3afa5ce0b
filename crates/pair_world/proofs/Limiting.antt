-- Each step keeps the limits.
use Rattle.std.proofs.Common.{◌≡◌, ℕ, zero, suc, ◌<◌, ◌≤◌, ◌-◌, ◌⊎◌, inl, inr, Bool, true, false, nat_lt, ◌==◌, List, [], ◌∷◌, ◌++◌, length, take, refl, ap, sym, subst, arith, Option, Some, None}
use Rattle.std.specs.Prelude.{slice_get, max}
use Rattle.std.proofs.lemmas.List.{length-take, length_push}
use Rattle.std.proofs.lemmas.Bool.Decides.{nat_tests}
use Rattle.ali_base.specs.declared.names.NodeName.{NodeName}
use Rattle.ali_base.specs.declared.names.NodeName.TheVariants.{A, B}
use Rattle.ali_base.specs.declared.duty.Mode.{Mode}
use Rattle.ali_base.specs.declared.duty.Mode.TheVariants.{Both, Alone}
use Rattle.ali_base.specs.declared.duty.Duty.{Duty}
use Rattle.pair_world.specs.Frames.{Frame, item_at, epoch_at, In, without}
use Rattle.pair_world.specs.World.{told_by, other, Shipment, Ack, Message, Ships, Acks, NodeState, Nodes, node_at, put_node, Resolved, first_duty, own, holder_journal, known, with_duty, recovered, opened, formatted, FailedWrites, failed_write_at, put_failed_write, World, picked_node, with_failed_duty, without_doubt}
use Rattle.pair_world.specs.Deliveries.{Answer, Behind, differs_before, old_next, answer_in, answer, journal_after, ack_end}
use Rattle.pair_world.specs.Changes.{with_ack}
use Rattle.pair_world.specs.Changes.{journal_written, written, shipment, shipped, ack_delivered, delivered, booked_next, new_duty, duty_changed, node_down, stopped, started, register_started, epoch_heard, read_failed, write_failed, register_failed}
use Rattle.pair_world.specs.Step.{Event, Write, Ship, Deliver, Drop, Book, Take, Go_alone, Pair_up, Stop, Start, Start_duty, Ask, Outcome, Done, Answered, Refused, Faulted, Halted, Bounds, ResolvedStep, WorldStep, OnShipment, HearsEpoch, FailsToStore, Fails, Halts, Step, Turn, Runs}
use Rattle.pair_world.specs.Limits.{IsEpoch, IsJournal, IsShipment, IsAck, IsWithin}
use Rattle.pair_world.proofs.Items.{nth_more, on_item, in_item, In-append, In-without, slice_get-take, slice_push}
use Rattle.pair_world.proofs.Lists.{epoch_is}
use Rattle.pair_world.proofs.StepKinds.{world_step, answer_same, hears}
use Rattle.std.proofs.lemmas.Bool.{cond_both}
use Rattle.pair_world.proofs.Items.{some_is, none_some, not_there, ship_is, ack_is, not_ack}

pub record Within {E : Type 0} (bounds : Bounds) (w : World E) : Type 0 where
  pub firsts : (n : NodeName) → IsJournal bounds (node_at w.base.nodes n).journal
  pub seconds : (n : NodeName) (j : List (Frame E)) → failed_write_at w.failed_writes n ≡ Some j → IsJournal bounds j
  pub epoch : IsEpoch bounds w.base.duty.epoch
  pub failed : (d : Duty) → w.failed_duty ≡ Some d → IsEpoch bounds d.epoch
  pub ships : (x : Shipment E) → In w.base.messages (Ships x) → IsShipment bounds x
  pub acks : (a : Ack) → In w.base.messages (Acks a) → IsAck bounds a

module _ {E : Type 0} (bounds : Bounds) (w : World E) where
  pub within_from : IsWithin bounds w → Within bounds w
  within_from h =
      record {
        firsts = λ n. h.journals n (node_at w.base.nodes n).journal (inl refl);
        seconds = λ n j e. h.journals n j (inr e);
        epoch = h.duties w.base.duty w.base.past (inl (refl, refl));
        failed = λ d e. h.duties d (w.base.duty ∷ w.base.past) (inr (e, refl));
        ships = h.shipments;
        acks = h.acks;
      }

  pub within_of : Within bounds w → IsWithin bounds w
  within_of h =
      record {
        journals = λ n j held. elim held [
          | inl e ↦ subst (IsJournal bounds) e (h.firsts n)
          | inr e ↦ h.seconds n j e
        ];
        duties = λ d ds read. elim read [
          | inl e ↦ subst (λ (z : Duty). IsEpoch bounds z.epoch) e.0 h.epoch
          | inr e ↦ h.failed d e.0
        ];
        shipments = h.ships;
        acks = h.acks;
      }

get_some : {A : Type 0} (xs : List A) (p : ℕ) → p < length xs → (x : A) × (slice_get xs p ≡ Some x)
get_some [] p h = absurd (omega arith)
get_some (x ∷ xs) zero h = (x, refl)
get_some (x ∷ xs) (suc p) h = get_some xs p (omega arith)

put_len : {E : Type 0} (bounds : Bounds) (ns : Nodes E) (n : NodeName) (st : NodeState E) → IsJournal bounds st.journal → ((m : NodeName) → IsJournal bounds (node_at ns m).journal) → (m : NodeName) → IsJournal bounds (node_at (put_node ns n st) m).journal
put_len bounds ns A st here all A = here
put_len bounds ns A st here all B = all B
put_len bounds ns B st here all A = all A
put_len bounds ns B st here all B = here

put_failed_write_len : {E : Type 0} (bounds : Bounds) (o : FailedWrites E) (n : NodeName) (x : Option (List (Frame E))) → ((j : List (Frame E)) → x ≡ Some j → IsJournal bounds j) → ((m : NodeName) (j : List (Frame E)) → failed_write_at o m ≡ Some j → IsJournal bounds j) → (m : NodeName) (j : List (Frame E)) → failed_write_at (put_failed_write o n x) m ≡ Some j → IsJournal bounds j
put_failed_write_len bounds o A x here all A = here
put_failed_write_len bounds o A x here all B = all B
put_failed_write_len bounds o B x here all A = all A
put_failed_write_len bounds o B x here all B = here

module _ {E : Type 0} (bounds : Bounds) where
  take_len : (n : ℕ) (xs : List (Frame E)) → IsJournal bounds xs → IsJournal bounds (take n xs)
  take_len n xs h = record { room = omega (arith, length-take n xs, h.room); epochs = λ k f is. h.epochs k f (slice_get-take n k xs f is).1 }

  push_len : (xs : List (Frame E)) (f : Frame E) → length xs < bounds.frames → IsEpoch bounds f.epoch → IsJournal bounds xs → IsJournal bounds (xs ++ f ∷ [])
  push_len xs f less now h =
      record {
        room = omega (arith, length_push xs f);
        epochs = λ k g is. elim (slice_push xs f g k is) [ inl old ↦ h.epochs k g old | inr new ↦ subst (λ (z : Frame E). IsEpoch bounds z.epoch) new.1 now ];
      }

  none_len : IsJournal {E = E} bounds []
  none_len = record { room = omega arith; epochs = λ k f is. absurd (not_there f k is) }

-- a delivery leaves a journal within the limit
answer_len : {E : Type 0} (bounds : Bounds) (journal : List (Frame E)) (x : Shipment E) → IsJournal bounds journal → IsShipment bounds x → IsJournal bounds (journal_after journal (answer journal (told_by x)))
unfolding answer
answer_len {E} bounds journal x h told =
    cond_both (nat_lt (length journal) x.preceding) Behind (answer_in journal (told_by x) x.frame) P
    (λ behind. h)
    (λ not_behind. by_frame x.frame refl not_behind)
  where
    P : Answer E → Type 0
    P a = IsJournal bounds (journal_after journal a)

    by_frame : (o : Option (Frame E)) → x.frame ≡ o → nat_lt (length journal) x.preceding ≡ false → IsJournal bounds (journal_after journal (answer_in journal (told_by x) o))
    by_frame (Some f) is not_behind =
        cond_both (nat_lt x.preceding (length journal)) _ _ (λ (a : Answer E). IsJournal bounds (journal_after journal a))
        (λ long. cond_both (epoch_at journal (suc x.preceding) == f.epoch) _ _ (λ (a : Answer E). IsJournal bounds (journal_after journal a)) (λ same. h) (λ apart. take_len bounds x.preceding journal h))
        (λ short. cond_both (differs_before journal (told_by x)) _ _ (λ (a : Answer E). IsJournal bounds (journal_after journal a))
        (λ differs. take_len bounds (x.preceding - 1) journal h)
        (λ same.
        let less = told.room f is in
        let len : length journal ≤ x.preceding = grind (arith, nat_tests) in
        push_len bounds journal f (omega arith) (told.frame f is) h))
    by_frame None is not_behind =
        cond_both (differs_before journal (told_by x)) _ _ (λ (a : Answer E). IsJournal bounds (journal_after journal a))
        (λ differs. take_len bounds (x.preceding - 1) journal h)
        (λ same. cond_both (old_next journal (told_by x)) _ _ (λ (a : Answer E). IsJournal bounds (journal_after journal a)) (λ old. take_len bounds x.preceding journal h) (λ young. h))

module _ {E : Type 0} (due : List E → E → Type 0) (bounds : Bounds) (w : World E) (h : Within bounds w) where
  -- a world with this base and otherwise the same
  based : (u : Resolved E) → ((n : NodeName) → IsJournal bounds (node_at u.nodes n).journal) → IsEpoch bounds u.duty.epoch → ((x : Shipment E) → In u.messages (Ships x) → IsShipment bounds x) → ((a : Ack) → In u.messages (Acks a) → IsAck bounds a) → Within bounds (record w { base = u })
  based u firsts epoch ships acks = record { firsts = firsts; seconds = h.seconds; epoch = epoch; failed = h.failed; ships = ships; acks = acks }

  put_same : (n : NodeName) (up : Bool) (k : ℕ) → (m : NodeName) → IsJournal bounds (node_at (put_node w.base.nodes n (record { up = up; known = k; journal = (node_at w.base.nodes n).journal })) m).journal
  put_same n up k = put_len bounds w.base.nodes n (record { up = up; known = k; journal = (node_at w.base.nodes n).journal }) (h.firsts n) h.firsts

  has_room : (k : ℕ) → 0 < k → k ≤ suc (length (holder_journal w.base)) → IsShipment bounds (shipment w.base k)
  has_room k low fits =
      let top = (h.firsts w.base.duty.holder).room in
      record {
        epoch = h.epoch;
        end = omega arith;
        room = λ f is. (let inside = (nth_more (holder_journal w.base) (k - 1) f is).0 in omega arith);
        frame = λ f is. (h.firsts w.base.duty.holder).epochs (k - 1) f is;
        first = λ is. ap (epoch_at (holder_journal w.base)) is;
        later = λ far. by_index (k - 1) far (omega arith);
      }
    where
      by_index : (p : ℕ) → 0 < p → p ≤ length (holder_journal w.base) → IsEpoch bounds (epoch_at (holder_journal w.base) p)
      by_index zero far fits = absurd (omega arith)
      by_index (suc p) far fits =
          let f = get_some (holder_journal w.base) p (omega arith) in
          subst (IsEpoch bounds) (sym (epoch_is (holder_journal w.base) p f.0 f.1)) ((h.firsts w.base.duty.holder).epochs p f.0 f.1)

  with_ack_ships : (y : Shipment E) (o : Option Bool) (x : Shipment E) → In (with_ack y o w.base.messages) (Ships x) → IsShipment bounds x
  with_ack_ships y None x i = h.ships x i
  with_ack_ships y (Some end) x i = elim (In-append w.base.messages (Acks (record { to = y.sender; epoch = y.epoch; preceding = y.preceding; end = end })) (Ships x) i) [
    | inl old ↦ h.ships x old
    | inr e ↦ absurd (not_ack x (record { to = y.sender; epoch = y.epoch; preceding = y.preceding; end = end }) (sym e))
  ]

  with_ack_acks : (y : Shipment E) → IsShipment bounds y → (o : Option Bool) (a : Ack) → In (with_ack y o w.base.messages) (Acks a) → IsAck bounds a
  with_ack_acks y told None a i = h.acks a i
  with_ack_acks y told (Some end) a i = elim (In-append w.base.messages (Acks (record { to = y.sender; epoch = y.epoch; preceding = y.preceding; end = end })) (Acks a) i) [
    | inl old ↦ h.acks a old
    | inr e ↦ subst (IsAck bounds) (ack_is (record { to = y.sender; epoch = y.epoch; preceding = y.preceding; end = end }) a e) (record { epoch = told.epoch; end = told.end })
  ]

  written_len : (e : E) → length (holder_journal w.base) < bounds.frames → IsJournal bounds (journal_written w.base e)
  written_len e room = push_len bounds (holder_journal w.base) (record { entry = e; epoch = w.base.duty.epoch }) room h.epoch (h.firsts w.base.duty.holder)

  next_epoch : w.base.duty.epoch < bounds.last_epoch → IsEpoch bounds (suc w.base.duty.epoch)
  next_epoch left = record { from = omega arith; to = omega arith }

  duty_changed_within : (n : NodeName) (mode : Mode) (history : List (Frame E)) → w.base.duty.epoch < bounds.last_epoch → Within bounds (record w { base = duty_changed w.base n mode history })
  duty_changed_within n mode history left = based (duty_changed w.base n mode history) (put_same n (node_at w.base.nodes n).up (suc w.base.duty.epoch)) (next_epoch left) h.ships h.acks

  delivered_within : (m : Message E) → In w.base.messages m → Within bounds (record w { base = delivered w.base m })
  delivered_within (Acks a) i = based (ack_delivered w.base a) h.firsts h.epoch h.ships h.acks
  delivered_within (Ships x) i =
      let r = other x.sender in
      let st : NodeState E = record (node_at w.base.nodes (other x.sender)) { known = max (node_at w.base.nodes (other x.sender)).known x.epoch; journal = journal_after (node_at w.base.nodes (other x.sender)).journal (answer (node_at w.base.nodes (other x.sender)).journal (told_by x)) } in
      based (delivered w.base (Ships x)) (put_len bounds w.base.nodes r st (answer_len bounds (node_at w.base.nodes r).journal x (h.firsts r) (h.ships x i)) h.firsts) h.epoch
      (with_ack_ships x (ack_end (answer (node_at w.base.nodes (other x.sender)).journal (told_by x))))
      (with_ack_acks x (h.ships x i) (ack_end (answer (node_at w.base.nodes (other x.sender)).journal (told_by x))))

  as_it_is : (v u : World E) → v ≡ u → Within bounds u → Within bounds v
  as_it_is v u e k = subst (Within bounds) (sym e) k

  does_within : {Q : Type 0} (e : Event E Q) (u : Resolved E) → ResolvedStep due bounds w.base e u → Within bounds (record w { base = u })
  does_within (Write e) u g =
      let n = w.base.duty.holder in
      subst (λ (z : Resolved E). Within bounds (record w { base = z })) (sym g.1)
      (based (written w.base e) (put_len bounds w.base.nodes n (record (own w.base) { journal = journal_written w.base e }) (written_len e g.0.room) h.firsts) h.epoch h.ships h.acks)
  does_within (Ship k) u g =
      subst (λ (z : Resolved E). Within bounds (record w { base = z })) (sym g.1)
      (based (shipped w.base k) h.firsts h.epoch (λ x i. elim (In-append w.base.messages (Ships (shipment w.base k)) (Ships x) i) [
        | inl old ↦ h.ships x old
        | inr e ↦ subst (IsShipment bounds) (ship_is (shipment w.base k) x e) (has_room k g.0.from g.0.within)
      ])
      (λ a i. elim (In-append w.base.messages (Ships (shipment w.base k)) (Acks a) i) [
        | inl old ↦ h.acks a old
        | inr e ↦ absurd (not_ack (shipment w.base k) a e)
      ]))
  does_within (Deliver i) u g =
      let m = on_item (item_at w.base.messages i) _ g in
      subst (λ (z : Resolved E). Within bounds (record w { base = z })) (sym m.2.1) (delivered_within m.0 (in_item w.base.messages i m.0 m.1))
  does_within (Drop i) u g =
      subst (λ (z : Resolved E). Within bounds (record w { base = z })) (sym g.2)
      (based (record w.base { messages = without w.base.messages i }) h.firsts h.epoch (λ x k. h.ships x (In-without w.base.messages i k.0 (Ships x) k.1)) (λ a k. h.acks a (In-without w.base.messages i k.0 (Acks a) k.1)))
  does_within Book u g = subst (λ (z : Resolved E). Within bounds (record w { base = z })) (sym g.1) (based (booked_next w.base) h.firsts h.epoch h.ships h.acks)
  does_within (Take n) u g = subst (λ (z : Resolved E). Within bounds (record w { base = z })) (sym g.1) (duty_changed_within n Alone (node_at w.base.nodes n).journal g.0.epochs_left)
  does_within Go_alone u g = subst (λ (z : Resolved E). Within bounds (record w { base = z })) (sym g.1) (duty_changed_within w.base.duty.holder Alone w.base.booked g.0.epochs_left)
  does_within Pair_up u g = subst (λ (z : Resolved E). Within bounds (record w { base = z })) (sym g.1) (duty_changed_within w.base.duty.holder Both w.base.booked g.0.epochs_left)
  does_within (Stop n) u g = subst (λ (z : Resolved E). Within bounds (record w { base = z })) (sym g.1) (based (stopped w.base n) (put_same n false (node_at w.base.nodes n).known) h.epoch h.ships h.acks)
  does_within (Start n) u g = absurd g
  does_within Start_duty u g = absurd g
  does_within (Ask n r since) u g = absurd g

  picked_len : (n : NodeName) (b : Bool) (o : Option (List (Frame E))) → failed_write_at w.failed_writes n ≡ o → IsJournal bounds (picked_node o b (node_at w.base.nodes n)).journal
  picked_len n b None e = h.firsts n
  picked_len n true (Some j) e = h.seconds n j e
  picked_len n false (Some j) e = h.firsts n

  started_within : (n : NodeName) (b : Bool) → Within bounds (started w n b)
  started_within n b =
      record {
        firsts = put_len bounds w.base.nodes n (record (picked_node (failed_write_at w.failed_writes n) b (node_at w.base.nodes n)) { up = true; known = w.base.duty.epoch }) (picked_len n b (failed_write_at w.failed_writes n) refl) h.firsts;
        seconds = put_failed_write_len bounds w.failed_writes n None (λ j e. absurd (none_some j e)) h.seconds;
        epoch = h.epoch;
        failed = h.failed;
        ships = h.ships;
        acks = h.acks;
      }

  register_started_within : (b : Bool) → Within bounds (register_started w b)
  register_started_within b = by_duty w.failed_duty refl b
    where
      recovered_within : (d : Duty) (y : Resolved E) → y ≡ record w.base { duty = y.duty; past = y.past } → IsEpoch bounds y.duty.epoch → Within bounds (record w { base = recovered (record w.base { duty = y.duty; past = y.past }); register_up = true; failed_duty = None })
      recovered_within d y is low =
          record {
            firsts = put_same y.duty.holder (node_at w.base.nodes y.duty.holder).up y.duty.epoch;
            seconds = h.seconds;
            epoch = low;
            failed = λ d e. absurd (none_some d e);
            ships = h.ships;
            acks = h.acks;
          }

      by_duty : (o : Option Duty) → w.failed_duty ≡ o → (b : Bool) → Within bounds (record w { base = recovered (with_failed_duty o b w.base); register_up = true; failed_duty = None })
      by_duty None e b = recovered_within w.base.duty w.base refl h.epoch
      by_duty (Some d) e false = recovered_within w.base.duty w.base refl h.epoch
      by_duty (Some d) e true = recovered_within d (with_duty w.base d) refl (h.failed d e)

  completes_within : {Q : Type 0} (e : Event E Q) (v : World E) → WorldStep due bounds w e v → Within bounds v
  completes_within e v g = elim (world_step due bounds w e v g) [
    | inl p ↦ as_it_is v (record w { base = v.base }) p.same (does_within e v.base p.step)
    | inr (inl s) ↦ as_it_is v _ s.1 (based (stopped w.base s.0) (put_same s.0 false (node_at w.base.nodes s.0).known) h.epoch h.ships h.acks)
    | inr (inr (inl s)) ↦ as_it_is v _ s.3 (started_within s.0 s.1)
    | inr (inr (inr s)) ↦ as_it_is v _ s.1 (register_started_within s.0)
  ]

  learns_within : {Q : Type 0} (e : Event E Q) (v : World E) → HearsEpoch w e v → Within bounds v
  learns_within e v g =
      let s = hears w e v g in
      let r = other s.shipment.sender in
      as_it_is v _ s.same (based (epoch_heard w.base s.shipment) (put_same r (node_at w.base.nodes r).up (max (known w.base r) s.shipment.epoch)) h.epoch h.ships h.acks)

  falls_within : (n : NodeName) (v : World E) → v ≡ read_failed w n → Within bounds v
  falls_within n v e = as_it_is v _ e (based (node_down w.base n) (put_same n false (node_at w.base.nodes n).known) h.epoch h.ships h.acks)

  write_failed_within : (n : NodeName) (j : List (Frame E)) → IsJournal bounds j → Within bounds (write_failed w n j)
  write_failed_within n j low =
      record {
        firsts = put_same n false (node_at w.base.nodes n).known;
        seconds = put_failed_write_len bounds w.failed_writes n (Some j) (λ k e. subst (IsJournal bounds) (some_is j k e) low) h.seconds;
        epoch = h.epoch;
        failed = h.failed;
        ships = h.ships;
        acks = h.acks;
      }

  register_failed_within : (d : Duty) → IsEpoch bounds d.epoch → Within bounds (register_failed w d)
  register_failed_within d low =
      record {
        firsts = h.firsts;
        seconds = h.seconds;
        epoch = h.epoch;
        failed = λ f e. subst (λ (z : Duty). IsEpoch bounds z.epoch) (some_is d f e) low;
        ships = h.ships;
        acks = h.acks;
      }

  fails_within : {Q : Type 0} (e : Event E Q) (v : World E) → Fails due bounds w e v → Within bounds v
  fails_within (Write e) v g = elim g.1 [
    | inl read ↦ falls_within w.base.duty.holder v read.1
    | inr wrote ↦ as_it_is v _ wrote.1 (write_failed_within w.base.duty.holder (journal_written w.base e) (written_len e wrote.0.room))
  ]
  fails_within (Ship k) v g = falls_within w.base.duty.holder v g.2
  fails_within (Deliver i) v g = let m = on_item (item_at w.base.messages i) _ g.1 in by_message m.0 (in_item w.base.messages i m.0 m.1) m.2
    where
      by_message : (m : Message E) → In w.base.messages m → OnShipment m (λ x. FailsToStore w x v) → Within bounds v
      by_message (Acks a) i g = absurd g
      by_message (Ships x) i g = elim g [
        | inl read ↦ falls_within (other x.sender) v read.1
        | inr wrote ↦ as_it_is v _ wrote.1 (write_failed_within (other x.sender) (journal_after (node_at w.base.nodes (other x.sender)).journal (answer (node_at w.base.nodes (other x.sender)).journal (told_by x))) (answer_len bounds (node_at w.base.nodes (other x.sender)).journal x (h.firsts (other x.sender)) (h.ships x i)))
      ]
  fails_within Book v g = falls_within w.base.duty.holder v g.2
  fails_within (Take n) v g = elim g.1 [
    | inl read ↦ falls_within n v read.1
    | inr wrote ↦ as_it_is v _ wrote.1 (register_failed_within (new_duty w.base n Alone (length (node_at w.base.nodes n).journal)) (next_epoch wrote.0.epochs_left))
  ]
  fails_within Go_alone v g = as_it_is v _ g.2 (register_failed_within (new_duty w.base w.base.duty.holder Alone (length w.base.booked)) (next_epoch g.1.epochs_left))
  fails_within Pair_up v g = as_it_is v _ g.2 (register_failed_within (new_duty w.base w.base.duty.holder Both (length w.base.booked)) (next_epoch g.1.epochs_left))
  fails_within (Start n) v g = as_it_is v w g.2 h
  fails_within Start_duty v g = elim g.1 [ inl same ↦ as_it_is v w same h | inr read ↦ falls_within read.0.holder v read.4 ]
  fails_within (Ask n r since) v g = falls_within n v g.1
  fails_within (Drop i) v g = absurd g
  fails_within (Stop n) v g = absurd g

module _ {E : Type 0} (bounds : Bounds) where
  pub opened_within : (d : Duty) (ds : List Duty) (ja jb : List (Frame E)) → IsEpoch bounds d.epoch → IsJournal bounds ja → IsJournal bounds jb → Within bounds (without_doubt (opened d ds ja jb))
  opened_within d ds ja jb e a b =
      record {
        firsts = λ n. first n;
        seconds = λ n j is. absurd (second n j is);
        epoch = e;
        failed = λ d is. absurd (none_some d is);
        ships = λ x i. absurd (not_there (Ships x) i.0 i.1);
        acks = λ a i. absurd (not_there (Acks a) i.0 i.1);
      }
    where
      first : (n : NodeName) → IsJournal bounds (node_at (opened d ds ja jb).nodes n).journal
      first A = a
      first B = b

      second : (n : NodeName) (j : List (Frame E)) → failed_write_at {E = E} (record { a = None; b = None }) n ≡ Some j → ⊥
      second A j is = none_some j is
      second B j is = none_some j is

  pub formatted_within : 1 ≤ bounds.last_epoch → Within bounds (without_doubt (formatted {E = E}))
  formatted_within low = opened_within first_duty [] [] [] (record { from = omega arith; to = low }) (none_len bounds) (none_len bounds)

module _ {E Q R : Type 0} (due : List E → E → Type 0) (form : List E → Q → R) (bounds : Bounds) where
  halts_within : (w : World E) → Within bounds w → (e : Event E Q) (v : World E) → Halts due bounds w e v → Within bounds v
  halts_within w h e v g =
      let found = within_of bounds g.0 (by_lists g.1) in
      subst (Within bounds) (sym g.2.opens)
      (opened_within bounds g.2.duty g.2.past g.2.journal_a g.2.journal_b (found.duties g.2.duty g.2.past g.2.register) (found.journals A g.2.journal_a g.2.disk_a) (found.journals B g.2.journal_b g.2.disk_b))
    where
      by_lists : (g.0 ≡ w) ⊎ Fails due bounds w e g.0 → Within bounds g.0
      by_lists (inl same) = subst (Within bounds) (sym same) h
      by_lists (inr failed) = fails_within due bounds w h e g.0 failed

  pub step_within : (w : World E) → Within bounds w → (e : Event E Q) (o : Outcome R) (v : World E) → Step due form bounds w e o v → Within bounds v
  step_within w h e Done v g = completes_within due bounds w h e v g
  step_within w h e (Answered reply) v g = subst (Within bounds) (sym (answer_same w form e reply v g)) h
  step_within w h e Refused v g = elim g [ inl same ↦ subst (Within bounds) (sym same) h | inr learned ↦ learns_within due bounds w h e v learned ]
  step_within w h e Faulted v g = fails_within due bounds w h e v g
  step_within w h e Halted v g = halts_within w h e v g

  pub runs_within : (w : World E) → Within bounds w → (ts : List (Turn E Q R)) (v : World E) → Runs due form bounds w ts v → Within bounds v
  runs_within w h [] v r = subst (Within bounds) r h
  runs_within w h (t ∷ ts) v r = runs_within r.0 (step_within w h t.event t.outcome r.0 r.1) ts v r.2
