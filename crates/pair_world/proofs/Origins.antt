-- Each resolution after a fault comes from one before it.
use Rattle.std.proofs.Common.{◌≡◌, ℕ, ◌⊎◌, inl, inr, Bool, true, false, cond, nat_lt, List, [], ◌∷◌, ◌++◌, length, take, refl, ap, sym, ◌∙◌, subst, Option, Some, None}
use Rattle.std.specs.Prelude.{max}
use Rattle.ali_base.specs.declared.names.NodeName.{NodeName}
use Rattle.ali_base.specs.declared.names.NodeName.TheVariants.{A, B}
use Rattle.ali_base.specs.declared.duty.Mode.TheVariants.{Both, Alone}
use Rattle.ali_base.specs.declared.duty.Duty.{Duty}
use Rattle.pair_world.specs.Frames.{Frame, item_at}
use Rattle.pair_world.specs.World.{told_by, other, Shipment, Message, Ships, Acks, NodeState, Nodes, node_at, put_node, Resolved, is_up, with_nodes, with_node, with_duty, recovered, World, Choice, choice_at, picked_node, picked_nodes, with_failed_duty, unrecovered, resolved}
use Rattle.pair_world.specs.Deliveries.{answer, journal_after}
use Rattle.pair_world.specs.Changes.{journal_written, written, delivered, new_duty, duty_changed, node_down, read_failed, write_failed, register_failed}
use Rattle.pair_world.specs.Step.{Event, Write, Ship, Deliver, Drop, Book, Take, Go_alone, Pair_up, Stop, Start, Start_duty, Ask, Bounds, CanWrite, CanStore, CanDeliver, ResolvedStep, OnShipment, FailsToStore, Fails}
use Rattle.pair_world.specs.FaultOrigin.{AtMost, DoneUntold, ComesFrom}
use Rattle.pair_world.proofs.Parts.{IsKept}
use Rattle.pair_world.proofs.Items.{on_item}
use Rattle.pair_world.proofs.Doubts.{own_is, down_and_know, down_journal, recover_down, picked_failed, down_is, can_write, can_store, can_take, can_pair, on_same}
use Rattle.pair_world.proofs.Kept.{take_is, same_duty_is}

by_bool : (P : Type 0) (b : Bool) → (b ≡ true → P) → (b ≡ false → P) → P
by_bool P true h k = h refl
by_bool P false h k = k refl

module _ {E : Type 0} where
  recover_plain : (y : Resolved E) (n : NodeName) → recovered (node_down y n) ≡ node_down (recovered y) n
  recover_plain y n =
      ap (λ ns. with_nodes (recovered (node_down y n)) ns) (down_and_know n y.duty.holder y.nodes y.duty.epoch)
      ∙ ap (λ j. record (node_down (recovered y) n) { booked = cond (nat_lt (length y.booked) y.duty.floor) (take y.duty.floor j) y.booked }) (down_journal n y.duty.holder y.nodes)

  recover_any : (o : Option Duty) (b : Bool) (y : Resolved E) (n : NodeName) → recovered (with_failed_duty o b (node_down y n)) ≡ node_down (recovered (with_failed_duty o b y)) n
  recover_any None b y n = recover_plain y n
  recover_any (Some d) true y n = recover_down y d n
  recover_any (Some d) false y n = recover_plain y n

  put_down : (ns : Nodes E) (n : NodeName) (st : NodeState E) → put_node (put_node ns n st) n (record (node_at (put_node ns n st) n) { up = false }) ≡ put_node ns n (record st { up = false })
  put_down ns A st = refl
  put_down ns B st = refl

  -- a node's state is that after the event, or that save its known epoch
  states_are : (ns : Nodes E) (r n : NodeName) (k : ℕ) (j : List (Frame E)) → (node_at (put_node ns r (record (node_at ns r) { journal = j })) n ≡ node_at (put_node ns r (record (node_at ns r) { known = k; journal = j })) n) ⊎ (node_at (put_node ns r (record (node_at ns r) { journal = j })) n ≡ record (node_at (put_node ns r (record (node_at ns r) { known = k; journal = j })) n) { known = (node_at ns n).known })
  states_are ns A A k j = inr refl
  states_are ns A B k j = inl refl
  states_are ns B A k j = inl refl
  states_are ns B B k j = inr refl

  -- while the register is up a resolution is the choice of journals
  resolved_up : (w : World E) → w.register_up ≡ true → (c : Choice) → resolved c w ≡ unrecovered c w
  resolved_up w up c = ap (λ r. cond r (unrecovered c w) (recovered (with_failed_duty w.failed_duty c.duty (unrecovered c w)))) up

module _ {E : Type 0} (due : List E → E → Type 0) (w : World E) (s : IsKept due w) where
  resolved_down : (n : NodeName) (c : Choice) → resolved c (read_failed w n) ≡ node_down (resolved c w) n
  resolved_down n c = by_register w.register_up
    where
      by_register : (r : Bool) → cond r (unrecovered c (read_failed w n)) (recovered (with_failed_duty w.failed_duty c.duty (unrecovered c (read_failed w n)))) ≡ node_down (cond r (unrecovered c w) (recovered (with_failed_duty w.failed_duty c.duty (unrecovered c w)))) n
      by_register true = down_is due w s c n
      by_register false = ap (λ y. recovered (with_failed_duty w.failed_duty c.duty y)) (down_is due w s c n) ∙ recover_any w.failed_duty c.duty (unrecovered c w) n

  -- the failed write landed, or it did not
  lands : (n : NodeName) (j : List (Frame E)) (c : Choice) → w.register_up ≡ true → is_up w.base n → choice_at c n ≡ true → resolved c (write_failed w n j) ≡ with_node (unrecovered c w) n (record (node_at (unrecovered c w).nodes n) { up = false; journal = j })
  lands n j c reg up is =
      resolved_up (write_failed w n j) reg c
      ∙ ap (λ ns. with_nodes w.base ns) (picked_failed c w.failed_writes w.base.nodes n j (record (node_at w.base.nodes n) { up = false }))
      ∙ ap (λ b. with_nodes w.base (put_node (picked_nodes c w.failed_writes w.base.nodes) n (picked_node (Some j) b (record (node_at w.base.nodes n) { up = false })))) is
      ∙ ap (λ (st : NodeState E). with_nodes w.base (put_node (picked_nodes c w.failed_writes w.base.nodes) n (record st { up = false; journal = j }))) (sym (own_is due w s c n up))

  stays : (n : NodeName) (j : List (Frame E)) (c : Choice) → w.register_up ≡ true → is_up w.base n → choice_at c n ≡ false → resolved c (write_failed w n j) ≡ node_down (resolved c w) n
  stays n j c reg up is =
      resolved_up (write_failed w n j) reg c
      ∙ ap (λ ns. with_nodes w.base ns) (picked_failed c w.failed_writes w.base.nodes n j (record (node_at w.base.nodes n) { up = false }))
      ∙ ap (λ b. with_nodes w.base (put_node (picked_nodes c w.failed_writes w.base.nodes) n (picked_node (Some j) b (record (node_at w.base.nodes n) { up = false })))) is
      ∙ ap (λ (st : NodeState E). with_nodes w.base (put_node (picked_nodes c w.failed_writes w.base.nodes) n (record st { up = false }))) (sym (own_is due w s c n up))
      ∙ ap (λ y. node_down y n) (sym (resolved_up w reg c))

module _ {E Q : Type 0} (due : List E → E → Type 0) (bounds : Bounds) (w : World E) (s : IsKept due w) (event : Event E Q) where
  nothing : (v : World E) → v ≡ w → (c : Choice) → ComesFrom due bounds event w v c
  nothing v is c = subst (λ z. ComesFrom due bounds event w z c) (sym is) (record { choice_before = c; done = resolved c w; down = resolved c w; by_event = inl refl; by_going_down = inl refl; by_recovery = inl refl })

  fell : (n : NodeName) (v : World E) (c : Choice) → resolved c v ≡ node_down (resolved c w) n → ComesFrom due bounds event w v c
  fell n v c is = record { choice_before = c; done = resolved c w; down = node_down (resolved c w) n; by_event = inl refl; by_going_down = inr (n, refl); by_recovery = inl is }

  fell_only : (n : NodeName) (v : World E) → v ≡ read_failed w n → (c : Choice) → ComesFrom due bounds event w v c
  fell_only n v is c = fell n v c (ap (resolved c) is ∙ resolved_down due w s n c)

  recovers : (v : World E) (c : Choice) → resolved c v ≡ recovered (resolved c w) → ComesFrom due bounds event w v c
  recovers v c is = record { choice_before = c; done = resolved c w; down = resolved c w; by_event = inl refl; by_going_down = inl refl; by_recovery = inr is }

  did : (v : World E) (c : Choice) (u : Resolved E) → w.register_up ≡ true → ResolvedStep due bounds (unrecovered c w) event u → resolved c v ≡ u → ComesFrom due bounds event w v c
  did v c u reg does is =
      record {
        choice_before = c;
        done = u;
        down = u;
        by_event = subst (λ x. AtMost (DoneUntold due bounds event) x u) (sym (resolved_up w reg c)) (inr (record { done = u; does = does; same = refl; messages = inl refl; states = λ n. inl refl }));
        by_going_down = inl refl;
        by_recovery = inl is;
      }

  did_and_fell : (v : World E) (c : Choice) (u : Resolved E) (n : NodeName) → w.register_up ≡ true → DoneUntold due bounds event (unrecovered c w) u → resolved c v ≡ node_down u n → ComesFrom due bounds event w v c
  did_and_fell v c u n reg told is =
      record {
        choice_before = c;
        done = u;
        down = node_down u n;
        by_event = subst (λ x. AtMost (DoneUntold due bounds event) x u) (sym (resolved_up w reg c)) (inr told);
        by_going_down = inr (n, refl);
        by_recovery = inl is;
      }

module _ {E Q : Type 0} (due : List E → E → Type 0) (bounds : Bounds) (w : World E) (s : IsKept due w) where
  wrote : (e : E) → w.register_up ≡ true → CanWrite due bounds w.base e → (c : Choice) → ComesFrom {Q = Q} due bounds (Write e) w (write_failed w w.base.duty.holder (journal_written w.base e)) c
  wrote e reg can c =
      by_bool (ComesFrom {Q = Q} due bounds (Write e) w (write_failed w w.base.duty.holder (journal_written w.base e)) c) (choice_at c w.base.duty.holder)
      (λ is. did_and_fell due bounds w s (Write e) (write_failed w w.base.duty.holder (journal_written w.base e)) c (written (unrecovered c w) e) w.base.duty.holder reg
      (record { done = written (unrecovered c w) e; does = (can_write due w s bounds e c can, refl); same = refl; messages = inl refl; states = λ n. inl refl })
      (lands due w s w.base.duty.holder (journal_written w.base e) c reg can.up is
      ∙ ap (λ (st : NodeState E). with_node (unrecovered c w) w.base.duty.holder (record (node_at (unrecovered c w).nodes w.base.duty.holder) { up = false; journal = st.journal ++ record { entry = e; epoch = w.base.duty.epoch } ∷ [] })) (sym (own_is due w s c w.base.duty.holder can.up))
      ∙ sym (ap (λ ns. with_nodes w.base ns) (put_down (picked_nodes c w.failed_writes w.base.nodes) w.base.duty.holder (record (node_at (unrecovered c w).nodes w.base.duty.holder) { journal = journal_written (unrecovered c w) e })))))
      (λ is. fell due bounds w s (Write e) w.base.duty.holder (write_failed w w.base.duty.holder (journal_written w.base e)) c (stays due w s w.base.duty.holder (journal_written w.base e) c reg can.up is))

  stored : (i : ℕ) (x : Shipment E) → item_at w.base.messages i ≡ Some (Ships x) → w.register_up ≡ true → CanStore w.base x → (c : Choice) → ComesFrom {Q = Q} due bounds (Deliver i) w (write_failed w (other x.sender) (journal_after (node_at w.base.nodes (other x.sender)).journal (answer (node_at w.base.nodes (other x.sender)).journal (told_by x)))) c
  stored i x at reg can c =
      by_bool (ComesFrom {Q = Q} due bounds (Deliver i) w (write_failed w (other x.sender) (journal_after (node_at w.base.nodes (other x.sender)).journal (answer (node_at w.base.nodes (other x.sender)).journal (told_by x)))) c) (choice_at c (other x.sender))
      (λ is. did_and_fell due bounds w s (Deliver i) (write_failed w (other x.sender) (journal_after (node_at w.base.nodes (other x.sender)).journal (answer (node_at w.base.nodes (other x.sender)).journal (told_by x)))) c
      (with_node (unrecovered c w) (other x.sender) (record (node_at (unrecovered c w).nodes (other x.sender)) { journal = journal_after (node_at (unrecovered c w).nodes (other x.sender)).journal (answer (node_at (unrecovered c w).nodes (other x.sender)).journal (told_by x)) }))
      (other x.sender) reg
      (record {
        done = delivered (unrecovered c w) (Ships x);
        does = on_same due w s (item_at w.base.messages i) (λ m. CanDeliver (unrecovered c w) m × (delivered (unrecovered c w) (Ships x) ≡ delivered (unrecovered c w) m)) (Ships x) at (can_store due w s x c can, refl);
        same = refl;
        messages = inr refl;
        states = λ n. states_are (picked_nodes c w.failed_writes w.base.nodes) (other x.sender) n (max (node_at (unrecovered c w).nodes (other x.sender)).known x.epoch) (journal_after (node_at (unrecovered c w).nodes (other x.sender)).journal (answer (node_at (unrecovered c w).nodes (other x.sender)).journal (told_by x)));
      })
      (lands due w s (other x.sender) (journal_after (node_at w.base.nodes (other x.sender)).journal (answer (node_at w.base.nodes (other x.sender)).journal (told_by x))) c reg can.up is
      ∙ ap (λ (st : NodeState E). with_node (unrecovered c w) (other x.sender) (record (node_at (unrecovered c w).nodes (other x.sender)) { up = false; journal = journal_after st.journal (answer st.journal (told_by x)) })) (sym (own_is due w s c (other x.sender) can.up))
      ∙ sym (ap (λ ns. with_nodes w.base ns) (put_down (picked_nodes c w.failed_writes w.base.nodes) (other x.sender) (record (node_at (unrecovered c w).nodes (other x.sender)) { journal = journal_after (node_at (unrecovered c w).nodes (other x.sender)).journal (answer (node_at (unrecovered c w).nodes (other x.sender)).journal (told_by x)) })))))
      (λ is. fell due bounds w s (Deliver i) (other x.sender) (write_failed w (other x.sender) (journal_after (node_at w.base.nodes (other x.sender)).journal (answer (node_at w.base.nodes (other x.sender)).journal (told_by x)))) c (stays due w s (other x.sender) (journal_after (node_at w.base.nodes (other x.sender)).journal (answer (node_at w.base.nodes (other x.sender)).journal (told_by x))) c reg can.up is))

  changed : (event : Event E Q) (d : Duty) (u : (c : Choice) → Resolved E) → w.register_up ≡ true → ((c : Choice) → ResolvedStep due bounds (unrecovered c w) event (u c)) → ((c : Choice) → u c ≡ recovered (with_duty (unrecovered c w) d)) → (c : Choice) → ComesFrom due bounds event w (register_failed w d) c
  changed event d u reg does is c =
      by_bool (ComesFrom due bounds event w (register_failed w d) c) c.duty
      (λ last. did due bounds w s event (register_failed w d) c (u c) reg (does c) (ap (λ b. recovered (with_failed_duty (Some d) b (unrecovered c w))) last ∙ sym (is c)))
      (λ lost. recovers due bounds w s event (register_failed w d) c (ap (λ b. recovered (with_failed_duty (Some d) b (unrecovered c w))) lost ∙ ap recovered (sym (resolved_up w reg c))))

  as_it_is : (event : Event E Q) (v u : World E) (c : Choice) → v ≡ u → ComesFrom due bounds event w u c → ComesFrom due bounds event w v c
  as_it_is event v u c is from = subst (λ z. ComesFrom due bounds event w z c) (sym is) from

  pub fault_origin : (event : Event E Q) (v : World E) → Fails due bounds w event v → (c : Choice) → ComesFrom due bounds event w v c
  fault_origin (Write e) v g c = elim g.1 [
    | inl read ↦ fell_only due bounds w s (Write e) w.base.duty.holder v read.1 c
    | inr write ↦ as_it_is (Write e) v _ c write.1 (wrote e g.0 write.0 c)
  ]
  fault_origin (Ship k) v g c = fell_only due bounds w s (Ship k) w.base.duty.holder v g.2 c
  fault_origin (Deliver i) v g c = let m = on_item (item_at w.base.messages i) _ g.1 in by_message m.0 m.1 m.2
    where
      by_message : (m : Message E) → item_at w.base.messages i ≡ Some m → OnShipment m (λ x. FailsToStore w x v) → ComesFrom {Q = Q} due bounds (Deliver i) w v c
      by_message (Acks a) at h = absurd h
      by_message (Ships x) at h = elim h [
        | inl read ↦ fell_only due bounds w s (Deliver i) (other x.sender) v read.1 c
        | inr write ↦ as_it_is (Deliver i) v _ c write.1 (stored i x at g.0 write.0 c)
      ]
  fault_origin Book v g c = fell_only due bounds w s Book w.base.duty.holder v g.2 c
  fault_origin (Take n) v g c = elim g.1 [
    | inl read ↦ fell_only due bounds w s (Take n) n v read.1 c
    | inr wrote ↦
        as_it_is (Take n) v _ c wrote.1 (changed (Take n) (new_duty w.base n Alone (length (node_at w.base.nodes n).journal)) (λ c. duty_changed (unrecovered c w) n Alone (node_at (unrecovered c w).nodes n).journal) g.0
        (λ c. (can_take due w s bounds n c wrote.0, refl)) (λ c. take_is due w s n c wrote.0.up wrote.0.both) c)
  ]
  fault_origin Go_alone v g c =
      as_it_is Go_alone v _ c g.2 (changed Go_alone (new_duty w.base w.base.duty.holder Alone (length w.base.booked)) (λ c. duty_changed (unrecovered c w) w.base.duty.holder Alone w.base.booked) g.0
      (λ c. (can_take due w s bounds w.base.duty.holder c g.1, refl)) (λ c. same_duty_is due w s Alone c) c)
  fault_origin Pair_up v g c =
      as_it_is Pair_up v _ c g.2 (changed Pair_up (new_duty w.base w.base.duty.holder Both (length w.base.booked)) (λ c. duty_changed (unrecovered c w) w.base.duty.holder Both w.base.booked) g.0
      (λ c. (can_pair due w s bounds c g.1, refl)) (λ c. same_duty_is due w s Both c) c)
  fault_origin (Start n) v g c = nothing due bounds w s (Start n) v g.2 c
  fault_origin Start_duty v g c = elim g.1 [
    | inl same ↦ nothing due bounds w s Start_duty v same c
    | inr read ↦ fell_only due bounds w s Start_duty read.0.holder v read.4 c
  ]
  fault_origin (Ask n r since) v g c = fell_only due bounds w s (Ask n r since) n v g.1 c
  fault_origin (Drop i) v g c = absurd g
  fault_origin (Stop n) v g c = absurd g
