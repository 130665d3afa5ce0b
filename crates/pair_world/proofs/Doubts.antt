-- Each step keeps a world in doubt sound: it is the step of each of its choices.
use Rattle.std.proofs.Common.{◌≡◌, ℕ, suc, ◌<◌, ◌≤◌, ◌-◌, Bool, true, false, cond, nat_lt, List, [], ◌∷◌, ◌++◌, length, take, refl, ap, sym, ◌∙◌, subst, arith, Option, Some, None}
use Rattle.std.specs.Prelude.{slice_get, max}
use Rattle.std.proofs.lemmas.List.{take_all}
use Rattle.std.proofs.lemmas.Bool.Decides.{nat_tests}
use Rattle.ali_base.specs.declared.names.NodeName.{NodeName}
use Rattle.ali_base.specs.declared.names.NodeName.TheVariants.{A, B}
use Rattle.ali_base.specs.declared.duty.Mode.{Mode}
use Rattle.ali_base.specs.declared.duty.Mode.TheVariants.{Both, Alone}
use Rattle.ali_base.specs.declared.duty.Duty.{Duty}
use Rattle.pair_world.specs.Frames.{Frame, item_at, epoch_at, Begins, OnItem}
use Rattle.pair_world.specs.World.{told_by, other, is_node, Shipment, Message, Ships, Acks, NodeState, Nodes, node_at, put_node, Resolved, own, known, is_up, with_nodes, with_duty, recovered, FailedWrites, failed_write_at, put_failed_write, World, Choice, choice_at, picked_node, picked_nodes, unrecovered}
use Rattle.pair_world.specs.Deliveries.{answer, journal_after}
use Rattle.pair_world.specs.Changes.{journal_written, written, shipped, shipment_delivered, delivered, booked_next, new_duty, duty_changed, node_down, stopped, epoch_heard}
use Rattle.pair_world.specs.Step.{Event, Write, Ship, Deliver, Drop, Book, Take, Go_alone, Pair_up, Stop, Start, Start_duty, Ask, Bounds, CanWrite, CanStore, CanDeliver, CanLeavePair, CanPair, ResolvedStep}
use Rattle.pair_world.proofs.Parts.{IsKept}
use Rattle.pair_world.proofs.Lists.{Begins-length}
use Rattle.pair_world.proofs.Items.{on_item}

module _ {E : Type 0} where
  pub pick_up : (x : Option (List (Frame E))) (b : Bool) (s : NodeState E) → (picked_node x b s).up ≡ s.up
  pick_up None b s = refl
  pick_up (Some j) true s = refl
  pick_up (Some j) false s = refl

  pub pick_known : (x : Option (List (Frame E))) (b : Bool) (s : NodeState E) → (picked_node x b s).known ≡ s.known
  pick_known None b s = refl
  pick_known (Some j) true s = refl
  pick_known (Some j) false s = refl

  pub at_picked : (c : Choice) (o : FailedWrites E) (ns : Nodes E) (n : NodeName) → failed_write_at o n ≡ None → node_at (picked_nodes c o ns) n ≡ node_at ns n
  at_picked c o ns A e = ap (λ z. picked_node z c.a ns.a) e
  at_picked c o ns B e = ap (λ z. picked_node z c.b ns.b) e

  pub picked_put : (c : Choice) (o : FailedWrites E) (ns : Nodes E) (n : NodeName) (s : NodeState E) → failed_write_at o n ≡ None → picked_nodes c o (put_node ns n s) ≡ put_node (picked_nodes c o ns) n s
  picked_put c o ns A s e = ap (λ z. put_node (picked_nodes c o ns) A (picked_node z c.a s)) e
  picked_put c o ns B s e = ap (λ z. put_node (picked_nodes c o ns) B (picked_node z c.b s)) e

  -- up and known change, whatever the disk represents
  pick_change : (x : Option (List (Frame E))) (b : Bool) (s : NodeState E) (u : Bool) (k : ℕ) → picked_node x b (record { up = u; known = k; journal = s.journal }) ≡ record { up = u; known = k; journal = (picked_node x b s).journal }
  pick_change None b s u k = refl
  pick_change (Some j) true s u k = refl
  pick_change (Some j) false s u k = refl

  pub picked_change : (c : Choice) (o : FailedWrites E) (ns : Nodes E) (n : NodeName) (u : Bool) (k : ℕ) → picked_nodes c o (put_node ns n (record { up = u; known = k; journal = (node_at ns n).journal })) ≡ put_node (picked_nodes c o ns) n (record { up = u; known = k; journal = (node_at (picked_nodes c o ns) n).journal })
  picked_change c o ns A u k = ap (λ z. put_node (picked_nodes c o ns) A z) (pick_change o.a c.a ns.a u k)
  picked_change c o ns B u k = ap (λ z. put_node (picked_nodes c o ns) B z) (pick_change o.b c.b ns.b u k)

  pub picked_failed : (c : Choice) (o : FailedWrites E) (ns : Nodes E) (n : NodeName) (j : List (Frame E)) (s : NodeState E) → picked_nodes c (put_failed_write o n (Some j)) (put_node ns n s) ≡ put_node (picked_nodes c o ns) n (picked_node (Some j) (choice_at c n) s)
  picked_failed c o ns A j s = refl
  picked_failed c o ns B j s = refl

  pub sure_put : (o : FailedWrites E) (ns : Nodes E) (n : NodeName) (s : NodeState E) → ((m : NodeName) → (node_at ns m).up ≡ true → failed_write_at o m ≡ None) → (s.up ≡ true → failed_write_at o n ≡ None) → (m : NodeName) → (node_at (put_node ns n s) m).up ≡ true → failed_write_at o m ≡ None
  sure_put o ns A s sure here A up = here up
  sure_put o ns A s sure here B up = sure B up
  sure_put o ns B s sure here A up = sure A up
  sure_put o ns B s sure here B up = here up

  pub sure_failed : (o : FailedWrites E) (ns : Nodes E) (n : NodeName) (x : Option (List (Frame E))) (s : NodeState E) → ((m : NodeName) → (node_at ns m).up ≡ true → failed_write_at o m ≡ None) → (s.up ≡ true → x ≡ None) → (m : NodeName) → (node_at (put_node ns n s) m).up ≡ true → failed_write_at (put_failed_write o n x) m ≡ None
  sure_failed o ns A x s sure here A up = here up
  sure_failed o ns A x s sure here B up = sure B up
  sure_failed o ns B x s sure here A up = sure A up
  sure_failed o ns B x s sure here B up = here up

pub not_up : false ≡ true → ⊥
not_up e = absurd (cc)

pub same_journal : {E : Type 0} (n m : NodeName) (ns : Nodes E) (k : ℕ) → (node_at (put_node ns n (record (node_at ns n) { known = k })) m).journal ≡ (node_at ns m).journal
same_journal A A ns k = refl
same_journal A B ns k = refl
same_journal B A ns k = refl
same_journal B B ns k = refl

-- a node goes down before or after the register is read: the same
module _ {E : Type 0} where
  pub down_and_know : (n m : NodeName) (ns : Nodes E) (k : ℕ) → put_node (put_node ns n (record (node_at ns n) { up = false })) m (record (node_at (put_node ns n (record (node_at ns n) { up = false })) m) { known = k }) ≡ put_node (put_node ns m (record (node_at ns m) { known = k })) n (record (node_at (put_node ns m (record (node_at ns m) { known = k })) n) { up = false })
  down_and_know A A ns k = refl
  down_and_know A B ns k = refl
  down_and_know B A ns k = refl
  down_and_know B B ns k = refl

  pub down_journal : (n m : NodeName) (ns : Nodes E) → (node_at (put_node ns n (record (node_at ns n) { up = false })) m).journal ≡ (node_at ns m).journal
  down_journal A A ns = refl
  down_journal A B ns = refl
  down_journal B A ns = refl
  down_journal B B ns = refl

  pub recover_down : (y : Resolved E) (d : Duty) (n : NodeName) → recovered (with_duty (node_down y n) d) ≡ node_down (recovered (with_duty y d)) n
  recover_down y d n =
      ap (λ ns. with_nodes (recovered (with_duty (node_down y n) d)) ns) (down_and_know n d.holder y.nodes d.epoch)
      ∙ ap (λ j. record (node_down (recovered (with_duty y d)) n) { booked = cond (nat_lt (length y.booked) d.floor) (take d.floor j) y.booked }) (down_journal n d.holder y.nodes)

  pub recover_new : (y : Resolved E) (n : NodeName) (mode : Mode) (h' : List (Frame E)) (f : ℕ) → cond (nat_lt (length y.booked) f) (take f (node_at y.nodes n).journal) y.booked ≡ h' → length h' ≡ f → duty_changed y n mode h' ≡ recovered (with_duty y (new_duty y n mode f))
  recover_new y n mode h' f is len =
      sym (ap (λ b. record (recovered (with_duty y (new_duty y n mode f))) { booked = b }) is ∙ ap (λ k. record (duty_changed y n mode h') { duty = new_duty y n mode k }) (sym len))

  pub longest : (j h : List (Frame E)) → Begins j h → cond (nat_lt (length h) (length j)) (take (length j) j) h ≡ j
  longest j h b = by_length (nat_lt (length h) (length j)) refl
    where
      by_length : (t : Bool) → nat_lt (length h) (length j) ≡ t → cond t (take (length j) j) h ≡ j
      by_length true e = take_all (length j) j (omega arith)
      by_length false e =
          let long = Begins-length b in
          let same : length h ≡ length j = grind (arith, nat_tests) in
          sym (sym (take_all (length j) j (omega arith)) ∙ ap (λ n. take n j) (sym same) ∙ b.front)

  pub no_longer : (j h : List (Frame E)) (f : ℕ) → f ≡ length h → cond (nat_lt (length h) f) (take f j) h ≡ h
  no_longer j h f is = ap (λ b. cond b (take f j) h) test
    where
      test : nat_lt (length h) f ≡ false
      test = grind (arith, nat_tests)

-- the choices of a world, where one event is done
module _ {E : Type 0} (due : List E → E → Type 0) (w : World E) (s : IsKept due w) where
  -- the node's state in a choice, where it is up and there is no doubt of it
  pub own_is : (c : Choice) (n : NodeName) → is_up w.base n → node_at (unrecovered c w).nodes n ≡ node_at w.base.nodes n
  own_is c n up = at_picked c w.failed_writes w.base.nodes n (s.one_journal n up)

  -- what is known of the node's state in the one is so in the other
  pub to_own : (P : NodeState E → Type 0) (c : Choice) (n : NodeName) → is_up w.base n → P (node_at w.base.nodes n) → P (node_at (unrecovered c w).nodes n)
  to_own P c n up h = subst P (sym (own_is c n up)) h

  abbrev pub at_choice : Choice → Resolved E → Resolved E
  at_choice c u = with_nodes u (picked_nodes c w.failed_writes u.nodes)

  pub up_is : (c : Choice) (n : NodeName) → (node_at (picked_nodes c w.failed_writes w.base.nodes) n).up ≡ (node_at w.base.nodes n).up
  up_is c A = pick_up w.failed_writes.a c.a w.base.nodes.a
  up_is c B = pick_up w.failed_writes.b c.b w.base.nodes.b

  pub known_is : (c : Choice) (n : NodeName) → (node_at (picked_nodes c w.failed_writes w.base.nodes) n).known ≡ (node_at w.base.nodes n).known
  known_is c A = pick_known w.failed_writes.a c.a w.base.nodes.a
  known_is c B = pick_known w.failed_writes.b c.b w.base.nodes.b

  pub written_is : (e : E) (c : Choice) → is_up w.base w.base.duty.holder → at_choice c (written w.base e) ≡ written (unrecovered c w) e
  written_is e c up =
      let x = w.base in
      let h = w.base.duty.holder in
      let state : NodeState E = record (own w.base) { journal = journal_written w.base e } in
      ap (λ ns. with_nodes (written x e) ns) (picked_put c w.failed_writes x.nodes h state (s.one_journal h up))
      ∙ ap (λ (st : NodeState E). with_nodes x (put_node (picked_nodes c w.failed_writes x.nodes) h (record st { journal = st.journal ++ record { entry = e; epoch = x.duty.epoch } ∷ [] }))) (sym (own_is c h up))

  shipped_is : (k : ℕ) (c : Choice) → is_up w.base w.base.duty.holder → shipped (unrecovered c w) k ≡ at_choice c (shipped w.base k)
  shipped_is k c up =
      let x = w.base in
      let h = w.base.duty.holder in
      ap (λ (st : NodeState E). record (unrecovered c w) { messages = x.messages ++ Ships (record { sender = h; epoch = x.duty.epoch; preceding = k - 1; before = epoch_at st.journal (k - 1); frame = slice_get st.journal (k - 1) }) ∷ [] }) (own_is c h up)

  booked_is : (c : Choice) → is_up w.base w.base.duty.holder → booked_next (unrecovered c w) ≡ at_choice c (booked_next w.base)
  booked_is c up = ap (λ (st : NodeState E). record (unrecovered c w) { booked = take (suc (length w.base.booked)) st.journal }) (own_is c w.base.duty.holder up)

  pub shipment_delivered_is : (m : Shipment E) (c : Choice) → is_up w.base (other m.sender) → at_choice c (shipment_delivered w.base m (node_at w.base.nodes (other m.sender))) ≡ shipment_delivered (unrecovered c w) m (node_at (unrecovered c w).nodes (other m.sender))
  shipment_delivered_is m c up =
      let x = w.base in
      let r = other m.sender in
      let old = node_at w.base.nodes (other m.sender) in
      let state : NodeState E = record (node_at w.base.nodes (other m.sender)) { known = max (node_at w.base.nodes (other m.sender)).known m.epoch; journal = journal_after (node_at w.base.nodes (other m.sender)).journal (answer (node_at w.base.nodes (other m.sender)).journal (told_by m)) } in
      ap (λ ns. with_nodes (shipment_delivered x m old) ns) (picked_put c w.failed_writes x.nodes r state (s.one_journal r up))
      ∙ ap (λ (st : NodeState E). shipment_delivered (unrecovered c w) m st) (sym (own_is c r up))

  pub learned_is : (m : Shipment E) (c : Choice) → is_up w.base (other m.sender) → at_choice c (epoch_heard w.base m) ≡ epoch_heard (unrecovered c w) m
  learned_is m c up =
      let x = w.base in
      let r = other m.sender in
      let state : NodeState E = record (node_at w.base.nodes (other m.sender)) { known = max (known w.base (other m.sender)) m.epoch } in
      ap (λ ns. with_nodes x ns) (picked_put c w.failed_writes x.nodes r state (s.one_journal r up))
      ∙ ap (λ (st : NodeState E). with_nodes x (put_node (picked_nodes c w.failed_writes x.nodes) r (record st { known = max st.known m.epoch }))) (sym (own_is c r up))

  pub taken_is : (n : NodeName) (c : Choice) → is_up w.base n → at_choice c (duty_changed w.base n Alone (node_at w.base.nodes n).journal) ≡ duty_changed (unrecovered c w) n Alone (node_at (unrecovered c w).nodes n).journal
  taken_is n c up =
      let x = w.base in
      let state : NodeState E = record (node_at w.base.nodes n) { known = suc w.base.duty.epoch } in
      ap (λ ns. with_nodes (duty_changed x n Alone (node_at x.nodes n).journal) ns) (picked_put c w.failed_writes x.nodes n state (s.one_journal n up))
      ∙ ap (λ (st : NodeState E). with_nodes (duty_changed x n Alone st.journal) (put_node (picked_nodes c w.failed_writes x.nodes) n (record st { known = suc x.duty.epoch }))) (sym (own_is c n up))

  pub same_is : (mode : Mode) (c : Choice) → at_choice c (duty_changed w.base w.base.duty.holder mode w.base.booked) ≡ duty_changed (unrecovered c w) w.base.duty.holder mode w.base.booked
  same_is mode c =
      let x = w.base in
      let h = w.base.duty.holder in
      ap (λ ns. with_nodes (duty_changed x h mode x.booked) ns) (picked_change c w.failed_writes x.nodes h (own w.base).up (suc x.duty.epoch))
      ∙ ap (λ u. with_nodes (duty_changed x h mode x.booked) (put_node (picked_nodes c w.failed_writes x.nodes) h (record { up = u; known = suc x.duty.epoch; journal = (node_at (picked_nodes c w.failed_writes x.nodes) h).journal }))) (sym (up_is c h))

  -- the choice of a world that went down is the choice, gone down
  pub down_is : (c : Choice) (n : NodeName) → at_choice c (node_down w.base n) ≡ node_down (unrecovered c w) n
  down_is c n =
      ap (λ ns. with_nodes w.base ns) (picked_change c w.failed_writes w.base.nodes n false (node_at w.base.nodes n).known)
      ∙ ap (λ k. with_nodes w.base (put_node (picked_nodes c w.failed_writes w.base.nodes) n (record { up = false; known = k; journal = (node_at (picked_nodes c w.failed_writes w.base.nodes) n).journal }))) (sym (known_is c n))

  pub stopped_is : (n : NodeName) (c : Choice) → at_choice c (stopped w.base n) ≡ stopped (unrecovered c w) n
  stopped_is n c = ap (λ (y : Resolved E). record y { acked = cond (is_node n w.base.duty.holder) 0 w.base.acked; ended = cond (is_node n w.base.duty.holder) 0 w.base.ended }) (down_is c n)

  delivered_is : (m : Message E) (c : Choice) → CanDeliver w.base m → at_choice c (delivered w.base m) ≡ delivered (unrecovered c w) m
  delivered_is (Ships x) c g = shipment_delivered_is x c g.up
  delivered_is (Acks a) c g = refl

  pub can_write : (bounds : Bounds) (e : E) (c : Choice) → CanWrite due bounds w.base e → CanWrite due bounds (unrecovered c w) e
  can_write bounds e c g =
      let h = w.base.duty.holder in
      record {
        up = to_own (λ st. st.up ≡ true) c h g.up g.up;
        free = to_own (λ st. length st.journal ≡ length w.base.booked) c h g.up g.free;
        next = g.next;
        room = to_own (λ st. length st.journal < bounds.frames) c h g.up g.room;
      }

  pub can_store : (x : Shipment E) (c : Choice) → CanStore w.base x → CanStore (unrecovered c w) x
  can_store x c g =
      let r = other x.sender in
      record {
        up = to_own (λ st. st.up ≡ true) c r g.up g.up;
        not_stale = to_own (λ st. st.known ≤ x.epoch) c r g.up g.not_stale;
        not_behind = to_own (λ st. x.preceding ≤ length st.journal) c r g.up g.not_behind;
      }

  can_deliver : (m : Message E) (c : Choice) → CanDeliver w.base m → CanDeliver (unrecovered c w) m
  can_deliver (Ships x) c g = can_store x c g
  can_deliver (Acks a) c g = record { up = to_own (λ st. st.up ≡ true) c a.to g.up g.up; not_stale = g.not_stale }

  pub can_take : (bounds : Bounds) (n : NodeName) (c : Choice) → CanLeavePair bounds w.base n → CanLeavePair bounds (unrecovered c w) n
  can_take bounds n c g = record { up = to_own (λ st. st.up ≡ true) c n g.up g.up; both = g.both; epochs_left = g.epochs_left }

  pub can_pair : (bounds : Bounds) (c : Choice) → CanPair bounds w.base → CanPair bounds (unrecovered c w)
  can_pair bounds c g =
      let h = w.base.duty.holder in
      record {
        up = to_own (λ st. st.up ≡ true) c h g.up g.up;
        alone = g.alone;
        free = to_own (λ st. length st.journal ≡ length w.base.booked) c h g.up g.free;
        in_step = g.in_step;
        epochs_left = g.epochs_left;
      }

  moved : (c : Choice) (u x : Resolved E) → u ≡ x → at_choice c u ≡ at_choice c x
  moved c u x e = ap (at_choice c) e

  pub on_same : {A : Type 0} (o : Option A) (P : A → Type 0) (x : A) → o ≡ Some x → P x → OnItem o P
  on_same o P x is h = subst (λ z. OnItem z P) (sym is) h

  -- an event that is done is done in each choice
  pub same_step : {Q : Type 0} (bounds : Bounds) (e : Event E Q) (u : Resolved E) → ResolvedStep due bounds w.base e u → (c : Choice) → ResolvedStep due bounds (unrecovered c w) e (at_choice c u)
  same_step bounds (Write e) u g c = (can_write bounds e c g.0, moved c u _ g.1 ∙ written_is e c g.0.up)
  same_step bounds (Ship k) u g c =
      let h = w.base.duty.holder in
      (record { up = to_own (λ st. st.up ≡ true) c h g.0.up g.0.up; from = g.0.from; within = to_own (λ st. k ≤ suc (length st.journal)) c h g.0.up g.0.within }, moved c u _ g.1 ∙ sym (shipped_is k c g.0.up))
  same_step bounds (Deliver i) u g c =
      let m = on_item (item_at w.base.messages i) _ g in
      on_same (item_at w.base.messages i) _ m.0 m.1 (can_deliver m.0 c m.2.0, moved c u _ m.2.1 ∙ delivered_is m.0 c m.2.0)
  same_step bounds (Drop i) u g c = (g.0, g.1, moved c u _ g.2)
  same_step bounds Book u g c =
      let h = w.base.duty.holder in
      (record { up = to_own (λ st. st.up ≡ true) c h g.0.up g.0.up; pending = to_own (λ st. length w.base.booked < length st.journal) c h g.0.up g.0.pending; stored = g.0.stored }, moved c u _ g.1 ∙ sym (booked_is c g.0.up))
  same_step bounds (Take n) u g c = (can_take bounds n c g.0, moved c u _ g.1 ∙ taken_is n c g.0.up)
  same_step bounds Go_alone u g c = (can_take bounds w.base.duty.holder c g.0, moved c u _ g.1 ∙ same_is Alone c)
  same_step bounds Pair_up u g c = (can_pair bounds c g.0, moved c u _ g.1 ∙ same_is Both c)
  same_step bounds (Stop n) u g c = (to_own (λ st. st.up ≡ true) c n g.0 g.0, moved c u _ g.1 ∙ stopped_is n c)
  same_step bounds (Start n) u g c = absurd g
  same_step bounds Start_duty u g c = absurd g
  same_step bounds (Ask n r since) u g c = absurd g
