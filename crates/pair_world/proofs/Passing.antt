-- Passing a frame on runs as the course of events that it is.
use Rattle.std.proofs.Common.{◌≡◌, ℕ, suc, inl, inr, Bool, true, List, [], ◌∷◌, ◌++◌, length, refl, ap, sym, ◌∙◌, subst, arith, Option, Some, None}
use Rattle.std.specs.Prelude.{slice_get}
use Rattle.std.proofs.lemmas.List.{length_push}
use Rattle.ali_base.specs.declared.names.NodeName.{NodeName}
use Rattle.ali_base.specs.declared.names.NodeName.TheVariants.{A, B}
use Rattle.pair_world.specs.Frames.{item_at, OnItem, without}
use Rattle.pair_world.specs.World.{other, Shipment, Ack, Message, Ships, Acks, NodeState, Nodes, node_at, put_node, Resolved, told_by, acked_to, World}
use Rattle.pair_world.specs.Deliveries.{answer, ack_end, ack_of}
use Rattle.pair_world.specs.Changes.{shipment, ack_delivered, delivered, with_ack}
use Rattle.pair_world.specs.Replies.{receiver, state_left, receiver_changed}
use Rattle.pair_world.specs.Step.{Ship, Deliver, Drop, Bounds, CanShip, CanStore, CanDeliver, IsBehind, WorldStep, Refuses, Runs}
use Rattle.pair_world.specs.Passing.{passes, passes_acked, passes_refused, passed, passed_acked}
use Rattle.pair_world.proofs.Received.{behind_heard, taken_done}

last_is : {A : Type 0} (xs : List A) (y : A) → slice_get (xs ++ y ∷ []) (length xs) ≡ Some y
last_is [] y = refl
last_is (x ∷ xs) y = last_is xs y

one_more : {A : Type 0} (xs : List A) (y : A) → length (xs ++ y ∷ []) ≡ suc (length xs)
one_more xs y = omega (arith, length_push xs y)

-- the last message is the one of that number, and without it the list is as before
last_dropped : {A : Type 0} (xs : List A) (y : A) → without (xs ++ y ∷ []) (suc (length xs)) ≡ xs
last_dropped [] y = refl
last_dropped (x ∷ xs) y = ap (λ z. x ∷ z) (last_dropped xs y)

other_stays : {E : Type 0} (ns : Nodes E) (n : NodeName) (st : NodeState E) → node_at (put_node ns (other n) st) n ≡ node_at ns n
other_stays ns A st = refl
other_stays ns B st = refl

module _ {E : Type 0} (due : List E → E → Type 0) (bounds : Bounds) (w : World E) (k : ℕ) (reg : w.register_up ≡ true) where
  abbrev sent : Shipment E
  sent = shipment w.base k

  -- the world with these messages besides, and otherwise as it is
  abbrev with_messages : Resolved E → List (Message E) → World E
  with_messages base messages = record w { base = record base { messages = messages } }

  ships : CanShip w.base k → WorldStep {Q = Unit {0}} due bounds w (Ship k) (with_messages w.base (w.base.messages ++ Ships sent ∷ []))
  ships can = (reg, (can, refl), refl)

  drops : (base : Resolved E) (ms : List (Message E)) (m : Message E) → WorldStep {Q = Unit {0}} due bounds (with_messages base (ms ++ m ∷ [])) (Drop (suc (length ms))) (with_messages base ms)
  drops base ms m = (reg, (omega arith, omega (arith, length_push ms m), ap (λ z. record base { messages = z }) (sym (last_dropped ms m))), refl)

  -- the shipment comes first of the list after it
  takes : CanStore w.base sent → (made : Option Bool) → ack_end (answer (receiver w.base sent).journal (told_by sent)) ≡ made
      → WorldStep {Q = Unit {0}} due bounds (with_messages w.base (w.base.messages ++ Ships sent ∷ [])) (Deliver (suc (length w.base.messages))) (with_messages (receiver_changed w.base sent) (with_ack sent made (w.base.messages ++ Ships sent ∷ [])))
  takes can made is =
      subst (λ o. WorldStep {Q = Unit {0}} due bounds (with_messages w.base (w.base.messages ++ Ships sent ∷ [])) (Deliver (suc (length w.base.messages))) (with_messages (receiver_changed w.base sent) (with_ack sent o (w.base.messages ++ Ships sent ∷ [])))) is
      (taken_done (with_messages w.base (w.base.messages ++ Ships sent ∷ [])) (suc (length w.base.messages)) sent (last_is w.base.messages (Ships sent)) due bounds reg
      (record { up = can.up; not_stale = can.not_stale; not_behind = can.not_behind }))

  -- its acknowledgement comes to the holder
  abbrev acked : Bool → Ack
  acked end = acked_to w.base.duty.holder (ack_of (told_by sent) end)

  hears_ack : CanShip w.base k → (end : Bool) → WorldStep {Q = Unit {0}} due bounds (with_messages (receiver_changed w.base sent) ((w.base.messages ++ Ships sent ∷ []) ++ Acks (acked end) ∷ [])) (Deliver (suc (suc (length w.base.messages)))) (with_messages (ack_delivered (receiver_changed w.base sent) (acked end)) ((w.base.messages ++ Ships sent ∷ []) ++ Acks (acked end) ∷ []))
  hears_ack can end = (
    reg,
    subst (λ o. OnItem o (λ m. CanDeliver (with_messages (receiver_changed w.base sent) ((w.base.messages ++ Ships sent ∷ []) ++ Acks (acked end) ∷ [])).base m × ((with_messages (ack_delivered (receiver_changed w.base sent) (acked end)) ((w.base.messages ++ Ships sent ∷ []) ++ Acks (acked end) ∷ [])).base ≡ delivered (with_messages (receiver_changed w.base sent) ((w.base.messages ++ Ships sent ∷ []) ++ Acks (acked end) ∷ [])).base m))) (sym at)
        (record { up = subst (λ (st : NodeState E). st.up ≡ true) (sym (other_stays w.base.nodes w.base.duty.holder (state_left (receiver w.base sent) (told_by sent)))) can.up; not_stale = omega arith }, refl),
    refl,
  )
    where
      at : item_at ((w.base.messages ++ Ships sent ∷ []) ++ Acks (acked end) ∷ []) (suc (suc (length w.base.messages))) ≡ Some (Acks (acked end))
      at = ap (slice_get ((w.base.messages ++ Ships sent ∷ []) ++ Acks (acked end) ∷ [])) (sym (one_more w.base.messages (Ships sent))) ∙ last_is (w.base.messages ++ Ships sent ∷ []) (Acks (acked end))

  drops_ack : (base : Resolved E) (m : Message E) → WorldStep {Q = Unit {0}} due bounds (with_messages base ((w.base.messages ++ Ships sent ∷ []) ++ m ∷ [])) (Drop (suc (suc (length w.base.messages)))) (with_messages base (w.base.messages ++ Ships sent ∷ []))
  drops_ack base m =
      subst (λ n. WorldStep {Q = Unit {0}} due bounds (with_messages base ((w.base.messages ++ Ships sent ∷ []) ++ m ∷ [])) (Drop (suc n)) (with_messages base (w.base.messages ++ Ships sent ∷ []))) (one_more w.base.messages (Ships sent))
      (drops base (w.base.messages ++ Ships sent ∷ []) m)

  is_behind : IsBehind w.base sent → Refuses {Q = Unit {0}} (with_messages w.base (w.base.messages ++ Ships sent ∷ [])) (Deliver (suc (length w.base.messages))) (with_messages (receiver_changed w.base sent) (w.base.messages ++ Ships sent ∷ []))
  is_behind g =
      inr (behind_heard (with_messages w.base (w.base.messages ++ Ships sent ∷ [])) (suc (length w.base.messages)) sent (last_is w.base.messages (Ships sent)) reg
      (record { up = g.up; not_stale = g.not_stale; behind = g.behind }))

module _ {E Q R : Type 0} (due : List E → E → Type 0) (form : List E → Q → R) (bounds : Bounds) (w : World E) (k : ℕ) (reg : w.register_up ≡ true) (can : CanShip w.base k) where
  abbrev after_ship : World E
  after_ship = record w { base = record w.base { messages = w.base.messages ++ Ships (shipment w.base k) ∷ [] } }

  pub acked_runs : CanStore w.base (shipment w.base k) → (end : Bool) → ack_end (answer (receiver w.base (shipment w.base k)).journal (told_by (shipment w.base k))) ≡ Some end → Runs due form bounds w (passes_acked {E = E} {Q = Q} {R = R} k (length w.base.messages)) (passed_acked w k end)
  acked_runs store end is =
      (_, ships due bounds w k reg can, (_, takes due bounds w k reg store (Some end) is, (_, hears_ack due bounds w k reg can end, (_, drops_ack due bounds w k reg (ack_delivered (receiver_changed w.base (shipment w.base k)) (acked due bounds w k reg end)) (Acks (acked due bounds w k reg end)), (passed_acked w k end, drops due bounds w k reg (ack_delivered (receiver_changed w.base (shipment w.base k)) (acked due bounds w k reg end)) w.base.messages (Ships (shipment w.base k)), refl)))))

  pub cut_runs : CanStore w.base (shipment w.base k) → ack_end (answer (receiver w.base (shipment w.base k)).journal (told_by (shipment w.base k))) ≡ None → Runs due form bounds w (passes {E = E} {Q = Q} {R = R} k (length w.base.messages)) (passed w k)
  cut_runs store is = (_, ships due bounds w k reg can, (_, takes due bounds w k reg store None is, (passed w k, drops due bounds w k reg (receiver_changed w.base (shipment w.base k)) w.base.messages (Ships (shipment w.base k)), refl)))

  pub behind_runs : IsBehind w.base (shipment w.base k) → Runs due form bounds w (passes_refused {E = E} {Q = Q} {R = R} k (length w.base.messages)) (passed w k)
  behind_runs g = (_, ships due bounds w k reg can, (_, is_behind due bounds w k reg g, (passed w k, drops due bounds w k reg (receiver_changed w.base (shipment w.base k)) w.base.messages (Ships (shipment w.base k)), refl)))

  pub stale_runs : Runs due form bounds w (passes_refused {E = E} {Q = Q} {R = R} k (length w.base.messages)) w
  stale_runs = (_, ships due bounds w k reg can, (after_ship, inl refl, (w, drops due bounds w k reg w.base w.base.messages (Ships (shipment w.base k)), refl)))
