-- Passing a frame on, as the course of events that it is: it is shipped, delivered, and dropped; and where the delivery
-- makes an acknowledgement, that is delivered and dropped before. Both messages stand last in the list, so that all
-- others keep their numbers.
use Rattle.std.specs.Prelude.{ℕ, suc, List, [], ◌∷◌, Bool}
use Rattle.pair_world.specs.World.{told_by, acked_to, World}
use Rattle.pair_world.specs.Deliveries.{ack_of}
use Rattle.pair_world.specs.Changes.{shipment, ack_delivered}
use Rattle.pair_world.specs.Replies.{receiver_changed}
use Rattle.pair_world.specs.Step.{Event, Ship, Deliver, Drop, Done, Refused, Turn}

-- The event is done.
abbrev pub done : {E Q R : Type 0} → Event E Q → Turn E Q R
done event = record { event = event; outcome = Done }

-- The event is refused.
abbrev pub refused : {E Q R : Type 0} → Event E Q → Turn E Q R
refused event = record { event = event; outcome = Refused }

-- The holder passes frame k on, and no acknowledgement is made. So many messages are on their way besides.
abbrev pub passes : {E Q R : Type 0} → (k besides : ℕ) → List (Turn E Q R)
passes k besides = done (Ship k) ∷ done (Deliver (suc besides)) ∷ done (Drop (suc besides)) ∷ []

-- The holder passes frame k on, and the acknowledgement comes back.
abbrev pub passes_acked : {E Q R : Type 0} → (k besides : ℕ) → List (Turn E Q R)
passes_acked k besides =
    done (Ship k)
    ∷ done (Deliver (suc besides))
    ∷ done (Deliver (suc (suc besides)))
    ∷ done (Drop (suc (suc besides)))
    ∷ done (Drop (suc besides))
    ∷ []

-- The holder passes frame k on, and the delivery is refused: it is stale, or the receiver is behind.
abbrev pub passes_refused : {E Q R : Type 0} → (k besides : ℕ) → List (Turn E Q R)
passes_refused k besides = done (Ship k) ∷ refused (Deliver (suc besides)) ∷ done (Drop (suc besides)) ∷ []

-- The world after frame k was passed on and nothing was acknowledged: the receiver changed, and nothing else.
abbrev pub passed : {E : Type 0} → World E → ℕ → World E
passed w k = record w { base = receiver_changed w.base (shipment w.base k) }

-- The world after it was passed on and acknowledged: the acknowledgement was heard too.
abbrev pub passed_acked : {E : Type 0} → World E → ℕ → (end : Bool) → World E
passed_acked w k end =
    record w {
      base =
          ack_delivered (receiver_changed w.base (shipment w.base k))
          (acked_to w.base.duty.holder (ack_of (told_by (shipment w.base k)) end));
    }
