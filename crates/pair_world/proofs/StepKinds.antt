-- The kinds of steps: what each says of the world after, whichever event it is of.
use Rattle.std.proofs.Common.{◌≡◌, ◌⊎◌, inl, inr, Bool, true, List, ◌∙◌, ap}
use Rattle.ali_base.specs.declared.names.NodeName.{NodeName}
use Rattle.pair_world.specs.Frames.{item_at, In}
use Rattle.pair_world.specs.World.{Shipment, Message, Ships, Acks, Resolved, World}
use Rattle.pair_world.specs.Changes.{stopped, started, register_started, epoch_heard}
use Rattle.pair_world.specs.Step.{Event, Write, Ship, Deliver, Drop, Book, Take, Go_alone, Pair_up, Stop, Start, Start_duty, Ask, Bounds, ResolvedStep, WorldStep, Answers, IsBehind, OnShipment, HearsEpoch}
use Rattle.pair_world.proofs.Items.{on_item, in_item}

module _ {E Q : Type 0} (due : List E → E → Type 0) (bounds : Bounds) (w : World E) where
  -- an event of a resolved world, done while the register is up
  pub record IsPlain (event : Event E Q) (v : World E) : Type 0 where
    pub register : w.register_up ≡ true
    pub step : ResolvedStep due bounds w.base event v.base
    pub same : v ≡ record w { base = v.base }

module _ {E : Type 0} (w : World E) where
  -- a stop, a start of a node, a start of the register
  abbrev pub IsStop : World E → Type 0
  IsStop v = (n : NodeName) × (v ≡ record w { base = stopped w.base n })

  abbrev pub IsStart : World E → Type 0
  IsStart v = (n : NodeName) × (lasted : Bool) × (w.register_up ≡ true) × (v ≡ started w n lasted)

  abbrev pub IsRegisterStart : World E → Type 0
  IsRegisterStart v = (lasted : Bool) × (v ≡ register_started w lasted)

  -- an epoch that is heard is that of a shipment on its way
  pub record Hears (v : World E) : Type 0 where
    pub register : w.register_up ≡ true
    pub shipment : Shipment E
    pub sent : In w.base.messages (Ships shipment)
    pub behind : IsBehind w.base shipment
    pub same : v ≡ record w { base = epoch_heard w.base shipment }

module _ {E Q : Type 0} (due : List E → E → Type 0) (bounds : Bounds) (w : World E) where
  pub world_step : (event : Event E Q) (v : World E) → WorldStep due bounds w event v → IsPlain due bounds w event v ⊎ (IsStop w v ⊎ (IsStart w v ⊎ IsRegisterStart w v))
  world_step (Write e) v g = inl (record { register = g.0; step = g.1; same = g.2 })
  world_step (Ship k) v g = inl (record { register = g.0; step = g.1; same = g.2 })
  world_step (Deliver i) v g = inl (record { register = g.0; step = g.1; same = g.2 })
  world_step (Drop i) v g = inl (record { register = g.0; step = g.1; same = g.2 })
  world_step Book v g = inl (record { register = g.0; step = g.1; same = g.2 })
  world_step (Take n) v g = inl (record { register = g.0; step = g.1; same = g.2 })
  world_step Go_alone v g = inl (record { register = g.0; step = g.1; same = g.2 })
  world_step Pair_up v g = inl (record { register = g.0; step = g.1; same = g.2 })
  world_step (Stop n) v g = inr (inl (n, g.1 ∙ ap (λ (z : Resolved E). record w { base = z }) g.0.1))
  world_step (Start n) v g = inr (inr (inl (n, g.0, g.1, g.3)))
  world_step Start_duty v g = inr (inr (inr (g.0, g.2)))
  world_step (Ask n r since) v g = absurd g.1

module _ {E Q : Type 0} (w : World E) where
  -- an answer changes nothing
  pub answer_same : {R : Type 0} (form : List E → Q → R) (event : Event E Q) (reply : R) (v : World E) → Answers form w event reply v → v ≡ w
  answer_same form (Ask n r since) reply v g = g.1
  answer_same form (Write e) reply v g = absurd g
  answer_same form (Ship k) reply v g = absurd g
  answer_same form (Deliver i) reply v g = absurd g
  answer_same form (Drop i) reply v g = absurd g
  answer_same form Book reply v g = absurd g
  answer_same form (Take n) reply v g = absurd g
  answer_same form Go_alone reply v g = absurd g
  answer_same form Pair_up reply v g = absurd g
  answer_same form (Stop n) reply v g = absurd g
  answer_same form (Start n) reply v g = absurd g
  answer_same form Start_duty reply v g = absurd g

  pub hears : (event : Event E Q) (v : World E) → HearsEpoch w event v → Hears w v
  hears (Deliver i) v g = let m = on_item (item_at w.base.messages i) _ g.1 in by_message m.0 (in_item w.base.messages i m.0 m.1) m.2
    where
      by_message : (m : Message E) → In w.base.messages m → OnShipment m (λ x. IsBehind w.base x × (v ≡ record w { base = epoch_heard w.base x })) → Hears w v
      by_message (Acks a) i h = absurd h
      by_message (Ships x) i h = record { register = g.0; shipment = x; sent = i; behind = h.0; same = h.1 }
  hears (Write e) v g = absurd g
  hears (Ship k) v g = absurd g
  hears (Drop i) v g = absurd g
  hears Book v g = absurd g
  hears (Take n) v g = absurd g
  hears Go_alone v g = absurd g
  hears Pair_up v g = absurd g
  hears (Stop n) v g = absurd g
  hears (Start n) v g = absurd g
  hears Start_duty v g = absurd g
  hears (Ask n r since) v g = absurd g
