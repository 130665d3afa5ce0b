-- Where each resolution of a world comes from, after a fault: from a resolution of the world before.
use Rattle.std.specs.Prelude.{◌≡◌, List, ◌⊎◌}
use Rattle.ali_base.specs.declared.names.NodeName.{NodeName}
use Rattle.pair_world.specs.World.{node_at, Resolved, known, recovered, World, Choice, resolved}
use Rattle.pair_world.specs.Changes.{node_down}
use Rattle.pair_world.specs.Step.{Event, Bounds, ResolvedStep}

-- Nothing happens, or this does.
abbrev pub AtMost : {E : Type 0} → (Resolved E → Resolved E → Type 0) → Resolved E → Resolved E → Type 0
AtMost R before after = (after ≡ before) ⊎ R before after

-- The event is done, and what it told may be missing: the acknowledgement that it made, and the known epoch that it raised.
pub record DoneUntold {E Q : Type 0} (due : List E → E → Type 0) (bounds : Bounds) (event : Event E Q) (before after : Resolved E) : Type 0 where
  pub done : Resolved E
  pub does : ResolvedStep due bounds before event done
  pub same : after ≡ record done { nodes = after.nodes; messages = after.messages }
  pub messages : (after.messages ≡ done.messages) ⊎ (after.messages ≡ before.messages)
  pub states : (n : NodeName) → (node_at after.nodes n ≡ node_at done.nodes n)
      ⊎ (node_at after.nodes n ≡ record (node_at done.nodes n) { known = known before n })

-- A node goes down, and nothing else changes.
abbrev pub GoesDown : {E : Type 0} → Resolved E → Resolved E → Type 0
GoesDown before after = (n : NodeName) × (after ≡ node_down before n)

-- The register is recovered.
abbrev pub Recovers : {E : Type 0} → Resolved E → Resolved E → Type 0
Recovers before after = after ≡ recovered before

-- From a resolution of the world before, by at most three things: the event, a node's going down and a recovery.
pub record ComesFrom {E Q : Type 0} (due : List E → E → Type 0) (bounds : Bounds) (event : Event E Q) (w v : World E) (choice : Choice) : Type 0 where
  pub choice_before : Choice
  pub done : Resolved E
  pub down : Resolved E
  pub by_event : AtMost (DoneUntold due bounds event) (resolved choice_before w) done
  pub by_going_down : AtMost GoesDown done down
  pub by_recovery : AtMost Recovers down (resolved choice v)
