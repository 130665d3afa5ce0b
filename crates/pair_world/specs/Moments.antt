-- What the disks may represent at a moment of a call, each for itself, and the world that a run opens over it.
use Rattle.std.specs.Prelude.{◌≡◌, ◌⊎◌, List}
use Rattle.ali_base.specs.declared.names.NodeName.TheVariants.{A, B}
use Rattle.ali_base.specs.declared.duty.Duty.{Duty}
use Rattle.pair_world.specs.Frames.{Frame}
use Rattle.pair_world.specs.World.{World, MayHold, MayRead, opened, without_doubt}
use Rattle.pair_world.specs.Step.{Event, Bounds, Fails, Turn, Runs}

-- The world before the event, or one that a fault of the event leaves.
abbrev pub IsUnderWay : {E Q : Type 0} → (List E → E → Type 0) → Bounds → World E → Event E Q → World E → Type 0
IsUnderWay due bounds w event u = (u ≡ w) ⊎ Fails due bounds w event u

-- A run that begins at a moment of the event: each disk represents a list that it may have before it, or after a fault of
-- it, whatever the other disks represent.
pub record IsMoment {E Q : Type 0} (due : List E → E → Type 0) (bounds : Bounds) (w : World E) (event : Event E Q) (v : World E) : Type 0 where
  pub duty : Duty
  pub past : List Duty
  pub journal_a : List (Frame E)
  pub journal_b : List (Frame E)
  pub register : (u : World E) × IsUnderWay due bounds w event u × MayRead u duty past
  pub disk_a : (u : World E) × IsUnderWay due bounds w event u × MayHold u A journal_a
  pub disk_b : (u : World E) × IsUnderWay due bounds w event u × MayHold u B journal_b
  pub opens : v ≡ without_doubt (opened duty past journal_a journal_b)

-- The same of a course of events: some are done, and one more is under way.
abbrev pub IsMomentIn : {E Q R : Type 0} → (List E → E → Type 0) → (List E → Q → R) → Bounds
    → World E → List (Turn E Q R) → Event E Q → World E → Type 0
IsMomentIn {E} due form bounds w turns event v =
    (u : World E) × Runs due form bounds w turns u × IsMoment due bounds u event v
