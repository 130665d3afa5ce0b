-- Which step of the world an event is, by what is told of it.
use Rattle.std.specs.Prelude.{ℕ, List, ◌≡◌, Bool, Option, Some, None}
use Rattle.office_entry.specs.declared.entry.Entry.{Entry}
use Rattle.office_state.specs.declared.limits.Limits.{Limits}
use Rattle.pair_world.specs.Step.{Bounds, Event, Fails, HearsEpoch, WorldStep}
use Rattle.pair_world.specs.World.{World}
use Rattle.world_rows.specs.Counts.{Counts}
use Rattle.world_rows.specs.Histories.{due_after}
use Rattle.world_rows.specs.Rows.{Row, Gives}
use Rattle.world_rows.specs.Told.{Told, Refused, Not_due, Failed, Behind, Foreign, Damaged}

-- A request for the number of ten digits.
abbrev pub OfficeEvent : Type 0
OfficeEvent = Event Entry (List ℕ)

-- What is refused changes nothing, save that a receiver which is behind hears the epoch; a failure leaves what a fault of the event leaves; a success is the event done.
abbrev pub IsStep : Limits → Bounds → World Entry → OfficeEvent → Told → World Entry → Type 0
IsStep limits bounds w event (Refused refusal) v = v ≡ w
IsStep limits bounds w event (Not_due fault) v = v ≡ w
IsStep limits bounds w event (Failed disk) v = Fails (due_after limits) bounds w event v
IsStep limits bounds w event (Foreign disk) v = ⊥
IsStep limits bounds w event (Damaged disk frame) v = ⊥
IsStep limits bounds w event (Behind len number) v = HearsEpoch w event v
IsStep limits bounds w event told v = WorldStep (due_after limits) bounds w event v

-- The row of an event gives what is told, and the world is then this one; or memory ran out, and it stays. lasted says of a disk in doubt that its failed write did last.
abbrev pub Comes : Counts → Counts → World Entry → (Bool → World Entry → Row Told (World Entry)) → Option Told → World Entry → Type 0
Comes before now w row None v = v ≡ w
Comes before now w row (Some told) v = (lasted : Bool) × Gives before now Failed w (row lasted w) told v
