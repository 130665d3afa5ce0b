-- The replicated world of the office: its frames have the entries of the booked history.
use Rattle.std.specs.Prelude.{List}
use Rattle.office_entry.specs.Entries.{IsEntry}
use Rattle.office_entry.specs.declared.entry.Entry.{Entry}
use Rattle.office_state.specs.Due.{IsDue}
use Rattle.office_state.specs.History.{state}
use Rattle.office_state.specs.OfficeState.{State}
use Rattle.office_state.specs.declared.limits.Limits.{Limits}
use Rattle.pair_world.specs.Frames.{entries}
use Rattle.pair_world.specs.Limits.{IsWithin}
use Rattle.pair_world.specs.SoundWorld.{IsSound}
use Rattle.pair_world.specs.Step.{Bounds}
use Rattle.pair_world.specs.World.{World}

-- the entry may be booked next after this history
abbrev pub due_after : Limits → List Entry → Entry → Type 0
due_after limits history entry = IsEntry entry × IsDue (state limits history) entry

-- the state after the booked history of the world
abbrev pub state_of : Limits → World Entry → State
state_of limits w = state limits (entries w.base.booked)

-- The world is sound, and no disk of it represents more than the limits allow.
pub record IsLawful (limits : Limits) (bounds : Bounds) (w : World Entry) : Type 0 where
  pub sound : IsSound (due_after limits) w
  pub within : IsWithin bounds w
