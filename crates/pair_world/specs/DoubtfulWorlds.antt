-- Two worlds whose register is down, each of whose resolutions has the nine parts, and which are not sound: what the two
-- further facts of a sound world are for.
use Rattle.std.specs.Prelude.{[], ◌∷◌, Some, None, true, false}
use Rattle.ali_base.specs.declared.names.NodeName.TheVariants.{A, B}
use Rattle.ali_base.specs.declared.duty.Mode.TheVariants.{Both, Alone}
use Rattle.pair_world.specs.World.{first_duty, Choice, World}
use Rattle.pair_world.specs.WorkedSchedules.{framed, node_is, duty_is, world_is}

-- A takeover by b is in doubt, and so is b's own disk, between two different last frames.
abbrev pub doubtful_taker : {E : Type 0} → (one another : E) → World E
doubtful_taker one another =
    record {
      base =
          (world_is
          (duty_is 4 A Alone 0)
          (duty_is 3 B Both 0 ∷ duty_is 2 B Alone 0 ∷ first_duty ∷ [])
          []
          (node_is true 4 [])
          (node_is false 3 (framed one 2 ∷ []))
          []).base;
      failed_writes = record { a = None; b = Some (framed another 2 ∷ []) };
      register_up = false;
      failed_duty = Some (duty_is 5 B Alone 1);
    }

-- The choice of what the failed write on b's disk left.
abbrev pub write_lasted : Choice
write_lasted = record { a = false; b = true; duty = true }

-- A pairing is in doubt, above a history that the recovery would replace.
abbrev pub replaced_history : {E : Type 0} → (booked one another : E) → World E
replaced_history booked one another =
    record {
      base =
          (world_is
          (duty_is 2 A Alone 2)
          (first_duty ∷ [])
          (framed booked 1 ∷ [])
          (node_is true 2 (framed one 1 ∷ framed another 1 ∷ []))
          (node_is true 1 (framed one 1 ∷ framed another 1 ∷ []))
          []).base;
      failed_writes = record { a = None; b = None };
      register_up = false;
      failed_duty = Some (duty_is 3 A Both 2);
    }
