-- Worked schedules, each with the world after it. Entries are any: E is their type.
use Rattle.std.specs.Prelude.{ℕ, List, [], ◌∷◌, ◌++◌, Some, Bool, true, false}
use Rattle.ali_base.specs.declared.names.NodeName.{NodeName}
use Rattle.ali_base.specs.declared.names.NodeName.TheVariants.{A, B}
use Rattle.ali_base.specs.declared.duty.Mode.{Mode}
use Rattle.ali_base.specs.declared.duty.Mode.TheVariants.{Both, Alone}
use Rattle.ali_base.specs.declared.duty.Duty.{Duty}
use Rattle.pair_world.specs.Frames.{Frame}
use Rattle.pair_world.specs.World.{Message, Ships, Acks, NodeState, first_duty, World, without_doubt}
use Rattle.pair_world.specs.Passing.{done, refused, passes, passes_acked}
use Rattle.pair_world.specs.Step.{Event, Write, Ship, Deliver, Book, Take, Go_alone, Pair_up, Stop, Start, Start_duty, Faulted, Bounds, WorldStep, Turn}

-- The limits of the office.
abbrev pub office_bounds : Bounds
office_bounds = record { frames = 1000000; last_epoch = 4194303 }

-- The event cannot be done in this world, so it is refused.
abbrev pub IsNotDone : {E Q : Type 0} → (List E → E → Type 0) → World E → Event E Q → Type 0
IsNotDone due w event = (v : World _) → WorldStep due office_bounds w event v → ⊥

-- An entry with its epoch.
abbrev pub framed : {E : Type 0} → E → ℕ → Frame E
framed entry epoch = record { entry = entry; epoch = epoch }

-- A node, by whether it is up, the epoch that it knows and its journal.
abbrev pub node_is : {E : Type 0} → Bool → ℕ → List (Frame E) → NodeState E
node_is up known journal = record { up = up; known = known; journal = journal }

-- A duty.
abbrev pub duty_is : ℕ → NodeName → Mode → ℕ → Duty
duty_is epoch holder mode floor = record { epoch = epoch; holder = holder; mode = mode; floor = floor }

-- A world without doubt, with these two acknowledged numbers.
abbrev pub world_at : {E : Type 0} → Duty → List Duty → List (Frame E) → NodeState E → NodeState E → List (Message E) → (acked ended : ℕ) → World E
world_at duty past booked a b messages acked ended =
    without_doubt (record {
      duty = duty;
      past = past;
      booked = booked;
      nodes = record { a = a; b = b };
      messages = messages;
      acked = acked;
      ended = ended;
    })

-- A world without doubt, with nothing acknowledged.
abbrev pub world_is : {E : Type 0} → Duty → List Duty → List (Frame E) → NodeState E → NodeState E → List (Message E) → World E
world_is duty past booked a b messages = world_at duty past booked a b messages 0 0

-- An old shipment after two takeovers. Node a writes and ships an entry; b takes over, writes the entry anew and books it;
-- a catches up, which cuts its own frame; they pair, and a takes over. Only then the first shipment comes, and is stale.
abbrev pub old_shipment : {E Q R : Type 0} → E → List (Turn E Q R)
old_shipment entry =
    (done (Write entry) ∷ done (Ship 1) ∷ done (Take B) ∷ done (Write entry) ∷ done Book ∷ [])
    ++ passes 2 1
    ++ passes_acked 1 1
    ++ passes_acked 2 1
    ++ (done Pair_up ∷ done (Take A) ∷ refused (Deliver 1) ∷ [])

-- The world after it.
abbrev pub after_old_shipment : {E : Type 0} → E → World E
after_old_shipment entry =
    world_is
    (duty_is 4 A Alone 1)
    (duty_is 3 B Both 1 ∷ duty_is 2 B Alone 0 ∷ first_duty ∷ [])
    (framed entry 2 ∷ [])
    (node_is true 4 (framed entry 2 ∷ []))
    (node_is true 3 (framed entry 2 ∷ []))
    (Ships (record { sender = A; epoch = 1; preceding = 0; before = 0; frame = Some (framed entry 1) }) ∷ [])

-- The uncommitted suffix of a deposed holder. Node a writes an entry and is stopped; b takes over, and a starts again.
abbrev pub deposed_holder : {E Q R : Type 0} → E → List (Turn E Q R)
deposed_holder entry = done (Write entry) ∷ done (Stop A) ∷ done (Take B) ∷ done (Start A) ∷ []

-- The world after it.
abbrev pub after_deposed_holder : {E : Type 0} → E → World E
after_deposed_holder entry =
    world_is
    (duty_is 2 B Alone 0)
    (first_duty ∷ [])
    []
    (node_is true 2 (framed entry 1 ∷ []))
    (node_is true 2 [])
    []

-- Then a catches up, which cuts its frame, and they pair.
abbrev pub suffix_cut : {E Q R : Type 0} → List (Turn E Q R)
suffix_cut = passes 1 0 ++ passes_acked 1 0 ++ (done Pair_up ∷ [])

-- The world after it.
abbrev pub after_suffix_cut : {E : Type 0} → World E
after_suffix_cut =
    world_is
    (duty_is 3 B Both 0)
    (duty_is 2 B Alone 0 ∷ first_duty ∷ [])
    []
    (node_is true 2 [])
    (node_is true 3 [])
    []

-- A takeover books what the taker has stored. Two entries are booked in mode Both; a third is stored by b and not booked
-- when a stops; b takes over with it, and goes on with a fourth.
abbrev pub stored_then_taken : {E Q R : Type 0} → (first second third fourth : E) → List (Turn E Q R)
stored_then_taken first second third fourth =
    (done (Write first) ∷ [])
    ++ passes_acked 1 0
    ++ (done Book ∷ done (Write second) ∷ [])
    ++ passes_acked 2 0
    ++ (done Book ∷ done (Write third) ∷ done (Ship 3) ∷ done (Deliver 1) ∷ done (Stop A) ∷ done (Take B) ∷ done (Write fourth) ∷ done Book ∷ [])

-- The world after it.
abbrev pub after_stored_then_taken : {E : Type 0} → (first second third fourth : E) → World E
after_stored_then_taken first second third fourth =
    world_is
    (duty_is 2 B Alone 3)
    (first_duty ∷ [])
    (framed first 1 ∷ framed second 1 ∷ framed third 1 ∷ framed fourth 2 ∷ [])
    (node_is false 1 (framed first 1 ∷ framed second 1 ∷ framed third 1 ∷ []))
    (node_is true 2 (framed first 1 ∷ framed second 1 ∷ framed third 1 ∷ framed fourth 2 ∷ []))
    (Ships (record { sender = A; epoch = 1; preceding = 2; before = 1; frame = Some (framed third 1) })
    ∷ Acks (record { to = A; epoch = 1; preceding = 2; end = false })
    ∷ [])

-- Booking waits for the other node in mode Both. With an entry written, no other is written, and it is not booked.
abbrev pub written_in_both : {E Q R : Type 0} → E → List (Turn E Q R)
written_in_both entry = done (Write entry) ∷ refused (Write entry) ∷ refused Book ∷ []

-- The world after it.
abbrev pub after_written_in_both : {E : Type 0} → E → World E
after_written_in_both entry =
    world_is first_duty [] [] (node_is true 1 (framed entry 1 ∷ [])) (node_is true 1 []) []

-- Alone the holder books it at once. Then nothing is pending, and the other node is not in step.
abbrev pub booked_alone : {E Q R : Type 0} → List (Turn E Q R)
booked_alone = done Go_alone ∷ done Book ∷ refused Book ∷ refused Pair_up ∷ []

-- The world after it.
abbrev pub after_booked_alone : {E : Type 0} → E → World E
after_booked_alone entry =
    world_is
    (duty_is 2 A Alone 0)
    (first_duty ∷ [])
    (framed entry 1 ∷ [])
    (node_is true 2 (framed entry 1 ∷ []))
    (node_is true 1 [])
    []

-- The other node catches up, they pair, and the holder goes alone once more, and not twice.
abbrev pub paired_again : {E Q R : Type 0} → List (Turn E Q R)
paired_again = passes_acked 1 0 ++ passes_acked 2 0 ++ (done Pair_up ∷ done Go_alone ∷ refused Go_alone ∷ [])

-- The world after it.
abbrev pub after_paired_again : {E : Type 0} → E → World E
after_paired_again entry =
    world_is
    (duty_is 4 A Alone 1)
    (duty_is 3 A Both 1 ∷ duty_is 2 A Alone 0 ∷ first_duty ∷ [])
    (framed entry 1 ∷ [])
    (node_is true 4 (framed entry 1 ∷ []))
    (node_is true 2 (framed entry 1 ∷ []))
    []

-- The register fails in a takeover by b, and starts again: the world is as before, or b has taken over.
abbrev pub failed_takeover : {E Q R : Type 0} → List (Turn E Q R)
failed_takeover = record { event = Take B; outcome = Faulted } ∷ done Start_duty ∷ []

-- The world after it, where the change lasted.
abbrev pub after_failed_takeover : {E : Type 0} → World E
after_failed_takeover =
    world_is (duty_is 2 B Alone 0) (first_duty ∷ []) [] (node_is true 1 []) (node_is true 2 []) []
