-- For each part of the invariant a world that lacks it, and a schedule from it to a loss.
use Rattle.std.specs.Prelude.{ℕ, ◌≡◌, List, [], ◌∷◌, ◌++◌, Some, true, false}
use Rattle.ali_base.specs.declared.names.NodeName.TheVariants.{A, B}
use Rattle.ali_base.specs.declared.duty.Mode.TheVariants.{Both, Alone}
use Rattle.pair_world.specs.Frames.{Frame, Begins}
use Rattle.pair_world.specs.World.{Ships, Acks, Resolved, first_duty, World}
use Rattle.pair_world.specs.Step.{Event, Write, Deliver, Book, Take, Pair_up, Stop, Start, Start_duty, Faulted, WorldStep, Turn, Runs}
use Rattle.pair_world.specs.SoundWorld.{AreCounted, Part, Holds}
use Rattle.pair_world.specs.WorkedSchedules.{office_bounds, framed, node_is, duty_is, world_at}
use Rattle.pair_world.specs.Passing.{done, passes_acked}

-- The event is done, and the history after it does not begin with the one before.
abbrev pub Loses : {E Q : Type 0} → (List E → E → Type 0) → World E → Event E Q → Type 0
Loses {E} due w event =
    (v : World E) × WorldStep due office_bounds w event v × (Begins v.base.booked w.base.booked → ⊥)

-- The world has all parts of the invariant but, it may be, this one.
pub record HasOthers {E : Type 0} (due : List E → E → Type 0) (missing : Part) (w : Resolved E) : Type 0 where
  pub holds : (part : Part) → (missing ≡ part → ⊥) → Holds due w part
  pub counted : AreCounted w.duty w.past

-- The schedule leads from this world to a second one, in which the event loses what was booked.
pub record RunsToLoss {E Q R : Type 0} (due : List E → E → Type 0) (form : List E → Q → R) (w : World E) (turns : List (Turn E Q R)) (v : World E) (event : Event E Q) : Type 0 where
  pub runs : Runs due form office_bounds w turns v
  pub loses : Loses due v event

-- A new office under a, which wrote the entry.
abbrev pub one_written : {E : Type 0} → E → (booked others : List (Frame E)) → (acked : ℕ) → World E
one_written entry booked others acked =
    world_at first_duty [] booked (node_is true 1 (framed entry 1 ∷ [])) (node_is true 1 others) [] acked 0

-- 1. The pending entry may not be booked next. It is stored, acknowledged and booked.
abbrev pub not_due : {E : Type 0} → E → World E
not_due entry = one_written entry [] [] 0

-- The schedule from it.
abbrev pub booked_all_the_same : {E Q R : Type 0} → List (Turn E Q R)
booked_all_the_same = passes_acked 1 0 ++ (done Book ∷ [])

-- The world after it.
abbrev pub after_not_due : {E : Type 0} → E → World E
after_not_due entry = one_written entry (framed entry 1 ∷ []) (framed entry 1 ∷ []) 1

-- 2. In mode Both the other node lacks a booked frame. It takes over.
abbrev pub not_mirrored : {E : Type 0} → E → World E
not_mirrored entry = one_written entry (framed entry 1 ∷ []) [] 0

-- 3. In mode Alone, under b, the suffix of the other node is of the term. The end is acknowledged, and they pair.
abbrev pub young_suffix : {E : Type 0} → E → World E
young_suffix entry =
    world_at (duty_is 2 B Alone 0) (first_duty ∷ []) [] (node_is true 2 (framed entry 2 ∷ [])) (node_is true 2 []) [] 0 0

-- The schedule from it.
abbrev pub paired_early : {E Q R : Type 0} → List (Turn E Q R)
paired_early = passes_acked 1 0 ++ (done Pair_up ∷ [])

-- The world after it.
abbrev pub after_young_suffix : {E : Type 0} → E → World E
after_young_suffix entry =
    world_at (duty_is 3 B Both 0) (duty_is 2 B Alone 0 ∷ first_duty ∷ []) [] (node_is true 2 (framed entry 2 ∷ [])) (node_is true 3 []) [] 0 0

-- 4. Two entries have one number and one epoch. They are taken for one, the nodes pair, and a takes over.
abbrev pub not_agreeing : {E : Type 0} → (one another : E) → World E
not_agreeing one another =
    world_at
    (duty_is 2 B Alone 0)
    (first_duty ∷ [])
    (framed another 1 ∷ [])
    (node_is true 2 (framed one 1 ∷ []))
    (node_is true 2 (framed another 1 ∷ []))
    []
    0
    0

-- The schedule from it.
abbrev pub paired_apart : {E Q R : Type 0} → List (Turn E Q R)
paired_apart = passes_acked 1 0 ++ passes_acked 2 0 ++ (done Pair_up ∷ [])

-- The world after it.
abbrev pub after_not_agreeing : {E : Type 0} → (one another : E) → World E
after_not_agreeing one another =
    world_at
    (duty_is 3 B Both 1)
    (duty_is 2 B Alone 0 ∷ first_duty ∷ [])
    (framed another 1 ∷ [])
    (node_is true 2 (framed one 1 ∷ []))
    (node_is true 3 (framed another 1 ∷ []))
    []
    0
    0

-- 5. An acknowledgement has an epoch above the present one. In that epoch it counts for an entry that was never stored.
abbrev pub early_ack : {E : Type 0} → World E
early_ack =
    world_at
    (duty_is 2 A Alone 0)
    (first_duty ∷ [])
    []
    (node_is true 2 [])
    (node_is true 1 [])
    (Acks (record { to = A; epoch = 3; preceding = 0; end = false }) ∷ [])
    0
    1

-- The schedule from it.
abbrev pub booked_unstored : {E Q R : Type 0} → E → List (Turn E Q R)
booked_unstored entry = done Pair_up ∷ done (Write entry) ∷ done (Deliver 1) ∷ done Book ∷ []

-- The world after it.
abbrev pub after_early_ack : {E : Type 0} → E → World E
after_early_ack entry =
    world_at
    (duty_is 3 A Both 0)
    (duty_is 2 A Alone 0 ∷ first_duty ∷ [])
    (framed entry 3 ∷ [])
    (node_is true 3 (framed entry 3 ∷ []))
    (node_is true 1 [])
    (Acks (record { to = A; epoch = 3; preceding = 0; end = false }) ∷ [])
    1
    0

-- 6. A shipment that is not stale tells a frame that the holder never wrote. It is stored, and the receiver takes over.
abbrev pub not_current : {E : Type 0} → (known : ℕ) → (first stray : E) → World E
not_current known first stray =
    world_at
    first_duty
    []
    (framed first 1 ∷ [])
    (node_is true 1 (framed first 1 ∷ []))
    (node_is true known (framed first 1 ∷ []))
    (Ships (record { sender = A; epoch = 1; preceding = 1; before = 1; frame = Some (framed stray 1) }) ∷ [])
    0
    0

-- The schedule from it.
abbrev pub stored_stray : {E Q R : Type 0} → List (Turn E Q R)
stored_stray = done (Deliver 1) ∷ done (Take B) ∷ []

-- The world after it.
abbrev pub after_stray : {E : Type 0} → (first stray : E) → World E
after_stray first stray =
    world_at
    (duty_is 2 B Alone 2)
    (first_duty ∷ [])
    (framed first 1 ∷ framed stray 1 ∷ [])
    (node_is true 1 (framed first 1 ∷ []))
    (node_is true 2 (framed first 1 ∷ framed stray 1 ∷ []))
    (Ships (record { sender = A; epoch = 1; preceding = 1; before = 1; frame = Some (framed stray 1) })
    ∷ Acks (record { to = A; epoch = 1; preceding = 1; end = false })
    ∷ [])
    0
    0

-- 7. The acknowledged number counts a frame that the other node lacks. It is booked, and the other takes over.
abbrev pub not_stored : {E : Type 0} → E → World E
not_stored entry = one_written entry [] [] 1

-- The world after it.
abbrev pub after_not_stored : {E : Type 0} → E → World E
after_not_stored entry = one_written entry (framed entry 1 ∷ []) [] 1

-- 8. Node b knows an epoch above the present one, so a shipment that no one sent is stale to it. It starts again, knows
-- the present epoch, and takes the shipment.
abbrev pub stored_after_start : {E Q R : Type 0} → List (Turn E Q R)
stored_after_start = done (Stop B) ∷ done (Start B) ∷ stored_stray

-- 9. The floor is above the length of the history. A change of duty fails, and the recovery books what is pending.
abbrev pub high_floor_with : {E : Type 0} → E → (booked : List (Frame E)) → World E
high_floor_with entry booked =
    world_at
    (duty_is 3 A Both 1)
    (duty_is 2 A Alone 0 ∷ first_duty ∷ [])
    booked
    (node_is true 3 (framed entry 3 ∷ []))
    (node_is true 1 [])
    []
    0
    0

-- The world before it.
abbrev pub high_floor : {E : Type 0} → E → World E
high_floor entry = high_floor_with entry []

-- The schedule from it.
abbrev pub recovered_too_far : {E Q R : Type 0} → List (Turn E Q R)
recovered_too_far = record { event = Take B; outcome = Faulted } ∷ done Start_duty ∷ []

-- The world after it.
abbrev pub after_high_floor : {E : Type 0} → E → World E
after_high_floor entry = high_floor_with entry (framed entry 3 ∷ [])
