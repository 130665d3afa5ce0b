-- Catching up in the world: messages are passed on one after the other, each by its row, and what is told of one leads to the next.
use Rattle.std.specs.Prelude.{◌≡◌, ◌⊎◌, ◌<◌, ℕ, suc, min, List, [], ◌∷◌, length, Option, Some, None, Result, Ok, Err}
use Rattle.office_entry.specs.declared.entry.Entry.{Entry}
use Rattle.office_state.specs.declared.limits.Limits.{Limits}
use Rattle.pair_core.specs.PairPassing.{pass_row}
use Rattle.pair_world.specs.Changes.{shipped}
use Rattle.pair_world.specs.Moments.{IsUnderWay}
use Rattle.pair_world.specs.Refusals.{catch_up_row}
use Rattle.pair_world.specs.Step.{Bounds, Ship, Deliver, WorldStep}
use Rattle.pair_world.specs.World.{World, holder_journal, other_journal}
use Rattle.world_rows.specs.Counts.{Counts}
use Rattle.world_rows.specs.Histories.{due_after, state_of}
use Rattle.world_rows.specs.Rows.{Row, Gives}
use Rattle.world_rows.specs.Told.{Told, Failed, Behind, Cut, Stored, Have, Have_end}
use Rattle.world_rows.specs.WorldRows.{unless}
use Rattle.catch_up.specs.Plan.{next_after}
use Rattle.catch_up.specs.declared.plan.CatchAnswer.TheVariants as answer

-- The number that is passed on after this was told of a message: by the plan. None where that was the end, or no answer.
abbrev pub number_after : Told → Option ℕ
number_after (Behind len number) = next_after (answer.Behind len)
number_after (Cut number) = next_after (answer.Cut number)
number_after (Stored number made) = next_after (answer.Stored number)
number_after (Have number made) = next_after (answer.Have number)
number_after (Have_end number made) = next_after (answer.HaveEnd number)
number_after told = None

-- what is told in the end: the holder's length where the other node has the end, and otherwise what was told of the last message
abbrev pub ended : Told → World Entry → Result ℕ Told
ended (Have_end number made) v = Ok (length (holder_journal v.base))
ended told v = Err told

-- the number that is passed on first: the one after the shorter of the two journals
abbrev pub first_number : World Entry → ℕ
first_number w = suc (min (length (holder_journal w.base)) (length (other_journal w.base)))

-- The row of the first message: before it come the refusals of catching up.
abbrev pub first_row : Limits → World Entry → Row Told (World Entry)
first_row limits w = unless (state_of limits w) (catch_up_row w) (pass_row limits w (first_number w))

module _ (limits : Limits) (before now : Counts) where
  -- From a message on: its row gives what is told of it, and the world after it. These are the messages with one after them; the last has none.
  abbrev pub Course : Row Told (World Entry) → World Entry → List (Told × World Entry) → Told → World Entry → Type 0
  Course row w [] told v = Gives before now Failed w row told v × (number_after told ≡ None)
  Course row w (turn ∷ turns) told v =
      Gives before now Failed w row turn.0 turn.1
      × (k : ℕ) × (number_after turn.0 ≡ Some k) × Course (pass_row limits turn.1 k) turn.1 turns told v

  -- Catching up: this is told of the last message, or of the refusal, and the world is then v.
  abbrev pub CatchesUp : World Entry → Told → World Entry → Type 0
  CatchesUp w told v = (turns : List (Told × World Entry)) × Course (first_row limits w) w turns told v

  -- The same so far: these were told with a message after them, and message k comes next, in the world u.
  abbrev pub CourseTo : Row Told (World Entry) → ℕ → World Entry → List (Told × World Entry) → ℕ → World Entry → Type 0
  CourseTo row first w [] k u = (first ≡ k) × (w ≡ u)
  CourseTo row first w (turn ∷ turns) k u =
      Gives before now Failed w row turn.0 turn.1
      × (j : ℕ) × (number_after turn.0 ≡ Some j) × CourseTo (pass_row limits turn.1 j) j turn.1 turns k u

  -- Catching up so far: message k comes next, in the world u.
  abbrev pub HasComeTo : World Entry → ℕ → World Entry → Type 0
  HasComeTo w k u = (turns : List (Told × World Entry)) × CourseTo (first_row limits w) (first_number w) w turns k u

-- the world in which message k is on its way
abbrev pub with_shipment : World Entry → ℕ → World Entry
with_shipment u k = record u { base = shipped u.base k }

-- A world on the way of catching up: the one before it; or, of a message that came next and was shipped, the one before its delivery or one that a fault of the delivery leaves.
abbrev pub IsOnTheWay : Limits → Bounds → Counts → Counts → World Entry → World Entry → Type 0
IsOnTheWay limits bounds before now w v =
    (v ≡ w)
    ⊎ ((k : ℕ) × (u : World Entry) × HasComeTo limits before now w k u
    × WorldStep {Q = List ℕ} (due_after limits) bounds u (Ship k) (with_shipment u k)
    × IsUnderWay {Q = List ℕ} (due_after limits) bounds (with_shipment u k) (Deliver (suc (length u.base.messages))) v)

-- The other node has caught up: its journal is the holder's, which has this length, and the end of it is acknowledged.
pub record IsInStep (w : World Entry) (len : ℕ) : Type 0 where
  pub journals : other_journal w.base ≡ holder_journal w.base
  pub long : len ≡ length (holder_journal w.base)
  pub ended : len < w.base.ended
