-- The refusals of the calls of a pair, with the values that are told, and for each call its row: the refusals in their
-- order. A call is refused by the first of its row that holds, and by no other.
use Rattle.std.specs.Prelude.{ℕ, suc, ◌≡◌, ◌⊎◌, List, [], ◌∷◌, length, Option, Some, None, Bool, true, false, not, ◌&&◌, ◌||◌, nat_lt, nat_le, if◌then◌else◌}
use Rattle.ali_base.specs.Steps.{when}
use Rattle.ali_base.specs.declared.names.NodeName.{NodeName}
use Rattle.ali_base.specs.declared.names.NodeName.TheVariants as node
use Rattle.ali_base.specs.declared.names.DiskName.{DiskName}
use Rattle.ali_base.specs.declared.names.DiskName.TheVariants as disk
use Rattle.ali_base.specs.declared.duty.Mode.{Mode}
use Rattle.ali_base.specs.declared.duty.Mode.TheVariants as mode
use Rattle.pair_world.specs.Frames.{Frame, entries}
use Rattle.pair_world.specs.World.{other, is_node, Shipment, Ack, Message, Ships, Acks, node_at, holder_journal, known, World}
use Rattle.pair_world.specs.Step.{Bounds}

-- What a call is refused with, where no device failed.
pub data Refusal : Type 0 where
  Down : (disk : DiskName) → Refusal
  Up : (disk : DiskName) → Refusal
  Out_of_duty : (node : NodeName) (epoch : ℕ) (holder : NodeName) → Refusal
  Ahead : (since count : ℕ) → Refusal
  In_flight : (number : ℕ) → Refusal
  Not_due : Refusal
  Full : (limit : ℕ) → Refusal
  No_entry : (number len : ℕ) → Refusal
  No_message : (number sent : ℕ) → Refusal
  Messages_full : (limit : ℕ) → Refusal
  Stale : (epoch known : ℕ) → Refusal
  No_flight : Refusal
  Unstored : (number epoch : ℕ) → Refusal
  Not_paired : (epoch : ℕ) (holder : NodeName) → Refusal
  Paired : (epoch : ℕ) (holder : NodeName) → Refusal
  Not_in_step : (ended due : ℕ) → Refusal
  Epoch_end : (epoch : ℕ) → Refusal
  Short : (node : NodeName) (have need : ℕ) → Refusal

-- An item of a row: a refusal, where its test holds; or that this entry may be booked next.
pub data Item (E : Type 0) : Type 0 where
  Test : (refusal : Option Refusal) → Item E
  Next : (entry : E) → Item E

-- The first item of the row that holds is this refusal, after this history.
abbrev pub IsRefused : {E : Type 0} → (List E → E → Type 0) → List (Frame E) → List (Item E) → Refusal → Type 0
IsRefused due history [] refusal = ⊥
IsRefused due history (Test told ∷ row) refusal =
    (told ≡ Some refusal) ⊎ ((told ≡ None) × IsRefused due history row refusal)
IsRefused due history (Next entry ∷ row) refusal =
    ((due (entries history) entry → ⊥) × (Not_due ≡ refusal))
    ⊎ (due (entries history) entry × IsRefused due history row refusal)

-- No item of the row holds.
abbrev pub IsPassed : {E : Type 0} → (List E → E → Type 0) → List (Frame E) → List (Item E) → Type 0
IsPassed due history [] = Unit {0}
IsPassed due history (Test told ∷ row) = (told ≡ None) × IsPassed due history row
IsPassed due history (Next entry ∷ row) = due (entries history) entry × IsPassed due history row

-- The most messages that may be on their way.
abbrev pub message_limit : ℕ
message_limit = 10000

-- The disk of the node.
abbrev pub disk_of : NodeName → DiskName
disk_of node.A = disk.A
disk_of node.B = disk.B

abbrev pub is_alone : Mode → Bool
is_alone mode.Both = false
is_alone mode.Alone = true

module _ {E : Type 0} (w : World E) where
  -- DOWN duty, DOWN n: it was stopped, or failed, and did not start since.
  abbrev pub duty_is_down : Option Refusal
  duty_is_down = when (not w.register_up) (Down disk.Duty)

  abbrev pub node_is_down : NodeName → Option Refusal
  node_is_down n = when (not (node_at w.base.nodes n).up) (Down (disk_of n))

  -- UP duty, UP n.
  abbrev pub duty_is_up : Option Refusal
  duty_is_up = when w.register_up (Up disk.Duty)

  abbrev pub node_is_up : NodeName → Option Refusal
  node_is_up n = when (node_at w.base.nodes n).up (Up (disk_of n))

  -- OUT OF DUTY: the node is not the holder; for a request in mode Alone only.
  abbrev pub not_holder : NodeName → Option Refusal
  not_holder n = when (not (is_node n w.base.duty.holder)) (Out_of_duty n w.base.duty.epoch w.base.duty.holder)

  abbrev pub not_in_duty : NodeName → Option Refusal
  not_in_duty n =
      when (is_alone w.base.duty.mode && not (is_node n w.base.duty.holder)) (Out_of_duty n w.base.duty.epoch w.base.duty.holder)

  -- AHEAD: the asker has seen more than the history.
  abbrev pub ahead : ℕ → Option Refusal
  ahead since = when (nat_lt (length w.base.booked) since) (Ahead since (length w.base.booked))

  -- IN FLIGHT, NO FLIGHT: there is a pending entry, is none.
  abbrev pub in_flight : Option Refusal
  in_flight = when (nat_lt (length w.base.booked) (length (holder_journal w.base))) (In_flight (suc (length w.base.booked)))

  abbrev pub no_flight : Option Refusal
  no_flight = when (nat_le (length (holder_journal w.base)) (length w.base.booked)) No_flight

  -- FULL: the holder's journal has no room.
  abbrev pub full : Bounds → Option Refusal
  full bounds = when (nat_le bounds.frames (length (holder_journal w.base))) (Full bounds.frames)

  -- NO ENTRY: frame k is neither there nor next.
  abbrev pub no_entry : ℕ → Option Refusal
  no_entry k = when (nat_lt (suc (length (holder_journal w.base))) k) (No_entry k (length (holder_journal w.base)))

  -- MESSAGES FULL.
  abbrev pub messages_full : Option Refusal
  messages_full = when (nat_le message_limit (length w.base.messages)) (Messages_full message_limit)

  -- STALE: the receiver knows a later epoch; of an acknowledgement, the register does.
  abbrev pub stale : Shipment E → Option Refusal
  stale x = when (nat_lt x.epoch (known w.base (other x.sender))) (Stale x.epoch (known w.base (other x.sender)))

  abbrev pub stale_ack : Ack → Option Refusal
  stale_ack ack = when (nat_lt ack.epoch w.base.duty.epoch) (Stale ack.epoch w.base.duty.epoch)

  -- UNSTORED: in mode Both the other node has not acknowledged the pending entry.
  abbrev pub unstored : Option Refusal
  unstored =
      when (not (is_alone w.base.duty.mode) && nat_le w.base.acked (length w.base.booked))
      (Unstored (suc (length w.base.booked)) w.base.duty.epoch)

  -- NOT PAIRED, PAIRED.
  abbrev pub not_paired : Option Refusal
  not_paired = when (is_alone w.base.duty.mode) (Not_paired w.base.duty.epoch w.base.duty.holder)

  abbrev pub paired : Option Refusal
  paired = when (not (is_alone w.base.duty.mode)) (Paired w.base.duty.epoch w.base.duty.holder)

  -- NOT IN STEP: the end of the history was not acknowledged.
  abbrev pub not_in_step : Option Refusal
  not_in_step = when (nat_le w.base.ended (length w.base.booked)) (Not_in_step w.base.ended (suc (length w.base.booked)))

  -- EPOCH END: the present epoch is the last.
  abbrev pub epoch_end : Bounds → Option Refusal
  epoch_end bounds = when (nat_le bounds.last_epoch w.base.duty.epoch) (Epoch_end w.base.duty.epoch)

  -- How long the node's journal must be: as the history, where it is the holder or the mode is Both.
  abbrev pub needed_length : NodeName → ℕ
  needed_length n = if is_node n w.base.duty.holder || not (is_alone w.base.duty.mode) then length w.base.booked else 0

  -- SHORT: the journal on which the node would start is shorter.
  abbrev pub short : NodeName → List (Frame E) → Option Refusal
  short n journal = when (nat_lt (length journal) (needed_length n)) (Short n (length journal) (needed_length n))

  -- The rows of the calls.
  abbrev pub ready_row : NodeName → List (Item E)
  ready_row n = Test duty_is_down ∷ Test (node_is_down n) ∷ Test (not_in_duty n) ∷ []

  abbrev pub ask_row : NodeName → ℕ → List (Item E)
  ask_row n since = Test duty_is_down ∷ Test (node_is_down n) ∷ Test (not_in_duty n) ∷ Test (ahead since) ∷ []

  abbrev pub write_row : Bounds → NodeName → E → List (Item E)
  write_row bounds n entry =
      Test duty_is_down ∷ Test (node_is_down n) ∷ Test (not_holder n) ∷ Test in_flight ∷ Next entry ∷ Test (full bounds) ∷ []

  abbrev pub ship_row : NodeName → ℕ → List (Item E)
  ship_row n k = Test duty_is_down ∷ Test (node_is_down n) ∷ Test (not_holder n) ∷ Test (no_entry k) ∷ Test messages_full ∷ []

  -- A delivery, of a number that was sent or was not.
  abbrev pub message_row : ℕ → Option (Message E) → List (Item E)
  message_row i None = Test (Some (No_message i (length w.base.messages))) ∷ []
  message_row i (Some (Ships x)) =
      Test duty_is_down ∷ Test (node_is_down (other x.sender)) ∷ Test messages_full ∷ Test (stale x) ∷ []
  message_row i (Some (Acks ack)) = Test duty_is_down ∷ Test (node_is_down ack.to) ∷ Test (stale_ack ack) ∷ []

  -- Passing frame k on, which takes no number: the holder reads it before the other node is looked at.
  abbrev pub shipping_row : ℕ → List (Item E)
  shipping_row k = Test duty_is_down ∷ Test (node_is_down w.base.duty.holder) ∷ Test (no_entry k) ∷ []

  abbrev pub receiving_row : Shipment E → List (Item E)
  receiving_row x = Test (node_is_down (other x.sender)) ∷ Test (stale x) ∷ []

  abbrev pub book_row : List (Item E)
  book_row = Test duty_is_down ∷ Test (node_is_down w.base.duty.holder) ∷ Test no_flight ∷ Test unstored ∷ []

  abbrev pub take_row : Bounds → NodeName → List (Item E)
  take_row bounds n = Test duty_is_down ∷ Test (node_is_down n) ∷ Test not_paired ∷ Test (epoch_end bounds) ∷ []

  abbrev pub alone_row : Bounds → List (Item E)
  alone_row bounds = take_row bounds w.base.duty.holder

  abbrev pub pair_row : Bounds → List (Item E)
  pair_row bounds =
      Test duty_is_down
      ∷ Test (node_is_down w.base.duty.holder)
      ∷ Test paired
      ∷ Test in_flight
      ∷ Test not_in_step
      ∷ Test (epoch_end bounds)
      ∷ []

  abbrev pub catch_up_row : List (Item E)
  catch_up_row =
      Test duty_is_down
      ∷ Test (node_is_down w.base.duty.holder)
      ∷ Test paired
      ∷ Test (node_is_down (other w.base.duty.holder))
      ∷ []

  abbrev pub stop_row : NodeName → List (Item E)
  stop_row n = Test (node_is_down n) ∷ []

  -- A start on this journal.
  abbrev pub start_row : NodeName → List (Frame E) → List (Item E)
  start_row n journal = Test duty_is_down ∷ Test (node_is_up n) ∷ Test (short n journal) ∷ []

  abbrev pub start_duty_row : List (Item E)
  start_duty_row = Test duty_is_up ∷ []

  abbrev pub status_row : List (Item E)
  status_row = Test duty_is_down ∷ []
