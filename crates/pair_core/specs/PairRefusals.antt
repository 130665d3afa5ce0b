-- The refusals of the calls of a pair, over the pair alone, with the values that are told; and for each call its row: the refusals in their order. A call is refused by the first of its row that holds.
use Rattle.std.specs.Prelude.{ℕ, suc, List, [], ◌∷◌, length, Option, Some, None, Bool, not, ◌&&◌, ◌||◌, nat_lt, nat_le, if◌then◌else◌}
use Rattle.std.specs.Option.{option_or}
use Rattle.ali_base.specs.Steps.{when}
use Rattle.ali_base.specs.declared.names.DiskName.TheVariants as disks
use Rattle.ali_base.specs.declared.names.NodeName.{NodeName}
use Rattle.pair_world.specs.Refusals.{message_limit, disk_of, is_alone}
use Rattle.pair_world.specs.World.{other, is_node}
use Rattle.pair_core.specs.Pair.{node_of, is_node_up, len_of, duty_of, is_up, count_of, sent_of, bounds_of}
use Rattle.pair_core.specs.declared.faults.PairFault.{PairFault}
use Rattle.pair_core.specs.declared.faults.PairFault.TheVariants as fault
use Rattle.pair_core.specs.declared.pair.Pair.{Pair}

-- this refusal, or else the first of these that holds
abbrev pub or_first : Option PairFault → List (Option PairFault) → Option PairFault
or_first refusal [] = refusal
or_first refusal (next ∷ more) = or_first (option_or refusal next) more

-- the first of these that holds
abbrev pub first_of : List (Option PairFault) → Option PairFault
first_of [] = None
first_of (refusal ∷ more) = or_first refusal more

module _ {D : Type 0} (p : Pair D) where
  -- the holder
  abbrev pub holder : NodeName
  holder = (duty_of p).holder

  -- DOWN duty, DOWN n: it was stopped, or failed, and did not start since.
  abbrev pub duty_is_down : Option PairFault
  duty_is_down = when (not (is_up p)) (fault.Down disks.Duty)

  abbrev pub node_is_down : NodeName → Option PairFault
  node_is_down n = when (not (is_node_up p n)) (fault.Down (disk_of n))

  -- UP n.
  abbrev pub node_is_up : NodeName → Option PairFault
  node_is_up n = when (is_node_up p n) (fault.Up (disk_of n))

  -- OUT OF DUTY: the node is not the holder; for its table in mode Alone only.
  abbrev pub out_of_duty : NodeName → PairFault
  out_of_duty n = fault.OutOfDuty n (duty_of p).epoch holder

  abbrev pub not_holder : NodeName → Option PairFault
  not_holder n = when (not (is_node n holder)) (out_of_duty n)

  abbrev pub not_in_duty : NodeName → Option PairFault
  not_in_duty n = when (is_alone (duty_of p).mode && not (is_node n holder)) (out_of_duty n)

  -- IN FLIGHT, NO FLIGHT: there is a pending entry, is none.
  abbrev pub in_flight : Option PairFault
  in_flight = when (nat_lt (count_of p) (len_of p holder)) (fault.InFlight (suc (count_of p)))

  abbrev pub no_flight : Option PairFault
  no_flight = when (nat_le (len_of p holder) (count_of p)) fault.NoFlight

  -- UNSTORED: in mode Both the other node has not acknowledged the pending entry.
  abbrev pub unstored : Option PairFault
  unstored =
      when (not (is_alone (duty_of p).mode) && nat_le p.acked (count_of p))
      (fault.Unstored (suc (count_of p)) (duty_of p).epoch)

  -- NO ENTRY: frame k is neither there nor next.
  abbrev pub no_entry : ℕ → Option PairFault
  no_entry k = when (nat_lt (suc (len_of p holder)) k) (fault.NoEntry k (len_of p holder))

  -- MESSAGES FULL.
  abbrev pub messages_full : Option PairFault
  messages_full = when (nat_le message_limit (length (sent_of p))) (fault.MessagesFull message_limit)

  -- NOT PAIRED, PAIRED.
  abbrev pub not_paired : Option PairFault
  not_paired = when (is_alone (duty_of p).mode) (fault.NotPaired (duty_of p).epoch holder)

  abbrev pub paired : Option PairFault
  paired = when (not (is_alone (duty_of p).mode)) (fault.Paired (duty_of p).epoch holder)

  -- NOT IN STEP: the end of the history was not acknowledged.
  abbrev pub not_in_step : Option PairFault
  not_in_step = when (nat_le p.ended (count_of p)) (fault.NotInStep p.ended (suc (count_of p)))

  -- EPOCH END: the present epoch is the last.
  abbrev pub epoch_end : Option PairFault
  epoch_end = when (nat_le (bounds_of p).last_epoch (duty_of p).epoch) (fault.EpochEnd (duty_of p).epoch)

  -- How long the node's journal must be: as the history, where it is the holder or the mode is Both.
  abbrev pub needed_length : NodeName → ℕ
  needed_length n = if is_node n holder || not (is_alone (duty_of p).mode) then count_of p else 0

  -- The rows of the calls.
  abbrev pub ready_refusal : NodeName → Option PairFault
  ready_refusal n = first_of (duty_is_down ∷ node_is_down n ∷ not_in_duty n ∷ [])

  abbrev pub write_refusal : NodeName → Option PairFault
  write_refusal n = first_of (duty_is_down ∷ node_is_down n ∷ not_holder n ∷ in_flight ∷ [])

  abbrev pub book_refusal : Option PairFault
  book_refusal = first_of (duty_is_down ∷ node_is_down holder ∷ no_flight ∷ unstored ∷ [])

  abbrev pub ship_refusal : NodeName → ℕ → Option PairFault
  ship_refusal n k = first_of (duty_is_down ∷ node_is_down n ∷ not_holder n ∷ no_entry k ∷ messages_full ∷ [])

  -- of the delivery of a shipment of this sender, and of an acknowledgement to this node
  abbrev pub shipment_refusal : NodeName → Option PairFault
  shipment_refusal sender = first_of (duty_is_down ∷ node_is_down (other sender) ∷ messages_full ∷ [])

  abbrev pub ack_refusal : NodeName → Option PairFault
  ack_refusal to = first_of (duty_is_down ∷ node_is_down to ∷ [])

  -- of what the holder alone does
  abbrev pub held_refusal : Option PairFault
  held_refusal = first_of (duty_is_down ∷ node_is_down holder ∷ [])

  -- of passing frame k on, before it is made
  abbrev pub shipping_refusal : ℕ → Option PairFault
  shipping_refusal k = first_of (duty_is_down ∷ node_is_down holder ∷ no_entry k ∷ [])

  abbrev pub take_refusal : NodeName → Option PairFault
  take_refusal n = first_of (duty_is_down ∷ node_is_down n ∷ not_paired ∷ epoch_end ∷ [])

  abbrev pub pair_refusal : Option PairFault
  pair_refusal = first_of (duty_is_down ∷ node_is_down holder ∷ paired ∷ in_flight ∷ not_in_step ∷ epoch_end ∷ [])

  abbrev pub start_refusal : NodeName → Option PairFault
  start_refusal n = first_of (duty_is_down ∷ node_is_up n ∷ [])

  -- of catching up
  abbrev pub catch_up_refusal : Option PairFault
  catch_up_refusal = first_of (duty_is_down ∷ node_is_down holder ∷ paired ∷ node_is_down (other holder) ∷ [])

  -- What the status tells: of a node that is down no length, and no pending entry where that is the holder.
  abbrev pub length_told : NodeName → Option ℕ
  length_told n = when (is_node_up p n) (len_of p n)

  abbrev pub flight_told : Option ℕ
  flight_told = when (is_node_up p holder && nat_lt (count_of p) (len_of p holder)) (suc (count_of p))
