-- What each event changes: the world after it, where it is done, and after a fault in it.
use Rattle.std.specs.Prelude.{ℕ, suc, max, List, [], ◌∷◌, ◌++◌, length, take, Option, Some, None, Bool, true, false, if◌then◌else◌}
use Rattle.ali_base.specs.declared.names.NodeName.{NodeName}
use Rattle.ali_base.specs.declared.duty.Mode.{Mode}
use Rattle.ali_base.specs.declared.duty.Duty.{Duty}
use Rattle.pair_world.specs.Frames.{Frame}
use Rattle.pair_world.specs.World.{other, is_node, told_by, sent_by, acked_to, Shipment, Ack, Message, Ships, Acks, NodeState, node_at, put_node, Resolved, own, holder_journal, known, with_node, recovered, failed_write_at, put_failed_write, World, picked_node, with_failed_duty}
use Rattle.pair_world.specs.Deliveries.{message_from, answer, journal_after, ack_end, ack_of, known_left}

-- What the holder's journal is after a write.
abbrev pub journal_written : {E : Type 0} → Resolved E → E → List (Frame E)
journal_written w entry = holder_journal w ++ record { entry = entry; epoch = w.duty.epoch } ∷ []

-- The holder writes the entry.
abbrev pub written : {E : Type 0} → Resolved E → E → Resolved E
written w entry = with_node w w.duty.holder (record (own w) { journal = journal_written w entry })

-- Frame k of the holder, or the end, on its way.
abbrev pub shipment : {E : Type 0} → Resolved E → ℕ → Shipment E
shipment w k = sent_by w.duty.holder (message_from w.duty.epoch (holder_journal w) k)

-- The shipment of frame k is on its way.
abbrev pub shipped : {E : Type 0} → Resolved E → ℕ → Resolved E
shipped w k = record w { messages = w.messages ++ Ships (shipment w k) ∷ [] }

-- The messages with the acknowledgement to a shipment, which goes to its sender.
abbrev pub with_ack : {E : Type 0} → Shipment E → Option Bool → List (Message E) → List (Message E)
with_ack x None messages = messages
with_ack x (Some end) messages = messages ++ Acks (acked_to x.sender (ack_of (told_by x) end)) ∷ []

-- The receiver answers by the table, and hears the epoch of the message.
abbrev pub shipment_delivered : {E : Type 0} → Resolved E → Shipment E → NodeState E → Resolved E
shipment_delivered w x state =
    record w {
      nodes =
          put_node w.nodes (other x.sender) (record state {
            known = known_left state.known (told_by x);
            journal = journal_after state.journal (answer state.journal (told_by x));
          });
      messages = with_ack x (ack_end (answer state.journal (told_by x))) w.messages;
    }

-- The acknowledgement of a frame counts it, that of the end counts the frames before it and the end.
abbrev pub ack_delivered : {E : Type 0} → Resolved E → Ack → Resolved E
ack_delivered w ack =
    record w {
      acked = max w.acked (if ack.end then ack.preceding else suc ack.preceding);
      ended = max w.ended (if ack.end then suc ack.preceding else 0);
    }

-- The message is delivered.
abbrev pub delivered : {E : Type 0} → Resolved E → Message E → Resolved E
delivered w (Ships x) = shipment_delivered w x (node_at w.nodes (other x.sender))
delivered w (Acks ack) = ack_delivered w ack

-- The receiver hears the epoch of the shipment, and nothing else changes.
abbrev pub epoch_heard : {E : Type 0} → Resolved E → Shipment E → Resolved E
epoch_heard w x =
    with_node w (other x.sender) (record (node_at w.nodes (other x.sender)) { known = known_left (known w (other x.sender)) (told_by x) })

-- The history grows by the frame of the holder past it.
abbrev pub booked_next : {E : Type 0} → Resolved E → Resolved E
booked_next w = record w { booked = take (suc (length w.booked)) (holder_journal w) }

-- The duty after the present one.
abbrev pub new_duty : {E : Type 0} → Resolved E → NodeName → Mode → ℕ → Duty
new_duty w holder mode floor = record { epoch = suc w.duty.epoch; holder = holder; mode = mode; floor = floor }

-- The duty changes, over this history. Its holder knows it, and the two acknowledged numbers begin anew.
abbrev pub duty_changed : {E : Type 0} → Resolved E → NodeName → Mode → List (Frame E) → Resolved E
duty_changed w holder mode history =
    record {
      duty = new_duty w holder mode (length history);
      past = w.duty ∷ w.past;
      booked = history;
      nodes = put_node w.nodes holder (record (node_at w.nodes holder) { known = suc w.duty.epoch });
      messages = w.messages;
      acked = 0;
      ended = 0;
    }

-- The node goes down, and nothing else changes.
abbrev pub node_down : {E : Type 0} → Resolved E → NodeName → Resolved E
node_down w n = with_node w n (record (node_at w.nodes n) { up = false })

-- The node is stopped. The acknowledged numbers are the holder's, and go with it.
abbrev pub stopped : {E : Type 0} → Resolved E → NodeName → Resolved E
stopped w n =
    record w {
      nodes = put_node w.nodes n (record (node_at w.nodes n) { up = false });
      acked = if is_node n w.duty.holder then 0 else w.acked;
      ended = if is_node n w.duty.holder then 0 else w.ended;
    }

-- The node starts, and knows the present epoch. Where its disk was in doubt, the failed write lasted or it did not.
abbrev pub started : {E : Type 0} → World E → NodeName → Bool → World E
started w n lasted =
    record w {
      base =
          with_node w.base n (record (picked_node (failed_write_at w.failed_writes n) lasted (node_at w.base.nodes n)) {
            up = true;
            known = w.base.duty.epoch;
          });
      failed_writes = put_failed_write w.failed_writes n None;
    }

-- The register starts. Where it was in doubt, the failed change lasted or it did not.
abbrev pub register_started : {E : Type 0} → World E → Bool → World E
register_started w lasted =
    record w {
      base = recovered (with_failed_duty w.failed_duty lasted w.base);
      register_up = true;
      failed_duty = None;
    }

-- A read failed at the node: it is down, and its disk is as it was.
abbrev pub read_failed : {E : Type 0} → World E → NodeName → World E
read_failed w n = record w { base = node_down w.base n }

-- A write failed at the node that may have left this journal: it is down.
abbrev pub write_failed : {E : Type 0} → World E → NodeName → List (Frame E) → World E
write_failed w n journal = record w { base = node_down w.base n; failed_writes = put_failed_write w.failed_writes n (Some journal) }

-- A write failed at the register that may have added this duty: it is down.
abbrev pub register_failed : {E : Type 0} → World E → Duty → World E
register_failed w duty = record w { register_up = false; failed_duty = Some duty }

-- What a delivery makes of the receiver's journal.
abbrev pub journal_stored : {E : Type 0} → Resolved E → Shipment E → List (Frame E)
journal_stored w x =
    journal_after (node_at w.nodes (other x.sender)).journal (answer (node_at w.nodes (other x.sender)).journal (told_by x))
