-- What a delivery is answered, and what it leaves: the answer and the state of the receiver alone.
use Rattle.pair_world.specs.World.{other, Shipment, told_by, NodeState, node_at, Resolved, with_node}
use Rattle.pair_world.specs.Deliveries.{NodeMessage, NodeReply, answer, ack_end, reply_to, journal_left, known_left}
use Rattle.pair_world.specs.Changes.{with_ack}

-- The node to which the shipment goes.
abbrev pub receiver : {E : Type 0} → Resolved E → Shipment E → NodeState E
receiver w x = node_at w.nodes (other x.sender)

-- What it says.
abbrev pub said : {E : Type 0} → Resolved E → Shipment E → NodeReply
said w x = reply_to (receiver w x).known (receiver w x).journal (told_by x)

-- A node after a message.
abbrev pub state_left : {E : Type 0} → NodeState E → NodeMessage E → NodeState E
state_left state m = record state { known = known_left state.known m; journal = journal_left state.known state.journal m }

-- The world in which the receiver alone changed.
abbrev pub receiver_changed : {E : Type 0} → Resolved E → Shipment E → Resolved E
receiver_changed w x = with_node w (other x.sender) (state_left (receiver w x) (told_by x))

-- The same with the acknowledgement that the receiver made.
abbrev pub receiver_answered : {E : Type 0} → Resolved E → Shipment E → Resolved E
receiver_answered w x =
    record (receiver_changed w x) { messages = with_ack x (ack_end (answer (receiver w x).journal (told_by x))) w.messages }
