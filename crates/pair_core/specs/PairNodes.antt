-- The two nodes by their names, and what is on its way between them.
use Rattle.std.specs.Prelude.{◌≡◌, ℕ, ◌-◌, ◌≤◌, Option, Some, None}
use Rattle.ali_base.specs.declared.names.NodeName.{NodeName}
use Rattle.ali_base.specs.declared.names.NodeName.TheVariants.{A, B}
use Rattle.node_journal.specs.FrameBytes.{IsEpoch}
use Rattle.office_entry.specs.declared.entry.Entry.{Entry}
use Rattle.pair_world.specs.World.{Message, Ships, Acks, sent_by, acked_to}
use Rattle.pair_node.specs.Messages.{as_told}
use Rattle.pair_node.specs.declared.message.What.{What}
use Rattle.pair_node.specs.declared.message.What.TheVariants as telling
use Rattle.pair_node.specs.declared.node.Node.{Node}
use Rattle.pair_core.specs.declared.nodes.Nodes.{Nodes}
use Rattle.pair_core.specs.declared.sent.Sent.{Sent}
use Rattle.pair_core.specs.declared.sent.Sent.TheVariants as sent

-- the node of this name
abbrev pub node_in : {D : Type 0} → Nodes D → NodeName → Node D
node_in nodes A = nodes.a
node_in nodes B = nodes.b

-- the nodes with this one in its place
abbrev pub put : {D : Type 0} → Nodes D → NodeName → Node D → Nodes D
put nodes A node = record { a = node; b = nodes.b }
put nodes B node = record { a = nodes.a; b = node }

-- a message of the world
abbrev pub sent_told : Sent → Message Entry
sent_told (sent.Shipment sender message) = Ships (sent_by sender (as_told message))
sent_told (sent.Acknowledgement to ack) =
    Acks (acked_to to (record { epoch = ack.epoch; preceding = ack.number - 1; end = ack.end }))

-- the number of what was sent, its epoch, and the epoch of the frame that it tells
abbrev pub number_of : Sent → ℕ
number_of (sent.Shipment sender message) = message.number
number_of (sent.Acknowledgement to ack) = ack.number

abbrev pub epoch_of : Sent → ℕ
epoch_of (sent.Shipment sender message) = message.epoch
epoch_of (sent.Acknowledgement to ack) = ack.epoch

abbrev pub frame_epoch : What → Option ℕ
frame_epoch (telling.Entry epoch entry) = Some epoch
frame_epoch telling.End = None

abbrev pub frame_epoch_of : Sent → Option ℕ
frame_epoch_of (sent.Shipment sender message) = frame_epoch message.what
frame_epoch_of (sent.Acknowledgement to ack) = None

-- It was sent: its number is at least 1, its epoch at most the present one, and a journal has room for the frame that it tells.
abbrev pub IsSent : (limit present : ℕ) → Sent → Type 0
IsSent limit present s =
    (1 ≤ number_of s) × (epoch_of s ≤ present) × ((epoch : ℕ) → frame_epoch_of s ≡ Some epoch → (number_of s ≤ limit) × IsEpoch epoch)
