-- The table of deliveries, by the epochs of a journal alone.
use Rattle.std.specs.Prelude.{ℕ, ◌-◌, ◌==◌, ◌&&◌, nat_lt, not, if◌then◌else◌, Bool, true, false, List, length, slice_index}
use Rattle.pair_node.specs.Messages.{ack_of}
use Rattle.pair_node.specs.declared.message.Delivered.{Delivered}
use Rattle.pair_node.specs.declared.message.Delivered.TheVariants as delivered
use Rattle.pair_node.specs.declared.message.Message.{Message}
use Rattle.pair_node.specs.declared.message.What.{What}
use Rattle.pair_node.specs.declared.message.What.TheVariants as telling

-- there is a frame before the one that is told, and the journal has another one there
abbrev pub differs : List ℕ → Message → Bool
differs epochs m = nat_lt 0 (m.number - 1) && not (slice_index epochs (m.number - 1 - 1) == m.before)

-- the journal goes on past the sender's end, by a frame that is older than the message
abbrev pub goes_on : List ℕ → Message → Bool
goes_on epochs m = nat_lt (m.number - 1) (length epochs) && nat_lt (slice_index epochs (m.number - 1)) m.epoch

-- the rows below BEHIND, those for an entry and those for the end
abbrev pub decision_in : List ℕ → Message → What → Delivered
decision_in epochs m (telling.Entry epoch entry) =
    if nat_lt (m.number - 1) (length epochs)
    then (if slice_index epochs (m.number - 1) == epoch then delivered.Have (ack_of m false) else delivered.Cut m.number)
    else (if differs epochs m then delivered.Cut (m.number - 1) else delivered.Stored (ack_of m false))
decision_in epochs m telling.End =
    if differs epochs m
    then delivered.Cut (m.number - 1)
    else (if goes_on epochs m then delivered.Cut m.number else delivered.HaveEnd (ack_of m true))

-- the answer of a node that knows no later epoch
unfoldable pub decision : List ℕ → Message → Delivered
decision epochs m =
    if nat_lt (length epochs) (m.number - 1) then delivered.Behind (length epochs) m.number else decision_in epochs m m.what
