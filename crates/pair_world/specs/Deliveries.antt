-- What one node tells another, and the table of deliveries: what a node answers, and what becomes of its journal. Nothing
-- is known here of the world: a node has its journal and the latest epoch that it knows.
use Rattle.std.specs.Prelude.{ℕ, suc, ◌-◌, max, List, [], ◌∷◌, ◌++◌, length, take, slice_get, Option, Some, None, Bool, true, false, not, ◌&&◌, nat_lt, ◌==◌, if◌then◌else◌}
use Rattle.pair_world.specs.Frames.{Frame, epoch_at}

-- A frame of a journal, or its end. Who sends it, and to whom, is not part of it.
pub record NodeMessage (E : Type 0) : Type 0 where
  pub epoch : ℕ  -- the present one when it was made
  pub preceding : ℕ  -- how many frames precede it: the number that it tells is one more
  pub before : ℕ  -- the epoch of the frame before it, 0 for none
  pub frame : Option (Frame E)  -- none for the end: the journal had the preceding frames and no more

-- The acknowledgement of a message.
pub record NodeAck : Type 0 where
  pub epoch : ℕ
  pub preceding : ℕ
  pub end : Bool

-- Message k from this journal: frame k, or the end.
abbrev pub message_from : {E : Type 0} → ℕ → List (Frame E) → ℕ → NodeMessage E
message_from epoch journal k =
    record {
      epoch = epoch;
      preceding = k - 1;
      before = epoch_at journal (k - 1);
      frame = slice_get journal (k - 1);
    }

-- Cut: so many frames stay, and the one after them is the first that is cut.
pub data Answer (E : Type 0) : Type 0 where
  Behind : Answer E
  Have : Answer E
  Cut : (left : ℕ) → Answer E
  Stored : (frame : Frame E) → Answer E
  Have_end : Answer E

-- There is a frame before the one that is told, and the journal has another one there.
abbrev pub differs_before : {E : Type 0} → List (Frame E) → NodeMessage E → Bool
differs_before journal m = nat_lt 0 m.preceding && not (epoch_at journal m.preceding == m.before)

-- The journal goes on past the sender's end, by a frame that is older than the message.
abbrev pub old_next : {E : Type 0} → List (Frame E) → NodeMessage E → Bool
old_next journal m = nat_lt m.preceding (length journal) && nat_lt (epoch_at journal (suc m.preceding)) m.epoch

-- The rows of the table below BEHIND, those for an entry and those for the end.
abbrev pub answer_in : {E : Type 0} → List (Frame E) → NodeMessage E → Option (Frame E) → Answer E
answer_in journal m (Some frame) =
    if nat_lt m.preceding (length journal)
    then (if epoch_at journal (suc m.preceding) == frame.epoch then Have else Cut m.preceding)
    else (if differs_before journal m then Cut (m.preceding - 1) else Stored frame)
answer_in journal m None =
    if differs_before journal m
    then Cut (m.preceding - 1)
    else (if old_next journal m then Cut m.preceding else Have_end)

-- The answer of a node with this journal, where it knows no later epoch.
unfoldable pub answer : {E : Type 0} → List (Frame E) → NodeMessage E → Answer E
answer journal m = if nat_lt (length journal) m.preceding then Behind else answer_in journal m m.frame

-- At most one append or one cut.
abbrev pub journal_after : {E : Type 0} → List (Frame E) → Answer E → List (Frame E)
journal_after journal (Cut left) = take left journal
journal_after journal (Stored frame) = journal ++ frame ∷ []
journal_after journal Behind = journal
journal_after journal Have = journal
journal_after journal Have_end = journal

-- Whether an acknowledgement is made, and then whether it is one of the end.
abbrev pub ack_end : {E : Type 0} → Answer E → Option Bool
ack_end Have = Some false
ack_end (Stored frame) = Some false
ack_end Have_end = Some true
ack_end Behind = None
ack_end (Cut left) = None

-- The acknowledgement of the message. It has the message's epoch.
abbrev pub ack_of : {E : Type 0} → NodeMessage E → Bool → NodeAck
ack_of m end = record { epoch = m.epoch; preceding = m.preceding; end = end }

-- What a node says to a message, with the numbers that are told. Numbers count frames from 1.
pub data NodeReply : Type 0 where
  Told_stale : (epoch known : ℕ) → NodeReply
  Told_behind : (len number : ℕ) → NodeReply
  Told_cut : (number : ℕ) → NodeReply
  Told_stored : (ack : NodeAck) → NodeReply
  Told_have : (ack : NodeAck) → NodeReply
  Told_have_end : (ack : NodeAck) → NodeReply

-- How the answer is told: a cut by the first number that is cut, all others by the number of the message.
abbrev pub told_as : {E : Type 0} → List (Frame E) → NodeMessage E → Answer E → NodeReply
told_as journal m Behind = Told_behind (length journal) (suc m.preceding)
told_as journal m (Cut left) = Told_cut (suc left)
told_as journal m (Stored frame) = Told_stored (ack_of m false)
told_as journal m Have = Told_have (ack_of m false)
told_as journal m Have_end = Told_have_end (ack_of m true)

-- What a node says that knows this epoch.
abbrev pub reply_to : {E : Type 0} → ℕ → List (Frame E) → NodeMessage E → NodeReply
reply_to known journal m =
    if nat_lt m.epoch known then Told_stale m.epoch known else told_as journal m (answer journal m)

-- Its journal after that.
abbrev pub journal_left : {E : Type 0} → ℕ → List (Frame E) → NodeMessage E → List (Frame E)
journal_left known journal m = if nat_lt m.epoch known then journal else journal_after journal (answer journal m)

-- The latest epoch that it knows after that.
abbrev pub known_left : {E : Type 0} → ℕ → NodeMessage E → ℕ
known_left known m = max known m.epoch
