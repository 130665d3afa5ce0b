-- The step of the world: where each event is done, and what a refusal, a fault and a halt leave.
use Rattle.std.specs.Prelude.{ℕ, suc, ◌≡◌, ◌<◌, ◌≤◌, List, [], ◌∷◌, length, Bool, true, false, ◌⊎◌}
use Rattle.ali_base.specs.declared.names.NodeName.{NodeName}
use Rattle.ali_base.specs.declared.duty.Mode.TheVariants.{Both, Alone}
use Rattle.ali_base.specs.declared.duty.Duty.{Duty}
use Rattle.pair_world.specs.Frames.{entries, item_at, OnItem, without}
use Rattle.pair_world.specs.World.{other, Shipment, Ack, Message, Ships, Acks, node_at, Resolved, holder_journal, known, is_up, World, MayRead, IsReopened}
use Rattle.pair_world.specs.Changes.{journal_written, written, shipped, delivered, epoch_heard, booked_next, new_duty, duty_changed, stopped, started, register_started, read_failed, write_failed, register_failed, journal_stored}

-- What may happen. Numbers of frames and of messages count from 1.
pub data Event (E Q : Type 0) : Type 0 where
  Write : (entry : E) → Event E Q
  Ship : (k : ℕ) → Event E Q
  Deliver : (message : ℕ) → Event E Q
  Drop : (message : ℕ) → Event E Q
  Book : Event E Q
  Take : (node : NodeName) → Event E Q
  Go_alone : Event E Q
  Pair_up : Event E Q
  Stop : (node : NodeName) → Event E Q
  Start : (node : NodeName) → Event E Q
  Start_duty : Event E Q
  Ask : (node : NodeName) (request : Q) (since : ℕ) → Event E Q

-- What becomes of an event. Faulted: a device failed in it. Halted: the office stopped in it, and a new run begins.
pub data Outcome (R : Type 0) : Type 0 where
  Done : Outcome R
  Answered : (reply : R) → Outcome R
  Refused : Outcome R
  Faulted : Outcome R
  Halted : Outcome R

-- How many frames a journal may have, and the last epoch.
pub record Bounds : Type 0 where
  pub frames : ℕ
  pub last_epoch : ℕ

-- The holder's journal is the booked history: no entry is written and not booked.
abbrev pub nothing_pending : {E : Type 0} → Resolved E → Type 0
nothing_pending w = length (holder_journal w) ≡ length w.booked

-- The holder is up, nothing is pending, the entry is due, and there is room.
pub record CanWrite {E : Type 0} (due : List E → E → Type 0) (bounds : Bounds) (w : Resolved E) (entry : E) : Type 0 where
  pub up : is_up w w.duty.holder
  pub free : nothing_pending w
  pub next : due (entries w.booked) entry
  pub room : length (holder_journal w) < bounds.frames

-- The holder is up, and its journal has frame k, or ends before it.
pub record CanShip {E : Type 0} (w : Resolved E) (k : ℕ) : Type 0 where
  pub up : is_up w w.duty.holder
  pub from : 0 < k
  pub within : k ≤ suc (length (holder_journal w))

-- A shipment comes to a node that is up, knows no later epoch and is not behind.
pub record CanStore {E : Type 0} (w : Resolved E) (x : Shipment E) : Type 0 where
  pub up : is_up w (other x.sender)
  pub not_stale : known w (other x.sender) ≤ x.epoch
  pub not_behind : x.preceding ≤ length (node_at w.nodes (other x.sender)).journal

-- An acknowledgement comes, and is of the present epoch: of a sound world none is later.
pub record CanHear {E : Type 0} (w : Resolved E) (ack : Ack) : Type 0 where
  pub up : is_up w ack.to
  pub not_stale : w.duty.epoch ≤ ack.epoch

-- The message is taken.
abbrev pub CanDeliver : {E : Type 0} → Resolved E → Message E → Type 0
CanDeliver w (Ships x) = CanStore w x
CanDeliver w (Acks ack) = CanHear w ack

-- The holder has a pending entry, and in mode Both the other node acknowledged it.
pub record CanBook {E : Type 0} (w : Resolved E) : Type 0 where
  pub up : is_up w w.duty.holder
  pub pending : length w.booked < length (holder_journal w)
  pub stored : w.duty.mode ≡ Both → length w.booked < w.acked

-- The pair may be left, and this node goes on alone: by a takeover, or as the holder.
pub record CanLeavePair {E : Type 0} (bounds : Bounds) (w : Resolved E) (n : NodeName) : Type 0 where
  pub up : is_up w n
  pub both : w.duty.mode ≡ Both
  pub epochs_left : w.duty.epoch < bounds.last_epoch

-- The holder is alone, nothing is pending, and the end of the history was acknowledged: the other node is in step.
pub record CanPair {E : Type 0} (bounds : Bounds) (w : Resolved E) : Type 0 where
  pub up : is_up w w.duty.holder
  pub alone : w.duty.mode ≡ Alone
  pub free : nothing_pending w
  pub in_step : length w.booked < w.ended
  pub epochs_left : w.duty.epoch < bounds.last_epoch

-- The step of a resolved world: the event is done. Start, Start_duty and Ask are not among these events.
abbrev pub ResolvedStep : {E Q : Type 0} → (List E → E → Type 0) → Bounds → Resolved E → Event E Q → Resolved E → Type 0
ResolvedStep due bounds w (Write entry) v = CanWrite due bounds w entry × (v ≡ written w entry)
ResolvedStep due bounds w (Ship k) v = CanShip w k × (v ≡ shipped w k)
ResolvedStep due bounds w (Deliver i) v = OnItem (item_at w.messages i) (λ m. CanDeliver w m × (v ≡ delivered w m))
ResolvedStep due bounds w (Drop i) v = (0 < i) × (i ≤ length w.messages) × (v ≡ record w { messages = without w.messages i })
ResolvedStep due bounds w Book v = CanBook w × (v ≡ booked_next w)
ResolvedStep due bounds w (Take n) v = CanLeavePair bounds w n × (v ≡ duty_changed w n Alone (node_at w.nodes n).journal)
ResolvedStep due bounds w Go_alone v = CanLeavePair bounds w w.duty.holder × (v ≡ duty_changed w w.duty.holder Alone w.booked)
ResolvedStep due bounds w Pair_up v = CanPair bounds w × (v ≡ duty_changed w w.duty.holder Both w.booked)
ResolvedStep due bounds w (Stop n) v = is_up w n × (v ≡ stopped w n)
ResolvedStep due bounds w event v = ⊥

-- The step of a world: the event is done. Stop and Start_duty are done while the register is down too.
abbrev pub WorldStep : {E Q : Type 0} → (List E → E → Type 0) → Bounds → World E → Event E Q → World E → Type 0
WorldStep {E} {Q} due bounds w (Stop n) v =
    ResolvedStep {E = E} {Q = Q} due bounds w.base (Stop n) v.base × (v ≡ record w { base = v.base })
WorldStep due bounds w (Start n) v =
    (lasted : Bool) × (w.register_up ≡ true) × ((node_at w.base.nodes n).up ≡ false) × (v ≡ started w n lasted)
WorldStep due bounds w Start_duty v =
    (lasted : Bool) × (w.register_up ≡ false) × (v ≡ register_started w lasted)
WorldStep due bounds w event v =
    (w.register_up ≡ true) × ResolvedStep due bounds w.base event v.base × (v ≡ record w { base = v.base })

-- A request is answered by a node in step that has seen so much, from all of the booked history.
pub record IsAnswer {E Q R : Type 0} (form : List E → Q → R) (w : Resolved E) (n : NodeName) (request : Q) (since : ℕ) (reply : R) : Type 0 where
  pub up : is_up w n
  pub in_step : (n ≡ w.duty.holder) ⊎ (w.duty.mode ≡ Both)
  pub seen : since ≤ length w.booked
  pub reply_is : reply ≡ form (entries w.booked) request

-- Only a request is answered, and it changes nothing.
abbrev pub Answers : {E Q R : Type 0} → (List E → Q → R) → World E → Event E Q → R → World E → Type 0
Answers form w (Ask n request since) reply v = IsAnswer form w.base n request since reply × (v ≡ w)
Answers form w event reply v = ⊥

-- A shipment comes to a node that is up and knows no later epoch, but has not the frames before it.
pub record IsBehind {E : Type 0} (w : Resolved E) (x : Shipment E) : Type 0 where
  pub up : is_up w (other x.sender)
  pub not_stale : known w (other x.sender) ≤ x.epoch
  pub behind : length (node_at w.nodes (other x.sender)).journal < x.preceding

-- The message is a shipment, and it meets this.
abbrev pub OnShipment : {E : Type 0} → Message E → (Shipment E → Type 0) → Type 0
OnShipment (Ships x) P = P x
OnShipment (Acks ack) P = ⊥

-- The delivery is answered BEHIND, and the receiver hears the epoch.
abbrev pub HearsEpoch : {E Q : Type 0} → World E → Event E Q → World E → Type 0
HearsEpoch w (Deliver i) v =
    (w.register_up ≡ true) × OnItem (item_at w.base.messages i) (λ m.
    OnShipment m (λ x. IsBehind w.base x × (v ≡ record w { base = epoch_heard w.base x })))
HearsEpoch w event v = ⊥

-- A refusal changes nothing, save that the answer BEHIND may raise the known epoch.
abbrev pub Refuses : {E Q : Type 0} → World E → Event E Q → World E → Type 0
Refuses w event v = (v ≡ w) ⊎ HearsEpoch w event v

-- The receiver goes down before it stores, or in it.
abbrev pub FailsToStore : {E : Type 0} → World E → Shipment E → World E → Type 0
FailsToStore w x v =
    (is_up w.base (other x.sender) × (v ≡ read_failed w (other x.sender)))
    ⊎ (CanStore w.base x × (v ≡ write_failed w (other x.sender) (journal_stored w.base x)))

-- A device failed in the event: the node, or the register, is down with the lists before and after, and nothing else
-- changed. In Take and in Start_duty the node may fail whose journal is read to be booked.
abbrev pub Fails : {E Q : Type 0} → (List E → E → Type 0) → Bounds → World E → Event E Q → World E → Type 0
Fails due bounds w (Write entry) v =
    (w.register_up ≡ true)
    × ((is_up w.base w.base.duty.holder × (v ≡ read_failed w w.base.duty.holder))
    ⊎ (CanWrite due bounds w.base entry × (v ≡ write_failed w w.base.duty.holder (journal_written w.base entry))))
Fails due bounds w (Ship k) v = (w.register_up ≡ true) × is_up w.base w.base.duty.holder × (v ≡ read_failed w w.base.duty.holder)
Fails due bounds w (Deliver i) v =
    (w.register_up ≡ true) × OnItem (item_at w.base.messages i) (λ m. OnShipment m (λ x. FailsToStore w x v))
Fails due bounds w Book v = (w.register_up ≡ true) × is_up w.base w.base.duty.holder × (v ≡ read_failed w w.base.duty.holder)
Fails due bounds w (Take n) v =
    (w.register_up ≡ true)
    × ((is_up w.base n × (v ≡ read_failed w n))
    ⊎ (CanLeavePair bounds w.base n
    × (v ≡ register_failed w (new_duty w.base n Alone (length (node_at w.base.nodes n).journal)))))
Fails due bounds w Go_alone v =
    (w.register_up ≡ true) × CanLeavePair bounds w.base w.base.duty.holder
    × (v ≡ register_failed w (new_duty w.base w.base.duty.holder Alone (length w.base.booked)))
Fails due bounds w Pair_up v =
    (w.register_up ≡ true) × CanPair bounds w.base
    × (v ≡ register_failed w (new_duty w.base w.base.duty.holder Both (length w.base.booked)))
Fails due bounds w (Start n) v = (w.register_up ≡ true) × ((node_at w.base.nodes n).up ≡ false) × (v ≡ w)
Fails due bounds w Start_duty v =
    (w.register_up ≡ false)
    × ((v ≡ w)
    ⊎ ((duty : Duty) × (past : List Duty) × MayRead w duty past × is_up w.base duty.holder × (v ≡ read_failed w duty.holder)))
Fails due bounds w (Ask n request since) v = is_up w.base n × (v ≡ read_failed w n)
Fails due bounds w (Drop i) v = ⊥
Fails due bounds w (Stop n) v = ⊥

-- A halt at any moment of the event: a new run opens one list of each disk, and the disk that the event changes has the
-- list before or after.
abbrev pub Halts : {E Q : Type 0} → (List E → E → Type 0) → Bounds → World E → Event E Q → World E → Type 0
Halts {E} due bounds w event v = (u : World E) × ((u ≡ w) ⊎ Fails due bounds w event u) × IsReopened u v

-- The step: a world, an event, its outcome, and the world after.
abbrev pub Step : {E Q R : Type 0} → (List E → E → Type 0) → (List E → Q → R) → Bounds
    → World E → Event E Q → Outcome R → World E → Type 0
Step due form bounds w event Done v = WorldStep due bounds w event v
Step due form bounds w event (Answered reply) v = Answers form w event reply v
Step due form bounds w event Refused v = Refuses w event v
Step due form bounds w event Faulted v = Fails due bounds w event v
Step due form bounds w event Halted v = Halts due bounds w event v

-- An event with its outcome.
pub record Turn (E Q R : Type 0) : Type 0 where
  pub event : Event E Q
  pub outcome : Outcome R

-- A schedule: events in any order, each with an outcome.
abbrev pub Runs : {E Q R : Type 0} → (List E → E → Type 0) → (List E → Q → R) → Bounds
    → World E → List (Turn E Q R) → World E → Type 0
Runs due form bounds w [] v = w ≡ v
Runs {E} due form bounds w (turn ∷ turns) v =
    (u : World E) × Step due form bounds w turn.event turn.outcome u × Runs due form bounds u turns v
