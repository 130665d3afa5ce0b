-- Worlds within the limits of journals and of epochs.
use Rattle.std.specs.Prelude.{ℕ, ◌≡◌, ◌≤◌, ◌<◌, List, length, Some, slice_get}
use Rattle.ali_base.specs.declared.names.NodeName.{NodeName}
use Rattle.ali_base.specs.declared.duty.Duty.{Duty}
use Rattle.pair_world.specs.Frames.{Frame, In}
use Rattle.pair_world.specs.World.{Shipment, Ack, Ships, Acks, World, MayHold, MayRead}
use Rattle.pair_world.specs.Step.{Bounds}

-- An epoch from 1 to the last one.
pub record IsEpoch (bounds : Bounds) (epoch : ℕ) : Type 0 where
  pub from : 1 ≤ epoch
  pub to : epoch ≤ bounds.last_epoch

-- A journal within its limit, each of whose frames has an epoch.
pub record IsJournal {E : Type 0} (bounds : Bounds) (journal : List (Frame E)) : Type 0 where
  pub room : length journal ≤ bounds.frames
  pub epochs : (index : ℕ) (frame : Frame E) → slice_get journal index ≡ Some frame → IsEpoch bounds frame.epoch

-- A shipment of a frame that a journal has room for, or of an end that a journal can have. Before it is 0 exactly where
-- its number is 1.
pub record IsShipment {E : Type 0} (bounds : Bounds) (x : Shipment E) : Type 0 where
  pub epoch : IsEpoch bounds x.epoch
  pub end : x.preceding ≤ bounds.frames
  pub room : (frame : Frame E) → x.frame ≡ Some frame → x.preceding < bounds.frames
  pub frame : (frame : Frame E) → x.frame ≡ Some frame → IsEpoch bounds frame.epoch
  pub first : x.preceding ≡ 0 → x.before ≡ 0
  pub later : 0 < x.preceding → IsEpoch bounds x.before

-- The acknowledgement of such a shipment.
pub record IsAck (bounds : Bounds) (ack : Ack) : Type 0 where
  pub epoch : IsEpoch bounds ack.epoch
  pub end : ack.preceding ≤ bounds.frames

-- No disk represents more than the limits allow, and no message tells of more.
pub record IsWithin {E : Type 0} (bounds : Bounds) (w : World E) : Type 0 where
  pub journals : (n : NodeName) (journal : List (Frame E)) → MayHold w n journal → IsJournal bounds journal
  pub duties : (duty : Duty) (past : List Duty) → MayRead w duty past → IsEpoch bounds duty.epoch
  pub shipments : (x : Shipment E) → In w.base.messages (Ships x) → IsShipment bounds x
  pub acks : (ack : Ack) → In w.base.messages (Acks ack) → IsAck bounds ack
