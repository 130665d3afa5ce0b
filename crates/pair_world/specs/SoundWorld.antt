-- The invariant of the world: nine parts, and the worlds that have them.
use Rattle.std.specs.Prelude.{ℕ, suc, ◌≡◌, ◌≤◌, ◌<◌, List, [], ◌∷◌, length, Option, Some, None, slice_get, ◌⊎◌, Bool, true, false}
use Rattle.ali_base.specs.declared.names.NodeName.{NodeName}
use Rattle.ali_base.specs.declared.duty.Mode.TheVariants.{Both, Alone}
use Rattle.ali_base.specs.declared.duty.Duty.{Duty}
use Rattle.pair_world.specs.Frames.{Frame, entries, epoch_at, Begins, Shares, PastAtLeast, Agree, Rising, Legal, In}
use Rattle.pair_world.specs.World.{other, Shipment, Ack, Message, Ships, Acks, Resolved, first_duty, term_from, holder_journal, other_journal, known, is_up, failed_write_at, World, Choice, unrecovered, resolved}

-- An epoch of the present term.
pub record IsInTerm {E : Type 0} (w : Resolved E) (epoch : ℕ) : Type 0 where
  pub from : term_from w.duty w.past ≤ epoch
  pub to : epoch ≤ w.duty.epoch

-- 1. The booked history is legal. The holder's journal begins with it and has at most one frame more, whose entry may
-- be booked next.
pub record IsBooked {E : Type 0} (due : List E → E → Type 0) (w : Resolved E) : Type 0 where
  pub legal : Legal due w.booked
  pub begins : Begins (holder_journal w) w.booked
  pub one_more : length (holder_journal w) ≤ suc (length w.booked)
  pub pending_due : (frame : Frame E) → slice_get (holder_journal w) (length w.booked) ≡ Some frame
      → due (entries w.booked) frame.entry

-- 2. In mode Both the other journal begins with the booked history and is a prefix of the holder's. A frame of the
-- holder past the history has the present epoch.
pub record IsMirrored {E : Type 0} (w : Resolved E) : Type 0 where
  pub holds : Begins (other_journal w) w.booked
  pub prefix : Begins (holder_journal w) (other_journal w)
  pub fresh : (k : ℕ) → length w.booked < k → k ≤ length (holder_journal w) → epoch_at (holder_journal w) k ≡ w.duty.epoch

-- 3. In mode Alone the other journal is a prefix of the holder's, or so: such a prefix and one frame more, which was
-- written before the term: an uncommitted suffix. All of the holder's frames past the prefix are then of the term.
pub record HasUncommittedSuffix {E : Type 0} (w : Resolved E) : Type 0 where
  pub prefix : ℕ
  pub long : length (other_journal w) ≡ suc prefix
  pub shared : Shares prefix (holder_journal w) (other_journal w)
  pub old : epoch_at (other_journal w) (suc prefix) < term_from w.duty w.past
  pub newer : (k : ℕ) → prefix < k → k ≤ length (holder_journal w) → IsInTerm w (epoch_at (holder_journal w) k)

-- This frame stands at this index of a journal, or in a message with so many frames before it.
abbrev pub Named : {E : Type 0} → List (Frame E) → List (Frame E) → List (Message E) → ℕ → Frame E → Type 0
Named holders others messages index frame =
    (slice_get holders index ≡ Some frame)
    ⊎ ((slice_get others index ≡ Some frame)
    ⊎ ((x : Shipment _) × In messages (Ships x) × (x.preceding ≡ index) × (x.frame ≡ Some frame)))

-- One number and epoch name one frame.
abbrev pub NamesOne : {E : Type 0} → List (Frame E) → List (Frame E) → List (Message E) → Type 0
NamesOne holders others messages =
    (index : ℕ) (f g : Frame _) → Named holders others messages index f → Named holders others messages index g
    → f.epoch ≡ g.epoch → f ≡ g

-- 5. Epochs never fall along a journal, none is above the present one, and one number and epoch name one frame.
pub record IsInTime {E : Type 0} (w : Resolved E) : Type 0 where
  pub holders : Rising w.duty.epoch (holder_journal w)
  pub others : Rising w.duty.epoch (other_journal w)
  pub names : NamesOne (holder_journal w) (other_journal w) w.messages
  pub shipments : (x : Shipment E) → In w.messages (Ships x) → x.epoch ≤ w.duty.epoch
  pub acks : (ack : Ack) → In w.messages (Acks ack) → ack.epoch ≤ w.duty.epoch
  pub frames : (x : Shipment E) (frame : Frame E) → In w.messages (Ships x) → x.frame ≡ Some frame → frame.epoch ≤ x.epoch

-- The sender's journal has this frame; or it has the frames before the end, and those after it are as new as the message.
abbrev pub Tells : {E : Type 0} → List (Frame E) → Shipment E → Option (Frame E) → Type 0
Tells journal x (Some frame) = slice_get journal x.preceding ≡ Some frame
Tells journal x None = (x.preceding ≤ length journal) × PastAtLeast x.preceding x.epoch journal

-- 6. A shipment that is not stale is of the holder, of its present term, and its journal is as the shipment tells.
pub record IsCurrent {E : Type 0} (w : Resolved E) (x : Shipment E) : Type 0 where
  pub sender : x.sender ≡ w.duty.holder
  pub term : IsInTerm w x.epoch
  pub tells : Tells (holder_journal w) x x.frame
  pub before : x.before ≡ epoch_at (holder_journal w) x.preceding

-- The other journal has the holder's frames before the end, and no uncommitted suffix.
pub record HasEnd {E : Type 0} (n : ℕ) (holders others : List (Frame E)) : Type 0 where
  pub shares : Shares n holders others
  pub begins : Begins holders others

-- What the acknowledgement of the frame after the first n, or of the end there, says.
abbrev pub AckHolds : {E : Type 0} → Bool → ℕ → List (Frame E) → List (Frame E) → Type 0
AckHolds true n holders others = HasEnd n holders others
AckHolds false n holders others = Shares (suc n) holders others

-- 7. What was acknowledged in the present epoch, on its way or heard, stands in the other journal.
pub record IsAcknowledged {E : Type 0} (w : Resolved E) : Type 0 where
  pub acks : (ack : Ack) → In w.messages (Acks ack) → ack.epoch ≡ w.duty.epoch
      → AckHolds ack.end ack.preceding (holder_journal w) (other_journal w)
  pub acked : Shares w.acked (holder_journal w) (other_journal w)
  pub ended : (n : ℕ) → w.ended ≡ suc n → HasEnd n (holder_journal w) (other_journal w)

-- 8. The holder knows the present epoch, and no node knows a later one.
pub record IsKnown {E : Type 0} (w : Resolved E) : Type 0 where
  pub holder : known w w.duty.holder ≡ w.duty.epoch
  pub none_later : (n : NodeName) → known w n ≤ w.duty.epoch

-- No duty has a floor below that of the one before.
abbrev pub FloorsRise : Duty → List Duty → Type 0
FloorsRise duty [] = Unit {0}
FloorsRise duty (before ∷ past) = (before.floor ≤ duty.floor) × FloorsRise before past

-- 9. Floors never fall, and the present one is at most the length of the history.
pub record HasFloors {E : Type 0} (w : Resolved E) : Type 0 where
  pub never_fall : FloorsRise w.duty w.past
  pub below : w.duty.floor ≤ length w.booked

-- The duties begin with one of the first epoch, and each has the epoch of the one before and one.
abbrev pub AreCounted : Duty → List Duty → Type 0
AreCounted duty [] = duty.epoch ≡ first_duty.epoch
AreCounted duty (before ∷ past) = (duty.epoch ≡ suc before.epoch) × AreCounted before past

-- The parts of the invariant.
pub data Part : Type 0 where
  Booked : Part
  Mirrored : Part
  Following : Part
  Agreeing : Part
  In_time : Part
  Current : Part
  Acknowledged : Part
  Known : Part
  Floored : Part

-- The part holds in this world.
abbrev pub Holds : {E : Type 0} → (List E → E → Type 0) → Resolved E → Part → Type 0
Holds due w Booked = IsBooked due w
Holds due w Mirrored = w.duty.mode ≡ Both → IsMirrored w
Holds due w Following = w.duty.mode ≡ Alone → Begins (holder_journal w) (other_journal w) ⊎ HasUncommittedSuffix w
Holds due w Agreeing = Agree (holder_journal w) (other_journal w)
Holds due w In_time = IsInTime w
Holds due w Current = (x : Shipment _) → In w.messages (Ships x) → known w (other x.sender) ≤ x.epoch → IsCurrent w x
Holds due w Acknowledged = IsAcknowledged w
Holds due w Known = IsKnown w
Holds due w Floored = HasFloors w

-- The nine parts of the invariant, of a resolved world, and what every list of duties has.
pub record Invariant {E : Type 0} (due : List E → E → Type 0) (w : Resolved E) : Type 0 where
  pub holds : (part : Part) → Holds due w part
  pub counted : AreCounted w.duty w.past

-- A sound world: each resolution has the nine parts, a node that is up has one journal, and while the register is up no
-- change of duty is in doubt. The last two keep this over events while the register is down: under the duty before the
-- failed change the parts hold without recovery too, and the holder of the failed duty has one journal.
pub record IsSound {E : Type 0} (due : List E → E → Type 0) (w : World E) : Type 0 where
  pub parts : (choice : Choice) → Invariant due (resolved choice w)
  pub one_journal : (n : NodeName) → is_up w.base n → failed_write_at w.failed_writes n ≡ None
  pub one_duty : w.register_up ≡ true → w.failed_duty ≡ None
  pub unrecovered_parts : (choice : Choice) → Invariant due (unrecovered choice w)
  pub sure_taker : (duty : Duty) → w.failed_duty ≡ Some duty → failed_write_at w.failed_writes duty.holder ≡ None
