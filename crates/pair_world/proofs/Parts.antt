-- The invariant by its components, as the proofs keep it: the history, the holder's journal, the other's, and so on.
use Rattle.std.proofs.Common.{ℕ, suc, ◌≡◌, ◌≤◌, ◌<◌, List, length, Some, None, ◌⊎◌, true}
use Rattle.ali_base.specs.declared.names.NodeName.{NodeName}
use Rattle.ali_base.specs.declared.duty.Mode.{Mode}
use Rattle.ali_base.specs.declared.duty.Mode.TheVariants.{Both, Alone}
use Rattle.ali_base.specs.declared.duty.Duty.{Duty}
use Rattle.pair_world.specs.Frames.{Frame, epoch_at, Begins, Shares, PastAtLeast, Agree, Rising, Legal, In}
use Rattle.pair_world.specs.World.{other, Shipment, Ack, Message, Ships, Acks, Resolved, term_from, holder_journal, other_journal, known, is_up, with_duty, recovered, failed_write_at, World, Choice, unrecovered}
use Rattle.pair_world.specs.SoundWorld.{NamesOne, Tells, HasEnd, AckHolds, FloorsRise, AreCounted}

-- the holder's journal begins with the history, goes on by at most one frame, and each of its entries is due
pub record BookedParts {E : Type 0} (due : List E → E → Type 0) (booked mine : List (Frame E)) : Type 0 where
  pub legal : Legal due mine
  pub begins : Begins mine booked
  pub one_more : length mine ≤ suc (length booked)

pub record StepsBoth {E : Type 0} (epoch : ℕ) (booked mine others : List (Frame E)) : Type 0 where
  pub holds : Begins others booked
  pub begins : Begins mine others
  pub fresh : (k : ℕ) → length booked < k → k ≤ length mine → epoch_at mine k ≡ epoch

-- ys is a beginning of xs and one frame more, which is older than the term that began at since, and all of xs past that beginning is of the term
pub record UncommittedSuffix {E : Type 0} (since : ℕ) (xs ys : List (Frame E)) : Type 0 where
  pub at : ℕ
  pub long : length ys ≡ suc at
  pub shared : Shares at xs ys
  pub old : epoch_at ys (suc at) < since
  pub past : PastAtLeast at since xs

-- ys is a beginning of xs, or such a beginning with an old suffix
abbrev pub Follows : {E : Type 0} → ℕ → List (Frame E) → List (Frame E) → Type 0
Follows since xs ys = Begins xs ys ⊎ UncommittedSuffix since xs ys

abbrev pub InStep : {E : Type 0} → Mode → ℕ → ℕ → List (Frame E) → List (Frame E) → List (Frame E) → Type 0
InStep Both epoch since booked mine others = StepsBoth epoch booked mine others
InStep Alone epoch since booked mine others = Follows since mine others

pub record TimeParts {E : Type 0} (top : ℕ) (xs ys : List (Frame E)) (messages : List (Message E)) : Type 0 where
  pub mine : Rising top xs
  pub others : Rising top ys
  pub ships : (x : Shipment E) → In messages (Ships x) → x.epoch ≤ top
  pub frames : (x : Shipment E) (f : Frame E) → In messages (Ships x) → x.frame ≡ Some f → f.epoch ≤ x.epoch
  pub acks : (a : Ack) → In messages (Acks a) → a.epoch ≤ top

-- what a shipment of the term says of its sender's journal
pub record IsOfTerm {E : Type 0} (holder : NodeName) (since : ℕ) (mine : List (Frame E)) (x : Shipment E) : Type 0 where
  pub sender : x.sender ≡ holder
  pub term : since ≤ x.epoch
  pub frame : Tells mine x x.frame
  pub before : x.before ≡ epoch_at mine x.preceding

abbrev pub AreOfTerm : {E : Type 0} → NodeName → ℕ → (NodeName → ℕ) → List (Frame E) → List (Message E) → Type 0
AreOfTerm holder since known mine messages = (x : Shipment _) → In messages (Ships x) → known (other x.sender) ≤ x.epoch → IsOfTerm holder since mine x

pub record AckedParts {E : Type 0} (epoch : ℕ) (mine others : List (Frame E)) (messages : List (Message E)) (reached reached_end : ℕ) : Type 0 where
  pub acks : (a : Ack) → In messages (Acks a) → a.epoch ≡ epoch → AckHolds a.end a.preceding mine others
  pub acked : Shares reached mine others
  pub ended : (p : ℕ) → reached_end ≡ suc p → HasEnd p mine others

pub record KnownParts (h : NodeName) (epoch : ℕ) (known : NodeName → ℕ) : Type 0 where
  pub holder : known h ≡ epoch
  pub none_later : (n : NodeName) → known n ≤ epoch

pub record Parts {E : Type 0} (due : List E → E → Type 0) (d : Duty) (ds : List Duty) (h xs ys : List (Frame E)) (known_by : NodeName → ℕ) (messages : List (Message E)) (reached reached_end : ℕ) : Type 0 where
  pub booked : BookedParts due h xs
  pub step : InStep d.mode d.epoch (term_from d ds) h xs ys
  pub agree : Agree xs ys
  pub time : TimeParts d.epoch xs ys messages
  pub names : NamesOne xs ys messages
  pub ships : AreOfTerm d.holder (term_from d ds) known_by xs messages
  pub acks : AckedParts d.epoch xs ys messages reached reached_end
  pub known : KnownParts d.holder d.epoch known_by
  pub counted : AreCounted d ds
  pub floors : FloorsRise d ds
  pub floor : d.floor ≤ length h

abbrev pub IsParts : {E : Type 0} → (List E → E → Type 0) → Resolved E → Type 0
IsParts due w = Parts due w.duty w.past w.booked (holder_journal w) (other_journal w) (known w) w.messages w.acked w.ended

-- the same of a world in doubt. plain: each choice, the register left aside. changed: where the failed change lasted, once it is recovered
pub record IsKept {E : Type 0} (due : List E → E → Type 0) (w : World E) : Type 0 where
  pub one_journal : (n : NodeName) → is_up w.base n → failed_write_at w.failed_writes n ≡ None
  pub one_duty : w.register_up ≡ true → w.failed_duty ≡ None
  pub unrecovered_parts : (c : Choice) → IsParts due (unrecovered c w)
  pub recovered_parts : (c : Choice) (d : Duty) → w.failed_duty ≡ Some d → IsParts due (recovered (with_duty (unrecovered c w) d))
  pub sure_taker : (d : Duty) → w.failed_duty ≡ Some d → failed_write_at w.failed_writes d.holder ≡ None
