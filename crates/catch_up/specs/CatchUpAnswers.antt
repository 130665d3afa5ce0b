-- What catching up answers: in the world that the pair shows, and why, over any disk.
use Rattle.std.specs.Prelude.{◌≡◌, ◌⊎◌, ℕ, ◌+◌, ◌-◌, ◌<◌, ◌≤◌, min, List, [], ◌∷◌, slice_index, Option, Some, None, Result, Ok, Err}
use Rattle.std.specs.Option.{option_map}
use Rattle.ali_base.specs.declared.duty.Duty.{Duty}
use Rattle.ali_base.specs.declared.names.NodeName.{NodeName}
use Rattle.ali_base.specs.declared.names.DiskName.TheVariants as disks
use Rattle.ali_base.specs.declared.names.NodeName.TheVariants.{A, B}
use Rattle.crash_disk.specs.DiskState.{DiskState}
use Rattle.crash_disk.specs.Moments.{EachMoment}
use Rattle.duty_register.specs.DutyImage as duties
use Rattle.node_journal.specs.JournalImage.{StandsFor}
use Rattle.node_journal.specs.OpenJournal.{epochs_of}
use Rattle.office_entry.specs.declared.entry.Entry.{Entry}
use Rattle.office_state.specs.declared.limits.Limits.{Limits}
use Rattle.pair_core.specs.Pair.{Shows, node_of, len_of, disk_at, bounds_of, counts_of, ended_of}
use Rattle.pair_core.specs.PairAnswers.{Unless, Failed, StaysUp, GoesDown, fault_told}
use Rattle.pair_core.specs.PairRefusals as rows
use Rattle.pair_core.specs.PairRefusals.{catch_up_refusal}
use Rattle.pair_core.specs.declared.faults.PairFault.{PairFault}
use Rattle.pair_core.specs.declared.faults.PairFault.TheVariants as fault
use Rattle.pair_core.specs.declared.pair.Pair.{Pair}
use Rattle.pair_node.specs.LearnedEntries.{IsGone}
use Rattle.pair_node.specs.NodeState.{journal_of}
use Rattle.pair_node.specs.declared.message.Delivered.{Delivered}
use Rattle.pair_node.specs.declared.message.Delivered.TheVariants as delivered
use Rattle.pair_world.specs.Frames.{Frame}
use Rattle.pair_world.specs.Refusals.{disk_of}
use Rattle.pair_world.specs.Step.{Bounds}
use Rattle.pair_world.specs.World.{World, MayHold, MayList, other}
use Rattle.world_rows.specs.Histories.{IsLawful}
use Rattle.world_rows.specs.Counts.{Counts}
use Rattle.world_rows.specs.Told.{Told}
use Rattle.catch_up.specs.CatchingUp.{CatchesUp, IsOnTheWay, ended, IsInStep}
use Rattle.catch_up.specs.declared.plan.CatchAnswer.{CatchAnswer}
use Rattle.catch_up.specs.declared.plan.CatchAnswer.TheVariants as answer

-- the number that is passed on first: the one after the shorter of the two journals
abbrev pub first_of_pair : {D : Type 0} → Pair D → ℕ
first_of_pair p = min (len_of p (rows.holder p)) (len_of p (other (rows.holder p))) + 1

-- what the plan hears of an answer
abbrev pub answer_of : Delivered → Option CatchAnswer
answer_of (delivered.Stored ack) = Some (answer.Stored ack.number)
answer_of (delivered.Have ack) = Some (answer.Have ack.number)
answer_of (delivered.Cut j) = Some (answer.Cut j)
answer_of (delivered.Behind len number) = Some (answer.Behind len)
answer_of (delivered.HaveEnd ack) = Some (answer.HaveEnd ack.number)
answer_of (delivered.Stale epoch known) = None
answer_of (delivered.Acked ack) = None

-- what is told: the length, or the refusal
abbrev pub told_of : Result ℕ PairFault → Option (Result ℕ Told)
told_of (Ok len) = Some (Ok len)
told_of (Err refusal) = option_map Err (fault_told refusal)

-- where the length was answered, the other node has caught up
abbrev pub AgreesAfter : Result ℕ PairFault → World Entry → Type 0
AgreesAfter (Ok len) v = IsInStep v len
AgreesAfter (Err refusal) v = Unit {0}

-- In each lawful world that the pair shows before the call, messages are passed on from the first number on; what is answered is what is told in the end, and the pair shows the world after.
abbrev pub CatchesUpDoes : {D : Type 0} → (D → DiskState) → Pair D → Pair D → Result ℕ PairFault → Type 0
CatchesUpDoes state old new result =
    (limits : Limits) (w : World Entry) → Shows state limits old w → IsLawful limits (bounds_of old) w
    → (v : World Entry) × Shows state limits new v × (last : Told)
    × CatchesUp limits (counts_of state old) (counts_of state new) w last v
    × (told_of result ≡ Some (ended last v)) × AgreesAfter result v

-- the image stands for a journal that a world on the way gives the node's disk
abbrev pub JournalOnTheWay : Limits → Bounds → Counts → Counts → World Entry → NodeName → List ℕ → Type 0
JournalOnTheWay limits bounds before now w n image =
    (frames : List (Frame Entry)) × StandsFor n frames image
    × (v : World Entry) × IsOnTheWay limits bounds before now w v × MayHold v n frames

-- the image stands for duties that a world on the way gives the register's disk
abbrev pub DutiesOnTheWay : Limits → Bounds → Counts → Counts → World Entry → List ℕ → Type 0
DutiesOnTheWay limits bounds before now w image =
    (list : List Duty) × duties.StandsFor list image
    × (v : World Entry) × IsOnTheWay limits bounds before now w v × MayList v list

-- What a crash leaves of the three disks at any moment, each for itself.
pub record AreOnTheWay {D : Type 0} (state : D → DiskState) (limits : Limits) (old new : Pair D) (w : World Entry) : Type 0 where
  pub a : EachMoment (state (disk_at old disks.A)) (state (disk_at new disks.A)) (JournalOnTheWay limits (bounds_of old) (counts_of state old) (counts_of state new) w A)
  pub b : EachMoment (state (disk_at old disks.B)) (state (disk_at new disks.B)) (JournalOnTheWay limits (bounds_of old) (counts_of state old) (counts_of state new) w B)
  pub duty : EachMoment (state (disk_at old disks.Duty)) (state (disk_at new disks.Duty)) (DutiesOnTheWay limits (bounds_of old) (counts_of state old) (counts_of state new) w)

-- A crash at any moment of the call leaves images that stand for what a world on the way gives the disks.
abbrev pub CatchUpMoments : {D : Type 0} → (D → DiskState) → Pair D → Pair D → Type 0
CatchUpMoments state old new =
    (limits : Limits) (w : World Entry) → Shows state limits old w → IsLawful limits (bounds_of old) w → AreOnTheWay state limits old new w

-- The other node has at least the holder's frames, of which there are so many, and the last of these with the holder's epoch; and their end is acknowledged.
pub record HasCaughtUp {D : Type 0} (pair : Pair D) (n : NodeName) (len : ℕ) : Type 0 where
  pub long : len ≡ len_of pair n
  pub within : len ≤ len_of pair (other n)
  pub last : 0 < len → slice_index (epochs_of (journal_of (node_of pair (other n)))) (len - 1) ≡ slice_index (epochs_of (journal_of (node_of pair n))) (len - 1)
  pub ended : len < ended_of pair

module _ {D : Type 0} (state : D → DiskState) (old new : Pair D) where
  -- The frame of this number is gone from the holder's disk, as it was when the frame was passed on. The holder's journal was as before.
  pub record IsGoneMeanwhile (n : NodeName) (frame : ℕ) : Type 0 where
    pub from : 1 ≤ frame
    pub to : frame ≤ len_of old n + 1
    pub during : Pair D
    pub epochs : epochs_of (journal_of (node_of during n)) ≡ epochs_of (journal_of (node_of old n))
    pub gone : IsGone state (journal_of (node_of during n)) frame

  -- Why each answer comes where there is no refusal: the other node has caught up, and the holder's journal stays; the disk of one of the two failed in the call; or a frame of the holder's is gone. Nothing else is answered.
  abbrev pub CatchUpRest : NodeName → Result ℕ PairFault → Type 0
  CatchUpRest n (Ok len) =
      StaysUp state old new n × StaysUp state old new (other n) × HasCaughtUp new n len
      × (epochs_of (journal_of (node_of new n)) ≡ epochs_of (journal_of (node_of old n)))
  CatchUpRest n (Err (fault.Fault disk)) =
      (((disk ≡ disk_of n) × GoesDown state old new n) ⊎ ((disk ≡ disk_of (other n)) × GoesDown state old new (other n))) × Failed state old new disk
  CatchUpRest n (Err (fault.Damaged disk frame)) = (disk ≡ disk_of n) × GoesDown state old new n × IsGoneMeanwhile n frame
  CatchUpRest n (Err refusal) = ⊥

  abbrev pub CatchUpCauses : Result ℕ PairFault → Type 0
  CatchUpCauses result = Unless (catch_up_refusal old) old new result (CatchUpRest (rows.holder old) result)
