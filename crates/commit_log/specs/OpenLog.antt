-- What an open log stands for, and what its calls answer.
use Rattle.std.specs.Prelude.{◌≡◌, ℕ, ◌+◌, ◌-◌, ◌<◌, ◌≤◌, Bool, true, false, List, length, take, drop, Some, Result, Ok, Err, OnOk, slice_get}
use Rattle.ali_base.specs.Faults.{Rose}
use Rattle.crash_disk.specs.DiskState.{DiskState}
use Rattle.crash_disk.specs.CrashOutcomes.{Stays}
use Rattle.crash_disk.specs.Moments.{EachMoment}
use Rattle.crash_disk.specs.declared.disk.Failed.{Failed}
use Rattle.commit_log.specs.LogImage.{frame_place}
use Rattle.commit_log.specs.LogState.{KeepsBodies, StandsForEither}
use Rattle.commit_log.specs.Opening.{Found, Refused}
use Rattle.commit_log.specs.declared.log.Log.{Log}
use Rattle.commit_log.specs.declared.log.AppendFault.{AppendFault}
use Rattle.commit_log.specs.declared.log.AppendFault.TheVariants.{Full, DiskFault}
use Rattle.commit_log.specs.declared.log.ReadFault.{ReadFault}
use Rattle.commit_log.specs.declared.log.ReadFault.TheVariants as reading
use Rattle.commit_log.specs.declared.opening.OpenFault.{OpenFault}

-- its disk
abbrev pub disk_of : {D R : Type 0} → Log D R → D
disk_of log = log.disk

-- how many bytes a body has
abbrev pub body_len_of : {D R : Type 0} → Log D R → ℕ
body_len_of log = log.body_len

-- how many frames it may have
abbrev pub limit_of : {D R : Type 0} → Log D R → ℕ
limit_of log = log.limit

-- how many frames it has
abbrev pub count_of : {D R : Type 0} → Log D R → ℕ
count_of log = log.count

-- no append or cut failed since it was opened, and it was opened again where that was asked
abbrev pub is_usable : {D R : Type 0} → Log D R → Bool
is_usable log = log.usable

-- Its disk stands for these bodies, all of them synced, and it has their count and their length.
pub record Represents {D R : Type 0} (is_body : ℕ → List ℕ → Bool) (state : D → DiskState) (head : List ℕ) (bodies : List (List ℕ)) (log : Log D R) : Type 0 where
  pub kept : KeepsBodies is_body head bodies (state log.disk)
  pub counts : log.count ≡ length bodies
  pub long : log.body_len ≡ length head

-- the length of bodies and the limit stay, and the count of faults doesn't fall
pub record IsFixed {D R : Type 0} (state : D → DiskState) (old new : Log D R) : Type 0 where
  pub body_len : new.body_len ≡ old.body_len
  pub limit : new.limit ≡ old.limit
  pub faults : (state old.disk).faults ≤ (state new.disk).faults

-- On success the log represents its bodies as changed.
abbrev pub Becomes : {D R T E : Type 0} → (ℕ → List ℕ → Bool) → (D → DiskState) → (List (List ℕ) → List (List ℕ)) → Log D R → Log D R → Result T E → Type 0
Becomes is_body state change old new result =
    (head : List ℕ) (bodies : List (List ℕ)) → Represents is_body state head bodies old → OnOk result (Represents is_body state head (change bodies) new)

-- A crash at each moment of the call leaves an image that stands for the bodies from before or for the changed ones.
abbrev pub CrashesBetween : {D R : Type 0} → (ℕ → List ℕ → Bool) → (D → DiskState) → (List (List ℕ) → List (List ℕ)) → Log D R → Log D R → Type 0
CrashesBetween is_body state change old new =
    (head : List ℕ) (bodies : List (List ℕ)) → Represents is_body state head bodies old → EachMoment (state old.disk) (state new.disk) (StandsForEither is_body head bodies (change bodies))

-- When each answer of an append comes: the number of the new frame, a full log exactly at its limit, or a failure only where the disk's faults rose.
abbrev pub AppendAnswers : {D R : Type 0} → (D → DiskState) → Log D R → Log D R → Result ℕ AppendFault → Type 0
AppendAnswers state old new (Ok number) = (old.count < old.limit) × (number ≡ old.count + 1) × (new.count ≡ old.count + 1) × (new.usable ≡ true)
AppendAnswers state old new (Err (Full limit)) = (old.count ≡ old.limit) × (limit ≡ old.limit) × (new ≡ old)
AppendAnswers state old new (Err DiskFault) = (old.count < old.limit) × Rose (state old.disk).faults (state new.disk).faults × (new.count ≡ old.count) × (new.usable ≡ false)

-- When each answer of a cut from frame k comes.
abbrev pub CutAnswers : {D R : Type 0} → (D → DiskState) → Log D R → Log D R → ℕ → Result (Unit {0}) Failed → Type 0
CutAnswers state old new k (Ok x) = (new.count ≡ k - 1) × (new.usable ≡ true)
CutAnswers state old new k (Err e) = Rose (state old.disk).faults (state new.disk).faults × (new.count ≡ old.count) × (new.usable ≡ false)

-- When each answer of a read of frame k comes: the bytes in its place, or that the disk ends before them. On a disk that stands for the log a body never changes.
abbrev pub ReadAnswers : {D R : Type 0} → (ℕ → List ℕ → Bool) → (D → DiskState) → Log D R → Log D R → ℕ → List ℕ → Result (Unit {0}) ReadFault → Type 0
ReadAnswers is_body state old new k body (Ok x) =
    ((f : List ℕ) → (state old.disk).content ≡ Some f → body ≡ take old.body_len (drop (frame_place old.body_len k) f))
    × ((head : List ℕ) (bodies : List (List ℕ)) → Represents is_body state head bodies old → slice_get bodies (k - 1) ≡ Some body)
ReadAnswers is_body state old new k body (Err reading.DiskFault) = Rose (state old.disk).faults (state new.disk).faults
ReadAnswers is_body state old new k body (Err (reading.Changed frame)) =
    (frame ≡ k)
    × ((f : List ℕ) → (state old.disk).content ≡ Some f → length f < frame_place old.body_len k + old.body_len)
    × ((head : List ℕ) (bodies : List (List ℕ)) → Represents is_body state head bodies old → ⊥)

-- nothing of the log changes, and no byte of its disk
pub record IsUntouched {D R : Type 0} (state : D → DiskState) (old new : Log D R) : Type 0 where
  pub stays : Stays (state old.disk) (state new.disk)
  pub fixed : IsFixed state old new
  pub count : new.count ≡ old.count
  pub usable : new.usable ≡ old.usable

-- Opened: no byte is changed, and the log has the bodies that were read, at most the limit of them.
pub record IsOpened {D R : Type 0} (is_body : ℕ → List ℕ → Bool) (state : D → DiskState) (holds : List (List ℕ) → Type 0) (head : List ℕ) (limit : ℕ) (disk : D) (log : Log D R) : Type 0 where
  pub stays : Stays (state disk) (state log.disk)
  pub faults : (state disk).faults ≤ (state log.disk).faults
  pub found : Found is_body holds head log.count (state disk) (state log.disk)
  pub within : log.count ≤ limit
  pub long : log.body_len ≡ length head
  pub limited : log.limit ≡ limit
  pub usable : log.usable ≡ true

-- Refused: no byte is changed, and the image is as the refusal says. The disk failed only where its faults rose.
pub record IsRefused {D : Type 0} (is_body : ℕ → List ℕ → Bool) (state : D → DiskState) (head : List ℕ) (limit : ℕ) (disk after : D) (fault : OpenFault) : Type 0 where
  pub stays : Stays (state disk) (state after)
  pub faults : (state disk).faults ≤ (state after).faults
  pub cause : Refused is_body head limit (state disk) (state after) fault

-- when each answer of an opening comes
abbrev pub OpenAnswers : {D R : Type 0} → (ℕ → List ℕ → Bool) → (D → DiskState) → (List (List ℕ) → Type 0) → List ℕ → ℕ → D → Result (Log D R) (D × OpenFault) → Type 0
OpenAnswers is_body state holds head limit disk (Ok log) = IsOpened is_body state holds head limit disk log
OpenAnswers is_body state holds head limit disk (Err e) = IsRefused is_body state head limit disk e.0 e.1

-- the same of a log that is opened again
abbrev pub ReopenAnswers : {D R : Type 0} → (ℕ → List ℕ → Bool) → (D → DiskState) → (List (List ℕ) → Type 0) → List ℕ → Log D R → Log D R → Result (Unit {0}) OpenFault → Type 0
ReopenAnswers is_body state holds head old new (Ok x) = IsOpened is_body state holds head old.limit old.disk new
ReopenAnswers is_body state holds head old new (Err fault) = IsRefused is_body state head old.limit old.disk new.disk fault
