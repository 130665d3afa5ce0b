-- What an open register stands for, and what its calls answer.
use Rattle.std.specs.Prelude.{◌≡◌, ℕ, ◌+◌, ◌<◌, ◌≤◌, Bool, true, false, List, Some, Result, Ok, Err, OnOk}
use Rattle.ali_base.specs.Duties.{next_duty}
use Rattle.ali_base.specs.Faults.{Rose}
use Rattle.ali_base.specs.declared.duty.Duty.{Duty}
use Rattle.ali_base.specs.declared.duty.Mode.{Mode}
use Rattle.ali_base.specs.declared.duty.Mode.TheVariants.{Both, Alone}
use Rattle.ali_base.specs.declared.names.NodeName.{NodeName}
use Rattle.commit_log.specs.OpenLog as log
use Rattle.commit_log.specs.declared.opening.OpenFault.{OpenFault}
use Rattle.commit_log.specs.declared.opening.OpenFault.TheVariants as failing
use Rattle.crash_disk.specs.CrashOutcomes.{Stays}
use Rattle.crash_disk.specs.DiskState.{DiskState}
use Rattle.crash_disk.specs.Moments.{EachMoment}
use Rattle.duty_register.specs.DutiesRead.{EndsWith}
use Rattle.duty_register.specs.DutyImage.{StandsFor, IsForeign, IsDamaged}
use Rattle.duty_register.specs.DutyState.{KeepsDuties, StandsForEither, with_duty}
use Rattle.duty_register.specs.declared.faults.DutyFault.{DutyFault}
use Rattle.duty_register.specs.declared.faults.DutyFault.TheVariants as changing
use Rattle.duty_register.specs.declared.faults.RegisterFault.{RegisterFault}
use Rattle.duty_register.specs.declared.faults.RegisterFault.TheVariants as opening
use Rattle.duty_register.specs.declared.register.Register.{Register}

-- its disk
abbrev pub disk_of : {D : Type 0} → Register D → D
disk_of register = log.disk_of register.log

-- the present duty
abbrev pub duty_of : {D : Type 0} → Register D → Duty
duty_of register = register.duty

-- the greatest epoch that a duty may have
abbrev pub last_epoch_of : {D : Type 0} → Register D → ℕ
last_epoch_of register = log.limit_of register.log + 1

-- whether its disk has not failed in a call that writes
abbrev pub is_usable : {D : Type 0} → Register D → Bool
is_usable register = log.is_usable register.log

-- Its disk stands for these duties, all of them synced, and the last of them is the present one.
pub record Represents {D : Type 0} (state : D → DiskState) (register : Register D) (duties : List Duty) : Type 0 where
  pub kept : KeepsDuties duties (state (disk_of register))
  pub known : EndsWith duties (duty_of register)

-- the last epoch stays, and the count of faults doesn't fall
pub record IsFixed {D : Type 0} (state : D → DiskState) (old new : Register D) : Type 0 where
  pub last_epoch : last_epoch_of new ≡ last_epoch_of old
  pub faults : (state (disk_of old)).faults ≤ (state (disk_of new)).faults

-- a node takes the duty, and is then alone
abbrev pub taken : Duty → NodeName → ℕ → Duty
taken before holder floor = next_duty before holder Alone floor

-- the holder goes on alone
abbrev pub left_alone : Duty → ℕ → Duty
left_alone before floor = next_duty before before.holder Alone floor

-- both nodes are in step again
abbrev pub paired : Duty → ℕ → Duty
paired before floor = next_duty before before.holder Both floor

-- On success the register has its duties and this one.
abbrev pub Becomes : {D : Type 0} → (D → DiskState) → Duty → Register D → Register D → Result Duty DutyFault → Type 0
Becomes state duty old new result =
    (duties : List Duty) → Represents state old duties → OnOk result (Represents state new (with_duty duties duty))

-- A crash at each moment of the call leaves an image that stands for the duties from before, or for them and this one.
abbrev pub CrashesBetween : {D : Type 0} → (D → DiskState) → Duty → Register D → Register D → Type 0
CrashesBetween state duty old new =
    (duties : List Duty) → Represents state old duties → EachMoment (state (disk_of old)) (state (disk_of new)) (StandsForEither duties (with_duty duties duty))

-- the refusal tells the present duty
abbrev pub TellsPresent : {D : Type 0} → Register D → ℕ → NodeName → Type 0
TellsPresent register epoch holder = (epoch ≡ (duty_of register).epoch) × (holder ≡ (duty_of register).holder)

-- When each answer of a change from a mode comes: the new duty, which is then the present one; another mode, for which nothing changes; the last epoch, in the mode that was asked for; or a failure only where the disk's faults rose, after which the old duty is told.
abbrev pub ChangeAnswers : {D : Type 0} → (D → DiskState) → Mode → Duty → Register D → Register D → Result Duty DutyFault → Type 0
ChangeAnswers state from duty old new (Ok told) =
    ((duty_of old).mode ≡ from) × ((duty_of old).epoch < last_epoch_of old) × (told ≡ duty) × (duty_of new ≡ duty) × (is_usable new ≡ true)
ChangeAnswers state from duty old new (Err (changing.NotPaired epoch holder)) =
    (from ≡ Both) × ((duty_of old).mode ≡ Alone) × TellsPresent old epoch holder × (new ≡ old)
ChangeAnswers state from duty old new (Err (changing.Paired epoch holder)) =
    (from ≡ Alone) × ((duty_of old).mode ≡ Both) × TellsPresent old epoch holder × (new ≡ old)
ChangeAnswers state from duty old new (Err (changing.EpochEnd epoch)) =
    ((duty_of old).mode ≡ from) × ((duty_of old).epoch ≡ last_epoch_of old) × (epoch ≡ last_epoch_of old) × (new ≡ old)
ChangeAnswers state from duty old new (Err changing.DiskFault) =
    ((duty_of old).mode ≡ from) × ((duty_of old).epoch < last_epoch_of old)
    × Rose (state (disk_of old)).faults (state (disk_of new)).faults × (duty_of new ≡ duty_of old) × (is_usable new ≡ false)

-- Opened: no byte is changed, and the present duty has at most the last epoch. Where the disk tells its bytes, they stand for duties, all of them synced, which the register represents.
pub record IsOpened {D : Type 0} (state : D → DiskState) (disk : D) (last_epoch : ℕ) (register : Register D) : Type 0 where
  pub stays : Stays (state disk) (state (disk_of register))
  pub faults : (state disk).faults ≤ (state (disk_of register)).faults
  pub limited : last_epoch_of register ≡ last_epoch
  pub counted : 1 ≤ (duty_of register).epoch
  pub within : (duty_of register).epoch ≤ last_epoch
  pub usable : is_usable register ≡ true
  pub shown : (image : List ℕ) → (state disk).content ≡ Some image → (duties : List Duty) × StandsFor duties image × Represents state register duties

-- what a refusal says of the disk's bytes; of a failure, that the count of faults rose
abbrev pub Refused : ℕ → DiskState → DiskState → RegisterFault → Type 0
Refused last_epoch old new opening.DiskFault = Rose old.faults new.faults
Refused last_epoch old new opening.Foreign = (image : List ℕ) → old.content ≡ Some image → IsForeign image
Refused last_epoch old new (opening.Damaged k) = (image : List ℕ) → old.content ≡ Some image → IsDamaged last_epoch k image

-- why a register is not opened, by why its log is not
abbrev pub refusal : OpenFault → RegisterFault
refusal failing.DiskFault = opening.DiskFault
refusal failing.Foreign = opening.Foreign
refusal (failing.Damaged k) = opening.Damaged k

-- Refused: no byte is changed, and the image is as the refusal says.
pub record IsRefused {D : Type 0} (state : D → DiskState) (disk : D) (last_epoch : ℕ) (after : D) (fault : RegisterFault) : Type 0 where
  pub stays : Stays (state disk) (state after)
  pub faults : (state disk).faults ≤ (state after).faults
  pub cause : Refused last_epoch (state disk) (state after) fault

-- when each answer of an opening comes
abbrev pub OpenAnswers : {D : Type 0} → (D → DiskState) → D → ℕ → Result (Register D) (D × RegisterFault) → Type 0
OpenAnswers state disk last_epoch (Ok register) = IsOpened state disk last_epoch register
OpenAnswers state disk last_epoch (Err e) = IsRefused state disk last_epoch e.0 e.1

-- the same of a register that is opened again; a refusal leaves the duty that it tells
abbrev pub ReopenAnswers : {D : Type 0} → (D → DiskState) → Register D → Register D → Result (Unit {0}) RegisterFault → Type 0
ReopenAnswers state old new (Ok x) = IsOpened state (disk_of old) (last_epoch_of old) new
ReopenAnswers state old new (Err fault) = IsRefused state (disk_of old) (last_epoch_of old) (disk_of new) fault × (duty_of new ≡ duty_of old)
