-- What a disk stands for as a register.
use Rattle.std.specs.Prelude.{◌⊎◌, ℕ, List, [], ◌∷◌, ◌++◌}
use Rattle.ali_base.specs.declared.duty.Duty.{Duty}
use Rattle.crash_disk.specs.DiskState.{DiskState}
use Rattle.crash_disk.specs.Moments.{IsSynced}
use Rattle.duty_register.specs.DutyImage.{StandsFor}

-- The disk stands for these duties, all of them synced.
pub record KeepsDuties (duties : List Duty) (s : DiskState) : Type 0 where
  pub image : List ℕ
  pub synced : IsSynced s image
  pub stands : StandsFor duties image

-- the image stands for the duties from before or for those from after
abbrev pub StandsForEither : List Duty → List Duty → List ℕ → Type 0
StandsForEither before after image = StandsFor before image ⊎ StandsFor after image

-- one duty more
abbrev pub with_duty : List Duty → Duty → List Duty
with_duty duties duty = duties ++ duty ∷ []
