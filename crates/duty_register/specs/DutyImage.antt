-- Which duties the bytes of the duty disk stand for.
use Rattle.std.specs.Prelude.{◌≡◌, ℕ, suc, ◌-◌, ◌≤◌, List, [], ◌∷◌, ◌++◌, replicate, codes, map, length}
use Rattle.ali_base.specs.declared.duty.Duty.{Duty}
use Rattle.commit_log.specs.LogImage as log
use Rattle.ali_base.specs.Duties.{first_duty}
use Rattle.duty_register.specs.DutyBytes.{IsDuty, body, is_body}

-- the first block, but for the commit byte behind it: ALI OFFICE DUTY1, and zeros
unfoldable pub first_block : List ℕ
first_block = codes "ALI OFFICE DUTY1" ++ replicate 15 0

-- Each has the epoch of the one before and one. The first of them follows a duty of this epoch.
abbrev pub AreChanges : ℕ → List Duty → Type 0
AreChanges epoch [] = Unit {0}
AreChanges epoch (duty ∷ duties) = IsDuty duty × (duty.epoch ≡ suc epoch) × AreChanges (suc epoch) duties

-- The image stands for these duties, the oldest first: that of a formatted disk, and the changes, of whose bodies it is a log.
pub record StandsFor (duties : List Duty) (image : List ℕ) : Type 0 where
  pub changes : List Duty
  pub begins : duties ≡ first_duty ∷ changes
  pub counted : AreChanges first_duty.epoch changes
  pub logged : log.StandsFor is_body first_block (map body changes) image

-- The image begins otherwise than with the first block.
abbrev pub IsForeign : List ℕ → Type 0
IsForeign image = log.IsForeign first_block image

-- Frame k is committed, and is not there as a whole, or its epoch is past the last one.
abbrev pub IsDamaged : ℕ → ℕ → List ℕ → Type 0
IsDamaged last_epoch k image = log.IsDamaged is_body first_block (last_epoch - 1) k image

-- it stands for some duties, whose epochs are at most the last one
abbrev pub StandsForSome : ℕ → List ℕ → Type 0
StandsForSome last_epoch image = (duties : List Duty) × (length duties ≤ last_epoch) × StandsFor duties image

-- it is damaged at some frame
abbrev pub IsDamagedSomewhere : ℕ → List ℕ → Type 0
IsDamagedSomewhere last_epoch image = (k : ℕ) × IsDamaged last_epoch k image
