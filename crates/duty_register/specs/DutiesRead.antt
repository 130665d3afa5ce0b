-- The last duty that was read from bodies.
use Rattle.std.specs.Prelude.{◌≡◌, ℕ, List, ◌∷◌, All, map}
use Rattle.ali_base.specs.declared.duty.Duty.{Duty}
use Rattle.ali_base.specs.Duties.{first_duty}
use Rattle.duty_register.specs.DutyBytes.{IsDuty, body}
use Rattle.duty_register.specs.DutyState.{with_duty}

-- the last of the duties is this one
abbrev pub EndsWith : List Duty → Duty → Type 0
EndsWith duties duty = (past : List Duty) × (duties ≡ with_duty past duty)

-- These are the bodies of duties, of which this is the last; where there are none, it is that of a formatted disk.
pub record AreReadUpTo (duty : Duty) (bodies : List (List ℕ)) : Type 0 where
  pub changes : List Duty
  pub lawful : All IsDuty changes
  pub bodies_are : bodies ≡ map body changes
  pub last : EndsWith (first_duty ∷ changes) duty
