-- What a crash leaves at each moment of a run of calls.
use Rattle.std.specs.Prelude.{◌≡◌, ◌⊎◌, ℕ, ◌≤◌, List, Some}
use Rattle.crash_disk.specs.DiskState.{DiskState}
use Rattle.crash_disk.specs.CrashOutcomes.{LeavesAll}

-- From the old state to the new one, a crash at any moment leaves an image that has P.
pub record EachMoment (old new : DiskState) (P : List ℕ → Type 0) : Type 0 where
  pub later : old.moment ≤ new.moment
  pub each : (image : List ℕ) → new.left_since old.moment image → P image
  -- for a run that began earlier
  pub before : (t : ℕ) (image : List ℕ) → t ≤ old.moment → new.left_since t image → old.left_since t image ⊎ P image

-- The disk tells its bytes, and a crash leaves them and no others.
pub record IsSynced (s : DiskState) (f : List ℕ) : Type 0 where
  pub told : s.content ≡ Some f
  pub durable : LeavesAll s f
