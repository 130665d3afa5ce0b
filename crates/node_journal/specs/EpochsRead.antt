-- The epochs of frames that were read from their bodies.
use Rattle.std.specs.Prelude.{◌≡◌, ℕ, List, All, take, drop, map}
use Rattle.std.specs.Int.{w32, from_be_bytes}
use Rattle.ali_base.specs.Fronts.{AreBytes}

-- the epoch in a body
abbrev pub epoch_in : List ℕ → ℕ
epoch_in body = from_be_bytes w32 (take 4 (drop 4 body))

-- These are the epochs in the bodies, which are bytes.
pub record AreEpochsOf (bodies : List (List ℕ)) (epochs : List ℕ) : Type 0 where
  pub bytes : All AreBytes bodies
  pub read : epochs ≡ map epoch_in bodies
