-- What a disk stands for as a log.
use Rattle.std.specs.Prelude.{◌⊎◌, ℕ, ◌-◌, Bool, List, [], ◌∷◌, ◌++◌, length, take}
use Rattle.crash_disk.specs.DiskState.{DiskState}
use Rattle.crash_disk.specs.Moments.{IsSynced}
use Rattle.commit_log.specs.LogImage.{StandsFor}

-- The disk stands for these bodies, all of them synced.
pub record KeepsBodies (is_body : ℕ → List ℕ → Bool) (head : List ℕ) (bodies : List (List ℕ)) (s : DiskState) : Type 0 where
  pub image : List ℕ
  pub synced : IsSynced s image
  pub stands : StandsFor is_body head bodies image

-- the image stands for the bodies from before or for those from after
abbrev pub StandsForEither : (ℕ → List ℕ → Bool) → List ℕ → List (List ℕ) → List (List ℕ) → List ℕ → Type 0
StandsForEither is_body head before after image = StandsFor is_body head before image ⊎ StandsFor is_body head after image

-- one body more
abbrev pub with_body : List (List ℕ) → List ℕ → List (List ℕ)
with_body bodies body = bodies ++ body ∷ []

-- the bytes of a block before its last one, which is the commit byte of the next frame
abbrev pub body_of : List ℕ → List ℕ
body_of block = take (length block - 1) block
