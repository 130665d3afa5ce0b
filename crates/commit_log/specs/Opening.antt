-- What the opening of a log finds.
use Rattle.std.specs.Prelude.{◌≡◌, ◌≢◌, ℕ, Bool, List, ◌++◌, ◌∷◌, length, Option, Some, None, Result, Ok, Err}
use Rattle.ali_base.specs.Faults.{Rose}
use Rattle.crash_disk.specs.DiskState.{DiskState}
use Rattle.commit_log.specs.LogImage.{AreBodies, IsForeign, IsDamaged, log_front, committed}
use Rattle.commit_log.specs.LogState.{KeepsBodies}
use Rattle.commit_log.specs.declared.pieces.Block.{Block}
use Rattle.commit_log.specs.declared.opening.OpenFault.{OpenFault}
use Rattle.commit_log.specs.declared.opening.OpenFault.TheVariants.{DiskFault, Foreign, Damaged}

-- Bodies were read, so many, and a reader that holds so holds them. Where the disk tells its bytes, it stands for them, all of them synced.
pub record Found (is_body : ℕ → List ℕ → Bool) (holds : List (List ℕ) → Type 0) (head : List ℕ) (count : ℕ) (old new : DiskState) : Type 0 where
  pub bodies : List (List ℕ)
  pub counts : count ≡ length bodies
  pub lawful : AreBodies is_body (length head) 1 bodies
  pub held : holds bodies
  pub kept : (image : List ℕ) → old.content ≡ Some image → KeepsBodies is_body head bodies new

-- what a refusal says of the disk's bytes; of a failure, that the count of faults rose
abbrev pub Refused : (ℕ → List ℕ → Bool) → List ℕ → ℕ → DiskState → DiskState → OpenFault → Type 0
Refused is_body head limit old new DiskFault = Rose old.faults new.faults
Refused is_body head limit old new Foreign = (image : List ℕ) → old.content ≡ Some image → IsForeign head image
Refused is_body head limit old new (Damaged k) = (image : List ℕ) → old.content ≡ Some image → IsDamaged is_body head limit k image

-- when each answer of an opening comes: so many bodies were read, or it was refused
abbrev pub ReadsLog : (ℕ → List ℕ → Bool) → (List (List ℕ) → Type 0) → List ℕ → ℕ → DiskState → DiskState → Result ℕ OpenFault → Type 0
ReadsLog is_body holds head limit old new (Ok count) = Found is_body holds head count old new
ReadsLog is_body holds head limit old new (Err fault) = Refused is_body head limit old new fault

-- Bodies of n bytes were read, so many, up to this commit byte. The first stands behind the byte `first`.
pub record SoFar (is_body : ℕ → List ℕ → Bool) (holds : List (List ℕ) → Type 0) (n first count next : ℕ) (s : DiskState) : Type 0 where
  pub bodies : List (List ℕ)
  pub counts : count ≡ length bodies
  pub lawful : AreBodies is_body n 1 bodies
  pub held : holds bodies
  pub shown : (head rest : List ℕ) → length head ≡ n → s.content ≡ Some (head ++ first ∷ rest) → (more : List ℕ) × (head ++ first ∷ rest ≡ log_front head bodies ++ next ∷ more)

-- All of them were read: they end at a byte that commits nothing.
pub record AllRead (is_body : ℕ → List ℕ → Bool) (holds : List (List ℕ) → Type 0) (n first count : ℕ) (s : DiskState) : Type 0 where
  pub next : ℕ
  pub uncommitted : next ≢ committed
  pub so_far : SoFar is_body holds n first count next s

-- what a refusal behind the first block says
abbrev pub Stopped : (ℕ → List ℕ → Bool) → ℕ → ℕ → ℕ → DiskState → DiskState → OpenFault → Type 0
Stopped is_body n limit first old new DiskFault = Rose old.faults new.faults
Stopped is_body n limit first old new Foreign = ⊥
Stopped is_body n limit first old new (Damaged k) = (head rest : List ℕ) → length head ≡ n → old.content ≡ Some (head ++ first ∷ rest) → IsDamaged is_body head limit k (head ++ first ∷ rest)

-- The disk begins otherwise than with the head and a commit byte.
abbrev pub BeginsOtherwise : List ℕ → DiskState → Type 0
BeginsOtherwise head s = (image : List ℕ) → s.content ≡ Some image → IsForeign head image

-- The disk begins with the head and this commit byte.
abbrev pub BeginsWith : List ℕ → ℕ → DiskState → Type 0
BeginsWith head first s = (image : List ℕ) → s.content ≡ Some image → (rest : List ℕ) × (image ≡ head ++ first ∷ rest)

-- what was read of the first block: another one, or its commit byte
abbrev pub ReadsFirst : List ℕ → DiskState → Option Block → Type 0
ReadsFirst head s None = BeginsOtherwise head s
ReadsFirst head s (Some block) = BeginsWith head block.next s

-- what was read behind the first block: all frames, so many, or what stopped it
abbrev pub ReadsFrames : (ℕ → List ℕ → Bool) → (List (List ℕ) → Type 0) → ℕ → ℕ → ℕ → DiskState → DiskState → Result ℕ OpenFault → Type 0
ReadsFrames is_body holds n limit first old new (Ok count) = AllRead is_body holds n first count old
ReadsFrames is_body holds n limit first old new (Err fault) = Stopped is_body n limit first old new fault
