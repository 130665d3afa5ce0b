-- What a disk is to its users.
use Rattle.std.specs.Prelude.{◌≡◌, ℕ, ◌≤◌, List, Option, Some}

pub record DiskState : Type 1 where
  -- the bytes that a read gives, where the disk tells them
  pub content : Option (List ℕ)
  -- what a crash now may leave
  pub may_leave : List ℕ → Type 0
  -- the present moment, as a number that never falls
  pub moment : ℕ
  -- what a crash at some moment from that one on might have left
  pub left_since : ℕ → List ℕ → Type 0
  -- the count of faults, which stays at its last value, 2^64 - 1
  pub faults : ℕ

-- Now is one of the moments since any earlier one, and the only one since now. A crash may leave what a read gives.
pub record IsSound (s : DiskState) : Type 0 where
  pub counts_now : (t : ℕ) (image : List ℕ) → t ≤ s.moment → s.may_leave image → s.left_since t image
  pub only_now : (image : List ℕ) → s.left_since s.moment image → s.may_leave image
  pub as_read : (f : List ℕ) → s.content ≡ Some f → s.may_leave f

-- disks of this kind tell their bytes, at any time
abbrev pub AlwaysTell : {D : Type 0} → (D → DiskState) → Type 0
AlwaysTell {D} state = (disk : D) → (image : List ℕ) × ((state disk).content ≡ Some image)
