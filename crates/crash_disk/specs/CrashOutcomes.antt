-- The disk model: what each call does to the bytes of a disk, and to what a crash may leave of them.
use Rattle.std.specs.Prelude.{◌≡◌, ◌⊎◌, ℕ, ◌+◌, ◌-◌, ◌<◌, ◌≤◌, List, ◌++◌, length, take, drop, replicate, slice_index, Some, IfSome, Result, IfOk, OnOk, OnErr}
use Rattle.ali_base.specs.Faults.{Rose}
use Rattle.crash_disk.specs.DiskState.{DiskState}

-- any bytes in the range of n bytes at a place and past the old end, and elsewhere the same
pub record Torn (at n : ℕ) (old new : List ℕ) : Type 0 where
  pub no_shorter : length old ≤ length new
  pub below : (i : ℕ) → i < length old → i < at → slice_index new i ≡ slice_index old i
  pub above : (i : ℕ) → i < length old → at + n ≤ i → slice_index new i ≡ slice_index old i

-- these bytes at a place, behind zeros where the place is past the old end, and elsewhere the same
abbrev pub written : ℕ → List ℕ → List ℕ → List ℕ
written at bytes old =
    take at old ++ replicate (at - length old) 0 ++ bytes ++ drop (at + length bytes) old

-- Time goes on: no moment is forgotten, and what a crash since one of them might have left is what it might have left before, or what it may leave now.
pub record GoesOn (old new : DiskState) : Type 0 where
  pub later : old.moment ≤ new.moment
  pub nothing_else : (t : ℕ) (image : List ℕ) → t ≤ old.moment → new.left_since t image → old.left_since t image ⊎ new.may_leave image
  pub keeps : (t : ℕ) (image : List ℕ) → t ≤ old.moment → old.left_since t image → new.left_since t image

-- no byte changed, and a crash leaves nothing that it could not leave before
pub record Stays (old new : DiskState) : Type 0 where
  pub on : GoesOn old new
  pub content : new.content ≡ old.content
  pub crash : (image : List ℕ) → new.may_leave image → old.may_leave image

-- a write of n bytes at a place, done or failed: what a read gives and what a crash leaves may be torn there
pub record Writes (at n : ℕ) (old new : DiskState) : Type 0 where
  pub on : GoesOn old new
  pub content : IfSome old.content (λ f. (g : List ℕ) × (new.content ≡ Some g) × Torn at n f g)
  pub crash : (image : List ℕ) → new.may_leave image → (earlier : List ℕ) × old.may_leave earlier × Torn at n earlier image

-- a crash leaves these bytes and no others
abbrev pub LeavesAll : DiskState → List ℕ → Type 0
LeavesAll s f = (image : List ℕ) → s.may_leave image → image ≡ f

-- the answer is how many bytes there are
abbrev pub TellsLength : {E : Type 0} → DiskState → Result ℕ E → Type 0
TellsLength s result = IfOk result (λ n. IfSome s.content (λ f. n ≡ length f))

-- the buffer begins with the bytes from a place on, as many as it has room for or as there are, and the answer is how many
abbrev pub Reads : {E : Type 0} → ℕ → DiskState → List ℕ → Result ℕ E → Type 0
Reads at s buffer result =
    IfOk result (λ n. IfSome s.content (λ f. take n buffer ≡ take (length buffer) (drop at f)))

-- on success the bytes stand at the place
abbrev pub Writing : {T E : Type 0} → ℕ → List ℕ → DiskState → DiskState → Result T E → Type 0
Writing at bytes old new result =
    OnOk result (IfSome old.content (λ f. new.content ≡ Some (written at bytes f)))

-- on success a crash leaves what a read gives, and nothing else
abbrev pub Syncing : {T E : Type 0} → DiskState → DiskState → Result T E → Type 0
Syncing old new result = OnOk result (IfSome old.content (λ f. LeavesAll new f))

-- The count of faults never falls, and a failure comes only where it rose.
pub record HasCause {T E : Type 0} (old new : DiskState) (result : Result T E) : Type 0 where
  pub later : old.faults ≤ new.faults
  pub failed : OnErr result (Rose old.faults new.faults)
