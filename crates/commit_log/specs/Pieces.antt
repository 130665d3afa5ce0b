-- What is read of a disk, a piece at a time.
use Rattle.std.specs.Prelude.{◌≡◌, ℕ, ◌+◌, ◌-◌, ◌≤◌, ◌++◌, ◌∷◌, Bool, true, List, length, take, drop, Option, Some, None}
use Rattle.crash_disk.specs.DiskState.{DiskState}
use Rattle.commit_log.specs.LogState.{with_body}
use Rattle.commit_log.specs.LogImage.{NoFrame, frame_place}
use Rattle.commit_log.specs.declared.pieces.Piece.{Piece}
use Rattle.commit_log.specs.declared.pieces.Block.{Block}

-- what the piece has in the buffer stands on the disk from this place on
pub record Buffers (s : DiskState) (place : ℕ) (piece : Piece) (buffer : List ℕ) : Type 0 where
  pub order : piece.at ≤ piece.end
  pub within : piece.end ≤ length buffer
  pub same : (f : List ℕ) → s.content ≡ Some f → take (piece.end - piece.at) (drop piece.at buffer) ≡ take (piece.end - piece.at) (drop place f)

-- more than n bytes from the place on are in the piece, or the disk ends before them
abbrev pub HasBlock : DiskState → ℕ → ℕ → Piece → Type 0
HasBlock s place n piece = (f : List ℕ) → s.content ≡ Some f → piece.end - piece.at ≤ n → length f ≤ place + n

-- n bytes of the disk from this place on stand in the buffer, and the byte behind them is known, and what the buffer has behind that
pub record IsBlock (s : DiskState) (place n : ℕ) (buffer : List ℕ) (block : Block) : Type 0 where
  pub within : block.at + n ≤ length buffer
  pub shown : (f : List ℕ) → s.content ≡ Some f → (more : List ℕ) × (drop place f ≡ take n (drop block.at buffer) ++ block.next ∷ more)
  pub behind : Buffers s (place + (n + 1)) block.behind buffer

-- what was read as the block at this place: none, where the disk ends before it, or its bytes
abbrev pub ReadsBlock : DiskState → ℕ → ℕ → List ℕ → Option Block → Type 0
ReadsBlock s place n buffer None = (f : List ℕ) → s.content ≡ Some f → length f ≤ place + n
ReadsBlock s place n buffer (Some block) = IsBlock s place n buffer block

-- A body of frame k, of n bytes, was read, and the commit byte behind it. So they stand on the disk in the frame's place.
pub record ReadsFrame (is_body : ℕ → List ℕ → Bool) (holds_before holds_after : List (List ℕ) → Type 0) (s : DiskState) (n k next : ℕ) : Type 0 where
  pub body : List ℕ
  pub long : length body ≡ n
  pub lawful : is_body k body ≡ true
  pub holds : (bodies : List (List ℕ)) → holds_before bodies → holds_after (with_body bodies body)
  pub shown : (front rest : List ℕ) → length front ≡ frame_place n k → s.content ≡ Some (front ++ rest) → (more : List ℕ) × (rest ≡ body ++ next ∷ more)

-- no frame k stands on the disk in its place
abbrev pub ReadsNone : (ℕ → List ℕ → Bool) → DiskState → ℕ → ℕ → Type 0
ReadsNone is_body s n k = (front rest : List ℕ) → length front ≡ frame_place n k → s.content ≡ Some (front ++ rest) → NoFrame is_body n k rest

-- what was read as frame k: none, or its body and the commit byte behind it
abbrev pub ReadsNext : (ℕ → List ℕ → Bool) → (List (List ℕ) → Type 0) → (List (List ℕ) → Type 0) → DiskState → ℕ → ℕ → Option Block → Type 0
ReadsNext is_body holds_before holds_after s n k None = ReadsNone is_body s n k
ReadsNext is_body holds_before holds_after s n k (Some block) = ReadsFrame is_body holds_before holds_after s n k block.next

-- what is behind a frame stands on the disk from this place on
abbrev pub BuffersBehind : DiskState → ℕ → List ℕ → Option Block → Type 0
BuffersBehind s place buffer None = Unit {0}
BuffersBehind s place buffer (Some block) = Buffers s place block.behind buffer
