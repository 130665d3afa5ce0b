-- The bytes of a frame: what stands of it before the commit byte behind it.
use Rattle.std.specs.Prelude.{◌≡◌, ℕ, suc, ◌==◌, ◌≤◌, ◌&&◌, Bool, nat_le, List, [], ◌∷◌, ◌++◌, Option, is_some}
use Rattle.ali_base.specs.Columns.{is_empty}
use Rattle.ali_base.specs.Fronts.{front, number_at, number_bytes}
use Rattle.ali_base.specs.Steps.{◌>>=◌, when}
use Rattle.office_entry.specs.EntryBytes.{IsInRange, entry_bytes}
use Rattle.office_entry.specs.EntryReading.{entry_from}
use Rattle.office_entry.specs.declared.entry.Entry.{Entry}
use Rattle.pair_world.specs.Frames.{Frame}
use Rattle.node_journal.specs.declared.frame.TheConstants.{LAST_EPOCH}

-- an epoch: 1 to 4,194,303
abbrev pub IsEpoch : ℕ → Type 0
IsEpoch epoch = (1 ≤ epoch) × (epoch ≤ LAST_EPOCH)

-- what a frame has
abbrev pub IsFrame : Frame Entry → Type 0
IsFrame f = IsEpoch f.epoch × IsInRange f.entry

-- the body of frame k: its number and its epoch, of four bytes each with the highest first, and the 631 bytes of its entry
unfoldable pub body : ℕ → Frame Entry → List ℕ
body k f = number_bytes k ++ number_bytes f.epoch ++ entry_bytes f.entry

-- The bytes are the body of frame k, which is this frame.
pub record IsBodyOf (k : ℕ) (frame : Frame Entry) (bytes : List ℕ) : Type 0 where
  pub lawful : IsFrame frame
  pub spelled : bytes ≡ body k frame

-- they are the body of frame k, which is some frame
abbrev pub IsSomeBody : ℕ → List ℕ → Type 0
IsSomeBody k bytes = (frame : Frame Entry) × IsBodyOf k frame bytes

-- the bodies of these frames, of which the first is frame k
abbrev pub bodies_from : ℕ → List (Frame Entry) → List (List ℕ)
bodies_from k [] = []
bodies_from k (f ∷ fs) = body k f ∷ bodies_from (suc k) fs

-- the frame of which these bytes are the body, where they have this number
unfoldable pub frame_from : ℕ → List ℕ → Option (Frame Entry)
frame_from k bytes = do
  number ← number_at bytes
  epoch ← number_at number.1
  fields ← front 631 epoch.1
  entry ← entry_from fields.0
  when (is_empty fields.1 && (number.0 == k) && nat_le 1 epoch.0 && nat_le epoch.0 LAST_EPOCH) (record { entry = entry; epoch = epoch.0 })

-- the bytes are the body of frame k
unfoldable pub is_body : ℕ → List ℕ → Bool
is_body k bytes = is_some (frame_from k bytes)
