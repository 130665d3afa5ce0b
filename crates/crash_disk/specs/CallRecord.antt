-- The record of a disk's calls, the newest first: what a read gives after them, and what a crash may leave.
use Rattle.std.specs.Prelude.{◌≡◌, ◌⊎◌, ℕ, ◌+◌, ◌≤◌, Bool, true, false, List, [], ◌∷◌, length, Some}
use Rattle.crash_disk.specs.DiskState.{DiskState}
use Rattle.crash_disk.specs.CrashOutcomes.{Torn, written}
use Rattle.crash_disk.specs.declared.calls.TheConstants.{CALL_COST}

-- a call: one that changed nothing, a write of a piece at a place that was done or failed, or a sync
pub data DiskCall : Type 0 where
  Looked : DiskCall
  Wrote : (at : ℕ) (piece : List ℕ) (done : Bool) → DiskCall
  Synced : DiskCall

-- what a call with a piece of so many bytes takes of the record's room
abbrev pub cost : ℕ → ℕ
cost count = CALL_COST + count

-- what a read gives after these calls on a disk that held these bytes
abbrev pub content : List ℕ → List DiskCall → List ℕ
content start [] = start
content start (Looked ∷ earlier) = content start earlier
content start (Wrote at piece true ∷ earlier) = written at piece (content start earlier)
content start (Wrote at piece false ∷ earlier) = content start earlier
content start (Synced ∷ earlier) = content start earlier

-- what a crash may leave then
abbrev pub MayLeave : List ℕ → List DiskCall → List ℕ → Type 0
MayLeave start [] image = image ≡ start
MayLeave start (Looked ∷ earlier) image = MayLeave start earlier image
MayLeave start (Wrote at piece done ∷ earlier) image =
    (before : List ℕ) × MayLeave start earlier before × Torn at (length piece) before image
MayLeave start (Synced ∷ earlier) image = image ≡ content start earlier

-- what a crash after the first t calls or later might have left
abbrev pub LeftSince : List ℕ → List DiskCall → ℕ → List ℕ → Type 0
LeftSince start [] t image = MayLeave start [] image
LeftSince start (call ∷ earlier) t image =
    MayLeave start (call ∷ earlier) image ⊎ (t ≤ length earlier × LeftSince start earlier t image)

-- the state of a disk that held these bytes, after these calls, with this count of faults
abbrev pub recorded_state : List ℕ → List DiskCall → ℕ → DiskState
recorded_state start calls faults = record {
  content = Some (content start calls);
  may_leave = MayLeave start calls;
  moment = length calls;
  left_since = LeftSince start calls;
  faults = faults;
}
