-- How the record of calls is kept: the pieces that were written stand one after the other.
use Rattle.std.specs.Prelude.{◌≡◌, ℕ, ◌+◌, ◌-◌, ◌≤◌, Bool, true, false, List, ◌∷◌, length, take, drop, map, reverse}
use Rattle.std.specs.List.{All}
use Rattle.crash_disk.specs.CallRecord.{DiskCall, Looked, Wrote, Synced, cost}
use Rattle.crash_disk.specs.CrashImages.{up_to_sync, since_sync}
use Rattle.crash_disk.specs.declared.calls.Call.{Call}
use Rattle.crash_disk.specs.declared.calls.Call.TheVariants as Stored

-- calls: the newest first. room: the record's, in bytes. left: what is left of it
pub record RecordState : Type 0 where
  pub calls : List DiskCall
  pub room : ℕ
  pub left : ℕ

-- one call more, with a piece of so many bytes
abbrev pub with_call : RecordState → ℕ → DiskCall → RecordState
with_call r count call = record r { calls = call ∷ r.calls; left = r.left - cost count }

-- a call with its piece
abbrev pub told : List ℕ → Call → DiskCall
told pieces Stored.Looked = Looked
told pieces (Stored.Wrote at from count done) = Wrote at (take count (drop from pieces)) done
told pieces Stored.Synced = Synced

-- all of them, of which the oldest stands first
abbrev pub recorded : List ℕ → List Call → List DiskCall
recorded pieces calls = reverse (map (told pieces) calls)

-- whether a call synced
abbrev pub is_sync : Call → Bool
is_sync Stored.Looked = false
is_sync (Stored.Wrote at from count done) = false
is_sync Stored.Synced = true

-- where the piece of a call ends
abbrev pub piece_end : Call → ℕ
piece_end Stored.Looked = 0
piece_end (Stored.Wrote at from count done) = from + count
piece_end Stored.Synced = 0

-- each piece stands among so many bytes
abbrev pub AllWithin : ℕ → List Call → Type 0
AllWithin size calls = All (λ call. piece_end call ≤ size) calls

-- the first n calls are those up to the last sync, and the others those since
pub record IsLastSync (calls : List Call) (n : ℕ) : Type 0 where
  pub within : n ≤ length calls
  pub up_to : (pieces : List ℕ) → recorded pieces (take n calls) ≡ up_to_sync (recorded pieces calls)
  pub since : (pieces : List ℕ) → recorded pieces (drop n calls) ≡ since_sync (recorded pieces calls)
