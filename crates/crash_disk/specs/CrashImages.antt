-- What a crash leaves of the bytes that were not synced: the old ones, the new ones, or one byte everywhere.
use Rattle.std.specs.Prelude.{ℕ, ◌+◌, ◌-◌, Bool, true, false, List, [], ◌∷◌, ◌++◌, length, take, drop, min, replicate}
use Rattle.crash_disk.specs.CallRecord.{DiskCall, Looked, Wrote, Synced, content}
use Rattle.crash_disk.specs.declared.kept.Kept.{Kept}
use Rattle.crash_disk.specs.declared.kept.Kept.TheVariants.{Old, New, Fill}

-- the calls up to the last sync
abbrev pub up_to_sync : List DiskCall → List DiskCall
up_to_sync [] = []
up_to_sync (Looked ∷ earlier) = up_to_sync earlier
up_to_sync (Wrote at piece done ∷ earlier) = up_to_sync earlier
up_to_sync (Synced ∷ earlier) = Synced ∷ earlier

-- the calls since the last sync
abbrev pub since_sync : List DiskCall → List DiskCall
since_sync [] = []
since_sync (Looked ∷ earlier) = Looked ∷ since_sync earlier
since_sync (Wrote at piece done ∷ earlier) = Wrote at piece done ∷ since_sync earlier
since_sync (Synced ∷ earlier) = []

-- one byte in all of the range of n bytes at a place, as far as there are bytes
abbrev pub filled_range : ℕ → ℕ → ℕ → List ℕ → List ℕ
filled_range byte at n f = take at f ++ replicate (min n (length f - at)) byte ++ drop (at + n) f

-- the same after a write of n bytes at a place, which lengthened them where it was done
abbrev pub filled_write : ℕ → ℕ → ℕ → Bool → List ℕ → List ℕ
filled_write byte at n true f = filled_range byte at n (f ++ replicate (at + n - length f) byte)
filled_write byte at n false f = filled_range byte at n f

-- one byte wherever these calls wrote, and in all that they added
abbrev pub filled : ℕ → List ℕ → List DiskCall → List ℕ
filled byte f [] = f
filled byte f (Looked ∷ earlier) = filled byte f earlier
filled byte f (Wrote at piece done ∷ earlier) =
    filled_write byte at (length piece) done (filled byte f earlier)
filled byte f (Synced ∷ earlier) = filled byte f earlier

-- what is left of a disk that held these bytes, after these calls
abbrev pub crash_image : Kept → List ℕ → List DiskCall → List ℕ
crash_image Old start calls = content start (up_to_sync calls)
crash_image New start calls = content start calls
crash_image (Fill byte) start calls =
    filled byte (content start (up_to_sync calls)) (since_sync calls)
