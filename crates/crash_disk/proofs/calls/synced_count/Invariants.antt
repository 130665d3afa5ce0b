use Rattle.std.proofs.Common.{◌≡◌, ℕ, ◌≤◌, List, ◌++◌, length, take, drop}
use Rattle.crash_disk.specs.CrashImages.{up_to_sync, since_sync}
use Rattle.crash_disk.specs.Recording.{recorded}
use Rattle.crash_disk.proofs.calls.synced_count.Given as goal

abbrev pub invariant-loop-count : goal.invariant-loop-count
invariant-loop-count l = record {
  within : l.count ≤ length l.calls;
  up_to : (pieces : List ℕ) → up_to_sync (recorded pieces l.calls) ≡ up_to_sync (recorded pieces (take l.count l.calls));
  since : (pieces : List ℕ) → since_sync (recorded pieces l.calls) ≡ recorded pieces (drop l.count l.calls) ++ since_sync (recorded pieces (take l.count l.calls));
}

abbrev pub decreases-loop-count : goal.decreases-loop-count
decreases-loop-count l = l.count
