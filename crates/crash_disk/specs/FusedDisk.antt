-- A disk that stops after some calls: its state, and what each call leaves.
use Rattle.std.specs.Prelude.{ℕ, ◌-◌, ◌==◌, ◌||◌, Bool, List, if◌then◌else◌}
use Rattle.ali_base.specs.Faults.{one_more}
use Rattle.crash_disk.specs.DiskState.{DiskState, IsSound}
use Rattle.crash_disk.specs.CallRecord.{recorded_state}
use Rattle.crash_disk.specs.RecordedSound.{recorded_sound}
use Rattle.crash_disk.specs.MemoryDisk.{MemoryState, call_fails, write_fails, after_look, after_write, after_sync}

-- disk: the disk in memory. left: how many calls still pass. faults: those that failed
pub record FuseState : Type 0 where
  pub disk : MemoryState
  pub left : ℕ
  pub faults : ℕ

-- no call passes
abbrev pub is_blown : FuseState → Bool
is_blown s = s.left == 0

-- the state of the disk in memory, with a count of faults of its own
abbrev pub fuse_state : FuseState → DiskState
fuse_state s = recorded_state s.disk.start s.disk.calls s.faults

pub fuse_sound : (s : FuseState) → IsSound (fuse_state s)
fuse_sound s = recorded_sound s.disk.start s.disk.calls s.faults

-- A call that passes leaves the disk in memory as that says; one that does not leaves it as it was.
abbrev pub after_fused : FuseState → MemoryState → Bool → FuseState
after_fused s disk failed =
    if is_blown s
    then record s { faults = one_more s.faults }
    else record { disk = disk; left = s.left - 1; faults = if failed then one_more s.faults else s.faults }

-- the next call, with a piece of so many bytes, fails
abbrev pub fused_fails : FuseState → ℕ → Bool
fused_fails s count = is_blown s || call_fails s.disk count

-- and so does a write at a place
abbrev pub fused_write_fails : FuseState → ℕ → ℕ → Bool
fused_write_fails s at count = is_blown s || write_fails s.disk at count

-- what `len` or `read_at`, `write_at` and `sync` leave
abbrev pub fused_look : FuseState → Bool → FuseState
fused_look s failed = after_fused s (after_look s.disk failed) failed

abbrev pub fused_write : FuseState → ℕ → List ℕ → Bool → FuseState
fused_write s at piece failed = after_fused s (after_write s.disk at piece failed) failed

abbrev pub fused_sync : FuseState → Bool → FuseState
fused_sync s failed = after_fused s (after_sync s.disk failed) failed
