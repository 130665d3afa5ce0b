-- A disk in memory: its state, and what each call answers and leaves.
use Rattle.std.specs.Prelude.{ℕ, ◌+◌, ◌-◌, ◌==◌, ◌||◌, Bool, not, nat_le, List, [], ◌∷◌, length, if◌then◌else◌}
use Rattle.std.specs.List.{list_any}
use Rattle.ali_base.specs.Faults.{one_more}
use Rattle.crash_disk.specs.DiskState.{DiskState}
use Rattle.crash_disk.specs.CallRecord.{DiskCall, Looked, Wrote, Synced, cost, content, recorded_state}
use Rattle.crash_disk.specs.CrashImages.{crash_image}
use Rattle.crash_disk.specs.declared.kept.Kept.{Kept}

-- start: what it held at first, all of it synced. calls: its record, the newest first. capacity: the most bytes that it holds. room: the record's, in bytes, and left: what is left of it. failing: the calls that fail, counted from 1. made: those made. faults: those that failed
pub record MemoryState : Type 0 where
  pub start : List ℕ
  pub calls : List DiskCall
  pub capacity : ℕ
  pub room : ℕ
  pub left : ℕ
  pub failing : List ℕ
  pub made : ℕ
  pub faults : ℕ

-- a disk of these bytes, all of them synced, with an empty record
abbrev pub fresh_disk : List ℕ → ℕ → ℕ → List ℕ → MemoryState
fresh_disk start capacity room failing = record {
  start = start;
  calls = [];
  capacity = capacity;
  room = room;
  left = room;
  failing = failing;
  made = 0;
  faults = 0;
}

-- the bytes that a read gives
abbrev pub held : MemoryState → List ℕ
held s = content s.start s.calls

-- what it is to users of disks
abbrev pub state_of : MemoryState → DiskState
state_of s = recorded_state s.start s.calls s.faults

-- the next call is named in the list
abbrev pub is_named : MemoryState → Bool
is_named s = list_any (λ call. call == one_more s.made) s.failing

-- the record has room for a call with a piece of so many bytes
abbrev pub has_room : MemoryState → ℕ → Bool
has_room s count = nat_le (cost count) s.left

-- the next call fails: it is named in the list, or the record has no room for it
abbrev pub call_fails : MemoryState → ℕ → Bool
call_fails s count = is_named s || not (has_room s count)

-- a write fails as any call does, and where it goes past the capacity
abbrev pub write_fails : MemoryState → ℕ → ℕ → Bool
write_fails s at count = call_fails s count || not (nat_le (at + count) s.capacity)

-- a call is counted, with its fault, and recorded where there is room
abbrev pub after_call : MemoryState → ℕ → DiskCall → Bool → MemoryState
after_call s count call failed = record s {
  calls = if has_room s count then call ∷ s.calls else s.calls;
  left = if has_room s count then s.left - cost count else s.left;
  made = one_more s.made;
  faults = if failed then one_more s.faults else s.faults;
}

-- `len` or `read_at`, which changes nothing
abbrev pub after_look : MemoryState → Bool → MemoryState
after_look s failed = after_call s 0 Looked failed

-- a write, which was done or failed
abbrev pub after_write : MemoryState → ℕ → List ℕ → Bool → MemoryState
after_write s at piece failed = after_call s (length piece) (Wrote at piece (not failed)) failed

-- a sync; one that failed changed nothing
abbrev pub after_sync : MemoryState → Bool → MemoryState
after_sync s failed = after_call s 0 (if failed then Looked else Synced) failed

-- what a crash leaves of it, with the same room
abbrev pub crashed_disk : Kept → MemoryState → MemoryState
crashed_disk kept s = fresh_disk (crash_image kept s.start s.calls) s.capacity s.room []
