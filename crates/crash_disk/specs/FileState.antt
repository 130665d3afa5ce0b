-- A disk over a file, which tells nothing of its bytes.
use Rattle.std.specs.Prelude.{ℕ, Bool, None, ⊤, if◌then◌else◌}
use Rattle.ali_base.specs.Faults.{one_more}
use Rattle.crash_disk.specs.DiskState.{DiskState, IsSound}

-- whether there is a file that was opened and locked, and how many calls failed
pub record FileState : Type 0 where
  pub is_open : Bool
  pub faults : ℕ

-- a read may give anything, and a crash may leave anything
abbrev pub file_state : FileState → DiskState
file_state s = record {
  content = None;
  may_leave = λ image. ⊤;
  moment = 0;
  left_since = λ t image. ⊤;
  faults = s.faults;
}

pub file_sound : (s : FileState) → IsSound (file_state s)
file_sound s = record { counts_now = λ t image le now. now; only_now = λ image left. left; as_read = λ f told. tt {0} }

-- a call raises the count exactly where it failed
abbrev pub counted : FileState → Bool → FileState
counted s failed = record s { faults = if failed then one_more s.faults else s.faults }
