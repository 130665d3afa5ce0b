-- How often each of the three disks has failed.
use Rattle.std.specs.Prelude.{ℕ, ◌≤◌}
use Rattle.ali_base.specs.Faults.{Rose}
use Rattle.ali_base.specs.declared.names.DiskName.{DiskName}
use Rattle.ali_base.specs.declared.names.DiskName.TheVariants.{A, B, Duty}

pub record Counts : Type 0 where
  pub a : ℕ
  pub b : ℕ
  pub duty : ℕ

-- that of one disk
abbrev pub count_at : Counts → DiskName → ℕ
count_at counts A = counts.a
count_at counts B = counts.b
count_at counts Duty = counts.duty

-- the disk failed: its count rose, or stands at its last value
abbrev pub RoseAt : Counts → Counts → DiskName → Type 0
RoseAt before now disk = Rose (count_at before disk) (count_at now disk)

-- no count fell
abbrev pub NeverFall : Counts → Counts → Type 0
NeverFall before now = (disk : DiskName) → count_at before disk ≤ count_at now disk

-- no disk failed
abbrev pub NoneRose : Counts → Counts → Type 0
NoneRose before now = (disk : DiskName) → RoseAt before now disk → ⊥
