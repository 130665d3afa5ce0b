-- The three disks at the start of a run and at its end.
use Rattle.std.specs.Prelude.{◌≡◌, ℕ, List, Some}
use Rattle.ali_base.specs.declared.duty.Duty.{Duty}
use Rattle.ali_base.specs.declared.names.DiskName.{DiskName}
use Rattle.ali_base.specs.declared.names.DiskName.TheVariants as disk
use Rattle.ali_base.specs.declared.names.NodeName.TheVariants.{A, B}
use Rattle.command_machine.specs.Machine.{Moment, first_machine, office_bounds}
use Rattle.crash_disk.specs.DiskState.{DiskState, AlwaysTell}
use Rattle.duty_register.specs.DutyImage as duties
use Rattle.node_journal.specs.JournalImage.{StandsFor}
use Rattle.office_entry.specs.declared.entry.Entry.{Entry}
use Rattle.office_state.specs.OfficeState.{office_limits}
use Rattle.pair_world.specs.Frames.{Frame, Begins}
use Rattle.pair_world.specs.World.{MayHold, MayList, opened_from, without_doubt}
use Rattle.world_rows.specs.Counts.{Counts, NeverFall}
use Rattle.world_rows.specs.Histories.{IsLawful}

-- the disks of the nodes and of the duty register; and that they are of a kind that tells its bytes at any time
pub record Disks : Type 1 where
  pub tells : Type 0
  pub a : DiskState
  pub b : DiskState
  pub duty : DiskState

abbrev pub disks_of : {D : Type 0} → (D → DiskState) → (a b duty : D) → Disks
disks_of state a b duty = record { tells = AlwaysTell state; a = state a; b = state b; duty = state duty }

-- the disk of a name
abbrev pub disk_in : Disks → DiskName → DiskState
disk_in disks disk.A = disks.a
disk_in disks disk.B = disks.b
disk_in disks disk.Duty = disks.duty

-- how often each has failed
abbrev pub counts_of : Disks → Counts
counts_of disks = record { a = (disks.a).faults; b = (disks.b).faults; duty = (disks.duty).faults }

-- Three images: of the disks of the nodes, and of the register's.
pub record Images : Type 0 where
  pub a : List ℕ
  pub b : List ℕ
  pub duty : List ℕ

-- A crash now may leave these images, each disk for itself.
pub record MayLeave (disks : Disks) (images : Images) : Type 0 where
  pub a : (disks.a).may_leave images.a
  pub b : (disks.b).may_leave images.b
  pub duty : (disks.duty).may_leave images.duty

-- The images stand for two journals and for duties.
pub record StandFor (images : Images) (list : List Duty) (journal_a journal_b : List (Frame Entry)) : Type 0 where
  pub a : StandsFor A journal_a images.a
  pub b : StandsFor B journal_b images.b
  pub duty : duties.StandsFor list images.duty

-- a run opens a lawful world over these duties and journals
abbrev pub OpensLawful : List Duty → (a b : List (Frame Entry)) → Type 0
OpensLawful list a b = IsLawful office_limits office_bounds (without_doubt (opened_from list a b))

-- The images stand for duties and journals over which a run opens a lawful world, whose booked history begins with this one.
abbrev pub OpenTo : Images → List (Frame Entry) → Type 0
OpenTo images booked =
    (list : List Duty) × (a : List (Frame Entry)) × (b : List (Frame Entry))
    × StandFor images list a b × OpensLawful list a b × Begins (opened_from list a b).booked booked

-- whatever a crash may leave of the three disks now opens to a lawful world that keeps this history
abbrev pub IsKept : Disks → List (Frame Entry) → Type 0
IsKept disks booked = (images : Images) → MayLeave disks images → OpenTo images booked

-- Honest: the disks tell their bytes, and over whatever a crash could leave of them a run opens a lawful world.
pub record IsHonest (disks : Disks) : Type 0 where
  pub told : disks.tells
  pub images : (images : Images) → MayLeave disks images
      → (list : List Duty) × (a : List (Frame Entry)) × (b : List (Frame Entry)) × StandFor images list a b × OpensLawful list a b

-- The first moment of a run: the machine over what the bytes of the disks stand for.
pub record IsFirst (before : Disks) (first : Moment) : Type 0 where
  pub images : Images
  pub a : (before.a).content ≡ Some images.a
  pub b : (before.b).content ≡ Some images.b
  pub duty : (before.duty).content ≡ Some images.duty
  pub list : List Duty
  pub journal_a : List (Frame Entry)
  pub journal_b : List (Frame Entry)
  pub stand : StandFor images list journal_a journal_b
  pub machine : first.machine ≡ first_machine list journal_a journal_b
  pub counts : NeverFall (counts_of before) first.counts

-- Each image that a crash now may leave of a disk stands for one of the lists that the world gives that disk.
pub record IsBacked (now : Disks) (last : Moment) : Type 0 where
  pub a : (image : List ℕ) → (now.a).may_leave image → (frames : List (Frame Entry)) × StandsFor A frames image × MayHold last.machine.world A frames
  pub b : (image : List ℕ) → (now.b).may_leave image → (frames : List (Frame Entry)) × StandsFor B frames image × MayHold last.machine.world B frames
  pub duty : (image : List ℕ) → (now.duty).may_leave image → (list : List Duty) × duties.StandsFor list image × MayList last.machine.world list

-- The last moment of a run: its counts are those of the disks, its world backs whatever a crash may leave now, and its booked history is kept.
pub record IsLast (now : Disks) (last : Moment) : Type 0 where
  pub counts : last.counts ≡ counts_of now
  pub backed : IsBacked now last
  pub kept : IsKept now last.machine.world.base.booked
