-- What a crash at a moment of a call comes to: the world that a run opens over what the three disks are left with.
use Rattle.std.specs.Prelude.{ℕ, List}
use Rattle.ali_base.specs.declared.duty.Duty.{Duty}
use Rattle.ali_base.specs.declared.names.DiskName.{DiskName}
use Rattle.ali_base.specs.declared.names.NodeName.TheVariants.{A, B}
use Rattle.crash_disk.specs.DiskState.{DiskState}
use Rattle.duty_register.specs.DutyImage as duties
use Rattle.node_journal.specs.JournalImage.{StandsFor}
use Rattle.office_entry.specs.declared.entry.Entry.{Entry}
use Rattle.office_state.specs.declared.limits.Limits.{Limits}
use Rattle.pair_world.specs.Frames.{Frame, Begins}
use Rattle.pair_world.specs.SoundWorld.{IsSound}
use Rattle.pair_world.specs.Step.{Bounds, Halts}
use Rattle.pair_world.specs.World.{World, opened_from, without_doubt}
use Rattle.world_rows.specs.Histories.{due_after}
use Rattle.world_rows.specs.WorldSteps.{OfficeEvent}
use Rattle.pair_core.specs.Pair.{disk_at}
use Rattle.pair_core.specs.declared.pair.Pair.{Pair}

-- A crash at some moment since the call began may leave this image of the disk.
abbrev pub IsLeft : {D : Type 0} → (D → DiskState) → Pair D → Pair D → DiskName → List ℕ → Type 0
IsLeft state old new disk image = (state (disk_at new disk)).left_since (state (disk_at old disk)).moment image

-- The images stand for two journals and for duties. The world that is opened over them is one that a halt of the event leaves: a sound one, whose booked history begins with that of the world before.
pub record OpensAfter (limits : Limits) (bounds : Bounds) (w : World Entry) (event : OfficeEvent) (image_a image_b image_duty : List ℕ) : Type 0 where
  pub journal_a : List (Frame Entry)
  pub journal_b : List (Frame Entry)
  pub list : List Duty
  pub stands_a : StandsFor A journal_a image_a
  pub stands_b : StandsFor B journal_b image_b
  pub stands_duty : duties.StandsFor list image_duty
  pub halts : Halts (due_after limits) bounds w event (without_doubt (opened_from list journal_a journal_b))
  pub sound : IsSound (due_after limits) (without_doubt (opened_from list journal_a journal_b))
  pub keeps : Begins (opened_from list journal_a journal_b).booked w.base.booked
