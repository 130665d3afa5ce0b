-- What a disk stands for as a journal.
use Rattle.std.specs.Prelude.{◌⊎◌, ℕ, List, [], ◌∷◌, ◌++◌}
use Rattle.ali_base.specs.declared.names.NodeName.{NodeName}
use Rattle.crash_disk.specs.DiskState.{DiskState}
use Rattle.crash_disk.specs.Moments.{IsSynced}
use Rattle.office_entry.specs.declared.entry.Entry.{Entry}
use Rattle.pair_world.specs.Frames.{Frame}
use Rattle.node_journal.specs.JournalImage.{StandsFor}

-- The disk stands for these frames, all of them synced.
pub record KeepsFrames (name : NodeName) (frames : List (Frame Entry)) (s : DiskState) : Type 0 where
  pub image : List ℕ
  pub synced : IsSynced s image
  pub stands : StandsFor name frames image

-- the image stands for the frames from before or for those from after
abbrev pub StandsForEither : NodeName → List (Frame Entry) → List (Frame Entry) → List ℕ → Type 0
StandsForEither name before after image = StandsFor name before image ⊎ StandsFor name after image

-- one frame more, of this entry and this epoch
abbrev pub with_frame : Entry → ℕ → List (Frame Entry) → List (Frame Entry)
with_frame entry epoch frames = frames ++ record { entry = entry; epoch = epoch } ∷ []
