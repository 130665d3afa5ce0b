-- Which frames the bytes of a node's disk stand for.
use Rattle.std.specs.Prelude.{ℕ, ◌≤◌, List, ◌++◌, length, codes, All}
use Rattle.ali_base.specs.declared.names.NodeName.{NodeName}
use Rattle.ali_base.specs.Fronts.{zero_filled}
use Rattle.ali_base.specs.NodeNames.{node_text}
use Rattle.commit_log.specs.LogImage as log
use Rattle.office_entry.specs.declared.entry.Entry.{Entry}
use Rattle.pair_world.specs.Frames.{Frame}
use Rattle.node_journal.specs.FrameBytes.{IsFrame, bodies_from, is_body}

-- the first block, but for the commit byte behind it: ALI OFFICE JRNL1, the node's letter, and zeros up to 639 bytes
unfoldable pub first_block : NodeName → List ℕ
first_block name = zero_filled 639 (codes "ALI OFFICE JRNL1" ++ node_text name)

-- The image stands for these frames: it is a log of their bodies behind the node's first block.
pub record StandsFor (name : NodeName) (frames : List (Frame Entry)) (image : List ℕ) : Type 0 where
  pub lawful : All IsFrame frames
  pub logged : log.StandsFor is_body (first_block name) (bodies_from 1 frames) image

-- The image begins otherwise than with the node's first block.
abbrev pub IsForeign : NodeName → List ℕ → Type 0
IsForeign name image = log.IsForeign (first_block name) image

-- Frame k is committed, and is not there as a whole, or is past the limit.
abbrev pub IsDamaged : NodeName → ℕ → ℕ → List ℕ → Type 0
IsDamaged name limit k image = log.IsDamaged is_body (first_block name) limit k image

-- it stands for some frames, at most so many
abbrev pub StandsForSome : NodeName → ℕ → List ℕ → Type 0
StandsForSome name limit image = (frames : List (Frame Entry)) × (length frames ≤ limit) × StandsFor name frames image

-- it is damaged at some frame
abbrev pub IsDamagedSomewhere : NodeName → ℕ → List ℕ → Type 0
IsDamagedSomewhere name limit image = (k : ℕ) × IsDamaged name limit k image
