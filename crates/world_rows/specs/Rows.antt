-- Rows: how a command or an event is answered, over any replies and whatever it changes. A row is read from the front. The first refusal that holds is the reply, and nothing changes. Where a disk may fail, its failure may be the reply. Where nothing is met before it, the success is the reply.
use Rattle.std.specs.Prelude.{◌≡◌, ◌⊎◌, Option, Some, None}
use Rattle.std.specs.Option.{option_map}
use Rattle.ali_base.specs.declared.names.DiskName.{DiskName}
use Rattle.world_rows.specs.Counts.{Counts, RoseAt}

-- Unless: this refusal, where it holds, and otherwise the rest of the row. MayFail: the disk may fail, which leaves this, and otherwise the rest of the row. Always: a refusal that holds. Success: a reply, and what it leaves
pub data Row (R W : Type 0) : Type 0 where
  Unless : (refusal : Option R) (row : Row R W) → Row R W
  MayFail : (disk : DiskName) (left : W) (row : Row R W) → Row R W
  Always : (refusal : R) → Row R W
  Success : (reply : R) (left : W) → Row R W

-- The row gives this reply, and what was w is then v. A failure is told only of a disk whose count of faults rose.
abbrev pub Gives : {R W : Type 0} → (before now : Counts) (failure : DiskName → R) → W → Row R W → R → W → Type 0
Gives before now failure w (Unless refusal row) reply v =
    ((refusal ≡ Some reply) × (v ≡ w)) ⊎ ((refusal ≡ None) × Gives before now failure w row reply v)
Gives before now failure w (MayFail disk left row) reply v =
    ((reply ≡ failure disk) × (v ≡ left) × RoseAt before now disk) ⊎ Gives before now failure w row reply v
Gives before now failure w (Always refusal) reply v = (reply ≡ refusal) × (v ≡ w)
Gives before now failure w (Success done left) reply v = (reply ≡ done) × (v ≡ left)

-- the row over more: its replies and what it leaves, each put into a place of their own
abbrev pub row_in : {R S W M : Type 0} → (R → S) → (W → M) → Row R W → Row S M
row_in told put (Unless refusal row) = Unless (option_map told refusal) (row_in told put row)
row_in told put (MayFail disk left row) = MayFail disk (put left) (row_in told put row)
row_in told put (Always refusal) = Always (told refusal)
row_in told put (Success reply left) = Success (told reply) (put left)
