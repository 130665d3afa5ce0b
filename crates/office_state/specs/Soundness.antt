-- What every office keeps.
use Rattle.std.specs.Prelude.{◌+◌, ◌≤◌}
use Rattle.msag_edits.specs.GuideSoundness.{AreSound}
use Rattle.office_state.specs.Counted.{AreSoundCounts}
use Rattle.office_state.specs.OfficeState.{OfficeState}

-- guide and rows are sound together, each entry made one range at most, and the counts are sound
pub record IsSoundOffice (office : OfficeState) : Type 0 where
  pub sound : AreSound office.state.guide office.state.table
  pub ids : office.state.guide.next ≤ office.entries + 1
  pub counts : AreSoundCounts office.counts office.entries
