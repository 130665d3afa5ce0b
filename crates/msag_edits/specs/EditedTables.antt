-- What an edit leaves of guide and table, by its code: a refused one leaves both.
use Rattle.std.specs.Prelude.{ℕ, ◌==◌, if◌then◌else◌}
use Rattle.msag_ranges.specs.StreetGuide.{StreetGuide}
use Rattle.number_table.specs.NumberTable.{NumberTable}
use Rattle.number_table.specs.HeldRows.{changed}
use Rattle.office_entry.specs.declared.edit.Edit.{Edit}
use Rattle.msag_edits.specs.Edits.{edit_act}

-- the guide after an edit
abbrev pub guide_after : StreetGuide → Edit → ℕ → StreetGuide
guide_after g edit code = if code == 0 then record g { ranges = (edit_act g edit).ranges; next = (edit_act g edit).next } else g

-- the table after an edit
abbrev pub rows_after : StreetGuide → NumberTable → Edit → ℕ → NumberTable
rows_after g table edit code = if code == 0 then changed (edit_act g edit).row table else table
