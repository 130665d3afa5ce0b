-- What an entry gets, and what it leaves.
use Rattle.std.specs.Prelude.{ℕ, List}
use Rattle.line_booking.specs.LineVerdict.{line_code, table_with_line}
use Rattle.sequence_once.specs.KeptCycles.{after_open, after_note}
use Rattle.sequence_once.specs.SerialStanding.{after_serial}
use Rattle.msag_edits.specs.Edits.{edit_verdict}
use Rattle.msag_edits.specs.EditedTables.{guide_after, rows_after}
use Rattle.office_entry.specs.EditBytes.{edit_digest}
use Rattle.office_entry.specs.declared.entry.Entry.{Entry}
use Rattle.office_entry.specs.declared.entry.Entry.TheVariants.{Open, Line, Edit}
use Rattle.office_state.specs.declared.verdict.Verdict.{Verdict}
use Rattle.office_state.specs.OfficeState.{State}

-- the code of a line of a company's file
abbrev pub code_in : State → List ℕ → List ℕ → ℕ
code_in s company bytes = line_code s.guide.ranges s.table s.most_numbers company bytes

-- the code and the detail of an entry; an opening gets 0
abbrev pub verdict : State → Entry → Verdict
verdict s (Open company cycle count day digest) = record { code = 0; detail = 0 }
verdict s (Line company cycle line bytes) = record { code = code_in s company bytes; detail = 0 }
verdict s (Edit editor serial edit) = let v = edit_verdict s.guide s.table edit in record { code = v.code; detail = v.detail }

-- the state after an entry: an opening adds a cycle, a line notes its code under the last one, and an edit is noted as its editor's last
unfoldable pub after : State → Entry → State
after s (Open company cycle count day digest) = record s { cycles = after_open s.cycles company cycle count digest }
after s (Line company cycle line bytes) =
    record s {
      table = table_with_line s.guide.ranges s.table s.most_numbers company bytes;
      cycles = after_note s.cycles company (code_in s company bytes);
    }
after s (Edit editor serial edit) =
    let v = edit_verdict s.guide s.table edit in
    record s {
      table = rows_after s.guide s.table edit v.code;
      guide = guide_after s.guide edit v.code;
      edits = after_serial s.edits editor serial (edit_digest edit) v.code v.detail;
    }
