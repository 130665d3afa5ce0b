use Rattle.std.proofs.Common.{◌≡◌, ◌++◌, flat_map}
use Rattle.sequence_once.specs.CycleReaders.{record_of}
use Rattle.audit_reports.specs.CodeLines.{cycle_rows}
use Rattle.audit_reports.specs.CsvLines.{IsAtLine, csv_line, written}
use Rattle.audit_reports.proofs.Lines.{lines_behind}
use Rattle.audit_reports.proofs.code_listing.write_cycle.Given as goal

-- the lines that are left make the text whole
abbrev pub invariant-loop-i : goal.invariant-loop-i
invariant-loop-i l =
    record {
      ready : IsAtLine l.out;
      text : written l.out ++ lines_behind l.code (record_of l.kept) l.i ≡ written l.fn.out ++ flat_map csv_line (cycle_rows l.code (record_of l.kept));
    }
