use Rattle.std.proofs.Common.{◌≡◌, ◌++◌, drop, flat_map}
use Rattle.audit_reports.specs.CodeLines.{cycle_rows}
use Rattle.audit_reports.specs.CsvLines.{IsAtLine, csv_line, written}
use Rattle.audit_reports.proofs.code_listing.write_cycles.Given as goal

-- the lines of the cycles that are left make the text whole
abbrev pub invariant-loop-i : goal.invariant-loop-i
invariant-loop-i l =
    let kept = l.office.state.cycles.kept in
    record {
      ready : IsAtLine l.out;
      text : written l.out ++ flat_map csv_line (flat_map (cycle_rows l.code) (drop l.i kept)) ≡ written l.fn.out ++ flat_map csv_line (flat_map (cycle_rows l.code) kept);
    }
