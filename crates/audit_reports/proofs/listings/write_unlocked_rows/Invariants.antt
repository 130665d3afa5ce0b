use Rattle.std.proofs.Common.{◌≡◌, ◌++◌, flat_map, filter_map}
use Rattle.audit_reports.specs.CsvLines.{IsAtLine, csv_line, written}
use Rattle.audit_reports.specs.Listings.{listed_rows, row_fields, is_listed, rows_of, unlocked_fields}
use Rattle.audit_reports.proofs.listings.write_unlocked_rows.Given as goal

-- the lines of the rows that are left make the text whole
abbrev pub invariant-loop-row : goal.invariant-loop-row
invariant-loop-row l =
    record {
      ready : IsAtLine l.out;
      text : written l.out ++ flat_map csv_line (filter_map (unlocked_fields l.day) l.row-iterator) ≡ written l.fn.out ++ flat_map csv_line (filter_map (unlocked_fields l.day) (rows_of l.office.state));
    }
