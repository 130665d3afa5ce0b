use Rattle.std.proofs.Common.{◌≡◌, ◌++◌, map, filter, flat_map}
use Rattle.audit_reports.specs.CsvLines.{IsAtLine, csv_line, written}
use Rattle.audit_reports.specs.Listings.{listed_rows, row_fields, is_listed, rows_of, unlocked_fields}
use Rattle.audit_reports.proofs.listings.write_rows.Given as goal

-- the lines of the rows that are left make the text whole
abbrev pub invariant-loop-row : goal.invariant-loop-row
invariant-loop-row l =
    record {
      ready : IsAtLine l.out;
      text : written l.out ++ flat_map csv_line (map row_fields (filter (is_listed l.listed) l.row-iterator)) ≡ written l.fn.out ++ flat_map csv_line (map row_fields (listed_rows l.listed l.office.state));
    }
