use Rattle.std.proofs.Common.{flat_map, filter_map, ap, ◌∙◌}
use Rattle.audit_reports.specs.CsvLines.{csv_line}
use Rattle.audit_reports.specs.Listings.{unlocked_fields}
use Rattle.audit_reports.proofs.Lines.{line_more, unlocked_more}
use Rattle.audit_reports.proofs.listings.write_unlocked_rows.Goals as goal

pub loop-row-preserved-in-Continue-1 : goal.loop-row-preserved-in-Continue-1
loop-row-preserved-in-Continue-1 c =
    let row = c.in-Some.row.now in
    let wrote = c.in_ok-write_unlocked_row.ensures in
    let left = ap (λ rows. flat_map csv_line (filter_map (unlocked_fields c.args.day) rows)) c.in-Some.ensures.steps ∙ unlocked_more c.args.day row c.in-Some-unlocked.from c.next.new.self c.in-Some-unlocked.is in
    record { ready = wrote.ready; text = line_more _ _ _ _ _ _ wrote.text left c.loop-row.invariant.text }
