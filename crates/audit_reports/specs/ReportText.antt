-- The text of a report after a booked history.
use Rattle.std.specs.Prelude.{ℕ, List}
use Rattle.office_entry.specs.declared.entry.Entry.{Entry}
use Rattle.office_state.specs.declared.limits.Limits.{Limits}
use Rattle.office_state.specs.States.{state}
use Rattle.audit_reports.specs.CodeLines.{code_listing}
use Rattle.audit_reports.specs.Listings.{listing, listed_rows, rows_in_range, unlocked_listing}
use Rattle.audit_reports.specs.Statistics.{statistics_text}
use Rattle.audit_reports.specs.declared.listed.Listed.TheVariants as listed
use Rattle.audit_reports.specs.declared.report.Report.{Report}
use Rattle.audit_reports.specs.declared.report.Report.TheVariants.{Stats, Company, Esn, Unlocked, InRange, Code}

abbrev pub report_text : Limits → List Entry → Report → List ℕ
report_text limits history Stats = statistics_text limits history
report_text limits history (Company company) = listing (listed_rows (listed.Company company) (state limits history))
report_text limits history (Esn esn) = listing (listed_rows (listed.Esn esn) (state limits history))
report_text limits history (Unlocked day) = unlocked_listing day (state limits history)
report_text limits history (InRange id) = listing (rows_in_range id (state limits history))
report_text limits history (Code code) = code_listing code (state limits history)
