use Rattle.std.proofs.Common.{◌≤◌, ap, sym, ◌∙◌, arith, length}
use Rattle.audit_reports.specs.CodeLines.{code_listing}
use Rattle.audit_reports.specs.ReportText.{report_text}
use Rattle.audit_reports.proofs.Lines.{if_ok}
use Rattle.audit_reports.proofs.KeptCounts.{kept_length}
use Rattle.audit_reports.proofs.writing.report_text.Goals as goal

pub returns-in-Code : goal.returns-in-Code
returns-in-Code c = if_ok c.code_listing.result (λ text h limits history is.
    let few : length c.args.office.now.state.cycles.kept ≤ c.args.office.now.entries = omega (arith, kept_length limits history, is.entries, ap (λ s. length s.cycles.kept) is.same) in
    h few ∙ ap (code_listing c.in-Code.code) is.same ∙ ap (report_text limits history) (sym c.in-Code.is)) c.code_listing.ensures
