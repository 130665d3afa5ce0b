use Rattle.std.proofs.Common.{◌≡◌, ap, sym, ◌∙◌}
use Rattle.audit_reports.proofs.Words.{report_of-words, words-report_of}
use Rattle.audit_reports.proofs.report.Report.read_text.Goals as goal

pub returns : goal.returns
returns c = record {
  words = λ report. (
    λ read. words-report_of c.args.bytes.now report (sym c.report_of.ensures ∙ read),
    λ is. c.report_of.ensures ∙ report_of-words c.args.bytes.now report is.0 is.1,
  );
  reading = c.report_of.ensures;
}
