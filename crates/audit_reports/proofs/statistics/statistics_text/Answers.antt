use Rattle.std.proofs.Common.{◌∙◌}
use Rattle.audit_reports.proofs.Lines.{if_ok, three_written}
use Rattle.audit_reports.proofs.TallyLines.{tally_text}
use Rattle.audit_reports.proofs.statistics.statistics_text.Goals as goal

pub returns : goal.returns
returns c =
    let whole = three_written _ _ _ _ _ _ _ c.new_writer-out.ensures.empty c.in_ok-write_line.ensures.text c.in_ok-write_numbers.ensures.text c.in_ok-write_all_codes.ensures.text in
    if_ok c.finish.result (λ text is limits history represents. is ∙ whole ∙ tally_text limits history c.tally-tally.result (c.tally-tally.ensures.history limits history represents)) c.finish.ensures
