use Rattle.std.proofs.Common.{◌≡◌, ◌++◌, true, false, nat_lt, ap, sym, ◌∙◌, arith}
use Rattle.std.proofs.lemmas.Bool.Decides.{nat_tests}
use Rattle.office_state.specs.Tallies.{count_in}
use Rattle.audit_reports.specs.CsvLines.{csv_line, written}
use Rattle.audit_reports.specs.Statistics.{code_name, statistic}
use Rattle.audit_reports.proofs.Lines.{line_more}
use Rattle.audit_reports.proofs.TallyLines.{code_came, code_missing}
use Rattle.audit_reports.proofs.statistics.write_codes.Goals as goal
use Rattle.audit_reports.proofs.statistics.write_codes.Goals.{then-times-gt0+in_ok-write_code, else-times-gt0}

pub loop-code-preserved : goal.loop-code-preserved
loop-code-preserved c =
    let times = count_in c.args.tally.now in
    let code = c.loop-code.code in
    elim c.if-times-gt0.branch [
      | then-times-gt0+in_ok-write_code w ↦ (
          let wrote = w.in_ok-write_code.ensures in
          let came : nat_lt 0 (times code) ≡ true = grind (arith, nat_tests, c.count_of-times.ensures, w.if-times-gt0.true) in
          let text = wrote.text ∙ ap (λ n. written c.loop-code.out ++ csv_line (statistic (code_name code) n)) c.count_of-times.ensures in
          let left = code_came times code c.args.limit c.loop-code-test.true came in
          rw w.out-is (record { ready = wrote.ready; text = line_more _ _ _ _ _ _ text left c.loop-code.invariant.text }))
      | else-times-gt0 w ↦ (
          let missing : nat_lt 0 (times code) ≡ false = grind (arith, nat_tests, c.count_of-times.ensures, w.if-times-gt0.false) in
          let left = code_missing times code c.args.limit c.loop-code-test.true missing in
          rw w.out-is (record { ready = c.loop-code.invariant.ready; text = ap (λ z. written c.loop-code.out ++ z) (sym left) ∙ c.loop-code.invariant.text }))
    ]
