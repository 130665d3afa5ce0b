use Rattle.std.proofs.Common.{◌≡◌, ◌==◌, true, false, ◌++◌, get_or, ap, sym, ◌∙◌, arith}
use Rattle.std.proofs.lemmas.Bool.Decides.{nat_tests}
use Rattle.sequence_once.specs.CycleReaders.{record_of}
use Rattle.audit_reports.specs.CsvLines.{written}
use Rattle.audit_reports.proofs.Lines.{line_more, code_more, code_skipped}
use Rattle.audit_reports.proofs.code_listing.write_cycle.Goals as goal
use Rattle.audit_reports.proofs.code_listing.write_cycle.Goals.{then-kept-i+in_ok-write_code, else-kept-i}

pub loop-i-preserved : goal.loop-i-preserved
loop-i-preserved c =
    let k = record_of c.args.kept.now in
    let i = c.loop-i.i in
    elim c.if-kept-i.branch [
      | then-kept-i+in_ok-write_code w ↦ (
          let wrote = w.in_ok-write_code.ensures in
          let got : (get_or k.codes i 0 == c.args.code) ≡ true = grind (arith, nat_tests, w.if-kept-i.true) in
          let left = code_more c.args.code k i c.loop-i-test.true got in
          rw w.out-is (record { ready = wrote.ready; text = line_more _ _ _ _ _ _ wrote.text left c.loop-i.invariant.text }))
      | else-kept-i w ↦ (
          let other : (get_or k.codes i 0 == c.args.code) ≡ false = grind (arith, nat_tests, w.if-kept-i.false) in
          let left = code_skipped c.args.code k i c.loop-i-test.true other in
          rw w.out-is (record { ready = c.loop-i.invariant.ready; text = ap (λ z. written c.loop-i.out ++ z) (sym left) ∙ c.loop-i.invariant.text }))
    ]
