use Rattle.std.proofs.Common.{◌≡◌, ◌++◌, flat_map, ap, sym, ◌∙◌}
use Rattle.std.proofs.lemmas.List.{append-nil}
use Rattle.sequence_once.specs.CycleReaders.{record_of}
use Rattle.audit_reports.specs.CodeLines.{cycle_rows}
use Rattle.audit_reports.specs.CsvLines.{csv_line, written}
use Rattle.audit_reports.proofs.Lines.{line_more, cycle_more, none_left}
use Rattle.audit_reports.proofs.code_listing.write_cycles.Goals as goal

pub returns-in-None-clause-lines : goal.returns-in-None-clause-lines
returns-in-None-clause-lines c few =
    let kept = c.args.office.now.state.cycles.kept in
    let none = none_left kept c.loop-i.i (sym c.in-None.ensures.same) in
    record {
      ready = c.loop-i.invariant.ready;
      text = sym (append-nil _) ∙ ap (λ ks. written c.loop-i.out ++ flat_map csv_line (flat_map (cycle_rows c.args.code) ks)) (sym none) ∙ c.loop-i.invariant.text;
    }

pub loop-i-preserved : goal.loop-i-preserved
loop-i-preserved c =
    let kept = c.args.office.now.state.cycles.kept in
    let wrote = c.in_ok-write_cycle-in-Some.ensures in
    let left = cycle_more c.args.code kept c.loop-i.i (record_of c.in-Some.kept) (sym c.in-Some.ensures.same) in
    record { ready = wrote.ready; text = line_more _ _ _ _ _ _ wrote.text left c.loop-i.invariant.text }
