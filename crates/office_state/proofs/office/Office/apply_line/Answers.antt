use Rattle.std.proofs.Common.{ap, refl, sym, ◌∙◌, rules, ap}
use Rattle.sequence_once.specs.KeptCycles.{last_of}
use Rattle.office_state.specs.Due.{line_due}
use Rattle.office_state.specs.declared.verdict.Verdict.{Verdict}
use Rattle.office_state.proofs.Dues.{is_next_line}
use Rattle.office_state.proofs.Steps.{line_undone}
use Rattle.office_state.proofs.office.Office.apply_line.Goals as goal

pub returns-in-Err : goal.returns-in-Err
returns-in-Err c = record {
  why = ap (λ d. line_due d c.args.cycle c.args.line) (sym c.due_line.ensures) ∙ ap (λ n. line_due c.due_line.result n c.args.line) (sym c.number.ensures.same) ∙ sym c.in-Err.ensures;
  same = refl;
}

pub note_line-requires-clause-next : goal.note_line-requires-clause-next
note_line-requires-clause-next c =
    line_undone (last_of c.args.company c.args.self.now.state.cycles.kept) c.number.result c.args.line (sym c.due_line.ensures ∙ is_next_line c.due_line.result c.number.result c.args.line _ (sym c.in_default.ensures))

pub returns-in-Ok : goal.returns-in-Ok
returns-in-Ok c = record {
  entry = search rules;
  due = sym c.due_line.ensures ∙ is_next_line c.due_line.result c.args.cycle c.args.line _ (ap (λ n. line_due c.due_line.result n c.args.line) (sym c.number.ensures.same) ∙ sym c.in_default.ensures);
  told = ap (λ code. let v : Verdict = record { code = code; detail = 0 } in v) c.in-Ok.ensures.code;
  office = c.in-Ok.ensures.booked c.args.cycle c.args.line;
}

pub returns-in-Err-note_line : goal.returns-in-Err-note_line
returns-in-Err-note_line c = record { why = tt; same = c.in-Err-note_line.ensures.err }
