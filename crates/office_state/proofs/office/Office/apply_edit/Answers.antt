use Rattle.std.proofs.Common.{ap, refl, sym, ◌∙◌, rules}
use Rattle.sequence_once.specs.SerialStanding.{last_edit, serial_standing}
use Rattle.office_state.specs.Due.{edit_due}
use Rattle.office_state.proofs.Dues.{edits_new, is_next_serial}
use Rattle.office_state.proofs.office.Office.apply_edit.Goals as goal

pub returns-in-Err : goal.returns-in-Err
returns-in-Err c = record {
  why = ap (λ d. edit_due (serial_standing (last_edit c.args.editor c.args.self.now.state.edits) c.args.serial d)) (sym c.digest-digest.ensures.digest) ∙ ap edit_due (sym c.edit_standing.ensures.table) ∙ sym c.in-Err.ensures;
  same = refl;
}

pub note_edit-requires-clause-digest : goal.note_edit-requires-clause-digest
note_edit-requires-clause-digest c = c.digest-digest.ensures.digest

pub note_edit-requires-clause-new : goal.note_edit-requires-clause-new
note_edit-requires-clause-new c = sym c.edit_standing.ensures.table ∙ edits_new c.edit_standing.result _ (sym c.in_default.ensures)

pub returns-in-Ok : goal.returns-in-Ok
returns-in-Ok c = record {
  entry = search rules;
  due = is_next_serial (last_edit c.args.editor c.args.self.now.state.edits) c.args.serial c.digest-digest.result (sym c.edit_standing.ensures.table ∙ edits_new c.edit_standing.result _ (sym c.in_default.ensures));
  told = c.in-Ok.ensures.verdict;
  office = c.in-Ok.ensures.booked;
}

pub returns-in-Err-note_edit : goal.returns-in-Err-note_edit
returns-in-Err-note_edit c = record { why = tt; same = c.in-Err-note_edit.ensures.err }
