use Rattle.std.proofs.Common.{◌+◌, ◌<◌, ap, sym, ◌∙◌, subst, arith}
use Rattle.msag_edits.specs.declared.edit_verdict.EditVerdict.{EditVerdict}
use Rattle.office_entry.specs.declared.entry.Entry.TheVariants.{Edit}
use Rattle.sequence_once.specs.SerialStanding.{after_serial}
use Rattle.office_state.specs.declared.counts.Counts.{Counts}
use Rattle.office_state.specs.declared.counts.TheConstants.{CODES}
use Rattle.office_state.specs.Counted.{AreSoundCounts}
use Rattle.office_state.specs.OfficeState.{OfficeState}
use Rattle.office_state.specs.Booked.{with_entry}
use Rattle.office_state.proofs.Counting.{sound_counted}
use Rattle.office_state.proofs.SmallCodes.{edit_small}
use Rattle.office_state.proofs.EditSteps.{edit_booked}
use Rattle.office_state.proofs.SoundOffices.{sound_edited, sound_full}
use Rattle.office_state.proofs.office.Office.note_edit.Goals as goal

pub count_edit-requires-clause-code : goal.count_edit-requires-clause-code
count_edit-requires-clause-code c =
    let o = c.self.inside in
    subst (λ (v : EditVerdict). v.code < CODES) (sym c.in_ok-done.ensures.applied.verdict) (edit_small o.guide o.rows c.args.edit.now)

pub count_edit-requires-clause-edits : goal.count_edit-requires-clause-edits
count_edit-requires-clause-edits c = omega (arith, c.self.invariant.counts.kinds, c.requires.count, ap (λ (o : OfficeState). o.entries) c.self.view_is)

pub count_edit-requires-clause-times : goal.count_edit-requires-clause-times
count_edit-requires-clause-times c = omega (arith, c.self.invariant.counts.codes c.in_ok-done.done.code, c.requires.count, ap (λ (o : OfficeState). o.entries) c.self.view_is)

pub invariant_of-self-2 : goal.invariant_of-self-2
invariant_of-self-2 c =
    let o = c.self.inside in
    let done = c.in_ok-done.ensures in
    let small : c.in_ok-done.done.code < CODES = subst (λ (v : EditVerdict). v.code < CODES) (sym done.applied.verdict) (edit_small o.guide o.rows c.args.edit.now) in
    sound_edited o.guide c.apply_edit.new.guide o.rows c.apply_edit.new.rows c.args.edit.now c.in_ok-done.done _ o.entries _ _ c.count_edit.new.self
    done.applied (done.sound (sound_full o.guide o.rows c.self.invariant.sound)) c.self.invariant.ids
    (subst (λ (n : Counts). AreSoundCounts n (o.entries + 1)) (sym c.count_edit.ensures)
    (sound_counted o.counts (Edit c.args.editor c.args.serial c.args.edit.now) c.in_ok-done.done.code o.entries small c.self.invariant.counts))

pub returns-clause-booked : goal.returns-clause-booked
returns-clause-booked c =
    let o = c.self.inside in
    let done = c.in_ok-done.ensures in
    let v = c.in_ok-done.done in
    let digest = c.args.digest.now in
    let noted = c.note.ensures.noted ∙ ap (λ e. after_serial o.edits e c.number-2.result digest v.code v.detail) c.number.ensures.same ∙ ap (λ n. after_serial o.edits c.args.editor n digest v.code v.detail) c.number-2.ensures.same in
    edit_booked o.guide c.apply_edit.new.guide o.rows c.apply_edit.new.rows o.most_numbers o.entries o.cycles o.edits c.note.new.self c.args.editor c.args.serial c.args.edit.now digest v o.counts c.count_edit.new.self
    done.applied c.requires.digest noted c.count_edit.ensures
    ∙ ap (λ (o : OfficeState). with_entry o (Edit c.args.editor c.args.serial c.args.edit.now)) c.self.view_is
