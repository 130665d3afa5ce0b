use Rattle.std.proofs.Common.{ℕ, ◌+◌, ◌<◌, ap, sym, ◌∙◌, subst, arith}
use Rattle.number_table.specs.NumberTable.{NumberTable}
use Rattle.sequence_once.specs.KeptCycles.{after_note, is_last_finished, last_of}
use Rattle.office_entry.specs.declared.entry.Entry.TheVariants.{Line}
use Rattle.office_state.specs.declared.counts.Counts.{Counts}
use Rattle.office_state.specs.declared.counts.TheConstants.{CODES}
use Rattle.office_state.specs.Counted.{counted, AreSoundCounts}
use Rattle.office_state.specs.OfficeState.{OfficeState, office_of}
use Rattle.office_state.specs.Booked.{with_entry}
use Rattle.office_state.specs.Soundness.{IsSoundOffice}
use Rattle.office_state.specs.Verdict.{after, code_in}
use Rattle.office_state.proofs.Counting.{sound_counted}
use Rattle.office_state.proofs.SmallCodes.{line_small}
use Rattle.office_state.proofs.SoundOffices.{sound_full, sound_lined}
use Rattle.office_state.proofs.office.Office.note_line.Goals as goal

pub invariant_of-self : goal.invariant_of-self
invariant_of-self c =
    let o = c.self.inside in
    subst (λ (t : NumberTable). IsSoundOffice (office_of t o.most_numbers o.guide o.cycles o.edits o.entries o.counts)) (sym c.in_err-code.ensures.err) c.self.invariant

pub note-requires : goal.note-requires
note-requires c = ap (λ (o : OfficeState). is_last_finished (last_of c.args.company o.state.cycles.kept)) c.self.view_is ∙ c.requires.next

pub count_line-requires-clause-code : goal.count_line-requires-clause-code
count_line-requires-clause-code c =
    let o = c.self.inside in
    subst (λ (code : ℕ). code < CODES) (sym c.in_ok-code.ensures.code) (line_small o.guide.ranges o.rows o.most_numbers c.args.company c.args.bytes.now)

pub count_line-requires-clause-lines : goal.count_line-requires-clause-lines
count_line-requires-clause-lines c = omega (arith, c.self.invariant.counts.kinds, c.requires.count, ap (λ (o : OfficeState). o.entries) c.self.view_is)

pub count_line-requires-clause-times : goal.count_line-requires-clause-times
count_line-requires-clause-times c = omega (arith, c.self.invariant.counts.codes c.in_ok-code.code, c.requires.count, ap (λ (o : OfficeState). o.entries) c.self.view_is)

pub invariant_of-self-2 : goal.invariant_of-self-2
invariant_of-self-2 c =
    let o = c.self.inside in
    let line = Line c.args.company 1 1 c.args.bytes.now in
    let small : c.in_ok-code.code < CODES = subst (λ (code : ℕ). code < CODES) (sym c.in_ok-code.ensures.code) (line_small o.guide.ranges o.rows o.most_numbers c.args.company c.args.bytes.now) in
    let counting = subst (λ (n : Counts). AreSoundCounts n (o.entries + 1)) (sym c.count_line.ensures) (sound_counted o.counts line c.in_ok-code.code o.entries small c.self.invariant.counts) in
    sound_lined o.guide o.rows c.apply_line.new.rows o.most_numbers o.entries c.note.new.self o.edits o.cycles o.counts c.count_line.new.self (c.in_ok-code.ensures.sound (sound_full o.guide o.rows c.self.invariant.sound)) counting c.self.invariant

pub returns-clause-code : goal.returns-clause-code
returns-clause-code c = c.in_ok-code.ensures.code ∙ ap (λ (o : OfficeState). code_in o.state c.args.company c.args.bytes.now) c.self.view_is

pub returns-clause-booked : goal.returns-clause-booked
unfolding after
returns-clause-booked c = λ cycle line.
    let o = c.self.inside in
    let noted = c.note.ensures.noted ∙ ap (λ (code : ℕ). after_note o.cycles c.args.company code) c.in_ok-code.ensures.code in
    let counting = c.count_line.ensures ∙ ap (λ (code : ℕ). counted o.counts (Line c.args.company cycle line c.args.bytes.now) code) c.in_ok-code.ensures.code in
    (λ i. office_of (c.in_ok-code.ensures.rows i) o.most_numbers o.guide (noted i) o.edits (o.entries + 1) (counting i))
    ∙ ap (λ (o : OfficeState). with_entry o (Line c.args.company cycle line c.args.bytes.now)) c.self.view_is
