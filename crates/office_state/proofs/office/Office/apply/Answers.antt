use Rattle.std.proofs.Common.{sym, subst}
use Rattle.office_entry.specs.declared.entry.Entry.{Entry}
use Rattle.office_state.specs.Booked.{IsAnswer}
use Rattle.office_state.proofs.Answers.{says}
use Rattle.office_state.proofs.office.Office.apply.Goals as goal

pub returns-in-Open : goal.returns-in-Open
returns-in-Open c =
    let old = c.args.self.now in
    let new = c.apply_opening.new.self in
    let answer = subst (λ (e : Entry). IsAnswer old new e c.apply_opening.result) (sym c.in-Open.is) (c.apply_opening.ensures c.in-Open.day) in
    let s = says old new c.args.e.now c.apply_opening.result answer in
    record { due = s.due; verdict = s.told; state = s.state; entries = s.entries; history = s.history; refused = s.refused; err = s.err }

pub returns-in-Line : goal.returns-in-Line
returns-in-Line c =
    let old = c.args.self.now in
    let new = c.apply_line.new.self in
    let answer = subst (λ (e : Entry). IsAnswer old new e c.apply_line.result) (sym c.in-Line.is) c.apply_line.ensures in
    let s = says old new c.args.e.now c.apply_line.result answer in
    record { due = s.due; verdict = s.told; state = s.state; entries = s.entries; history = s.history; refused = s.refused; err = s.err }

pub returns-in-Edit : goal.returns-in-Edit
returns-in-Edit c =
    let old = c.args.self.now in
    let new = c.apply_edit.new.self in
    let answer = subst (λ (e : Entry). IsAnswer old new e c.apply_edit.result) (sym c.in-Edit.is) c.apply_edit.ensures in
    let s = says old new c.args.e.now c.apply_edit.result answer in
    record { due = s.due; verdict = s.told; state = s.state; entries = s.entries; history = s.history; refused = s.refused; err = s.err }
