use Rattle.std.proofs.Common.{Ok, subst, sym, ◌∙◌}
use Rattle.command_desk.specs.DeskSteps.{BookAdvances, BooksFrom, BooksSwitches, EventDone, GoesOn, IsPassedOn, Leads, TurnSwitches, told_in}
use Rattle.command_desk.specs.MadeReply.{only}
use Rattle.command_desk.specs.OpenedDesk.{Switched}
use Rattle.command_desk.specs.declared.reply.Reply.{Reply}
use Rattle.command_desk.specs.declared.writing.Outcome.TheVariants as outcome
use Rattle.command_desk.specs.declared.writing.Turn.{Turn}
use Rattle.command_desk.proofs.Batching.{booked_after, left_after, unbooked_after}
use Rattle.command_desk.proofs.EntriesBooked.{booked_then, books_undone, over_then}
use Rattle.command_desk.proofs.Readying.{keeps_twice}
use Rattle.command_desk.proofs.desk.Desk.pass_and_book.Goals as goal
use Rattle.command_machine.specs.Courses.{First, passed_or_booked}
use Rattle.office_commands.specs.Commands as commands
use Rattle.office_commands.specs.declared.order.Order.TheVariants as order

pub returns-in_err-left-clause-leads : goal.returns-in_err-left-clause-leads
returns-in_err-left-clause-leads g c =
    books_undone g.D.Disk.state c.args.self.now c.pass.new.self passed_or_booked c.from_residual.result c.from_residual.ensures.0 c.in_err-left.ensures.leads

pub returns-in_err-last-clause-leads : goal.returns-in_err-last-clause-leads
returns-in_err-last-clause-leads g c =
    let state = g.D.Disk.state in
    let old = c.args.self.now in
    let mid = c.pass.new.self in
    let passed = subst (λ (t : Turn). Leads state old mid (IsPassedOn mid (Ok t))) c.in-On.is c.in_ok-left.ensures.leads in
    let e = c.in_err-last.field-0.0 in
    books_undone state old c.book.new.self passed_or_booked c.from_residual-in_err-last.result c.from_residual-in_err-last.ensures.0
    (left_after state old mid c.book.new.self c.in-On.left passed e e c.in_err-last.ensures.leads)

pub returns-in-Booked-clause-leads : goal.returns-in-Booked-clause-leads
returns-in-Booked-clause-leads g c =
    let state = g.D.Disk.state in
    let old = c.args.self.now in
    let mid = c.pass.new.self in
    let new = c.book.new.self in
    let left = c.in-On.left in
    let passed = subst (λ (t : Turn). Leads state old mid (IsPassedOn mid (Ok t))) c.in-On.is c.in_ok-left.ensures.leads in
    let booked = subst (λ (r : Reply). Leads state mid new (EventDone (First (commands.Ordered order.Book)) (told_in new (Ok r)))) c.in-Booked.is c.in_ok-last.ensures.leads in
    subst (λ (r : Reply). Leads state old new (BooksFrom new passed_or_booked (Ok (outcome.Booked (record { left = left; last = r }))))) (sym c.in-Booked.is)
    (booked_after state old mid new left passed c.in-Booked.number c.in-Booked.code c.in-Booked.detail booked)

pub returns-in-Booked-clause-switches : goal.returns-in-Booked-clause-switches
returns-in-Booked-clause-switches g c =
    let state = g.D.Disk.state in
    let old = c.args.self.now in
    let mid = c.pass.new.self in
    let new = c.book.new.self in
    let left = c.in-On.left in
    let goes : GoesOn state old mid left = subst (λ (t : Turn). TurnSwitches state old mid (Ok t)) c.in-On.is c.in_ok-left.ensures.switches in
    let is = subst (λ (r : Reply). Switched state mid new (commands.Ordered order.Book) (only (Ok r))) c.in-Booked.is c.in_ok-last.ensures.switches in
    let advances = subst (λ (r : Reply). BookAdvances mid new (Ok r)) c.in-Booked.is c.in_ok-last.ensures.advances in
    subst (λ (r : Reply). BooksSwitches state old new (Ok (outcome.Booked (record { left = left; last = r })))) (sym c.in-Booked.is)
    (booked_then state old mid new left goes c.in_ok-left.ensures.keeps c.in_ok-last.ensures.keeps c.in-Booked.number c.in-Booked.code c.in-Booked.detail is advances)

pub returns-in_default : goal.returns-in_default
returns-in_default g c =
    let state = g.D.Disk.state in
    let old = c.args.self.now in
    let mid = c.pass.new.self in
    let new = c.book.new.self in
    let left = c.in-On.left in
    let passed = subst (λ (t : Turn). Leads state old mid (IsPassedOn mid (Ok t))) c.in-On.is c.in_ok-left.ensures.leads in
    let goes : GoesOn state old mid left = subst (λ (t : Turn). TurnSwitches state old mid (Ok t)) c.in-On.is c.in_ok-left.ensures.switches in
    record {
      leads = unbooked_after state old mid new left passed c.in_ok-last.last c.in_default.not-Booked c.in_ok-last.ensures.leads;
      switches = over_then state old mid new left goes c.in_ok-left.ensures.keeps c.in_ok-last.ensures.keeps c.in_ok-last.last c.in_ok-last.ensures.switches;
      can_tell = c.in_ok-last.ensures.can_tell;
      keeps = keeps_twice state old mid new c.in_ok-left.ensures.keeps c.in_ok-last.ensures.keeps;
      job = c.in_ok-last.ensures.job ∙ c.in_ok-left.ensures.job;
    }
