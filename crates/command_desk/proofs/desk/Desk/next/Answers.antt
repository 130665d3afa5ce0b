use Rattle.std.proofs.Common.{inl, inr, None, Ok, subst, sym, ◌∙◌}
use Rattle.command_desk.specs.DeskSteps.{BooksFrom, Leads}
use Rattle.command_desk.specs.MadeReply.{replies_of, table_of}
use Rattle.command_desk.specs.declared.refusal.Refusal.TheVariants as refusal
use Rattle.command_desk.specs.declared.reply.Reply.TheVariants as reply
use Rattle.command_desk.specs.declared.writing.Outcome.{Outcome}
use Rattle.command_desk.proofs.Batching.{next_booked, next_ends, next_left, next_stops, replied_is}
use Rattle.command_desk.proofs.EntriesBooked.{carries_undone, told_of_outcome}
use Rattle.command_desk.proofs.Underway.{held_up, next_switched}
use Rattle.command_desk.proofs.desk.Desk.next.Goals as goal
use Rattle.command_machine.specs.Courses.{written_or_passed}
use Rattle.office_commands.specs.Commands as commands

pub returns-in-Some-clause-carries : goal.returns-in-Some-clause-carries
returns-in-Some-clause-carries g c =
    let out = c.stopped.result in
    next_stops g.D.Disk.state c.args.self.now c.in-Some.refusal (sym c.held_refusal.ensures ∙ c.in-Some.is) out
    (replied_is out None (reply.Refused (refusal.Pair c.in-Some.refusal)) c.stopped.ensures.0 c.stopped.ensures.1)

pub returns-in_err-told-clause-carries : goal.returns-in_err-told-clause-carries
returns-in_err-told-clause-carries g c =
    let state = g.D.Disk.state in
    let old = c.args.self.now in
    let new = c.advance.new.self in
    let up = held_up old (sym c.held_refusal.ensures ∙ c.in_default.is) in
    carries_undone state old new commands.Next c.from_residual.result c.from_residual.ensures.0
    (λ e. next_left state old up.0 up.1 new c.in_err-told.field-0.0 e c.in_err-told.ensures.leads)

pub returns-clause-carries : goal.returns-clause-carries
returns-clause-carries g c =
    let state = g.D.Disk.state in
    let old = c.args.self.now in
    let new = c.advance.new.self in
    let up = held_up old (sym c.held_refusal.ensures ∙ c.in_default.is) in
    let told = c.in-Booked.told in
    elim c.in-Booked.is [
      | inl is ↦ next_booked state old up.0 up.1 new told (subst (λ (o : Outcome). Leads state old new (BooksFrom new written_or_passed (Ok o))) is c.in_ok-told.ensures.leads)
      | inr is ↦ next_ends state old up.0 up.1 new told (subst (λ (o : Outcome). Leads state old new (BooksFrom new written_or_passed (Ok o))) is c.in_ok-told.ensures.leads)
    ]

pub returns-clause-switches : goal.returns-clause-switches
returns-clause-switches g c =
    let state = g.D.Disk.state in
    let old = c.args.self.now in
    let new = c.advance.new.self in
    let over = told_of_outcome state old new c.in_ok-told.field-0 c.in-Booked.told c.in-Booked.is c.in_ok-told.ensures.switches in
    next_switched state old new (sym c.held_refusal.ensures ∙ c.in_default.is) (replies_of (table_of new) new.job c.in-Booked.told) over.0
