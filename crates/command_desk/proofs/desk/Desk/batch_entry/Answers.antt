use Rattle.std.proofs.Common.{Option, None, Ok, subst}
use Rattle.command_desk.specs.DeskSteps.{BooksFrom, BooksSwitches, FoundSwitches, IsFound, Leads, part_told}
use Rattle.command_desk.specs.declared.reply.Reply.{Reply}
use Rattle.command_desk.specs.declared.writing.Outcome.{Outcome}
use Rattle.command_desk.proofs.Batching.{entry_booked, entry_ends, entry_left, found_ends, found_left, replied_is}
use Rattle.command_desk.proofs.EntriesBooked.{batch_undone, on_since, over_since}
use Rattle.command_desk.proofs.Underway.{quiet_goes_on}
use Rattle.command_desk.proofs.desk.Desk.batch_entry.Goals as goal
use Rattle.command_machine.specs.Courses.{written_or_passed}

pub returns-in_err-reply-clause-leads : goal.returns-in_err-reply-clause-leads
returns-in_err-reply-clause-leads g c =
    let e = c.in_err-reply.field-0.0 in
    batch_undone g.D.Disk.state c.args.self.now c.finished.new.self c.from_residual.result c.from_residual.ensures.0
    (found_left g.D.Disk.state c.args.self.now c.finished.new.self e e c.in_err-reply.ensures.leads)

pub returns-in-Some-clause-leads : goal.returns-in-Some-clause-leads
returns-in-Some-clause-leads g c =
    let state = g.D.Disk.state in
    let old = c.args.self.now in
    let new = c.finished.new.self in
    let found = subst (λ (o : Option Reply). Leads state old new (IsFound (part_told new (Ok o)))) c.in-Some.is c.in_ok-reply.ensures.leads in
    found_ends state old new c.in-Some.reply found c.only.result (replied_is c.only.result None c.in-Some.reply c.only.ensures.0 c.only.ensures.1)

pub returns-in_err-told-clause-leads : goal.returns-in_err-told-clause-leads
returns-in_err-told-clause-leads g c =
    let state = g.D.Disk.state in
    let old = c.args.self.now in
    let mid = c.finished.new.self in
    let new = c.advance.new.self in
    let found = subst (λ (o : Option Reply). Leads state old mid (IsFound (part_told mid (Ok o)))) c.in_default.is c.in_ok-reply.ensures.leads in
    let e = c.in_err-told.field-0.0 in
    batch_undone state old new c.from_residual-in_err-told.result c.from_residual-in_err-told.ensures.0
    (entry_left state old mid new found e e c.in_err-told.ensures.leads)

pub returns-in-Booked-clause-leads : goal.returns-in-Booked-clause-leads
returns-in-Booked-clause-leads g c =
    let state = g.D.Disk.state in
    let old = c.args.self.now in
    let mid = c.finished.new.self in
    let new = c.advance.new.self in
    let found = subst (λ (o : Option Reply). Leads state old mid (IsFound (part_told mid (Ok o)))) c.in_default.is c.in_ok-reply.ensures.leads in
    entry_booked state old mid new found c.in-Booked.told
    (subst (λ (o : Outcome). Leads state mid new (BooksFrom new written_or_passed (Ok o))) c.in-Booked.is c.in_ok-told.ensures.leads)

pub returns-in-Booked-clause-switches : goal.returns-in-Booked-clause-switches
returns-in-Booked-clause-switches g c =
    let state = g.D.Disk.state in
    let old = c.args.self.now in
    let mid = c.finished.new.self in
    let new = c.advance.new.self in
    let quiet = subst (λ (o : Option Reply). FoundSwitches state old mid (Ok o)) c.in_default.is c.in_ok-reply.ensures.switches in
    on_since state old mid new (quiet_goes_on state old mid quiet.0 quiet.2) c.in_ok-reply.ensures.keeps c.in_ok-told.ensures.keeps c.in-Booked.told
    (subst (λ (o : Outcome). BooksSwitches state mid new (Ok o)) c.in-Booked.is c.in_ok-told.ensures.switches)

pub returns-in-Ended-clause-leads : goal.returns-in-Ended-clause-leads
returns-in-Ended-clause-leads g c =
    let state = g.D.Disk.state in
    let old = c.args.self.now in
    let mid = c.finished.new.self in
    let new = c.advance.new.self in
    let found = subst (λ (o : Option Reply). Leads state old mid (IsFound (part_told mid (Ok o)))) c.in_default.is c.in_ok-reply.ensures.leads in
    entry_ends state old mid new found c.in-Ended.told
    (subst (λ (o : Outcome). Leads state mid new (BooksFrom new written_or_passed (Ok o))) c.in-Ended.is c.in_ok-told.ensures.leads)

pub returns-in-Ended-clause-switches : goal.returns-in-Ended-clause-switches
returns-in-Ended-clause-switches g c =
    let state = g.D.Disk.state in
    let old = c.args.self.now in
    let mid = c.finished.new.self in
    let new = c.advance.new.self in
    let quiet = subst (λ (o : Option Reply). FoundSwitches state old mid (Ok o)) c.in_default.is c.in_ok-reply.ensures.switches in
    over_since state old mid new (quiet_goes_on state old mid quiet.0 quiet.2) c.in_ok-reply.ensures.keeps c.in_ok-told.ensures.keeps c.in-Ended.told
    (subst (λ (o : Outcome). BooksSwitches state mid new (Ok o)) c.in-Ended.is c.in_ok-told.ensures.switches)
