use Rattle.std.proofs.Common.{◌≡◌, ◌<◌, ◌≤◌, arith, None, Ok, ap, subst, sym, ◌∙◌}
use Rattle.std.proofs.lemmas.Bool.Decides.{nat_tests}
use Rattle.command_desk.specs.DeskSteps.{BooksFrom, IsOver, Leads, PlainSwitches, RowDone, WriteAdvances, told_in}
use Rattle.command_desk.specs.MadeReply.{CanTell, table_of}
use Rattle.command_desk.specs.declared.reply.Replied.{Replied}
use Rattle.command_desk.specs.declared.reply.Reply.{Reply}
use Rattle.command_desk.specs.declared.writing.Outcome.TheVariants as outcome
use Rattle.command_desk.proofs.Batching.{pending_leads, replied_is, unwritten_leads, unwritten_left, written_leads}
use Rattle.command_desk.proofs.EntriesBooked.{books_since, books_undone}
use Rattle.command_desk.proofs.Underway.{held_up, over_alone, quiet_goes_on}
use Rattle.command_desk.proofs.desk.Desk.advance.Goals as goal
use Rattle.command_machine.specs.CommandRows.{write_row}
use Rattle.command_machine.specs.Courses.{written_or_passed}
use Rattle.command_machine.specs.Machine.{Machine}
use Rattle.pair_core.specs.Pair.{count_of, len_of}
use Rattle.pair_core.specs.PairRefusals as rows

pub returns-then-count-len-clause-leads : goal.returns-then-count-len-clause-leads
returns-then-count-len-clause-leads g c =
    let old = c.args.self.now in
    let there = c.len.ensures ∙ ap (len_of old.pair) c.holder-holder.ensures in
    let less : count_of old.pair < len_of old.pair (rows.holder old.pair) = grind (arith, nat_tests, c.if-count-len.true, c.count.ensures, there) in
    pending_leads g.D.Disk.state old (held_up old c.requires).1 less c.pass_and_book.new.self c.pass_and_book.result c.pass_and_book.ensures.leads

pub returns-in_err-reply-clause-leads : goal.returns-in_err-reply-clause-leads
returns-in_err-reply-clause-leads g c =
    let state = g.D.Disk.state in
    let old = c.args.self.now in
    let new = c.write_next.new.self in
    let there = c.len.ensures ∙ ap (len_of old.pair) c.holder-holder.ensures in
    let free : len_of old.pair (rows.holder old.pair) ≤ count_of old.pair = grind (arith, nat_tests, c.if-count-len.false, c.count.ensures, there) in
    let e = c.in_err-reply.field-0.0 in
    books_undone state old new written_or_passed c.from_residual.result c.from_residual.ensures.0
    (unwritten_left state old (held_up old c.requires).1 c.holder-holder.result c.holder-holder.ensures free new e e c.in_err-reply.ensures.leads)

pub returns-in-Written-clause-leads : goal.returns-in-Written-clause-leads
returns-in-Written-clause-leads g c =
    let state = g.D.Disk.state in
    let old = c.args.self.now in
    let mid = c.write_next.new.self in
    let new = c.pass_and_book-in-Written.new.self in
    let there = c.len.ensures ∙ ap (len_of old.pair) c.holder-holder.ensures in
    let free : len_of old.pair (rows.holder old.pair) ≤ count_of old.pair = grind (arith, nat_tests, c.if-count-len.false, c.count.ensures, there) in
    let wrote = subst (λ (r : Reply). Leads state old mid (RowDone (λ (x : Machine). write_row x c.holder-holder.result) (told_in mid (Ok r)))) c.in-Written.is c.in_ok-reply.ensures.leads in
    written_leads state old (held_up old c.requires).1 c.holder-holder.result c.holder-holder.ensures free mid new c.in-Written.number c.in-Written.epoch wrote
    c.pass_and_book-in-Written.result c.pass_and_book-in-Written.ensures.leads

pub returns-in-Written-clause-switches : goal.returns-in-Written-clause-switches
returns-in-Written-clause-switches g c =
    let state = g.D.Disk.state in
    let old = c.args.self.now in
    let mid = c.write_next.new.self in
    let new = c.pass_and_book-in-Written.new.self in
    let plain = subst (λ (r : Reply). PlainSwitches state old mid (Ok r)) c.in-Written.is c.in_ok-reply.ensures.switches in
    let advances = subst (λ (r : Reply). WriteAdvances old mid (Ok r)) c.in-Written.is c.in_ok-reply.ensures.advances in
    books_since state old mid new (quiet_goes_on state old mid plain.after advances.2) c.in_ok-reply.ensures.keeps c.pass_and_book-in-Written.ensures.keeps
    c.pass_and_book-in-Written.result c.pass_and_book-in-Written.ensures.switches

pub returns-in_default : goal.returns-in_default
returns-in_default g c =
    let state = g.D.Disk.state in
    let old = c.args.self.now in
    let new = c.write_next.new.self in
    let told = c.in_ok-reply.reply in
    let there = c.len.ensures ∙ ap (len_of old.pair) c.holder-holder.ensures in
    let free : len_of old.pair (rows.holder old.pair) ≤ count_of old.pair = grind (arith, nat_tests, c.if-count-len.false, c.count.ensures, there) in
    let out_is : c.only.result ≡ record { left = None; last = told } = replied_is c.only.result None told c.only.ensures.0 c.only.ensures.1 in
    record {
      leads =
          subst (λ (out : Replied). Leads state old new (BooksFrom new written_or_passed (Ok (outcome.Ended out)))) (sym out_is)
          (unwritten_leads state old (held_up old c.requires).1 c.holder-holder.result c.holder-holder.ensures free new told c.in_default.not-Written c.in_ok-reply.ensures.leads);
      switches =
          subst (λ (out : Replied). IsOver state old new out) (sym out_is)
          (over_alone state old new (record { left = None; last = told }) (λ i. None) c.in_ok-reply.ensures.switches);
      can_tell = subst (λ (out : Replied). CanTell (table_of new) new.job out.last) (sym out_is) c.in_ok-reply.ensures.can_tell;
      keeps = c.in_ok-reply.ensures.keeps;
      job = c.in_ok-reply.ensures.job;
    }
