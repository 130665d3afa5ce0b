use Rattle.std.proofs.Common.{◌≡◌, refl, subst, List}
use Rattle.audit_reports.specs.ReportText.{report_text}
use Rattle.command_machine.specs.Replies as replies
use Rattle.command_desk.proofs.Answering.{report_stops, report_written, undone, untold}
use Rattle.command_desk.proofs.Readying.{plain_switched, ready_of, ready_passed, ready_switched, stopped_by, stopped_switches, stays_ready, went_on}
use Rattle.command_desk.proofs.desk.Desk.report.Goals as goal
use Rattle.office_commands.specs.Commands as commands
use Rattle.office_entry.specs.declared.entry.Entry.{Entry}
use Rattle.office_state.specs.History.{Represents}
use Rattle.office_state.specs.OfficeState.{OfficeState}
use Rattle.office_state.specs.declared.limits.Limits.{Limits}
use Rattle.pair_core.specs.Pair.{table_of}

pub returns-in_err-reply-clause-leads : goal.returns-in_err-reply-clause-leads
returns-in_err-reply-clause-leads g c =
    undone g.D.Disk.state c.args.self.now c.ready.new.self (commands.Report c.args.n c.args.report.now) c.from_residual.result c.from_residual.ensures.0 c.in_err-reply.ensures.leads

pub returns-in_err-reply-clause-switches : goal.returns-in_err-reply-clause-switches
returns-in_err-reply-clause-switches g c =
    untold g.D.Disk.state c.args.self.now c.ready.new.self (commands.Report c.args.n c.args.report.now) c.from_residual.result c.from_residual.ensures.0

pub returns-in-Some-clause-leads : goal.returns-in-Some-clause-leads
returns-in-Some-clause-leads g c =
    let old = c.args.self.now in
    let new = c.ready.new.self in
    let n = c.args.n in
    let s = (table_of new.pair n).state in
    report_stops g.D.Disk.state old n c.args.report.now new s _ (stopped_by g.D.Disk.state old new n c.in_ok-reply.field-0 s c.in-Some.reply c.in-Some.is c.in_ok-reply.ensures.leads)

pub returns-in-Some-clause-switches : goal.returns-in-Some-clause-switches
returns-in-Some-clause-switches g c =
    let old = c.args.self.now in
    let new = c.ready.new.self in
    let n = c.args.n in
    ready_switched g.D.Disk.state old new (commands.Report n c.args.report.now) refl refl n refl c.in-Some.reply
    (stopped_switches g.D.Disk.state old new n c.in_ok-reply.field-0 c.in-Some.reply c.in-Some.is c.in_ok-reply.ensures.switches)

pub returns-in_err-text-clause-leads : goal.returns-in_err-text-clause-leads
returns-in_err-text-clause-leads g c =
    let old = c.args.self.now in
    let new = c.ready.new.self in
    let n = c.args.n in
    undone g.D.Disk.state old new (commands.Report n c.args.report.now) c.from_residual-in_err-text.result c.from_residual-in_err-text.ensures.0
    (stays_ready g.D.Disk.state old new n c.in_ok-reply.field-0 (table_of new.pair n).state c.in_default.is c.in_ok-reply.ensures.leads)

pub returns-in_err-text-clause-switches : goal.returns-in_err-text-clause-switches
returns-in_err-text-clause-switches g c =
    untold g.D.Disk.state c.args.self.now c.ready.new.self (commands.Report c.args.n c.args.report.now) c.from_residual-in_err-text.result c.from_residual-in_err-text.ensures.0

pub returns-clause-leads : goal.returns-clause-leads
returns-clause-leads g c =
    let state = g.D.Disk.state in
    let old = c.args.self.now in
    let new = c.ready.new.self in
    let n = c.args.n in
    let report = c.args.report.now in
    let has = ready_of state old new n c.in_ok-reply.field-0 c.in_default.is c.in_ok-reply.ensures.switches c.in_ok-reply.ensures.learned in
    let made = subst (λ (x : OfficeState). (limits : Limits) (history : List Entry) → Represents limits x history → c.in_ok-text.text.items ≡ report_text limits history report) c.table.ensures c.in_ok-text.ensures in
    report_written state old n report new has c.count.result c.in_ok-text.text.items c.count.ensures made
    (went_on state old new n c.in_ok-reply.field-0 (table_of new.pair n).state c.in_default.is c.in_ok-reply.ensures.leads)

pub returns-clause-switches : goal.returns-clause-switches
returns-clause-switches g c =
    let state = g.D.Disk.state in
    let old = c.args.self.now in
    let new = c.ready.new.self in
    let n = c.args.n in
    let command = commands.Report n c.args.report.now in
    let has = ready_of state old new n c.in_ok-reply.field-0 c.in_default.is c.in_ok-reply.ensures.switches c.in_ok-reply.ensures.learned in
    plain_switched state old new command refl refl (ready_passed state old new command refl refl n refl has.none) (replies.Reported c.count.result c.in_ok-text.text.items) (record { plain = tt; failed = tt; after = has.switches })
