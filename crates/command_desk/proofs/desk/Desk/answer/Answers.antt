use Rattle.std.proofs.Common.{◌≤◌, refl, sym, ◌∙◌, arith}
use Rattle.std.specs.FinMap.{get}
use Rattle.command_machine.specs.Replies as replies
use Rattle.command_desk.proofs.Answering.{ask_ahead, ask_answered, ask_refused, ask_stops, form_made, undone, untold}
use Rattle.command_desk.proofs.Readying.{plain_switched, ready_of, ready_passed, ready_switched, refused_switched, stopped_by, stopped_switches, went_on}
use Rattle.command_desk.proofs.desk.Desk.answer.Goals as goal
use Rattle.office_commands.specs.Commands as commands
use Rattle.pair_core.specs.Pair.{count_of, table_of}
use Rattle.pair_world.specs.Refusals as refusals
use Rattle.office_state.specs.OfficeState.{State}
use Rattle.retrieval.specs.AnswerForm.{form}
use Rattle.world_rows.specs.Told as world

pub returns-in-Some-clause-leads : goal.returns-in-Some-clause-leads
returns-in-Some-clause-leads g c =
    let ask = c.args.ask.now in
    ask_refused g.D.Disk.state c.args.self.now ask.node ask.position ask.tn ask.since c.in-Some.refusal (sym c.ready_refusal.ensures ∙ c.in-Some.is)

pub returns-in-Some-clause-switches : goal.returns-in-Some-clause-switches
returns-in-Some-clause-switches g c =
    let ask = c.args.ask.now in
    let old = c.args.self.now in
    refused_switched g.D.Disk.state old old (commands.Ask ask.node ask.position ask.tn ask.since) refl refl ask.node refl c.in-Some.refusal (sym c.ready_refusal.ensures ∙ c.in-Some.is)

pub returns-then-count-ask-clause-leads : goal.returns-then-count-ask-clause-leads
returns-then-count-ask-clause-leads g c =
    let ask = c.args.ask.now in
    ask_ahead g.D.Disk.state c.args.self.now ask.node ask.position ask.tn ask.since (sym c.ready_refusal.ensures ∙ c.in_default.is) c.count-count.result c.count-count.ensures c.if-count-ask.true

pub returns-then-count-ask-clause-switches : goal.returns-then-count-ask-clause-switches
returns-then-count-ask-clause-switches g c =
    let ask = c.args.ask.now in
    let old = c.args.self.now in
    let command = commands.Ask ask.node ask.position ask.tn ask.since in
    plain_switched g.D.Disk.state old old command refl refl (ready_passed g.D.Disk.state old old command refl refl ask.node refl (sym c.ready_refusal.ensures ∙ c.in_default.is))
    (replies.Told (world.Refused (refusals.Ahead ask.since c.count-count.result))) (record { plain = tt; failed = tt; after = refl })

pub returns-in_err-reply-clause-leads : goal.returns-in_err-reply-clause-leads
returns-in_err-reply-clause-leads g c =
    let ask = c.args.ask.now in
    undone g.D.Disk.state c.args.self.now c.ready.new.self (commands.Ask ask.node ask.position ask.tn ask.since) c.from_residual.result c.from_residual.ensures.0 c.in_err-reply.ensures.leads

pub returns-in_err-reply-clause-switches : goal.returns-in_err-reply-clause-switches
returns-in_err-reply-clause-switches g c =
    let ask = c.args.ask.now in
    untold g.D.Disk.state c.args.self.now c.ready.new.self (commands.Ask ask.node ask.position ask.tn ask.since) c.from_residual.result c.from_residual.ensures.0

pub returns-in-Some-2-clause-leads : goal.returns-in-Some-2-clause-leads
returns-in-Some-2-clause-leads g c =
    let state = g.D.Disk.state in
    let ask = c.args.ask.now in
    let old = c.args.self.now in
    let new = c.ready.new.self in
    let le : ask.since ≤ count_of old.pair = omega (arith, c.count-count.ensures, c.if-count-ask.false) in
    let s = (table_of new.pair ask.node).state in
    ask_stops state old ask.node ask.position ask.tn ask.since new s _ le (stopped_by state old new ask.node c.in_ok-reply.field-0 s c.in-Some-2.reply c.in-Some-2.is c.in_ok-reply.ensures.leads)

pub returns-in-Some-2-clause-switches : goal.returns-in-Some-2-clause-switches
returns-in-Some-2-clause-switches g c =
    let state = g.D.Disk.state in
    let ask = c.args.ask.now in
    let old = c.args.self.now in
    let new = c.ready.new.self in
    ready_switched state old new (commands.Ask ask.node ask.position ask.tn ask.since) refl refl ask.node refl c.in-Some-2.reply
    (stopped_switches state old new ask.node c.in_ok-reply.field-0 c.in-Some-2.reply c.in-Some-2.is c.in_ok-reply.ensures.switches)

pub returns-clause-leads : goal.returns-clause-leads
returns-clause-leads g c =
    let state = g.D.Disk.state in
    let ask = c.args.ask.now in
    let old = c.args.self.now in
    let new = c.ready.new.self in
    let le : ask.since ≤ count_of old.pair = omega (arith, c.count-count.ensures, c.if-count-ask.false) in
    ask_answered state old ask.node ask.position ask.tn ask.since (sym c.ready_refusal.ensures ∙ c.in_default.is) new c.count-count.result c.of.result le c.count-count.ensures
    (form_made (λ o. form o ask.tn) (λ (s : State). get s.table ask.tn) c.of.result _ c.table.result.now (table_of new.pair ask.node) c.of.ensures c.row.ensures.row c.table.ensures)
    (went_on state old new ask.node c.in_ok-reply.field-0 (table_of new.pair ask.node).state c.in_default-2.is c.in_ok-reply.ensures.leads)

pub returns-clause-switches : goal.returns-clause-switches
returns-clause-switches g c =
    let state = g.D.Disk.state in
    let ask = c.args.ask.now in
    let old = c.args.self.now in
    let new = c.ready.new.self in
    let command = commands.Ask ask.node ask.position ask.tn ask.since in
    let has = ready_of state old new ask.node c.in_ok-reply.field-0 c.in_default-2.is c.in_ok-reply.ensures.switches c.in_ok-reply.ensures.learned in
    plain_switched state old new command refl refl (ready_passed state old new command refl refl ask.node refl has.none) (replies.Answer c.count-count.result c.of.result) (record { plain = tt; failed = tt; after = has.switches })
