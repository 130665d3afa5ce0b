use Rattle.std.proofs.Common.{arith, refl, None, Option, Ok, subst, sym, ◌∙◌}
use Rattle.std.specs.Option.{option_or}
use Rattle.command_desk.specs.DeskSteps.{GoesOn, IsBatched, IsOver, Leads, TurnSwitches}
use Rattle.command_desk.specs.MadeReply.{replies_of, table_of}
use Rattle.command_desk.specs.declared.refusal.Refusal.TheVariants as refusal
use Rattle.command_desk.specs.declared.reply.LeftBehind.{LeftBehind}
use Rattle.command_desk.specs.declared.reply.Replied.{Replied}
use Rattle.command_desk.specs.declared.reply.Reply.TheVariants as reply
use Rattle.command_desk.specs.declared.writing.Turn.{Turn}
use Rattle.command_desk.proofs.Batching.{HasBatched, batch_ends, batch_from, batch_left, batch_on, batch_stops, replied_is}
use Rattle.command_desk.proofs.EntriesBooked.{carries_undone}
use Rattle.command_desk.proofs.Readying.{keeps_twice}
use Rattle.command_desk.proofs.Underway.{batch_switched, goes_twice, left_once, over_after, over_once, quiet_goes_on}
use Rattle.command_desk.proofs.desk.Desk.batch.Goals as goal
use Rattle.office_commands.specs.Commands as commands

pub returns-in-Some-clause-carries : goal.returns-in-Some-clause-carries
returns-in-Some-clause-carries g c =
    let out = c.stopped.result in
    batch_stops g.D.Disk.state c.args.self.now c.in-Some.refusal (sym c.held_refusal.ensures ∙ c.in-Some.is) out
    (replied_is out None (reply.Refused (refusal.Pair c.in-Some.refusal)) c.stopped.ensures.0 c.stopped.ensures.1)

pub loop-now-init : goal.loop-now-init
loop-now-init g c =
    let state = g.D.Disk.state in
    let old = c.args.self.now in
    record {
      goes = quiet_goes_on state old old refl (sym c.held_refusal.ensures ∙ c.in_default.is);
      keeps = record { bounds = refl; counts = λ disk. omega arith; booked = omega arith };
      leads = batch_from state old;
    }

pub returns-in_err-now-clause-carries : goal.returns-in_err-now-clause-carries
returns-in_err-now-clause-carries g c =
    let state = g.D.Disk.state in
    let old = c.args.self.now in
    let mid = c.loop-now.self in
    let new = c.batch_entry.new.self in
    carries_undone state old new commands.Batch c.from_residual.result c.from_residual.ensures.0
    (λ e. batch_left state old mid new c.loop-now.left c.loop-now.invariant.leads c.in_err-now.field-0.0 e c.in_err-now.ensures.leads)

pub loop-now-preserved : goal.loop-now-preserved
loop-now-preserved g c =
    let state = g.D.Disk.state in
    let old = c.args.self.now in
    let mid = c.loop-now.self in
    let new = c.batch_entry.new.self in
    let left = c.loop-now.left in
    let now = c.in-On.now in
    let so_far = c.loop-now.invariant in
    let keeps = c.in_ok-now.ensures.keeps in
    let goes : GoesOn state mid new now = subst (λ (t : Turn). TurnSwitches state mid new (Ok t)) c.in-On.is c.in_ok-now.ensures.switches in
    let leads = subst (λ (t : Turn). Leads state mid new (IsBatched new (Ok t))) c.in-On.is c.in_ok-now.ensures.leads in
    let once = left_once state old mid new so_far.keeps.counts keeps.counts left now so_far.goes goes in
    let told = sym c.or-left.ensures in
    record {
      goes = subst (λ (l : Option LeftBehind). GoesOn state old new l) told (goes_twice state old mid new so_far.keeps.counts keeps.counts left now so_far.goes goes);
      keeps = keeps_twice state old mid new so_far.keeps keeps;
      leads = subst (λ (l : Option LeftBehind). HasBatched state old new l) told (batch_on state old mid new left so_far.leads now once leads);
    }

pub returns-in-Over-clause-carries : goal.returns-in-Over-clause-carries
returns-in-Over-clause-carries g c =
    let state = g.D.Disk.state in
    let old = c.args.self.now in
    let mid = c.loop-now.self in
    let new = c.batch_entry.new.self in
    let left = c.loop-now.left in
    let told = c.in-Over.told in
    let so_far = c.loop-now.invariant in
    let over : IsOver state mid new told = subst (λ (t : Turn). TurnSwitches state mid new (Ok t)) c.in-Over.is c.in_ok-now.ensures.switches in
    let leads = subst (λ (t : Turn). Leads state mid new (IsBatched new (Ok t))) c.in-Over.is c.in_ok-now.ensures.leads in
    let once = over_once state old mid new so_far.keeps.counts c.in_ok-now.ensures.keeps.counts left told so_far.goes over in
    batch_ends state old mid new left so_far.leads told once leads c.after.result
    (replied_is c.after.result (option_or left told.left) told.last c.after.ensures.0 c.after.ensures.1)

pub returns-in-Over-clause-switches : goal.returns-in-Over-clause-switches
returns-in-Over-clause-switches g c =
    let state = g.D.Disk.state in
    let old = c.args.self.now in
    let mid = c.loop-now.self in
    let new = c.batch_entry.new.self in
    let left = c.loop-now.left in
    let told = c.in-Over.told in
    let so_far = c.loop-now.invariant in
    let over : IsOver state mid new told = subst (λ (t : Turn). TurnSwitches state mid new (Ok t)) c.in-Over.is c.in_ok-now.ensures.switches in
    let all = over_after state old mid new so_far.keeps.counts c.in_ok-now.ensures.keeps.counts left told so_far.goes over in
    let same = replied_is c.after.result (option_or left told.left) told.last c.after.ensures.0 c.after.ensures.1 in
    batch_switched state old new (sym c.held_refusal.ensures ∙ c.in_default.is) (replies_of (table_of new) new.job c.after.result)
    (subst (λ (out : Replied). IsOver state old new out) (sym same) all).0
