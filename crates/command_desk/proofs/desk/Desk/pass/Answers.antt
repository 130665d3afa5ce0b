use Rattle.std.proofs.Common.{◌≡◌, ◌+◌, ℕ, false, true, refl, ap, sym, ◌∙◌, subst, arith}
use Rattle.std.proofs.lemmas.Grind.{common_steps}
use Rattle.ali_base.specs.declared.duty.Mode.TheVariants.{Alone}
use Rattle.ali_base.specs.declared.names.NodeName.{NodeName}
use Rattle.command_desk.specs.DeskSteps.{IsPlainly, lost_by}
use Rattle.command_desk.specs.MadeReply.{holder_of, reply_of, table_of}
use Rattle.command_desk.specs.declared.desk.Desk.{Desk}
use Rattle.command_desk.specs.declared.reply.Reply.{Reply}
use Rattle.command_desk.proofs.Batching.{replied_is}
use Rattle.command_desk.proofs.Leaving.{pass_fresh, pass_lost, pass_over, turn_switches}
use Rattle.command_desk.proofs.PassingOn.{lost_leads, pass_ends, passed_well}
use Rattle.command_desk.proofs.Underway.{over_alone}
use Rattle.pair_core.specs.Pair.{count_of, duty_of}
use Rattle.pair_world.specs.World.{other}
use Rattle.command_desk.proofs.desk.Desk.pass.Goals as goal

pub returns-in-Ok-clause-leads : goal.returns-in-Ok-clause-leads
returns-in-Ok-clause-leads g c =
    let st = g.D.Disk.state in
    let old = c.args.self.now in
    let new : Desk _ = record { pair = c.pass_on.new.self; job = old.job } in
    let both : (duty_of old.pair).mode ≡ Alone → ⊥ = λ alone. grind (arith, common_steps, alone, c.duty.ensures, c.eq.ensures, c.if-eq.false) in
    let number : c.count-number.result + 1 ≡ count_of old.pair + 1 = ap (λ (n : ℕ). n + 1) c.count-number.ensures in
    passed_well st old new c.in-Ok.ensures.call refl (c.count-number.result + 1) number both c.in-Ok.field-0
    (pass_fresh st old c.requires.held c.requires.pending (c.count-number.result + 1) number new c.in-Ok.field-0 c.in-Ok.ensures.causes) c.in-Ok.ensures.does

pub returns-in-Err-clause-leads : goal.returns-in-Err-clause-leads
returns-in-Err-clause-leads g c =
    let st = g.D.Disk.state in
    let old = c.args.self.now in
    let new : Desk _ = record { pair = c.pass_on.new.self; job = old.job } in
    let both : (duty_of old.pair).mode ≡ Alone → ⊥ = λ alone. grind (arith, common_steps, alone, c.duty.ensures, c.eq.ensures, c.if-eq.false) in
    let number : c.count-number.result + 1 ≡ count_of old.pair + 1 = ap (λ (n : ℕ). n + 1) c.count-number.ensures in
    let at : c.other.result ≡ other (holder_of new) = c.other.ensures ∙ ap other c.holder.ensures in
    lost_leads st old new c.in-Err.ensures.call refl (c.count-number.result + 1) number both c.other.result at c.in-Err.fault (sym c.is_lost.ensures ∙ c.if-is_lost.true) c.in-Err.ensures.does
    c.leave_behind.new.self c.leave_behind.result c.leave_behind.ensures.leads

pub returns-in-Err-clause-switches : goal.returns-in-Err-clause-switches
returns-in-Err-clause-switches g c =
    let st = g.D.Disk.state in
    let old = c.args.self.now in
    let new : Desk _ = record { pair = c.pass_on.new.self; job = old.job } in
    let both : (duty_of old.pair).mode ≡ Alone → ⊥ = λ alone. grind (arith, common_steps, alone, c.duty.ensures, c.eq.ensures, c.if-eq.false) in
    let number : c.count-number.result + 1 ≡ count_of old.pair + 1 = ap (λ (n : ℕ). n + 1) c.count-number.ensures in
    let at : c.other.result ≡ other (holder_of new) = c.other.ensures ∙ ap other c.holder.ensures in
    let lost : lost_by (other (holder_of new)) c.in-Err.fault ≡ true = subst (λ (n : NodeName). lost_by n c.in-Err.fault ≡ true) at (sym c.is_lost.ensures ∙ c.if-is_lost.true) in
    turn_switches st old new c.leave_behind.new.self c.in-Err.fault both
    (pass_lost st old c.requires.held c.requires.pending (c.count-number.result + 1) number new c.in-Err.fault lost c.in-Err.ensures.causes c.in-Err.ensures.beside)
    c.in-Err.ensures.call.counts c.leave_behind.ensures.keeps.counts c.leave_behind.result c.leave_behind.ensures.switches

pub returns-in_ok-refused-in-Err-2-clause-leads : goal.returns-in_ok-refused-in-Err-2-clause-leads
returns-in_ok-refused-in-Err-2-clause-leads g c =
    let st = g.D.Disk.state in
    let old = c.args.self.now in
    let new : Desk _ = record { pair = c.pass_on.new.self; job = old.job } in
    let both : (duty_of old.pair).mode ≡ Alone → ⊥ = λ alone. grind (arith, common_steps, alone, c.duty.ensures, c.eq.ensures, c.if-eq.false) in
    let number : c.count-number.result + 1 ≡ count_of old.pair + 1 = ap (λ (n : ℕ). n + 1) c.count-number.ensures in
    let at : c.other.result ≡ other (holder_of new) = c.other.ensures ∙ ap other c.holder.ensures in
    let told = c.in_ok-refused-in-Err-2.field-0 in
    pass_ends st old new c.in-Err.ensures.call refl (c.count-number.result + 1) number both c.other.result at c.in-Err.fault (sym c.is_lost.ensures ∙ c.if-is_lost.false)
    told c.in_ok-refused-in-Err-2.ensures c.in-Err.ensures.does c.only.result (replied_is c.only.result _ told c.only.ensures.0 c.only.ensures.1)

pub returns-in_ok-refused-in-Err-2-clause-switches : goal.returns-in_ok-refused-in-Err-2-clause-switches
returns-in_ok-refused-in-Err-2-clause-switches g c =
    let st = g.D.Disk.state in
    let old = c.args.self.now in
    let new : Desk _ = record { pair = c.pass_on.new.self; job = old.job } in
    let number : c.count-number.result + 1 ≡ count_of old.pair + 1 = ap (λ (n : ℕ). n + 1) c.count-number.ensures in
    let at : c.other.result ≡ other (holder_of new) = c.other.ensures ∙ ap other c.holder.ensures in
    let kept = subst (λ (n : NodeName). lost_by n c.in-Err.fault ≡ false) at (sym c.is_lost.ensures ∙ c.if-is_lost.false) in
    let plainly = pass_over st old c.requires.held c.requires.pending (c.count-number.result + 1) number new c.in-Err.fault kept c.in-Err.ensures.causes c.in-Err.ensures.beside in
    over_alone st old new c.only.result c.only.ensures.0
    (subst (λ (r : Reply). IsPlainly st old new (reply_of (table_of new) new.job r)) (sym (c.only.ensures.1 ∙ c.in_ok-refused-in-Err-2.ensures.0)) plainly)
