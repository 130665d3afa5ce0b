use Rattle.std.proofs.Common.{◌≡◌, ◌≤◌, ◌+◌, ap, subst, ◌∙◌, arith, Some}
use Rattle.ali_base.specs.declared.duty.Duty.{Duty}
use Rattle.duty_register.specs.OpenRegister as registers
use Rattle.node_journal.specs.OpenJournal as journals
use Rattle.pair_core.specs.Pair.{duty_of}
use Rattle.pair_core.proofs.PairDuty.{none_of}
use Rattle.pair_core.proofs.pair.Pair.write_duty.Goals as goal

pub invariant_of-self : goal.invariant_of-self
invariant_of-self g c =
    let p = c.args.self.now in
    let duty = c.args.duty in
    let new = c.change_register.new.register in
    let present : registers.duty_of p.register ≡ duty_of p = (p.present (none_of p.failed c.requires.up)).1 in
    let fixed = c.change_register.ensures.fixed.last_epoch in
    let follows : duty.epoch ≡ p.duty.epoch + 1 = ap (λ (d : Duty). d.epoch) c.requires.next.follows ∙ ap (λ (d : Duty). d.epoch + 1) present in
    let left : p.duty.epoch + 1 ≤ registers.last_epoch_of p.register = let l = c.requires.next.epochs_left in let e = ap (λ (d : Duty). d.epoch) present in omega (arith, l, e) in
    let within : duty.epoch ≤ registers.last_epoch_of new = omega (arith, fixed, follows, left) in
    let floor = c.requires.floor in
    record {
      named = p.named;
      limits = p.limits;
      learned = p.learned;
      known = p.known;
      counted = (p.counted.0, omega (arith, fixed, left));
      present = λ is. absurd (cc);
      next = λ d is. subst (λ (e : Duty). (e.epoch ≡ p.duty.epoch + 1) × (e.epoch ≤ registers.last_epoch_of new) × (e.floor ≤ journals.limit_of p.nodes.a.journal)) (own duty d is) (follows, within, floor);
      within = p.within;
      floor = p.floor;
      few = p.few;
      sent = p.sent;
    }
  where
    own : (d e : Duty) → Some d ≡ Some e → d ≡ e
    own d e is = cc
