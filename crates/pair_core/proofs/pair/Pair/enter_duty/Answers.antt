use Rattle.std.proofs.Common.{◌≡◌, ◌≤◌, ℕ, sym, ap, subst, ◌∙◌, arith, Some}
use Rattle.std.specs.Prelude.{slice_get}
use Rattle.node_journal.specs.OpenJournal as journals
use Rattle.pair_node.specs.NodeState as node
use Rattle.pair_core.specs.Pair.{node_of}
use Rattle.pair_core.specs.PairNodes.{IsSent}
use Rattle.pair_core.specs.declared.sent.Sent.{Sent}
use Rattle.pair_core.proofs.PairShown.{at_each, limit_a, limits}
use Rattle.pair_core.proofs.pair.Pair.enter_duty.Goals as goal

pub invariant_of-self : goal.invariant_of-self
invariant_of-self g c =
    let p = c.args.self.now in
    let duty = c.args.duty in
    let n = duty.holder in
    let x = c.note_epoch.new.self in
    let own = c.get_mut.result.now in
    let value : own ≡ node_of p n = c.get_mut.ensures.value in
    let x_is : x ≡ record own { known = duty.epoch } = c.note_epoch.ensures in
    let journal : node.journal_of x ≡ node.journal_of (node_of p n) = ap node.journal_of x_is ∙ ap node.journal_of value in
    let limit : journals.limit_of (node.journal_of x) ≡ journals.limit_of (node.journal_of (node_of p n)) = ap journals.limit_of journal in
    let learned_is : node.learned_of x ≡ node.learned_of (node_of p n) = ap node.learned_of x_is ∙ ap node.learned_of value in
    let known_is : node.known_of x ≡ duty.epoch = ap node.known_of x_is in
    let limit_is = limit_a p n x limit in
    let more = c.requires.count.0 in
    let later = c.requires.epoch.0 in
    record {
      named = at_each p n x (λ k y. journals.name_of (node.journal_of y) ≡ k) p.named (ap journals.name_of journal ∙ p.named n);
      limits = limits p n x limit;
      learned = at_each p n x (λ k y. node.learned_of y ≤ c.args.count) (λ k. let m = p.learned k in omega (arith, m, more)) (let m = p.learned n in omega (arith, m, learned_is, more));
      known = at_each p n x (λ k y. node.known_of y ≤ duty.epoch) (λ k. let m = p.known k in omega (arith, m, later)) (omega (arith, known_is));
      counted = (let m = p.counted.0 in omega (arith, m, later), c.requires.epoch.1);
      present = λ is. c.requires.told;
      next = λ d is. absurd (cc);
      within = subst (λ (most : ℕ). c.args.count ≤ most) (sym limit_is) c.requires.count.2;
      floor = c.requires.count.1;
      few = p.few;
      sent = subst (λ (most : ℕ). (index : ℕ) (s : Sent) → slice_get p.messages.items index ≡ Some s → IsSent most duty.epoch s) (sym limit_is) (λ index s at. let it = p.sent index s at in (it.0, omega (arith, it.1, later), it.2));
    }
