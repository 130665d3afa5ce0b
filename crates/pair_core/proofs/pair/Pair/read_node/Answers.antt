use Rattle.std.proofs.Common.{rules, ◌≡◌, ◌≤◌, ℕ, ◌+◌, refl, sym, ap, subst, ◌∙◌, arith, Some}
use Rattle.std.specs.Prelude.{slice_get}
use Rattle.ali_base.specs.declared.duty.Duty.{Duty}
use Rattle.duty_register.specs.OpenRegister as registers
use Rattle.node_journal.specs.OpenJournal as journals
use Rattle.pair_node.specs.NodeState as node
use Rattle.pair_core.specs.Pair.{node_of}
use Rattle.pair_core.specs.PairNodes.{IsSent}
use Rattle.pair_core.specs.declared.sent.Sent.{Sent}
use Rattle.pair_core.proofs.PairShown.{named, limits, limit_a, learned, known}
use Rattle.pair_core.proofs.pair.Pair.read_node.Goals as goal

pub invariant_of-self : goal.invariant_of-self
invariant_of-self g c =
    let p = c.args.self.now in
    let n = c.args.n in
    let x = c.message.new.self in
    let own = c.get_mut.result.now in
    let value : own ≡ node_of p n = c.get_mut.ensures.value in
    let name : journals.name_of (node.journal_of x) ≡ journals.name_of (node.journal_of (node_of p n)) = c.message.ensures.read.journal.fixed.name ∙ ap (λ y. journals.name_of (node.journal_of y)) value in
    let limit : journals.limit_of (node.journal_of x) ≡ journals.limit_of (node.journal_of (node_of p n)) = c.message.ensures.read.journal.fixed.limit ∙ ap (λ y. journals.limit_of (node.journal_of y)) value in
    let few : node.learned_of x ≤ p.count = let m = p.learned n in let same : node.learned_of own ≡ node.learned_of (node_of p n) = ap node.learned_of value in omega (arith, m, same, c.message.ensures.read.learned) in
    let old : node.known_of x ≤ p.duty.epoch = let m = p.known n in let same : node.known_of own ≡ node.known_of (node_of p n) = ap node.known_of value in omega (arith, m, same, c.message.ensures.read.known) in
    let limit_is = limit_a p n x limit in
    record {
      named = named p n x name limit few old;
      limits = limits p n x limit;
      learned = learned p n x name limit few old;
      known = known p n x name limit few old;
      counted = p.counted;
      present = p.present;
      next = subst (λ (most : ℕ). (d : Duty) → p.failed ≡ Some d → (d.epoch ≡ p.duty.epoch + 1) × (d.epoch ≤ registers.last_epoch_of p.register) × (d.floor ≤ most)) (sym limit_is) p.next;
      within = subst (λ (most : ℕ). p.count ≤ most) (sym limit_is) p.within;
      floor = p.floor;
      few = p.few;
      sent = subst (λ (most : ℕ). (index : ℕ) (s : Sent) → slice_get p.messages.items index ≡ Some s → IsSent most p.duty.epoch s) (sym limit_is) p.sent;
    }
