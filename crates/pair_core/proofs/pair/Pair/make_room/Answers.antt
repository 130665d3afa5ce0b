use Rattle.std.proofs.Common.{◌≡◌, ◌≤◌, ℕ, List, length, sym, subst, Some}
use Rattle.std.specs.Prelude.{slice_get}
use Rattle.node_journal.specs.OpenJournal as journals
use Rattle.pair_core.specs.PairNodes.{IsSent}
use Rattle.pair_core.specs.declared.sent.Sent.{Sent}
use Rattle.pair_world.specs.Refusals.{message_limit}
use Rattle.pair_core.proofs.pair.Pair.make_room.Goals as goal

pub invariant_of-self : goal.invariant_of-self
invariant_of-self g c =
    let p = c.args.self.now in
    let same = c.try_reserve.ensures.items in
    record {
      named = p.named;
      limits = p.limits;
      learned = p.learned;
      known = p.known;
      counted = p.counted;
      present = p.present;
      next = p.next;
      within = p.within;
      floor = p.floor;
      few = subst (λ (xs : List Sent). length xs ≤ message_limit) (sym same) p.few;
      sent = subst (λ (xs : List Sent). (index : ℕ) (s : Sent) → slice_get xs index ≡ Some s → IsSent (journals.limit_of p.nodes.a.journal) p.duty.epoch s) (sym same) p.sent;
    }
