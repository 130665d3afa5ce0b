use Rattle.std.proofs.Common.{◌≡◌, ◌≤◌, ◌⊎◌, inl, inr, ℕ, List, [], ◌∷◌, ◌++◌, length, length-append, sym, subst, Some, arith}
use Rattle.std.specs.Prelude.{slice_get}
use Rattle.node_journal.specs.OpenJournal as journals
use Rattle.pair_core.specs.PairNodes.{IsSent}
use Rattle.pair_core.specs.declared.sent.Sent.{Sent}
use Rattle.pair_world.proofs.Items.{slice_push}
use Rattle.pair_world.specs.Refusals.{message_limit}
use Rattle.pair_core.proofs.pair.Pair.send.Goals as goal

pub invariant_of-self : goal.invariant_of-self
invariant_of-self g c =
    let p = c.args.self.now in
    let all = c.push_reserved.ensures.items in
    record {
      named = p.named;
      limits = p.limits;
      learned = p.learned;
      known = p.known;
      counted = p.counted;
      present = p.present;
      next = p.next;
      within = p.within;
      floor = p.floor;
      few = subst (λ (xs : List Sent). length xs ≤ message_limit) (sym all) (omega (arith, c.requires.few, length-append p.messages.items (c.args.message ∷ [])));
      sent = subst (λ (xs : List Sent). (index : ℕ) (s : Sent) → slice_get xs index ≡ Some s → IsSent (journals.limit_of p.nodes.a.journal) p.duty.epoch s) (sym all) sent_too;
    }
  where
    sent_too : (index : ℕ) (s : Sent) → slice_get (c.args.self.now.messages.items ++ c.args.message ∷ []) index ≡ Some s → IsSent (journals.limit_of c.args.self.now.nodes.a.journal) c.args.self.now.duty.epoch s
    sent_too index s at = by_case (slice_push c.args.self.now.messages.items c.args.message s index at)
      where
        by_case : (slice_get c.args.self.now.messages.items index ≡ Some s) ⊎ ((index ≡ length c.args.self.now.messages.items) × (c.args.message ≡ s)) → IsSent (journals.limit_of c.args.self.now.nodes.a.journal) c.args.self.now.duty.epoch s
        by_case (inl before) = c.args.self.now.sent index s before
        by_case (inr last) = subst (IsSent (journals.limit_of c.args.self.now.nodes.a.journal) c.args.self.now.duty.epoch) last.1 c.requires.fits
