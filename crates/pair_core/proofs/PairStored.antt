-- Why the pair stays as it must be, where a node of it stores a message.
use Rattle.std.proofs.Common.{Bor, ◌≡◌, ℕ, ◌+◌, ◌<◌, ◌≤◌, ◌⊎◌, inl, inr, List, length, sym, ap, subst, ◌∙◌, arith, true, false, Option, Some, None, Result, Ok, Err}
use Rattle.std.specs.Prelude.{max, ltb, slice_get, slice_index_or, is_some, IfSome}
use Rattle.std.proofs.lemmas.Bool.{ltb-true, lt-ltb}
use Rattle.std.proofs.lemmas.Option.{slice_get-get_or, slice_get_past}
use Rattle.ali_base.specs.declared.duty.Duty.{Duty}
use Rattle.ali_base.specs.declared.names.NodeName.{NodeName}
use Rattle.ali_base.specs.declared.names.NodeName.TheVariants.{A, B}
use Rattle.crash_disk.specs.DiskState.{DiskState}
use Rattle.duty_register.specs.OpenRegister as registers
use Rattle.node_journal.specs.OpenJournal as journals
use Rattle.node_journal.specs.declared.faults.DiskFault.{DiskFault}
use Rattle.pair_node.specs.NodeState as node
use Rattle.pair_node.specs.StoredMessage.{FitsIn, StoreAnswers}
use Rattle.pair_node.specs.declared.message.Ack.{Ack}
use Rattle.pair_node.specs.declared.message.Delivered.{Delivered}
use Rattle.pair_node.specs.declared.message.Message.{Message as OwnMessage}
use Rattle.pair_node.specs.declared.message.What.{What}
use Rattle.pair_node.specs.declared.message.What.TheVariants as telling
use Rattle.pair_node.specs.declared.node.Node.{Node}
use Rattle.pair_core.specs.Pair.{node_of}
use Rattle.pair_core.specs.PairMessages.{IsStoring}
use Rattle.pair_core.specs.PairNodes.{node_in, put, IsSent, frame_epoch}
use Rattle.pair_core.specs.declared.nodes.Nodes.{Nodes as OwnNodes}
use Rattle.pair_core.specs.declared.pair.Pair.{Pair}
use Rattle.pair_core.specs.declared.sent.Sent.{Sent}
use Rattle.pair_core.specs.declared.sent.Sent.TheVariants as sent
use Rattle.node_journal.specs.FrameBytes.{IsEpoch}
use Rattle.pair_core.proofs.PairShown.{named, limits, limit_a, learned, known}

-- the limit of each journal is that of the pair
pub limit_at : {D : Type 0} (p : Pair D) (n : NodeName) → journals.limit_of (node.journal_of (node_of p n)) ≡ journals.limit_of (node.journal_of (node_of p A))
limit_at p A = λ i. journals.limit_of (node.journal_of (node_of p A))
limit_at p B = sym p.limits

-- what was sent fits in the journal
pub sent_fits : (limit number : ℕ) (what : What) → ((epoch : ℕ) → frame_epoch what ≡ Some epoch → (number ≤ limit) × IsEpoch epoch) → FitsIn limit number what
sent_fits limit number (telling.Entry epoch entry) fits = fits epoch (λ i. Some epoch)
sent_fits limit number telling.End fits = tt

module _ {D : Type 0} (state : D → DiskState) (p : Pair D) (n : NodeName) (ns : OwnNodes D) (m : OwnMessage) (result : Result Delivered DiskFault)
    (beside : ns ≡ put p.nodes n (node_in ns n)) (stored : IsStoring state (node_of p n) (node_in ns n) m result) (late : m.epoch ≤ p.duty.epoch) where
  abbrev x : Node D
  x = node_in ns n

  few : node.learned_of x ≤ p.count
  few = by_length (split (node.learned_of (node_of p n)) (node.count_of x))
    where
      split : (a b : ℕ) → (a ≤ b) ⊎ (b < a)
      split a b = grind arith

      by_length : (node.learned_of (node_of p n) ≤ node.count_of x) ⊎ (node.count_of x < node.learned_of (node_of p n)) → node.learned_of x ≤ p.count
      by_length (inl stay) = let before = p.learned n in omega (arith, before, (stored.table.stays stay).0)
      by_length (inr gone) = omega (arith, (stored.table.empties gone).0)

  old : node.known_of x ≤ p.duty.epoch
  old = by_result result stored.answer
    where
      less : (a b c d : ℕ) → a ≡ max b c → b ≤ d → c ≤ d → a ≤ d
      less a b c d is one two = grind arith

      by_result : (r : Result Delivered DiskFault) → StoreAnswers (node_of p n) x m r → node.known_of x ≤ p.duty.epoch
      by_result (Ok it) answer = less (node.known_of x) (node.known_of (node_of p n)) m.epoch p.duty.epoch answer.1 (p.known n) late
      by_result (Err e) answer = let before = p.known n in omega (arith, before, answer.0)

  pub stored_named : (k : NodeName) → journals.name_of (node.journal_of (node_in ns k)) ≡ k
  stored_named = subst (λ (s : OwnNodes D). (k : NodeName) → journals.name_of (node.journal_of (node_in s k)) ≡ k) (sym beside) (named p n x stored.changed.fixed.name stored.changed.fixed.limit few old)

  pub stored_limits : journals.limit_of ns.a.journal ≡ journals.limit_of ns.b.journal
  stored_limits = subst (λ (s : OwnNodes D). journals.limit_of s.a.journal ≡ journals.limit_of s.b.journal) (sym beside) (limits p n x stored.changed.fixed.limit)

  pub stored_learned : (k : NodeName) → node.learned_of (node_in ns k) ≤ p.count
  stored_learned = subst (λ (s : OwnNodes D). (k : NodeName) → node.learned_of (node_in s k) ≤ p.count) (sym beside) (learned p n x stored.changed.fixed.name stored.changed.fixed.limit few old)

  pub stored_known : (k : NodeName) → node.known_of (node_in ns k) ≤ p.duty.epoch
  stored_known = subst (λ (s : OwnNodes D). (k : NodeName) → node.known_of (node_in s k) ≤ p.duty.epoch) (sym beside) (known p n x stored.changed.fixed.name stored.changed.fixed.limit few old)

  most_is : journals.limit_of ns.a.journal ≡ journals.limit_of p.nodes.a.journal
  most_is = ap (λ (s : OwnNodes D). journals.limit_of s.a.journal) beside ∙ limit_a p n x stored.changed.fixed.limit

  pub stored_next : (d : Duty) → p.failed ≡ Some d → (d.epoch ≡ p.duty.epoch + 1) × (d.epoch ≤ registers.last_epoch_of p.register) × (d.floor ≤ journals.limit_of ns.a.journal)
  stored_next = subst (λ (most : ℕ). (d : Duty) → p.failed ≡ Some d → (d.epoch ≡ p.duty.epoch + 1) × (d.epoch ≤ registers.last_epoch_of p.register) × (d.floor ≤ most)) (sym most_is) p.next

  pub stored_within : p.count ≤ journals.limit_of ns.a.journal
  stored_within = subst (λ (most : ℕ). p.count ≤ most) (sym most_is) p.within

  pub stored_sent : (index : ℕ) (s : Sent) → slice_get p.messages.items index ≡ Some s → IsSent (journals.limit_of ns.a.journal) p.duty.epoch s
  stored_sent = subst (λ (most : ℕ). (index : ℕ) (s : Sent) → slice_get p.messages.items index ≡ Some s → IsSent most p.duty.epoch s) (sym most_is) p.sent

-- ---- what a look at a place of the messages finds

module _ (xs ys : List Sent) (same : xs ≡ ys) (i : ℕ) where
  there_at : (f s : Sent) → f ≡ s → true ≡ ltb i (length xs) → f ≡ slice_index_or xs i f → slice_get ys i ≡ Some s
  there_at f s is within at = ap (λ (l : List Sent). slice_get l i) (sym same) ∙ slice_get-get_or xs i f (ltb-true i (length xs) (sym within)) ∙ ap Some (sym at ∙ is)

  pub got_some : (r : Option (Bor Sent)) (f : Bor Sent) (s : Sent) → r ≡ Some f → f.now ≡ s → is_some r ≡ ltb i (length xs) → IfSome r (λ x. x.now ≡ slice_index_or xs i x.now) → slice_get ys i ≡ Some s
  got_some r f s is now within at =
      there_at f.now s now (subst (λ (o : Option (Bor Sent)). is_some o ≡ ltb i (length xs)) is within) (subst (λ (o : Option (Bor Sent)). IfSome o (λ x. x.now ≡ slice_index_or xs i x.now)) is at)

  not_within : (n : ℕ) → false ≡ ltb i n → n ≤ i
  not_within n past = by_order (split n i)
    where
      split : (a b : ℕ) → (a ≤ b) ⊎ (b < a)
      split a b = grind arith

      by_order : (n ≤ i) ⊎ (i < n) → n ≤ i
      by_order (inl le) = le
      by_order (inr less) = absurd (no (past ∙ lt-ltb i n less))
        where
          no : false ≡ true → ⊥
          no is = cc

  pub got_none : (r : Option (Bor Sent)) → r ≡ None → is_some r ≡ ltb i (length xs) → slice_get ys i ≡ None
  got_none r is within =
      ap (λ (l : List Sent). slice_get l i) (sym same) ∙ slice_get_past xs i (not_within (length xs) (subst (λ (o : Option (Bor Sent)). is_some o ≡ ltb i (length xs)) is within))

pub no_ack : (o : Option Sent) (sender to : NodeName) (m : OwnMessage) (ack : Ack) → o ≡ Some (sent.Acknowledgement to ack) → o ≡ Some (sent.Shipment sender m) → ⊥
no_ack o sender to m ack one two = absurd (cc)

pub same_message : (o : Option Sent) (s t : NodeName) (m l : OwnMessage) → o ≡ Some (sent.Shipment s m) → o ≡ Some (sent.Shipment t l) → m ≡ l
same_message o s t m l one two = cc
