use Rattle.std.proofs.Common.{◌≡◌, ◌∙◌, sym, ap, arith, true}
use Rattle.std.specs.Prelude.{max, is_err}
use Rattle.node_journal.specs.OpenJournal.{epochs_of}
use Rattle.pair_node.specs.NodeState.{journal_of}
use Rattle.pair_node.specs.StoredMessage.{is_change}
use Rattle.pair_node.proofs.Decided.{decided, fresh}
use Rattle.pair_node.proofs.node.Node.store.Goals as goal

pub returns-in-Ok-clause-answer : goal.returns-in-Ok-clause-answer
returns-in-Ok-clause-answer g c =
    let old = c.args.self.now in
    let m = c.args.m.now in
    let known : m.epoch ≡ max old.known m.epoch = grind (arith, c.if-m-self.false) in
    (λ frames has. c.decide-decided.ensures ∙ decided (epochs_of (journal_of old)) m frames c.requires.number has ∙ fresh old.known frames m c.if-m-self.false, known)

pub returns-in-Err-clause-answer : goal.returns-in-Err-clause-answer
returns-in-Err-clause-answer g c =
    let old = c.args.self.now in
    let m = c.args.m.now in
    let failed : is_err c.change.result ≡ true = ap is_err c.in-Err.is in
    (c.in-Err.ensures.known, λ frames has. sym (ap is_change (c.decide-decided.ensures ∙ decided (epochs_of (journal_of old)) m frames c.requires.number has ∙ fresh old.known frames m c.if-m-self.false)) ∙ c.change.ensures.failing failed)
