use Rattle.std.proofs.Common.{arith, ◌-◌, ◌++◌, ◌∷◌, [], take, Ok, refl, sym, ◌∙◌}
use Rattle.node_journal.specs.OpenJournal.{epochs_of, limit_of}
use Rattle.pair_world.specs.Deliveries.{answer}
use Rattle.pair_node.specs.Messages.{as_told}
use Rattle.pair_node.specs.NodeState.{disk_of, journal_of}
use Rattle.pair_node.specs.StoredMessage.{answered}
use Rattle.pair_node.proofs.Changed.{changes_as, stays_same}
use Rattle.pair_node.proofs.Decided.{cut_within, stored_room, after_cut, after_stored, after_other, decided}
use Rattle.pair_node.proofs.node.Node.change.Goals as goal

pub cut_from-requires-clause-number : goal.cut_from-requires-clause-number
cut_from-requires-clause-number g c = cut_within (epochs_of (journal_of c.args.self.now)) c.args.m.now c.in-Cut.k c.requires.number (sym c.requires.decided ∙ c.in-Cut.is)

pub keep-requires-clause-room : goal.keep-requires-clause-room
keep-requires-clause-room g c =
    let j = journal_of c.args.self.now in
    (stored_room (epochs_of j) c.args.m.now c.in-Stored.field-0 (limit_of j) c.requires.number c.requires.fits (sym c.requires.decided ∙ c.in-Stored.is)).0

pub returns-in-Cut-clause-changed : goal.returns-in-Cut-clause-changed
returns-in-Cut-clause-changed g c =
    let old = c.args.self.now in
    let m = c.args.m.now in
    let k = c.in-Cut.k in
    changes_as g.D.Disk.state (take (k - 1)) (answered m) old c.cut_from.new.self c.cut_from.result
    (λ frames has. sym (after_cut frames (as_told m) (answer frames (as_told m)) k (sym (decided (epochs_of (journal_of old)) m frames c.requires.number has) ∙ sym c.requires.decided ∙ c.in-Cut.is)))
    c.cut_from.ensures.cut

pub returns-in-Stored-clause-changed : goal.returns-in-Stored-clause-changed
returns-in-Stored-clause-changed g c =
    let old = c.args.self.now in
    let j = journal_of old in
    let m = c.args.m.now in
    let ack = c.in-Stored.field-0 in
    let told = (stored_room (epochs_of j) m ack (limit_of j) c.requires.number c.requires.fits (sym c.requires.decided ∙ c.in-Stored.is)).1 in
    changes_as g.D.Disk.state (λ frames. frames ++ told.0 ∷ []) (answered m) old c.keep.new.self c.keep.result
    (λ frames has. after_stored (epochs_of j) m frames ack told.0 c.requires.number has (sym c.requires.decided ∙ c.in-Stored.is) told.1)
    (c.keep.ensures.kept told.0 told.1)

pub returns-in_default : goal.returns-in_default
returns-in_default g c =
    let state = g.D.Disk.state in
    let old = c.args.self.now in
    let m = c.args.m.now in
    record {
      changed =
          changes_as state (λ frames. frames) (answered m) old old (Ok tt)
          (λ frames has. sym (after_other frames (as_told m) (answer frames (as_told m)) c.args.decided (c.requires.decided ∙ decided (epochs_of (journal_of old)) m frames c.requires.number has) (λ k. c.in_default.not-Cut k) (λ ack. c.in_default.not-Stored ack)))
          (stays_same state old tt (g.met.D.Disk.sound (disk_of old)) c.requires.usable);
      table = record { stays = λ within. (refl, refl); empties = λ gone. absurd (omega (arith, old.behind, gone)) };
      known = refl;
      failing = λ is. absurd (cc);
    }
