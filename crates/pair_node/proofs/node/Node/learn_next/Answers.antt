use Rattle.std.proofs.Common.{[], ◌∷◌, refl, sym, subst}
use Rattle.node_journal.specs.OpenJournal.{frame_at}
use Rattle.office_state.specs.History.{Represents}
use Rattle.pair_world.specs.Frames.{entries}
use Rattle.std.proofs.Common.{take}
use Rattle.pair_node.proofs.Learned.{entries_more, still}
use Rattle.pair_node.proofs.node.Node.learn_next.Goals as goal

pub returns-in-Ok-apply-clause-learns : goal.returns-in-Ok-apply-clause-learns
returns-in-Ok-apply-clause-learns g c =
    let state = g.D.Disk.state in
    let old = c.args.self.now in
    let k = old.learned in
    let entry = c.in-Ok.entry in
    record {
      journal = c.in-Ok.ensures.untouched;
      known = refl;
      history = (entry ∷ [], refl, c.in-Ok-apply.ensures.history);
      represents = λ limits frames before.
          let at = c.in-Ok.ensures.answer.1 frames before.journal in
          let same = entries_more frames k (frame_at old.journal _ entry) at in
          record {
            journal = still state old.journal c.read.new.self frames c.in-Ok.ensures.untouched before.journal;
            table = subst (Represents limits c.apply.new.self) (sym same) (c.in-Ok-apply.ensures.history limits (entries (take k frames)) before.table);
          };
    }
