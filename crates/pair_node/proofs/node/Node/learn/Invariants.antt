use Rattle.std.proofs.Common.{◌≡◌, ◌≤◌, ◌-◌, true}
use Rattle.std.specs.Prelude.{max}
use Rattle.pair_node.specs.LearnedEntries.{Learns}
use Rattle.pair_node.proofs.node.Node.learn.Given as goal

abbrev pub invariant-loop-self : goal.invariant-loop-self
invariant-loop-self g l =
    record {
      learns : Learns g.D.Disk.state l.fn.self l.self;
      usable : l.self.usable ≡ true;
      within : l.self.learned ≤ max l.fn.self.learned l.upto;
    }

abbrev pub decreases-loop-self : goal.decreases-loop-self
decreases-loop-self g l = l.upto - l.self.learned
