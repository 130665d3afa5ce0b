use Rattle.pair_node.proofs.Learned.{learns_on}
use Rattle.std.proofs.Common.{◌≤◌, arith}
use Rattle.std.specs.Prelude.{max}
use Rattle.pair_node.specs.NodeState.{disk_of}
use Rattle.pair_node.proofs.node.Node.learn.Goals as goal

pub loop-self-preserved : goal.loop-self-preserved
loop-self-preserved g c =
    let old = c.args.self.now in
    let so_far = c.loop-self.self in
    let now = c.learn_next.new.self in
    let answer = c.in_ok-learn_next.ensures.answer in
    let last : now.learned ≤ max old.learned c.args.upto = grind (arith, answer.0, c.loop-self-test.true) in
    record {
      learns = learns_on g.D.Disk.state old so_far now (g.met.D.Disk.sound (disk_of old)) c.loop-self.invariant.learns c.learn_next.ensures.learns;
      usable = answer.1;
      within = last;
    }

pub returns-in_err-learn_next-clause-learns : goal.returns-in_err-learn_next-clause-learns
returns-in_err-learn_next-clause-learns g c =
    let old = c.args.self.now in
    learns_on g.D.Disk.state old c.loop-self.self c.learn_next.new.self (g.met.D.Disk.sound (disk_of old)) c.loop-self.invariant.learns c.learn_next.ensures.learns
