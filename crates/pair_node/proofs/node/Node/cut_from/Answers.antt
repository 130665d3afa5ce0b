use Rattle.std.proofs.Common.{◌-◌, ◌≤◌, arith}
use Rattle.pair_node.proofs.Changed.{epochs_cut, table_cut}
use Rattle.pair_node.proofs.node.Node.cut_from.Goals as goal

pub returns-then-k-self-clause-cut : goal.returns-then-k-self-clause-cut
returns-then-k-self-clause-cut g c = record {
  becomes = λ limits frames before. record {
    journal = c.in-Ok.ensures.closed frames before.journal;
    table = c.clear.ensures.history limits _ before.table;
  };
  moments = c.in-Ok.ensures.moments;
  answer = (λ frames same. epochs_cut (c.args.k - 1) frames _ _ same c.in-Ok.ensures.answer.0, c.requires.usable);
  fixed = c.in-Ok.ensures.fixed;
}

pub returns-else-k-self-clause-cut : goal.returns-else-k-self-clause-cut
returns-else-k-self-clause-cut g c =
    let old = c.args.self.now in
    let within : old.learned ≤ c.args.k - 1 = omega (arith, c.if-k-self.false) in
    record {
      becomes = λ limits frames before. record {
        journal = c.in-Ok.ensures.closed frames before.journal;
        table = table_cut limits old.office old.learned (c.args.k - 1) frames within before.table;
      };
      moments = c.in-Ok.ensures.moments;
      answer = (λ frames same. epochs_cut (c.args.k - 1) frames _ _ same c.in-Ok.ensures.answer.0, c.requires.usable);
      fixed = c.in-Ok.ensures.fixed;
    }
