use Rattle.pair_core.proofs.PairLearned.{failed_learning}
use Rattle.pair_core.proofs.pair.Pair.learn.Goals as goal

pub returns-in-Err-clause-learned : goal.returns-in-Err-clause-learned
returns-in-Err-clause-learned g c =
    let old = c.args.self.now in
    (failed_learning g.D.Disk.state old c.learn_node.new.self c.not_learned.new.self c.args.n c.in-Err.fault c.not_learned.result c.requires (c.in-Err.ensures.learns, c.in-Err.ensures.beside) c.in-Err.ensures.answer.1 c.not_learned.ensures).learned
