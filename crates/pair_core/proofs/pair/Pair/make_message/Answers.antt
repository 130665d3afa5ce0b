use Rattle.pair_core.proofs.PairMessages.{not_made}
use Rattle.pair_core.proofs.pair.Pair.make_message.Goals as goal

pub returns-in-Err : goal.returns-in-Err
returns-in-Err g c =
    not_made g.D.Disk.state c.args.self.now c.read_node.new.self c.not_read.new.self c.args.n c.args.k c.in-Err.fault c.not_read.result c.in-Err.ensures.answer c.in-Err.ensures.read c.in-Err.ensures.beside c.not_read.ensures
