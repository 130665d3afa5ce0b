use Rattle.std.proofs.Common.{◌+◌, ◌-◌, ◌<◌, drop, arith}
use Rattle.commit_log.proofs.Windows.{block_there, moved}
use Rattle.commit_log.proofs.pieces.read_block.Goals as goal

pub returns-clause-block : goal.returns-clause-block
returns-clause-block g c =
    let piece = c.in_ok-piece.piece in
    let b = c.in_ok-piece.ensures.buffers in
    let few : c.args.body_len < piece.end - piece.at = omega (arith, c.len.ensures, c.if-len-body_len.false) in
    record {
      within = omega (arith, few, b.within);
      shown = λ f told. (drop (c.args.body_len + 1) (drop c.args.place f), block_there c.refilled.new.buffer f piece.at piece.end c.args.place b.within (b.same f told) c.args.body_len few);
      behind = moved (g.D.Disk.state c.refilled.new.disk) c.args.place piece c.refilled.new.buffer (c.args.body_len + 1) _ _ b (omega (arith, few)) (omega arith) (omega arith);
    }
