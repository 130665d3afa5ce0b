use Rattle.std.proofs.Common.{◌∷◌, length, subst, sym, ◌∙◌, ap, arith, length-append}
use Rattle.commit_log.specs.Opening.{ReadsFirst}
use Rattle.commit_log.specs.Pieces.{ReadsBlock}
use Rattle.commit_log.proofs.Windows.{first_read}
use Rattle.commit_log.proofs.opening.first_commit.Goals as goal

pub returns-in-Some-clause-first : goal.returns-in-Some-clause-first
returns-in-Some-clause-first g c =
    let block = subst (ReadsBlock (g.D.Disk.state c.read_block.new.disk) 0 (length c.args.head.now) c.read_block.new.buffer) c.in-Some.is c.in_ok-block.ensures.block in
    subst (ReadsFirst c.args.head.now (g.D.Disk.state c.args.disk.now)) (sym c.then_some.ensures)
    (first_read c.args.head.now (g.D.Disk.state c.args.disk.now) (g.D.Disk.state c.read_block.new.disk) _ c.read_block.new.buffer c.in-Some.block c.is_same.result
    c.in_ok-block.ensures.stays.content (omega arith) block c.is_same.ensures.0 c.is_same.ensures.1)

pub returns-in-None-clause-first : goal.returns-in-None-clause-first
returns-in-None-clause-first g c image told next rest parts =
    let short = subst (ReadsBlock (g.D.Disk.state c.read_block.new.disk) 0 (length c.args.head.now) c.read_block.new.buffer) c.in-None.is c.in_ok-block.ensures.block image (c.in_ok-block.ensures.stays.content ∙ told) in
    omega (arith, short, ap length parts, length-append c.args.head.now (next ∷ rest))
