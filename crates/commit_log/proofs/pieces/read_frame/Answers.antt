use Rattle.std.proofs.Common.{◌++◌, ◌∷◌, length, subst, sym, ap, arith, length-append}
use Rattle.commit_log.specs.Pieces.{ReadsNext, ReadsBlock}
use Rattle.commit_log.proofs.Windows.{frame_read}
use Rattle.commit_log.proofs.pieces.read_frame.Goals as goal

pub returns-in-Some-clause-frame : goal.returns-in-Some-clause-frame
returns-in-Some-clause-frame g c =
    let block = subst (ReadsBlock (g.D.Disk.state c.read_block.new.disk) c.place_of_frame-place.result c.args.body_len c.read_block.new.buffer) c.in-Some.is c.in_ok-block.ensures.block in
    subst (ReadsNext g.R.BodyReader.is_body (g.R.BodyReader.holds c.args.reader.now) (g.R.BodyReader.holds c.read.new.self) (g.D.Disk.state c.read_block.new.disk) c.args.body_len c.args.number) (sym c.then_some.ensures)
    (frame_read g.R.BodyReader.is_body (g.R.BodyReader.holds c.args.reader.now) (g.R.BodyReader.holds c.read.new.self) (g.D.Disk.state c.read_block.new.disk) c.place_of_frame-place.result c.args.body_len c.args.number _ c.read_block.new.buffer c.in-Some.block c.read.result
    c.place_of_frame-place.ensures (omega arith) block c.read.ensures.answer c.read.ensures.held)

pub returns-in-None-clause-frame : goal.returns-in-None-clause-frame
returns-in-None-clause-frame g c front rest there told body next more long lawful parts =
    let short = subst (ReadsBlock (g.D.Disk.state c.read_block.new.disk) c.place_of_frame-place.result c.args.body_len c.read_block.new.buffer) c.in-None.is c.in_ok-block.ensures.block (front ++ rest) told in
    omega (arith, short, there, c.place_of_frame-place.ensures, long, length-append front rest, ap length parts, length-append body (next ∷ more))
