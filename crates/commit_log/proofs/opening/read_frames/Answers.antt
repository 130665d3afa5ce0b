use Rattle.std.proofs.Common.{◌+◌, ◌∙◌, refl, subst, arith}
use Rattle.crash_disk.proofs.Runs.{stays_here, stays_on}
use Rattle.commit_log.specs.LogImage.{frame_place}
use Rattle.commit_log.specs.Pieces.{ReadsNext, BuffersBehind}
use Rattle.commit_log.proofs.Openings.{started, one_more, none_there}
use Rattle.commit_log.proofs.opening.read_frames.Goals as goal

pub loop-next-init : goal.loop-next-init
loop-next-init g c = record {
  stays = stays_here (g.D.Disk.state c.args.disk.now);
  faults = omega arith;
  within = omega arith;
  room = omega (arith, c.requires.reader.0);
  capacity = refl;
  buffer = omega arith;
  buffers = c.requires.buffers;
  so_far = started g.R.BodyReader.is_body (g.R.BodyReader.holds c.args.reader.now) c.args.body_len c.args.first.next (g.D.Disk.state c.args.disk.now) c.requires.reader.1;
}

pub loop-next-preserved : goal.loop-next-preserved
loop-next-preserved g c =
    let i = c.loop-next.invariant in
    let frame = subst (ReadsNext g.R.BodyReader.is_body (g.R.BodyReader.holds c.loop-next.reader) (g.R.BodyReader.holds c.read_frame.new.reader) (g.D.Disk.state c.read_frame.new.disk) c.args.body_len (c.loop-next.count + 1)) c.in-Ok-Some.field-0-is c.in-Ok-Some.ensures.frame in
    let buffers = subst (BuffersBehind (g.D.Disk.state c.read_frame.new.disk) (frame_place c.args.body_len (c.loop-next.count + 1 + 1)) c.read_frame.new.buffer) c.in-Ok-Some.field-0-is c.in-Ok-Some.ensures.buffers in
    record {
      stays = stays_on (g.D.Disk.state c.args.disk.now) (g.D.Disk.state c.loop-next.disk) (g.D.Disk.state c.read_frame.new.disk) (g.met.D.Disk.sound c.args.disk.now) i.stays c.in-Ok-Some.ensures.stays;
      faults = omega (arith, i.faults, c.in-Ok-Some.ensures.cause.later);
      within = omega (arith, c.if-number-limit.false);
      room = omega (arith, i.room, c.in-Ok-Some.ensures.room);
      capacity = c.in-Ok-Some.ensures.capacity ∙ i.capacity;
      buffer = omega (arith, i.buffer, c.read_frame.auto.buffer);
      buffers = buffers;
      so_far = one_more g.R.BodyReader.is_body (g.R.BodyReader.holds c.loop-next.reader) (g.R.BodyReader.holds c.read_frame.new.reader) c.args.body_len c.args.first.next c.loop-next.count c.loop-next.next (g.D.Disk.state c.args.disk.now) (g.D.Disk.state c.read_frame.new.disk)
          c.loop-next-test.true (c.in-Ok-Some.ensures.stays.content ∙ i.stays.content) i.so_far c.in-Ok-Some.block.next frame;
    }

pub returns-in-Ok-None-clause-read : goal.returns-in-Ok-None-clause-read
returns-in-Ok-None-clause-read g c head rest long told =
    let i = c.loop-next.invariant in
    let none = subst (ReadsNext g.R.BodyReader.is_body (g.R.BodyReader.holds c.loop-next.reader) (g.R.BodyReader.holds c.read_frame.new.reader) (g.D.Disk.state c.read_frame.new.disk) c.args.body_len (c.loop-next.count + 1)) c.in-Ok-None.field-0-is c.in-Ok-None.ensures.frame in
    none_there g.R.BodyReader.is_body (g.R.BodyReader.holds c.loop-next.reader) (g.R.BodyReader.holds c.read_frame.new.reader) c.args.body_len c.args.first.next c.loop-next.count c.loop-next.next (g.D.Disk.state c.args.disk.now) (g.D.Disk.state c.read_frame.new.disk)
    c.loop-next-test.true (c.in-Ok-None.ensures.stays.content ∙ i.stays.content) i.so_far none c.args.limit i.within head rest long told
