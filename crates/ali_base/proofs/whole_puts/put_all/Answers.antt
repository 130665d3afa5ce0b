use Rattle.std.proofs.Common.{arith}
use Rattle.ali_base.proofs.PutBytes.{put_more}
use Rattle.ali_base.proofs.whole_puts.put_all.Goals as goal

pub loop-rest-preserved : goal.loop-rest-preserved
loop-rest-preserved g c =
    let contents = g.K.Sink.contents in
    let so_far = c.loop-rest.invariant.put in
    let took = c.in-Took.ensures in
    record {
      put = put_more c.args.text.now c.loop-rest.rest.now so_far.0 c.in-Took.count
          (contents c.args.sink.now) (contents c.loop-rest.sink) (contents c.put.new.self)
          so_far.1 so_far.2 took.within so_far.3 took.bytes;
      later = omega arith;
    }
