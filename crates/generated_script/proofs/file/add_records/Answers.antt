use Rattle.std.proofs.Common.{◌+◌, ◌-◌, ◌*◌, refl, ◌∙◌, arith}
use Rattle.generated_script.proofs.DrawnRecords.{record_more, records_none, state_next}
use Rattle.generated_script.proofs.file.add_records.Goals as goal

pub loop-i-init : goal.loop-i-init
loop-i-init c = record {
  text = records_none c.args.draws.now.seed c.args.before (c.args.before - c.args.before) c.args.bytes.now.items (omega arith);
  seed = refl;
  state = c.requires.state;
}

pub loop-i-preserved : goal.loop-i-preserved
loop-i-preserved c =
    let seed = c.args.draws.now.seed in
    let i = c.loop-i.i in
    let s = c.draw-house.new.self.state in
    let t = c.draw-street.new.self.state in
    let first = state_next seed (2 * i) (2 * (i + 1) - 1) c.loop-i.draws.state s (omega arith) c.loop-i.invariant.state c.draw-house.ensures.state in
    let second = state_next seed (2 * (i + 1) - 1) (2 * (i + 1)) s t (omega arith) first c.draw-street.ensures.state in
    record {
      text = record_more seed c.args.before i c.draw-house.result c.draw-street.result s t c.args.bytes.now.items c.loop-i.bytes.items c.add_record.new.bytes.items
          c.loop-i.auto.i first c.draw-house.ensures.value second c.draw-street.ensures.value c.loop-i.invariant.text c.in_ok-add_record.ensures;
      seed = c.draw-street.ensures.seed ∙ c.draw-house.ensures.seed ∙ c.loop-i.invariant.seed;
      state = second;
    }
