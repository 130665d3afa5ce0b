use Rattle.pair_core.proofs.PairStored.{stored_named, stored_limits, stored_learned, stored_known, stored_next, stored_within, stored_sent}
use Rattle.pair_core.proofs.pair.Pair.store_node.Goals as goal

pub invariant_of-self : goal.invariant_of-self
invariant_of-self g c =
    let p = c.args.self.now in
    let s = g.D.Disk.state in
    record {
      named = stored_named s p c.args.n c.store.new.self c.args.m.now c.store.result c.store.ensures.beside c.store.ensures.stored c.requires.epoch;
      limits = stored_limits s p c.args.n c.store.new.self c.args.m.now c.store.result c.store.ensures.beside c.store.ensures.stored c.requires.epoch;
      learned = stored_learned s p c.args.n c.store.new.self c.args.m.now c.store.result c.store.ensures.beside c.store.ensures.stored c.requires.epoch;
      known = stored_known s p c.args.n c.store.new.self c.args.m.now c.store.result c.store.ensures.beside c.store.ensures.stored c.requires.epoch;
      counted = p.counted;
      present = p.present;
      next = stored_next s p c.args.n c.store.new.self c.args.m.now c.store.result c.store.ensures.beside c.store.ensures.stored c.requires.epoch;
      within = stored_within s p c.args.n c.store.new.self c.args.m.now c.store.result c.store.ensures.beside c.store.ensures.stored c.requires.epoch;
      floor = p.floor;
      few = p.few;
      sent = stored_sent s p c.args.n c.store.new.self c.args.m.now c.store.result c.store.ensures.beside c.store.ensures.stored c.requires.epoch;
    }
