use Rattle.std.proofs.Common.{sym, subst}
use Rattle.std.specs.Prelude.{slice_get}
use Rattle.node_journal.specs.OpenJournal as journals
use Rattle.pair_node.specs.StoredMessage.{FitsIn}
use Rattle.pair_node.specs.declared.message.Message.{Message}
use Rattle.pair_core.specs.Pair.{node_of}
use Rattle.pair_core.specs.PairMessages.{IsStoring}
use Rattle.pair_core.specs.PairNodes.{node_in}
use Rattle.pair_core.specs.declared.sent.Sent.TheVariants as sent
use Rattle.pair_core.proofs.PairStored.{limit_at, sent_fits, got_some, no_ack, same_message, stored_named, stored_limits, stored_learned, stored_known, stored_next, stored_within, stored_sent}
use Rattle.pair_core.proofs.pair.Pair.store_sent.Goals as goal

pub store-requires-clause-number : goal.store-requires-clause-number
store-requires-clause-number g c =
    let at = got_some c.deref.result.now c.args.self.now.messages.items c.deref.ensures.value c.args.index c.get.result c.in-Some-Shipment.field-0 (sent.Shipment c.in-Some-Shipment.field-0-0 c.in-Some-Shipment.message) c.in-Some-Shipment.is c.in-Some-Shipment.field-0-is c.get.ensures.lookup.0 c.get.ensures.lookup.1 in
    (c.args.self.now.sent c.args.index (sent.Shipment c.in-Some-Shipment.field-0-0 c.in-Some-Shipment.message) at).0

pub store-requires-clause-fits : goal.store-requires-clause-fits
store-requires-clause-fits g c =
    let p = c.args.self.now in
    let m = c.in-Some-Shipment.message in
    let at = got_some c.deref.result.now c.args.self.now.messages.items c.deref.ensures.value c.args.index c.get.result c.in-Some-Shipment.field-0 (sent.Shipment c.in-Some-Shipment.field-0-0 c.in-Some-Shipment.message) c.in-Some-Shipment.is c.in-Some-Shipment.field-0-is c.get.ensures.lookup.0 c.get.ensures.lookup.1 in
    subst (λ limit. FitsIn limit m.number m.what) (sym (limit_at p c.args.n))
    (sent_fits (journals.limit_of p.nodes.a.journal) m.number m.what (p.sent c.args.index (sent.Shipment c.in-Some-Shipment.field-0-0 m) at).2)

pub invariant_of-self : goal.invariant_of-self
invariant_of-self g c =
    let p = c.args.self.now in
    let s = g.D.Disk.state in
    let m = c.in-Some-Shipment.message in
    let at = got_some c.deref.result.now c.args.self.now.messages.items c.deref.ensures.value c.args.index c.get.result c.in-Some-Shipment.field-0 (sent.Shipment c.in-Some-Shipment.field-0-0 c.in-Some-Shipment.message) c.in-Some-Shipment.is c.in-Some-Shipment.field-0-is c.get.ensures.lookup.0 c.get.ensures.lookup.1 in
    let late = (p.sent c.args.index (sent.Shipment c.in-Some-Shipment.field-0-0 m) at).1 in
    record {
      named = stored_named s p c.args.n c.store.new.self m c.store.result c.store.ensures.beside c.store.ensures.stored late;
      limits = stored_limits s p c.args.n c.store.new.self m c.store.result c.store.ensures.beside c.store.ensures.stored late;
      learned = stored_learned s p c.args.n c.store.new.self m c.store.result c.store.ensures.beside c.store.ensures.stored late;
      known = stored_known s p c.args.n c.store.new.self m c.store.result c.store.ensures.beside c.store.ensures.stored late;
      counted = p.counted;
      present = p.present;
      next = stored_next s p c.args.n c.store.new.self m c.store.result c.store.ensures.beside c.store.ensures.stored late;
      within = stored_within s p c.args.n c.store.new.self m c.store.result c.store.ensures.beside c.store.ensures.stored late;
      floor = p.floor;
      few = p.few;
      sent = stored_sent s p c.args.n c.store.new.self m c.store.result c.store.ensures.beside c.store.ensures.stored late;
    }

pub unreachable-requires : goal.unreachable-requires
unreachable-requires g c =
    let at = got_some c.deref.result.now c.args.self.now.messages.items c.deref.ensures.value c.args.index c.get.result c.in-Some-Acknowledgement.field-0 (sent.Acknowledgement c.in-Some-Acknowledgement.field-0-0 c.in-Some-Acknowledgement.field-0-1) c.in-Some-Acknowledgement.is c.in-Some-Acknowledgement.field-0-is c.get.ensures.lookup.0 c.get.ensures.lookup.1 in
    no_ack (slice_get c.args.self.now.messages.items c.args.index) c.requires.there.0 c.in-Some-Acknowledgement.field-0-0 c.requires.there.1 c.in-Some-Acknowledgement.field-0-1 at c.requires.there.2

pub returns-clause-stored : goal.returns-clause-stored
returns-clause-stored g c sender m there =
    let at = got_some c.deref.result.now c.args.self.now.messages.items c.deref.ensures.value c.args.index c.get.result c.in-Some-Shipment.field-0 (sent.Shipment c.in-Some-Shipment.field-0-0 c.in-Some-Shipment.message) c.in-Some-Shipment.is c.in-Some-Shipment.field-0-is c.get.ensures.lookup.0 c.get.ensures.lookup.1 in
    let same = same_message (slice_get c.args.self.now.messages.items c.args.index) c.in-Some-Shipment.field-0-0 sender c.in-Some-Shipment.message m at there in
    subst (λ (l : Message). IsStoring g.D.Disk.state (node_of c.args.self.now c.args.n) (node_in c.store.new.self c.args.n) l c.store.result) same c.store.ensures.stored
