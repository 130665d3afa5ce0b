use Rattle.std.proofs.Common.{◌≡◌, ◌∙◌, ◌-◌, arith, sym, ap, subst, List, Option, Some, Ok, Err}
use Rattle.std.specs.Prelude.{slice_get}
use Rattle.ali_base.specs.declared.duty.Duty.{Duty}
use Rattle.ali_base.specs.declared.names.DiskName.{DiskName}
use Rattle.crash_disk.proofs.Runs.{stays_here}
use Rattle.office_entry.specs.declared.entry.Entry.{Entry}
use Rattle.pair_world.specs.Refusals.{disk_of}
use Rattle.pair_world.specs.Step.{Deliver}
use Rattle.pair_world.specs.World.{World}
use Rattle.world_rows.specs.Told.{Failed}
use Rattle.world_rows.specs.WorldRows.{deliver_row}
use Rattle.world_rows.specs.WorldSteps.{Comes}
use Rattle.pair_core.specs.Pair.{Shows, node_of, duty_of, counts_of, sent_of}
use Rattle.pair_core.specs.PairAnswers.{DeliverCauses, StoreRest, DeliverKeeps}
use Rattle.pair_core.specs.PairChanges.{IsBesideNode}
use Rattle.pair_core.specs.PairMessages.{IsStoring}
use Rattle.pair_core.specs.PairRefusals as rows
use Rattle.pair_core.specs.declared.faults.PairFault.TheVariants as fault
use Rattle.pair_core.specs.declared.sent.Sent.{Sent}
use Rattle.pair_core.specs.declared.sent.Sent.TheVariants as sent
use Rattle.pair_core.proofs.PairDelivered.{made_by}
use Rattle.pair_core.proofs.PairMessages.{sent_stays, still_moments, messages_here}
use Rattle.pair_core.proofs.PairReceived as receiving
use Rattle.pair_core.proofs.PairShipped.{unless_none}
use Rattle.pair_core.proofs.PairBeside.{beside_keeps, delivered_here, messages_keep, sender_keeps}
use Rattle.pair_core.proofs.pair.Pair.deliver_shipment.Goals as goal

pub returns-in-Some-clause-does : goal.returns-in-Some-clause-does
returns-in-Some-clause-does g c limits w shown lawful =
    receiving.shipment_refused g.D.Disk.state limits c.args.self.now w c.args.i c.args.sender c.requires.there.0 shown c.requires.number c.requires.there.1 c.in-Some.refusal (sym c.shipment_refusal.ensures ∙ c.in-Some.is)

pub returns-in-Some-clause-moments : goal.returns-in-Some-clause-moments
returns-in-Some-clause-moments g c limits w shown lawful =
    let moments = still_moments g.D.Disk.state limits c.args.self.now c.args.self.now w w.base.messages (Deliver c.args.i) shown g.met.D.Disk.sound (λ disk. stays_here _) in
    record { a = moments.a; b = moments.b; duty = moments.duty }

pub returns-then-not-make_room-clause-moments : goal.returns-then-not-make_room-clause-moments
returns-then-not-make_room-clause-moments g c limits w shown lawful =
    let moments = still_moments g.D.Disk.state limits c.args.self.now c.make_room.new.self w w.base.messages (Deliver c.args.i) shown g.met.D.Disk.sound (sent_stays g.D.Disk.state c.args.self.now c.make_room.new.self c.make_room.ensures.beside) in
    record { a = moments.a; b = moments.b; duty = moments.duty }

pub answer-requires-clause-fits : goal.answer-requires-clause-fits
answer-requires-clause-fits g c ack is =
    let old = c.args.self.now in
    let p1 = c.make_room.new.self in
    let p2 = c.store_sent.new.self in
    let m = c.requires.there.0 in
    let at : slice_get (sent_of p1) (c.args.i - 1) ≡ Some _ = ap (λ (l : List Sent). slice_get l (c.args.i - 1)) c.make_room.ensures.sent ∙ c.requires.there.1 in
    let stored = c.in-Ok.ensures.stored c.args.sender m at in
    let made = made_by (node_of p1 c.other-receiver.result) (node_of p2 c.other-receiver.result) m c.in-Ok.delivered stored.answer ack is in
    let before = (old.sent (c.args.i - 1) _ c.requires.there.1).1 in
    let same : (duty_of p2).epoch ≡ (duty_of old).epoch = ap (λ (d : Duty). d.epoch) (c.in-Ok.ensures.beside.duty ∙ c.make_room.ensures.beside.duty) in
    (made.0, omega (arith, made.1, before, same), λ epoch none. absurd (cc))

pub returns-in-Ok-clause-does : goal.returns-in-Ok-clause-does
returns-in-Ok-clause-does g c limits w shown lawful =
    let state = g.D.Disk.state in
    let old = c.args.self.now in
    let p1 = c.make_room.new.self in
    let p2 = c.store_sent.new.self in
    let m = c.requires.there.0 in
    let at = c.requires.there.1 in
    let at1 : slice_get (sent_of p1) (c.args.i - 1) ≡ Some (sent.Shipment c.args.sender m) = ap (λ (l : List Sent). slice_get l (c.args.i - 1)) c.make_room.ensures.sent ∙ at in
    let none = sym c.shipment_refusal.ensures ∙ c.in_default.is in
    let r_is = c.other-receiver.ensures in
    let it = c.in-Ok.delivered in
    let p3 = c.answer.new.self in
    let made = c.answer.result in
    let beside = subst (IsBesideNode p1 p2) r_is c.in-Ok.ensures.beside in
    let stored = subst (λ r. IsStoring state (node_of p1 r) (node_of p2 r) m (Ok it)) r_is (c.in-Ok.ensures.stored c.args.sender m at1) in
    receiving.shipment_done state limits old w c.args.i c.args.sender m shown c.requires.number at p1 p2 c.make_room.ensures.beside c.make_room.ensures.sent none beside it stored p3 made c.answer.ensures.beside c.answer.ensures.answered

pub returns-in-Ok-clause-moments : goal.returns-in-Ok-clause-moments
returns-in-Ok-clause-moments g c limits w shown lawful =
    let state = g.D.Disk.state in
    let old = c.args.self.now in
    let p1 = c.make_room.new.self in
    let p2 = c.store_sent.new.self in
    let m = c.requires.there.0 in
    let at = c.requires.there.1 in
    let at1 : slice_get (sent_of p1) (c.args.i - 1) ≡ Some (sent.Shipment c.args.sender m) = ap (λ (l : List Sent). slice_get l (c.args.i - 1)) c.make_room.ensures.sent ∙ at in
    let none = sym c.shipment_refusal.ensures ∙ c.in_default.is in
    let r_is = c.other-receiver.ensures in
    let it = c.in-Ok.delivered in
    let p3 = c.answer.new.self in
    let made = c.answer.result in
    let beside = subst (IsBesideNode p1 p2) r_is c.in-Ok.ensures.beside in
    let stored = subst (λ r. IsStoring state (node_of p1 r) (node_of p2 r) m (Ok it)) r_is (c.in-Ok.ensures.stored c.args.sender m at1) in
    let moments = receiving.shipment_moments state limits old w c.args.i c.args.sender m shown c.requires.number at p1 p2 c.make_room.ensures.beside c.make_room.ensures.sent none beside g.met.D.Disk.sound (Ok it) stored p3 c.answer.ensures.beside in
    record { a = moments.a; b = moments.b; duty = moments.duty }

pub returns-in-Ok-clause-causes : goal.returns-in-Ok-clause-causes
returns-in-Ok-clause-causes g c =
    let state = g.D.Disk.state in
    let old = c.args.self.now in
    let p1 = c.make_room.new.self in
    let p2 = c.store_sent.new.self in
    let m = c.requires.there.0 in
    let at = c.requires.there.1 in
    let at1 : slice_get (sent_of p1) (c.args.i - 1) ≡ Some (sent.Shipment c.args.sender m) = ap (λ (l : List Sent). slice_get l (c.args.i - 1)) c.make_room.ensures.sent ∙ at in
    let none = sym c.shipment_refusal.ensures ∙ c.in_default.is in
    let r_is = c.other-receiver.ensures in
    let it = c.in-Ok.delivered in
    let p3 = c.answer.new.self in
    let made = c.answer.result in
    let beside = subst (IsBesideNode p1 p2) r_is c.in-Ok.ensures.beside in
    let stored = subst (λ r. IsStoring state (node_of p1 r) (node_of p2 r) m (Ok it)) r_is (c.in-Ok.ensures.stored c.args.sender m at1) in
    subst (λ (o : Option Sent). DeliverCauses state old p3 c.args.i o (Ok (it, made))) (sym at)
    (unless_none (rows.shipment_refusal old c.args.sender) old p3 (Ok (it, made)) (StoreRest state old p3 c.args.sender m (Ok (it, made))) none
    (receiving.store_ok state old p1 p2 c.args.sender m c.make_room.ensures.beside c.make_room.ensures.sent none beside p3 it made c.answer.ensures.beside stored c.answer.ensures.answered))

pub returns-in-Ok-clause-call : goal.returns-in-Ok-clause-call
returns-in-Ok-clause-call g c =
    let state = g.D.Disk.state in
    let old = c.args.self.now in
    let p1 = c.make_room.new.self in
    let p2 = c.store_sent.new.self in
    let m = c.requires.there.0 in
    let at = c.requires.there.1 in
    let at1 : slice_get (sent_of p1) (c.args.i - 1) ≡ Some (sent.Shipment c.args.sender m) = ap (λ (l : List Sent). slice_get l (c.args.i - 1)) c.make_room.ensures.sent ∙ at in
    let none = sym c.shipment_refusal.ensures ∙ c.in_default.is in
    let r_is = c.other-receiver.ensures in
    let it = c.in-Ok.delivered in
    let p3 = c.answer.new.self in
    let made = c.answer.result in
    let beside = subst (IsBesideNode p1 p2) r_is c.in-Ok.ensures.beside in
    let stored = subst (λ r. IsStoring state (node_of p1 r) (node_of p2 r) m (Ok it)) r_is (c.in-Ok.ensures.stored c.args.sender m at1) in
    receiving.store_call state old p1 p2 c.args.sender m c.make_room.ensures.beside c.make_room.ensures.sent none beside p3 it made c.answer.ensures.beside stored

pub returns-in-Err-clause-does : goal.returns-in-Err-clause-does
returns-in-Err-clause-does g c limits w shown lawful =
    let state = g.D.Disk.state in
    let old = c.args.self.now in
    let p1 = c.make_room.new.self in
    let p2 = c.store_sent.new.self in
    let m = c.requires.there.0 in
    let at = c.requires.there.1 in
    let at1 : slice_get (sent_of p1) (c.args.i - 1) ≡ Some (sent.Shipment c.args.sender m) = ap (λ (l : List Sent). slice_get l (c.args.i - 1)) c.make_room.ensures.sent ∙ at in
    let none = sym c.shipment_refusal.ensures ∙ c.in_default.is in
    let r_is = c.other-receiver.ensures in
    let e = c.in-Err.field-0 in
    let beside = subst (IsBesideNode p1 p2) r_is c.in-Err.ensures.beside in
    let stored = subst (λ r. IsStoring state (node_of p1 r) (node_of p2 r) m (Err e)) r_is (c.in-Err.ensures.stored c.args.sender m at1) in
    let d_is = ap disk_of (sym r_is) ∙ sym c.disk_of.ensures in
    subst (λ (d : DiskName). (v : World Entry) × Shows state limits p2 v × Comes (counts_of state old) (counts_of state p2) w (λ lasted u. deliver_row limits u c.args.i) (Some (Failed d)) v) d_is
    (receiving.shipment_fails state limits old w c.args.i c.args.sender m shown c.requires.number at p1 p2 c.make_room.ensures.beside c.make_room.ensures.sent none beside e (g.met.D.Disk.sound _) stored)

pub returns-in-Err-clause-moments : goal.returns-in-Err-clause-moments
returns-in-Err-clause-moments g c limits w shown lawful =
    let state = g.D.Disk.state in
    let old = c.args.self.now in
    let p1 = c.make_room.new.self in
    let p2 = c.store_sent.new.self in
    let m = c.requires.there.0 in
    let at = c.requires.there.1 in
    let at1 : slice_get (sent_of p1) (c.args.i - 1) ≡ Some (sent.Shipment c.args.sender m) = ap (λ (l : List Sent). slice_get l (c.args.i - 1)) c.make_room.ensures.sent ∙ at in
    let none = sym c.shipment_refusal.ensures ∙ c.in_default.is in
    let r_is = c.other-receiver.ensures in
    let e = c.in-Err.field-0 in
    let beside = subst (IsBesideNode p1 p2) r_is c.in-Err.ensures.beside in
    let stored = subst (λ r. IsStoring state (node_of p1 r) (node_of p2 r) m (Err e)) r_is (c.in-Err.ensures.stored c.args.sender m at1) in
    let d_is = ap disk_of (sym r_is) ∙ sym c.disk_of.ensures in
    let moments = receiving.shipment_moments state limits old w c.args.i c.args.sender m shown c.requires.number at p1 p2 c.make_room.ensures.beside c.make_room.ensures.sent none beside g.met.D.Disk.sound (Err e) stored p2 (messages_here p2) in
    record { a = moments.a; b = moments.b; duty = moments.duty }

pub returns-in-Err-clause-causes : goal.returns-in-Err-clause-causes
returns-in-Err-clause-causes g c =
    let state = g.D.Disk.state in
    let old = c.args.self.now in
    let p1 = c.make_room.new.self in
    let p2 = c.store_sent.new.self in
    let m = c.requires.there.0 in
    let at = c.requires.there.1 in
    let at1 : slice_get (sent_of p1) (c.args.i - 1) ≡ Some (sent.Shipment c.args.sender m) = ap (λ (l : List Sent). slice_get l (c.args.i - 1)) c.make_room.ensures.sent ∙ at in
    let none = sym c.shipment_refusal.ensures ∙ c.in_default.is in
    let r_is = c.other-receiver.ensures in
    let e = c.in-Err.field-0 in
    let beside = subst (IsBesideNode p1 p2) r_is c.in-Err.ensures.beside in
    let stored = subst (λ r. IsStoring state (node_of p1 r) (node_of p2 r) m (Err e)) r_is (c.in-Err.ensures.stored c.args.sender m at1) in
    let d_is = ap disk_of (sym r_is) ∙ sym c.disk_of.ensures in
    subst (λ (o : Option Sent). DeliverCauses state old p2 c.args.i o (Err (fault.Fault c.disk_of.result))) (sym at)
    (unless_none (rows.shipment_refusal old c.args.sender) old p2 (Err (fault.Fault c.disk_of.result)) (StoreRest state old p2 c.args.sender m (Err (fault.Fault c.disk_of.result))) none
    (subst (λ (d : DiskName). StoreRest state old p2 c.args.sender m (Err (fault.Fault d))) d_is (receiving.store_err state old p1 p2 c.args.sender m c.make_room.ensures.beside c.make_room.ensures.sent none beside e stored)))

pub returns-in-Err-clause-call : goal.returns-in-Err-clause-call
returns-in-Err-clause-call g c =
    let state = g.D.Disk.state in
    let old = c.args.self.now in
    let p1 = c.make_room.new.self in
    let p2 = c.store_sent.new.self in
    let m = c.requires.there.0 in
    let at = c.requires.there.1 in
    let at1 : slice_get (sent_of p1) (c.args.i - 1) ≡ Some (sent.Shipment c.args.sender m) = ap (λ (l : List Sent). slice_get l (c.args.i - 1)) c.make_room.ensures.sent ∙ at in
    let none = sym c.shipment_refusal.ensures ∙ c.in_default.is in
    let r_is = c.other-receiver.ensures in
    let e = c.in-Err.field-0 in
    let beside = subst (IsBesideNode p1 p2) r_is c.in-Err.ensures.beside in
    let stored = subst (λ r. IsStoring state (node_of p1 r) (node_of p2 r) m (Err e)) r_is (c.in-Err.ensures.stored c.args.sender m at1) in
    let d_is = ap disk_of (sym r_is) ∙ sym c.disk_of.ensures in
    receiving.store_err_call state old p1 p2 c.args.sender m c.make_room.ensures.beside c.make_room.ensures.sent none beside e stored

pub returns-in-Some-clause-beside : goal.returns-in-Some-clause-beside
returns-in-Some-clause-beside g c = delivered_here c.args.self.now (slice_get (sent_of c.args.self.now) (c.args.i - 1))

pub returns-then-not-make_room-clause-beside : goal.returns-then-not-make_room-clause-beside
returns-then-not-make_room-clause-beside g c =
    let old = c.args.self.now in
    let p1 = c.make_room.new.self in
    subst (λ (o : Option Sent). DeliverKeeps old p1 o) (sym c.requires.there.1) (messages_keep old p1 c.make_room.ensures.beside c.args.sender)

pub returns-in-Ok-clause-beside : goal.returns-in-Ok-clause-beside
returns-in-Ok-clause-beside g c =
    let old = c.args.self.now in
    let p1 = c.make_room.new.self in
    let p2 = c.store_sent.new.self in
    let p3 = c.answer.new.self in
    let sender = c.args.sender in
    let r = c.other-receiver.result in
    subst (λ (o : Option Sent). DeliverKeeps old p3 o) (sym c.requires.there.1)
    (messages_keep p2 p3 c.answer.ensures.beside sender
    ∙ sender_keeps p1 p2 sender r c.other-receiver.ensures (beside_keeps p1 p2 r c.in-Ok.ensures.beside)
    ∙ messages_keep old p1 c.make_room.ensures.beside sender)

pub returns-in-Err-clause-beside : goal.returns-in-Err-clause-beside
returns-in-Err-clause-beside g c =
    let old = c.args.self.now in
    let p1 = c.make_room.new.self in
    let p2 = c.store_sent.new.self in
    let sender = c.args.sender in
    let r = c.other-receiver.result in
    subst (λ (o : Option Sent). DeliverKeeps old p2 o) (sym c.requires.there.1)
    (sender_keeps p1 p2 sender r c.other-receiver.ensures (beside_keeps p1 p2 r c.in-Err.ensures.beside)
    ∙ messages_keep old p1 c.make_room.ensures.beside sender)
