use Rattle.std.proofs.Common.{◌≡◌, ◌∙◌, suc, length, refl, sym, ap, subst, Some, Ok, Err, true}
use Rattle.ali_base.specs.declared.duty.Duty.{Duty}
use Rattle.ali_base.specs.declared.names.DiskName.{DiskName}
use Rattle.office_entry.specs.declared.entry.Entry.{Entry}
use Rattle.pair_world.specs.Changes.{shipped}
use Rattle.pair_world.specs.Refusals.{disk_of}
use Rattle.pair_world.specs.Step.{Deliver}
use Rattle.pair_world.specs.World.{World, other}
use Rattle.world_rows.specs.Counts.{RoseAt}
use Rattle.world_rows.specs.Told.{Failed}
use Rattle.world_rows.specs.WorldSteps.{Comes}
use Rattle.pair_node.specs.Messages.{ack_made}
use Rattle.pair_core.specs.Pair.{Shows, AreMoments, IsCall, node_of, is_node_up, duty_of, sent_of, counts_of}
use Rattle.pair_core.specs.PairAnswers.{passed_told, PassRest, SameSent, KeepsSound}
use Rattle.pair_core.specs.PairChanges.{IsBesideNode}
use Rattle.pair_core.specs.PairMessages.{IsStoring, IsMade, hearing}
use Rattle.pair_core.specs.PairPassing.{pass_row}
use Rattle.pair_core.specs.PairRefusals as rows
use Rattle.pair_core.specs.declared.faults.PairFault.TheVariants as fault
use Rattle.pair_core.specs.declared.pair.Pair.{Pair}
use Rattle.pair_core.proofs.PairDelivered.{made_by}
use Rattle.pair_core.proofs.PairPassed as passing
use Rattle.pair_core.proofs.PairRows.{when_not}
use Rattle.pair_core.proofs.PairShipped.{unless_none}
use Rattle.pair_core.proofs.PairBeside.{beside_keeps, made_keeps, unmade_keeps, unstored_keeps, sound_keeps}
use Rattle.pair_core.proofs.pair.Pair.pass_on.Goals as goal

pub returns-in-Some-clause-does : goal.returns-in-Some-clause-does
returns-in-Some-clause-does g c limits w shown lawful =
    passing.pass_refused g.D.Disk.state limits c.args.self.now w c.args.k shown c.in-Some.refusal (sym c.shipping_refusal.ensures ∙ c.in-Some.is)

pub returns-in-Some-clause-moments : goal.returns-in-Some-clause-moments
returns-in-Some-clause-moments g c limits w shown lawful = passing.pass_none_moments g.D.Disk.state limits c.args.self.now w c.args.k shown g.met.D.Disk.sound

pub returns-in-Err-clause-does : goal.returns-in-Err-clause-does
returns-in-Err-clause-does g c limits w shown lawful =
    let state = g.D.Disk.state in
    let old = c.args.self.now in
    let p1 = c.make_message.new.self in
    let h_is : (duty_of old).holder ≡ w.base.duty.holder = ap (λ (d : Duty). d.holder) shown.duty in
    passing.pass_unmade state limits old w c.args.k shown p1 (sym c.shipping_refusal.ensures ∙ c.in_default.is) c.in-Err.fault
    (subst (λ h. IsMade state old p1 h c.args.k (Err c.in-Err.fault)) h_is c.in-Err.ensures)

pub returns-in-Err-clause-moments : goal.returns-in-Err-clause-moments
returns-in-Err-clause-moments g c limits w shown lawful =
    let state = g.D.Disk.state in
    let old = c.args.self.now in
    let p1 = c.make_message.new.self in
    let h_is : (duty_of old).holder ≡ w.base.duty.holder = ap (λ (d : Duty). d.holder) shown.duty in
    passing.pass_read_moments state limits old w c.args.k shown g.met.D.Disk.sound p1 (Err c.in-Err.fault)
    (subst (λ h. IsMade state old p1 h c.args.k (Err c.in-Err.fault)) h_is c.in-Err.ensures)

pub returns-in-Err-clause-causes : goal.returns-in-Err-clause-causes
returns-in-Err-clause-causes g c =
    let old = c.args.self.now in
    let none = sym c.shipping_refusal.ensures ∙ c.in_default.is in
    unless_none (rows.shipping_refusal old c.args.k) old c.make_message.new.self (Err c.in-Err.fault) (PassRest g.D.Disk.state old c.make_message.new.self (rows.holder old) c.args.k (Err c.in-Err.fault)) none
    (passing.pass_err g.D.Disk.state old c.make_message.new.self c.args.k none c.in-Err.fault c.in-Err.ensures)

pub returns-in-Err-clause-call : goal.returns-in-Err-clause-call
returns-in-Err-clause-call g c =
    passing.made_call g.D.Disk.state c.args.self.now c.make_message.new.self c.args.k (sym c.shipping_refusal.ensures ∙ c.in_default.is) (Err c.in-Err.fault) c.in-Err.ensures

pub returns-in-Some-node_is_down-clause-does : goal.returns-in-Some-node_is_down-clause-does
returns-in-Some-node_is_down-clause-does g c limits w shown lawful =
    let state = g.D.Disk.state in
    let old = c.args.self.now in
    let p1 = c.make_message.new.self in
    let m = c.in-Ok.message in
    let f = c.in-Some-node_is_down.refusal in
    let h_is : (duty_of old).holder ≡ w.base.duty.holder = ap (λ (d : Duty). d.holder) shown.duty in
    passing.pass_other_down state limits old w c.args.k shown p1 (sym c.shipping_refusal.ensures ∙ c.in_default.is) m
    (subst (λ h. IsMade state old p1 h c.args.k (Ok m)) h_is c.in-Ok.ensures) f
    (ap (rows.node_is_down p1) (sym (c.other-receiver.ensures ∙ ap other h_is)) ∙ sym c.node_is_down.ensures ∙ c.in-Some-node_is_down.is)

pub returns-in-Some-node_is_down-clause-moments : goal.returns-in-Some-node_is_down-clause-moments
returns-in-Some-node_is_down-clause-moments g c limits w shown lawful =
    let state = g.D.Disk.state in
    let old = c.args.self.now in
    let p1 = c.make_message.new.self in
    let m = c.in-Ok.message in
    let h_is : (duty_of old).holder ≡ w.base.duty.holder = ap (λ (d : Duty). d.holder) shown.duty in
    passing.pass_read_moments state limits old w c.args.k shown g.met.D.Disk.sound p1 (Ok m)
    (subst (λ h. IsMade state old p1 h c.args.k (Ok m)) h_is c.in-Ok.ensures)

pub returns-in-Some-node_is_down-clause-causes : goal.returns-in-Some-node_is_down-clause-causes
returns-in-Some-node_is_down-clause-causes g c =
    let old = c.args.self.now in
    let p1 = c.make_message.new.self in
    let none = sym c.shipping_refusal.ensures ∙ c.in_default.is in
    let f = c.in-Some-node_is_down.refusal in
    unless_none (rows.shipping_refusal old c.args.k) old p1 (Err f) (PassRest g.D.Disk.state old p1 (rows.holder old) c.args.k (Err f)) none
    (passing.pass_down g.D.Disk.state old p1 c.args.k none c.in-Ok.message c.in-Ok.ensures f (ap (rows.node_is_down p1) (sym c.other-receiver.ensures) ∙ sym c.node_is_down.ensures ∙ c.in-Some-node_is_down.is))

pub returns-in-Some-node_is_down-clause-call : goal.returns-in-Some-node_is_down-clause-call
returns-in-Some-node_is_down-clause-call g c =
    passing.made_call g.D.Disk.state c.args.self.now c.make_message.new.self c.args.k (sym c.shipping_refusal.ensures ∙ c.in_default.is) (Ok c.in-Ok.message) c.in-Ok.ensures

pub hear_answer-requires : goal.hear_answer-requires
hear_answer-requires g c ack is =
    (made_by (node_of c.make_message.new.self c.other-receiver.result) (node_of c.store_node.new.self c.other-receiver.result) c.in-Ok.message c.in-Ok-store_node.delivered c.in-Ok-store_node.ensures.stored.answer ack is).0

pub returns-in-Ok-store_node-clause-does : goal.returns-in-Ok-store_node-clause-does
returns-in-Ok-store_node-clause-does g c limits w shown lawful =
    let state = g.D.Disk.state in
    let old = c.args.self.now in
    let p1 = c.make_message.new.self in
    let p2 = c.store_node.new.self in
    let m = c.in-Ok.message in
    let it = c.in-Ok-store_node.delivered in
    let h_is : (duty_of old).holder ≡ w.base.duty.holder = ap (λ (d : Duty). d.holder) shown.duty in
    let r_is = c.other-receiver.ensures ∙ ap other h_is in
    let up = when_not (is_node_up p1 c.other-receiver.result) (fault.Down (disk_of c.other-receiver.result)) (sym c.node_is_down.ensures ∙ c.in_default-node_is_down.is) in
    subst (λ (q : Pair g.row.D.Denot). (v : World Entry) × Shows state limits q v × Comes (counts_of state old) (counts_of state q) w (λ lasted u. pass_row limits u c.args.k) (Some (passed_told it)) v) (sym c.hear_answer.ensures)
    (passing.pass_done state limits old w c.args.k shown p1 (sym c.shipping_refusal.ensures ∙ c.in_default.is) m
    (subst (λ h. IsMade state old p1 h c.args.k (Ok m)) h_is c.in-Ok.ensures) p2
    (subst (IsBesideNode p1 p2) r_is c.in-Ok-store_node.ensures.beside)
    (subst (λ r. is_node_up p1 r ≡ true) r_is up) it
    (subst (λ r. IsStoring state (node_of p1 r) (node_of p2 r) m (Ok it)) r_is c.in-Ok-store_node.ensures.stored))

pub returns-in-Ok-store_node-clause-moments : goal.returns-in-Ok-store_node-clause-moments
returns-in-Ok-store_node-clause-moments g c limits w shown lawful =
    let state = g.D.Disk.state in
    let old = c.args.self.now in
    let p1 = c.make_message.new.self in
    let p2 = c.store_node.new.self in
    let m = c.in-Ok.message in
    let it = c.in-Ok-store_node.delivered in
    let h_is : (duty_of old).holder ≡ w.base.duty.holder = ap (λ (d : Duty). d.holder) shown.duty in
    let r_is = c.other-receiver.ensures ∙ ap other h_is in
    let up = when_not (is_node_up p1 c.other-receiver.result) (fault.Down (disk_of c.other-receiver.result)) (sym c.node_is_down.ensures ∙ c.in_default-node_is_down.is) in
    let moments = passing.pass_stored_moments state limits old w c.args.k shown p1 (sym c.shipping_refusal.ensures ∙ c.in_default.is) m
    (subst (λ h. IsMade state old p1 h c.args.k (Ok m)) h_is c.in-Ok.ensures) p2
    (subst (IsBesideNode p1 p2) r_is c.in-Ok-store_node.ensures.beside)
    (subst (λ r. is_node_up p1 r ≡ true) r_is up) g.met.D.Disk.sound (Ok it)
    (subst (λ r. IsStoring state (node_of p1 r) (node_of p2 r) m (Ok it)) r_is c.in-Ok-store_node.ensures.stored) in
    let ready : AreMoments state limits old (hearing p2 (ack_made it)) (record w { base = shipped w.base c.args.k }) (Deliver (suc (length w.base.messages))) = record { a = moments.a; b = moments.b; duty = moments.duty } in
    subst (λ (q : Pair g.row.D.Denot). AreMoments state limits old q (record w { base = shipped w.base c.args.k }) (Deliver (suc (length w.base.messages)))) (sym c.hear_answer.ensures) ready

pub returns-in-Ok-store_node-clause-causes : goal.returns-in-Ok-store_node-clause-causes
returns-in-Ok-store_node-clause-causes g c =
    let state = g.D.Disk.state in
    let old = c.args.self.now in
    let p1 = c.make_message.new.self in
    let p2 = c.store_node.new.self in
    let m = c.in-Ok.message in
    let it = c.in-Ok-store_node.delivered in
    let none = sym c.shipping_refusal.ensures ∙ c.in_default.is in
    let r_is = c.other-receiver.ensures in
    let up = when_not (is_node_up p1 c.other-receiver.result) (fault.Down (disk_of c.other-receiver.result)) (sym c.node_is_down.ensures ∙ c.in_default-node_is_down.is) in
    unless_none (rows.shipping_refusal old c.args.k) old c.hear_answer.new.self (Ok it) (PassRest state old c.hear_answer.new.self (rows.holder old) c.args.k (Ok it)) none
    (subst (λ (q : Pair g.row.D.Denot). PassRest state old q (rows.holder old) c.args.k (Ok it)) (sym c.hear_answer.ensures)
    (passing.pass_ok state old p1 c.args.k none m c.in-Ok.ensures p2
    (subst (IsBesideNode p1 p2) r_is c.in-Ok-store_node.ensures.beside)
    (subst (λ r. is_node_up p1 r ≡ true) r_is up) it
    (subst (λ r. IsStoring state (node_of p1 r) (node_of p2 r) m (Ok it)) r_is c.in-Ok-store_node.ensures.stored)))

pub returns-in-Ok-store_node-clause-call : goal.returns-in-Ok-store_node-clause-call
returns-in-Ok-store_node-clause-call g c =
    let state = g.D.Disk.state in
    let old = c.args.self.now in
    let p1 = c.make_message.new.self in
    let p2 = c.store_node.new.self in
    let m = c.in-Ok.message in
    let it = c.in-Ok-store_node.delivered in
    let none = sym c.shipping_refusal.ensures ∙ c.in_default.is in
    let r_is = c.other-receiver.ensures in
    let up = when_not (is_node_up p1 c.other-receiver.result) (fault.Down (disk_of c.other-receiver.result)) (sym c.node_is_down.ensures ∙ c.in_default-node_is_down.is) in
    subst (IsCall state old) (sym c.hear_answer.ensures)
    (passing.heard_on_call state old p1 c.args.k none m c.in-Ok.ensures p2
    (subst (IsBesideNode p1 p2) r_is c.in-Ok-store_node.ensures.beside)
    (subst (λ r. is_node_up p1 r ≡ true) r_is up) it
    (subst (λ r. IsStoring state (node_of p1 r) (node_of p2 r) m (Ok it)) r_is c.in-Ok-store_node.ensures.stored))

pub returns-in-Err-store_node-clause-does : goal.returns-in-Err-store_node-clause-does
returns-in-Err-store_node-clause-does g c limits w shown lawful =
    let state = g.D.Disk.state in
    let old = c.args.self.now in
    let p1 = c.make_message.new.self in
    let p2 = c.store_node.new.self in
    let m = c.in-Ok.message in
    let e = c.in-Err-store_node.field-0 in
    let none = sym c.shipping_refusal.ensures ∙ c.in_default.is in
    let h_is : (duty_of old).holder ≡ w.base.duty.holder = ap (λ (d : Duty). d.holder) shown.duty in
    let r_is = c.other-receiver.ensures ∙ ap other h_is in
    let up = when_not (is_node_up p1 c.other-receiver.result) (fault.Down (disk_of c.other-receiver.result)) (sym c.node_is_down.ensures ∙ c.in_default-node_is_down.is) in
    let rose = passing.rose_over state old p1 c.args.k none m c.in-Ok.ensures p2
    (subst (IsBesideNode p1 p2) c.other-receiver.ensures c.in-Err-store_node.ensures.beside)
    (subst (λ r. is_node_up p1 r ≡ true) c.other-receiver.ensures up) e
    (subst (λ r. IsStoring state (node_of p1 r) (node_of p2 r) m (Err e)) c.other-receiver.ensures c.in-Err-store_node.ensures.stored) in
    subst (λ (d : DiskName). (v : World Entry) × Shows state limits p2 v × Comes (counts_of state old) (counts_of state p2) w (λ lasted u. pass_row limits u c.args.k) (Some (Failed d)) v) (ap disk_of (sym r_is) ∙ sym c.disk_of.ensures)
    (passing.pass_unstored state limits old w c.args.k shown p1 none m
    (subst (λ h. IsMade state old p1 h c.args.k (Ok m)) h_is c.in-Ok.ensures) p2
    (subst (IsBesideNode p1 p2) r_is c.in-Err-store_node.ensures.beside)
    (subst (λ r. is_node_up p1 r ≡ true) r_is up) e (g.met.D.Disk.sound _)
    (subst (λ h. RoseAt (counts_of state old) (counts_of state p2) (disk_of (other h))) h_is rose)
    (subst (λ r. IsStoring state (node_of p1 r) (node_of p2 r) m (Err e)) r_is c.in-Err-store_node.ensures.stored))

pub returns-in-Err-store_node-clause-moments : goal.returns-in-Err-store_node-clause-moments
returns-in-Err-store_node-clause-moments g c limits w shown lawful =
    let state = g.D.Disk.state in
    let old = c.args.self.now in
    let p1 = c.make_message.new.self in
    let p2 = c.store_node.new.self in
    let m = c.in-Ok.message in
    let e = c.in-Err-store_node.field-0 in
    let h_is : (duty_of old).holder ≡ w.base.duty.holder = ap (λ (d : Duty). d.holder) shown.duty in
    let r_is = c.other-receiver.ensures ∙ ap other h_is in
    let up = when_not (is_node_up p1 c.other-receiver.result) (fault.Down (disk_of c.other-receiver.result)) (sym c.node_is_down.ensures ∙ c.in_default-node_is_down.is) in
    passing.pass_stored_moments state limits old w c.args.k shown p1 (sym c.shipping_refusal.ensures ∙ c.in_default.is) m
    (subst (λ h. IsMade state old p1 h c.args.k (Ok m)) h_is c.in-Ok.ensures) p2
    (subst (IsBesideNode p1 p2) r_is c.in-Err-store_node.ensures.beside)
    (subst (λ r. is_node_up p1 r ≡ true) r_is up) g.met.D.Disk.sound (Err e)
    (subst (λ r. IsStoring state (node_of p1 r) (node_of p2 r) m (Err e)) r_is c.in-Err-store_node.ensures.stored)

pub returns-in-Err-store_node-clause-causes : goal.returns-in-Err-store_node-clause-causes
returns-in-Err-store_node-clause-causes g c =
    let state = g.D.Disk.state in
    let old = c.args.self.now in
    let p1 = c.make_message.new.self in
    let p2 = c.store_node.new.self in
    let m = c.in-Ok.message in
    let e = c.in-Err-store_node.field-0 in
    let none = sym c.shipping_refusal.ensures ∙ c.in_default.is in
    let r_is = c.other-receiver.ensures in
    let up = when_not (is_node_up p1 c.other-receiver.result) (fault.Down (disk_of c.other-receiver.result)) (sym c.node_is_down.ensures ∙ c.in_default-node_is_down.is) in
    unless_none (rows.shipping_refusal old c.args.k) old p2 (Err (fault.Fault c.disk_of.result)) (PassRest state old p2 (rows.holder old) c.args.k (Err (fault.Fault c.disk_of.result))) none
    (subst (λ (d : DiskName). PassRest state old p2 (rows.holder old) c.args.k (Err (fault.Fault d))) (ap disk_of (sym r_is) ∙ sym c.disk_of.ensures)
    (passing.pass_failed state old p1 c.args.k none m c.in-Ok.ensures p2
    (subst (IsBesideNode p1 p2) r_is c.in-Err-store_node.ensures.beside)
    (subst (λ r. is_node_up p1 r ≡ true) r_is up) e
    (subst (λ r. IsStoring state (node_of p1 r) (node_of p2 r) m (Err e)) r_is c.in-Err-store_node.ensures.stored)))

pub returns-in-Err-store_node-clause-call : goal.returns-in-Err-store_node-clause-call
returns-in-Err-store_node-clause-call g c =
    let state = g.D.Disk.state in
    let old = c.args.self.now in
    let p1 = c.make_message.new.self in
    let p2 = c.store_node.new.self in
    let m = c.in-Ok.message in
    let e = c.in-Err-store_node.field-0 in
    let none = sym c.shipping_refusal.ensures ∙ c.in_default.is in
    let r_is = c.other-receiver.ensures in
    let up = when_not (is_node_up p1 c.other-receiver.result) (fault.Down (disk_of c.other-receiver.result)) (sym c.node_is_down.ensures ∙ c.in_default-node_is_down.is) in
    passing.pass_call state old p1 c.args.k none m c.in-Ok.ensures p2
    (subst (IsBesideNode p1 p2) r_is c.in-Err-store_node.ensures.beside)
    (subst (λ r. is_node_up p1 r ≡ true) r_is up) (Err e)
    (subst (λ r. IsStoring state (node_of p1 r) (node_of p2 r) m (Err e)) r_is c.in-Err-store_node.ensures.stored)

pub returns-in-Some-clause-beside : goal.returns-in-Some-clause-beside
returns-in-Some-clause-beside g c = let p = c.args.self.now in (refl, sound_keeps p p c.in-Some.refusal (λ k. refl))

pub returns-in-Err-clause-beside : goal.returns-in-Err-clause-beside
returns-in-Err-clause-beside g c = unmade_keeps c.args.self.now c.make_message.new.self g.D.Disk.state (rows.holder c.args.self.now) c.args.k c.in-Err.fault c.in-Err.ensures

pub returns-in-Some-node_is_down-clause-beside : goal.returns-in-Some-node_is_down-clause-beside
returns-in-Some-node_is_down-clause-beside g c =
    let old = c.args.self.now in
    let p1 = c.make_message.new.self in
    let n = rows.holder old in
    let up = passing.passing_up old c.args.k (sym c.shipping_refusal.ensures ∙ c.in_default.is) in (
      (beside_keeps old p1 n c.in-Ok.ensures.beside).1,
      sound_keeps old p1 c.in-Some-node_is_down.refusal (made_keeps old p1 g.D.Disk.state n c.args.k c.in-Ok.message up c.in-Ok.ensures),
    )

pub returns-in-Ok-store_node-clause-beside : goal.returns-in-Ok-store_node-clause-beside
returns-in-Ok-store_node-clause-beside g c =
    let old = c.args.self.now in
    let p1 = c.make_message.new.self in
    let p2 = c.store_node.new.self in
    let stored = (beside_keeps p1 p2 c.other-receiver.result c.in-Ok-store_node.ensures.beside).1 in
    let made = (beside_keeps old p1 (rows.holder old) c.in-Ok.ensures.beside).1 in
    (ap (λ (q : Pair g.row.D.Denot). sent_of q) c.hear_answer.ensures ∙ stored ∙ made, tt)

pub returns-in-Err-store_node-clause-beside : goal.returns-in-Err-store_node-clause-beside
returns-in-Err-store_node-clause-beside g c =
    let old = c.args.self.now in
    let p1 = c.make_message.new.self in
    let p2 = c.store_node.new.self in
    let n = rows.holder old in
    let r = c.other-receiver.result in
    let up = passing.passing_up old c.args.k (sym c.shipping_refusal.ensures ∙ c.in_default.is) in
    subst (λ (d : DiskName). SameSent old p2 × KeepsSound old p2 (fault.Fault d)) (sym c.disk_of.ensures)
    (unstored_keeps old p1 p2 r (made_keeps old p1 g.D.Disk.state n c.args.k c.in-Ok.message up c.in-Ok.ensures) (beside_keeps old p1 n c.in-Ok.ensures.beside).1
    (beside_keeps p1 p2 r c.in-Err-store_node.ensures.beside))
