use Rattle.std.proofs.Common.{◌≡◌, ◌∙◌, ℕ, ◌-◌, length, refl, sym, ap, subst, Option, Err, false}
use Rattle.std.specs.Prelude.{slice_get}
use Rattle.ali_base.specs.declared.names.NodeName.TheVariants.{A}
use Rattle.crash_disk.proofs.Runs.{stays_here}
use Rattle.office_entry.specs.declared.entry.Entry.{Entry}
use Rattle.pair_world.specs.Refusals as refusals
use Rattle.pair_world.specs.Step.{Deliver}
use Rattle.pair_world.specs.World.{Message}
use Rattle.world_rows.specs.Rows.{Gives}
use Rattle.world_rows.specs.Told.{Failed, Refused}
use Rattle.world_rows.specs.WorldRows.{message_row}
use Rattle.pair_core.specs.Pair.{counts_of, sent_of}
use Rattle.pair_core.specs.PairAnswers.{DeliverCauses, DeliverKeeps}
use Rattle.pair_core.specs.declared.faults.PairFault.TheVariants as fault
use Rattle.pair_core.specs.declared.sent.Sent.{Sent}
use Rattle.pair_core.specs.declared.sent.Sent.TheVariants as sent
use Rattle.pair_core.proofs.PairMessages.{still_moments}
use Rattle.pair_core.proofs.PairReceived as receiving
use Rattle.pair_core.proofs.PairShipped.{many}
use Rattle.pair_core.proofs.PairStored.{got_some, got_none}
use Rattle.pair_core.proofs.PairBeside.{delivered_here, heard_keeps}
use Rattle.pair_core.proofs.pair.Pair.deliver.Goals as goal

pub deliver_ack-requires : goal.deliver_ack-requires
deliver_ack-requires g c =
    let at = got_some c.deref.result.now c.args.self.now.messages.items c.deref.ensures.value (c.args.i - 1) c.get.result c.in-Some-Acknowledgement.field-0 (sent.Acknowledgement c.in-Some-Acknowledgement.to c.in-Some-Acknowledgement.ack) c.in-Some-Acknowledgement.is c.in-Some-Acknowledgement.field-0-is c.get.ensures.lookup.0 c.get.ensures.lookup.1 in
    (c.args.self.now.sent (c.args.i - 1) (sent.Acknowledgement c.in-Some-Acknowledgement.to c.in-Some-Acknowledgement.ack) at).0

pub returns-in-None-clause-does : goal.returns-in-None-clause-does
returns-in-None-clause-does g c limits w shown lawful =
    let state = g.D.Disk.state in
    let p = c.args.self.now in
    let none = got_none c.deref.result.now c.args.self.now.messages.items c.deref.ensures.value (c.args.i - 1) c.get.result c.in-None.is c.get.ensures.lookup.0 in
    let long : c.len.result ≡ length w.base.messages = c.len.ensures ∙ sym c.deref.ensures.len ∙ ap length c.deref.ensures.value ∙ many state limits p w shown in (
      w,
      shown,
      (
        false,
        subst (λ (o : Option (Message Entry)). Gives (counts_of state p) (counts_of state p) Failed w (message_row limits w c.args.i o) (Refused (refusals.No_message c.args.i c.len.result)) w)
            (sym (receiving.none_there state limits p w A shown c.args.i c.requires none))
            (ap (λ (n : ℕ). Refused (refusals.No_message c.args.i n)) long, refl),
      ),
    )

pub returns-in-None-clause-moments : goal.returns-in-None-clause-moments
returns-in-None-clause-moments g c limits w shown lawful =
    let moments = still_moments g.D.Disk.state limits c.args.self.now c.args.self.now w w.base.messages (Deliver c.args.i) shown g.met.D.Disk.sound (λ disk. stays_here _) in
    record { a = moments.a; b = moments.b; duty = moments.duty }

pub returns-in-None-clause-causes : goal.returns-in-None-clause-causes
returns-in-None-clause-causes g c =
    let p = c.args.self.now in
    let none = got_none c.deref.result.now c.args.self.now.messages.items c.deref.ensures.value (c.args.i - 1) c.get.result c.in-None.is c.get.ensures.lookup.0 in
    let long : c.len.result ≡ length (sent_of p) = c.len.ensures ∙ sym c.deref.ensures.len ∙ ap length c.deref.ensures.value in
    subst (λ (o : Option Sent). DeliverCauses g.D.Disk.state p p c.args.i o (Err (fault.NoMessage c.args.i c.len.result))) (sym none) (ap (λ (n : ℕ). Err (fault.NoMessage c.args.i n)) long, refl)

pub returns-in-Some-Acknowledgement-clause-does : goal.returns-in-Some-Acknowledgement-clause-does
returns-in-Some-Acknowledgement-clause-does g c limits w shown lawful =
    let at = got_some c.deref.result.now c.args.self.now.messages.items c.deref.ensures.value (c.args.i - 1) c.get.result c.in-Some-Acknowledgement.field-0 (sent.Acknowledgement c.in-Some-Acknowledgement.to c.in-Some-Acknowledgement.ack) c.in-Some-Acknowledgement.is c.in-Some-Acknowledgement.field-0-is c.get.ensures.lookup.0 c.get.ensures.lookup.1 in
    receiving.ack_does g.D.Disk.state limits c.args.self.now w c.args.i c.in-Some-Acknowledgement.to c.in-Some-Acknowledgement.ack shown c.requires ((c.args.self.now.sent (c.args.i - 1) (sent.Acknowledgement c.in-Some-Acknowledgement.to c.in-Some-Acknowledgement.ack) at).0) at c.deliver_ack.new.self c.deliver_ack.result c.deliver_ack.ensures

pub returns-in-Some-Acknowledgement-clause-moments : goal.returns-in-Some-Acknowledgement-clause-moments
returns-in-Some-Acknowledgement-clause-moments g c limits w shown lawful =
    let at = got_some c.deref.result.now c.args.self.now.messages.items c.deref.ensures.value (c.args.i - 1) c.get.result c.in-Some-Acknowledgement.field-0 (sent.Acknowledgement c.in-Some-Acknowledgement.to c.in-Some-Acknowledgement.ack) c.in-Some-Acknowledgement.is c.in-Some-Acknowledgement.field-0-is c.get.ensures.lookup.0 c.get.ensures.lookup.1 in
    let moments = receiving.ack_moments g.D.Disk.state limits c.args.self.now w c.args.i c.in-Some-Acknowledgement.to c.in-Some-Acknowledgement.ack shown c.requires ((c.args.self.now.sent (c.args.i - 1) (sent.Acknowledgement c.in-Some-Acknowledgement.to c.in-Some-Acknowledgement.ack) at).0) at g.met.D.Disk.sound c.deliver_ack.new.self c.deliver_ack.result c.deliver_ack.ensures in
    record { a = moments.a; b = moments.b; duty = moments.duty }

pub returns-in-Some-Acknowledgement-clause-causes : goal.returns-in-Some-Acknowledgement-clause-causes
returns-in-Some-Acknowledgement-clause-causes g c =
    let at = got_some c.deref.result.now c.args.self.now.messages.items c.deref.ensures.value (c.args.i - 1) c.get.result c.in-Some-Acknowledgement.field-0 (sent.Acknowledgement c.in-Some-Acknowledgement.to c.in-Some-Acknowledgement.ack) c.in-Some-Acknowledgement.is c.in-Some-Acknowledgement.field-0-is c.get.ensures.lookup.0 c.get.ensures.lookup.1 in
    subst (λ (o : Option Sent). DeliverCauses g.D.Disk.state c.args.self.now c.deliver_ack.new.self c.args.i o c.deliver_ack.result) (sym at)
    (receiving.ack_causes g.D.Disk.state c.args.self.now c.in-Some-Acknowledgement.to c.in-Some-Acknowledgement.ack c.deliver_ack.new.self c.deliver_ack.result c.deliver_ack.ensures)

pub returns-in-Some-Acknowledgement-clause-call : goal.returns-in-Some-Acknowledgement-clause-call
returns-in-Some-Acknowledgement-clause-call g c =
    receiving.ack_call g.D.Disk.state c.args.self.now c.in-Some-Acknowledgement.to c.in-Some-Acknowledgement.ack c.deliver_ack.new.self c.deliver_ack.result c.deliver_ack.ensures

pub returns-in-None-clause-beside : goal.returns-in-None-clause-beside
returns-in-None-clause-beside g c = delivered_here c.args.self.now (slice_get (sent_of c.args.self.now) (c.args.i - 1))

pub returns-in-Some-Acknowledgement-clause-beside : goal.returns-in-Some-Acknowledgement-clause-beside
returns-in-Some-Acknowledgement-clause-beside g c =
    let at = got_some c.deref.result.now c.args.self.now.messages.items c.deref.ensures.value (c.args.i - 1) c.get.result c.in-Some-Acknowledgement.field-0 (sent.Acknowledgement c.in-Some-Acknowledgement.to c.in-Some-Acknowledgement.ack) c.in-Some-Acknowledgement.is c.in-Some-Acknowledgement.field-0-is c.get.ensures.lookup.0 c.get.ensures.lookup.1 in
    subst (λ (o : Option Sent). DeliverKeeps c.args.self.now c.deliver_ack.new.self o) (sym at)
    (heard_keeps c.args.self.now c.deliver_ack.new.self c.in-Some-Acknowledgement.to c.in-Some-Acknowledgement.ack c.deliver_ack.result c.deliver_ack.ensures)
