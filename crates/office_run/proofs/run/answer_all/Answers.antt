use Rattle.std.proofs.Common.{◌≡◌, ◌≢◌, [], arith, sym}
use Rattle.std.proofs.lemmas.Grind.{common_steps}
use Rattle.std.specs.Io.KnownBytes.{Appends}
use Rattle.ali_base.specs.WholePuts.{AppendsPart}
use Rattle.command_desk.specs.MadeReply.{command_of, replies_of, table_of}
use Rattle.command_machine.specs.ReplyText.{text_of}
use Rattle.office_run.proofs.Serving.{served_none, served_more, served_part, served_some, served_stop, served_all}
use Rattle.office_run.proofs.run.answer_all.Goals as goal

pub loop-rest-init : goal.loop-rest-init
loop-rest-init g c =
    let held = g.K.Sink.contents c.args.sink.now in
    record { served = served_none g.D.Disk.state c.args.script.now held c.args.desk.now; small = omega arith; later = omega arith }

pub returns-in-None-clause-serves : goal.returns-in-None-clause-serves
returns-in-None-clause-serves g c =
    let contents = g.K.Sink.contents in
    let more : c.loop-rest.rest.now ≢ [] = grind (arith, common_steps) in
    served_stop g.D.Disk.state c.args.script.now (contents c.args.sink.now) (contents c.loop-rest.sink) (contents c.loop-rest.sink)
    c.loop-rest.rest.now c.args.desk.now c.loop-rest.desk c.loop-rest.count c.loop-rest.invariant.served
    c.requires.opened more (sym c.in-None.ensures.command)

pub returns-in-Err-clause-serves : goal.returns-in-Err-clause-serves
returns-in-Err-clause-serves g c =
    let contents = g.K.Sink.contents in
    served_some g.D.Disk.state c.args.script.now (contents c.args.sink.now) (contents c.loop-rest.sink) (contents c.loop-rest.sink)
    c.loop-rest.rest.now c.args.desk.now c.loop-rest.desk c.loop-rest.count c.loop-rest.invariant.served
    c.carry_out.new.self (command_of c.in-Some.found.0) c.in-Some.found.1.now c.in-Some.ensures.command
    c.in-Err.field-0 c.requires.opened c.in-Err.ensures.carries c.in-Err.ensures.keeps

pub returns-then-is_err-clause-serves : goal.returns-then-is_err-clause-serves
returns-then-is_err-clause-serves g c =
    let contents = g.K.Sink.contents in
    let told = text_of (replies_of (table_of c.carry_out.new.self) c.carry_out.new.self.job c.in-Ok.told) in
    let part : AppendsPart (contents c.loop-rest.sink) (contents c.put.new.sink) told = grind (arith, common_steps, c.put.ensures.put.part) in
    served_part g.D.Disk.state c.args.script.now (contents c.args.sink.now) (contents c.loop-rest.sink) (contents c.put.new.sink)
    c.loop-rest.rest.now c.args.desk.now c.loop-rest.desk c.loop-rest.count c.loop-rest.invariant.served
    c.carry_out.new.self (command_of c.in-Some.found.0) c.in-Some.found.1.now c.in-Some.ensures.command
    c.in-Ok.told c.requires.opened c.in-Ok.ensures.carries c.in-Ok.ensures.switches c.in-Ok.ensures.keeps part

-- a reply that owns memory is dropped at the end of the turn
pub loop-rest-preserved-else-is_err : goal.loop-rest-preserved-else-is_err
loop-rest-preserved-else-is_err g c =
    let contents = g.K.Sink.contents in
    let told = text_of (replies_of (table_of c.carry_out.new.self) c.carry_out.new.self.job c.in-Ok.told) in
    let whole : Appends (contents c.loop-rest.sink) (contents c.put.new.sink) told = grind (arith, common_steps, c.put.ensures.put.whole) in
    record {
      served = served_more g.D.Disk.state c.args.script.now (contents c.args.sink.now) (contents c.loop-rest.sink) (contents c.put.new.sink)
          c.loop-rest.rest.now c.args.desk.now c.loop-rest.desk c.loop-rest.count c.loop-rest.invariant.served
          c.carry_out.new.self (command_of c.in-Some.found.0) c.in-Some.found.1.now c.in-Some.ensures.command
          c.in-Ok.told c.in-Ok.ensures.carries c.in-Ok.ensures.switches c.in-Ok.ensures.keeps whole;
      small = omega (arith, c.in-Some.ensures.shorter);
      later = omega (arith, c.loop-rest.invariant.later, c.put.ensures.put.later);
    }

-- and one that owns none is not
pub loop-rest-preserved : goal.loop-rest-preserved
loop-rest-preserved g c =
    let contents = g.K.Sink.contents in
    let told = text_of (replies_of (table_of c.carry_out.new.self) c.carry_out.new.self.job c.in-Ok.told) in
    let whole : Appends (contents c.loop-rest.sink) (contents c.put.new.sink) told = grind (arith, common_steps, c.put.ensures.put.whole) in
    record {
      served = served_more g.D.Disk.state c.args.script.now (contents c.args.sink.now) (contents c.loop-rest.sink) (contents c.put.new.sink)
          c.loop-rest.rest.now c.args.desk.now c.loop-rest.desk c.loop-rest.count c.loop-rest.invariant.served
          c.carry_out.new.self (command_of c.in-Some.found.0) c.in-Some.found.1.now c.in-Some.ensures.command
          c.in-Ok.told c.in-Ok.ensures.carries c.in-Ok.ensures.switches c.in-Ok.ensures.keeps whole;
      small = omega (arith, c.in-Some.ensures.shorter);
      later = omega (arith, c.loop-rest.invariant.later, c.put.ensures.put.later);
    }

pub returns-clause-serves : goal.returns-clause-serves
returns-clause-serves g c =
    let contents = g.K.Sink.contents in
    let none : c.loop-rest.rest.now ≡ [] = grind (arith, common_steps) in
    served_all g.D.Disk.state c.args.script.now (contents c.args.sink.now) (contents c.loop-rest.sink) (contents c.loop-rest.sink)
    c.loop-rest.rest.now c.args.desk.now c.loop-rest.desk c.loop-rest.count c.loop-rest.invariant.served
    c.requires.opened none
