use Rattle.std.proofs.Common.{◌≡◌, [], ◌∷◌, arith}
use Rattle.std.proofs.lemmas.Grind.{common_steps}
use Rattle.command_desk.specs.MadeReply.{command_of, replies_of, table_of}
use Rattle.command_machine.specs.ReplyText.{text_of}
use Rattle.office_run.proofs.Filling.{carried_one, fills_stop, left_in_part, left_whole, tally_one}
use Rattle.office_run.proofs.generate.carry.Goals as goal

pub returns-in_err-told-clause-fills : goal.returns-in_err-told-clause-fills
returns-in_err-told-clause-fills g c =
    let state = g.D.Disk.state in
    let command = command_of c.args.command.now in
    let kept = c.in_err-told.ensures in
    fills_stop state c.args.desk.now c.carry_out.new.self (command ∷ []) c.args.tally.now c.args.tally.now c.from_residual.result c.from_residual.ensures.0
    (left_in_part state c.args.desk.now c.carry_out.new.self command c.in_err-told.field-0.0 kept.carries kept.keeps)

pub returns-then-is_err-clause-fills : goal.returns-then-is_err-clause-fills
returns-then-is_err-clause-fills g c =
    let state = g.D.Disk.state in
    let now = c.carry_out.new.self in
    let command = command_of c.args.command.now in
    let done = c.in_ok-told.ensures in
    let told = replies_of (table_of now) now.job c.in_ok-told.told in
    left_whole state c.args.desk.now now command (told ∷ []) (carried_one state c.args.desk.now now command c.in_ok-told.told done.carries done.switches done.keeps)

pub returns-clause-fills : goal.returns-clause-fills
returns-clause-fills g c =
    let state = g.D.Disk.state in
    let now = c.carry_out.new.self in
    let command = command_of c.args.command.now in
    let done = c.in_ok-told.ensures in
    let told = replies_of (table_of now) now.job c.in_ok-told.told in
    let put : c.put.new.sink.bytes.items ≡ text_of told = grind (arith, common_steps, c.put.ensures.put.whole) in
    let text : c.deref.result.now ≡ text_of told = grind (arith, common_steps, put) in (
      told ∷ [],
      carried_one state c.args.desk.now now command c.in_ok-told.told done.carries done.switches done.keeps,
      tally_one c.args.tally.now c.add.new.self told c.refused_lines.result c.deref.result.now c.add.ensures.refused c.refused_lines.ensures c.add.ensures.replies text,
    )
