use Rattle.std.proofs.Common.{◌≡◌, List, [], ◌∷◌, ap, subst}
use Rattle.command_desk.specs.MadeReply.{command_of}
use Rattle.generated_script.specs.GeneratedScript.{street_commands, street_edit}
use Rattle.office_commands.specs.Commands.{Command, Batch, Edit}
use Rattle.office_run.specs.Carrying.{Fills, IsLeft}
use Rattle.office_run.proofs.Filling.{fills_stop, fills_then, left_more}
use Rattle.office_run.proofs.generate.fill_street.Goals as goal

-- the two commands of a street
two : (command : Command) (street : _) → command ≡ Edit 1 street (street_edit street) → (command ∷ Batch ∷ []) ≡ street_commands street
two command street is = ap (λ z. z ∷ Batch ∷ []) is

pub returns-in_err-carry-clause-fills : goal.returns-in_err-carry-clause-fills
returns-in_err-carry-clause-fills g c =
    let state = g.D.Disk.state in
    let edit : List Command = command_of c.street_command.result ∷ [] in
    let left = left_more state c.args.desk.now c.carry.new.desk edit (Batch ∷ []) c.in_err-carry.ensures.fills in
    let P : List Command → Type 0 = λ z. IsLeft state c.args.desk.now c.carry.new.desk z in
    fills_stop state c.args.desk.now c.carry.new.desk (street_commands c.args.street) c.args.tally.now c.carry.new.tally c.from_residual.result c.from_residual.ensures.0
    (subst P (two (command_of c.street_command.result) c.args.street (ap command_of c.street_command.ensures.command)) left)

pub returns-clause-fills : goal.returns-clause-fills
returns-clause-fills g c =
    let state = g.D.Disk.state in
    let edit : List Command = command_of c.street_command.result ∷ [] in
    let all = fills_then state c.args.desk.now c.carry.new.desk c.carry-2.new.desk edit (Batch ∷ []) c.args.tally.now c.carry.new.tally c.carry-2.new.tally c.carry-2.result
    c.in_ok-carry.ensures.fills c.carry-2.ensures.fills in
    let P : List Command → Type 0 = λ z. Fills state c.args.desk.now c.carry-2.new.desk z c.args.tally.now c.carry-2.new.tally c.carry-2.result in
    subst P (two (command_of c.street_command.result) c.args.street (ap command_of c.street_command.ensures.command)) all
