use Rattle.std.proofs.lemmas.List.Elements.{recursion_from_All}
use Rattle.office_commands.specs.Commands.{IsCommand}
use Rattle.command_machine.proofs.Lawful.{step_keeps, part_keeps, replies_keep}
use Rattle.command_machine.proofs.laws.steps_keep_machines_lawful.Goals as goal

pub returns-clause-step : goal.returns-clause-step
returns-clause-step c m now command told is lawful steps = let k = step_keeps m now command told is lawful steps in (k.lawful, k.grows)

pub returns-clause-part : goal.returns-clause-part
returns-clause-part c m now command told is lawful steps = let k = part_keeps m now command told is lawful steps in (k.lawful, k.grows)

pub returns-clause-all : goal.returns-clause-all
returns-clause-all c m now commands told are lawful replies =
    let k = replies_keep commands m now told (recursion_from_All IsCommand commands are) lawful replies in
    (k.lawful, k.grows)
