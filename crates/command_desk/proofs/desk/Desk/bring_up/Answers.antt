use Rattle.std.proofs.Common.{refl}
use Rattle.command_desk.proofs.CatchingUp.{catch_refused_switches, caught_up_switches, length_carries, refusal_carries}
use Rattle.command_desk.proofs.OrderSwitches.{refused_switched}
use Rattle.command_desk.specs.declared.desk.Desk.{Desk}
use Rattle.office_commands.specs.Commands as commands
use Rattle.command_desk.proofs.desk.Desk.bring_up.Goals as goal

pub returns-in-Ok-clause-carries : goal.returns-in-Ok-clause-carries
returns-in-Ok-clause-carries g c =
    let old = c.args.self.now in
    let new : Desk g.row.D.Denot = record { pair = c.catch_up.new.pair; job = old.job } in
    length_carries g.D.Disk.state old new c.in-Ok.ensures.call refl c.in-Ok.len c.in-Ok.ensures.does

pub returns-in-Ok-clause-switches : goal.returns-in-Ok-clause-switches
returns-in-Ok-clause-switches g c =
    let old = c.args.self.now in
    let new : Desk g.row.D.Denot = record { pair = c.catch_up.new.pair; job = old.job } in
    caught_up_switches g.D.Disk.state old new c.in-Ok.ensures.keeps c.in-Ok.len c.in-Ok.ensures.causes c.in-Ok.ensures.beside

pub returns-in-Err-clause-carries : goal.returns-in-Err-clause-carries
returns-in-Err-clause-carries g c =
    let old = c.args.self.now in
    let new : Desk g.row.D.Denot = record { pair = c.catch_up.new.pair; job = old.job } in
    refusal_carries g.D.Disk.state old new c.in-Err.ensures.call refl c.in-Err.fault c.refused.result c.refused.ensures c.in-Err.ensures.does

pub returns-in-Err-clause-switches : goal.returns-in-Err-clause-switches
returns-in-Err-clause-switches g c =
    let old = c.args.self.now in
    let new : Desk g.row.D.Denot = record { pair = c.catch_up.new.pair; job = old.job } in
    refused_switched g.D.Disk.state old new commands.Catch_up c.in-Err.fault c.refused.result c.refused.ensures
    (λ some. catch_refused_switches g.D.Disk.state old new c.in-Err.ensures.keeps c.in-Err.fault c.in-Err.ensures.causes c.in-Err.ensures.beside)
