use Rattle.std.proofs.Common.{refl}
use Rattle.command_desk.specs.declared.desk.Desk.{Desk}
use Rattle.command_desk.proofs.Leaving.{not_alone, went_alone as alone_switches}
use Rattle.command_desk.proofs.PassingOn.{alone_ends, went_alone}
use Rattle.command_desk.proofs.desk.Desk.leave_behind.Goals as goal

pub returns-in-Ok-clause-leads : goal.returns-in-Ok-clause-leads
returns-in-Ok-clause-leads g c =
    let old = c.args.self.now in
    let new : Desk _ = record { pair = c.alone.new.self; job = old.job } in
    went_alone g.D.Disk.state old new c.in-Ok.ensures.call refl c.args.fault c.in-Ok.duty c.in-Ok.ensures.does

pub returns-in-Ok-clause-switches : goal.returns-in-Ok-clause-switches
returns-in-Ok-clause-switches g c =
    let old = c.args.self.now in
    let new : Desk _ = record { pair = c.alone.new.self; job = old.job } in
    alone_switches g.D.Disk.state old new c.requires c.in-Ok.ensures.beside c.args.fault c.in-Ok.duty c.in-Ok.ensures.causes

pub returns-in_ok-refused-in-Err-clause-leads : goal.returns-in_ok-refused-in-Err-clause-leads
returns-in_ok-refused-in-Err-clause-leads g c =
    let old = c.args.self.now in
    let new : Desk _ = record { pair = c.alone.new.self; job = old.job } in
    alone_ends g.D.Disk.state old new c.in-Err.ensures.call refl c.args.fault c.in-Err.refusal c.in_ok-refused-in-Err.field-0 c.in_ok-refused-in-Err.ensures c.in-Err.ensures.does

pub returns-in_ok-refused-in-Err-clause-switches : goal.returns-in_ok-refused-in-Err-clause-switches
returns-in_ok-refused-in-Err-clause-switches g c =
    let old = c.args.self.now in
    let new : Desk _ = record { pair = c.alone.new.self; job = old.job } in
    not_alone g.D.Disk.state old new c.requires c.in-Err.ensures.beside c.args.fault c.in-Err.refusal c.in_ok-refused-in-Err.field-0 c.in_ok-refused-in-Err.ensures c.in-Err.ensures.causes
