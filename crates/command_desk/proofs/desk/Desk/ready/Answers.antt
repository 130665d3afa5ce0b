use Rattle.std.proofs.Common.{refl}
use Rattle.command_desk.specs.declared.desk.Desk.{Desk}
use Rattle.command_desk.proofs.Readying.{is_ready, not_ready, readies, ready_refused, ready_undone}
use Rattle.command_desk.proofs.desk.Desk.ready.Goals as goal
use Rattle.pair_core.specs.Pair.{table_of}

pub returns-in-Ok-clause-leads : goal.returns-in-Ok-clause-leads
returns-in-Ok-clause-leads g c =
    let old = c.args.self.now in
    let new : Desk g.row.D.Denot = record { pair = c.ready.new.self; job = old.job } in
    let has = is_ready g.D.Disk.state old new c.args.n c.in-Ok.ensures.beside c.in-Ok.ensures.causes in
    readies g.D.Disk.state old new c.in-Ok.ensures.call refl c.args.n c.in-Ok.ensures.does has.duty has.up has.learned

pub returns-in-Ok-clause-switches : goal.returns-in-Ok-clause-switches
returns-in-Ok-clause-switches g c =
    let old = c.args.self.now in
    let new : Desk g.row.D.Denot = record { pair = c.ready.new.self; job = old.job } in
    let has = is_ready g.D.Disk.state old new c.args.n c.in-Ok.ensures.beside c.in-Ok.ensures.causes in
    (has.none, has.switches, has.count, has.long, has.duty_same)

pub returns-in-Ok-clause-learned : goal.returns-in-Ok-clause-learned
returns-in-Ok-clause-learned g c =
    let old = c.args.self.now in
    let new : Desk g.row.D.Denot = record { pair = c.ready.new.self; job = old.job } in
    let has = is_ready g.D.Disk.state old new c.args.n c.in-Ok.ensures.beside c.in-Ok.ensures.causes in
    (has.learned, has.up)

pub returns-in_ok-refused-in-Err-clause-leads : goal.returns-in_ok-refused-in-Err-clause-leads
returns-in_ok-refused-in-Err-clause-leads g c =
    let old = c.args.self.now in
    let new : Desk g.row.D.Denot = record { pair = c.ready.new.self; job = old.job } in
    let told = c.in_ok-refused-in-Err in
    ready_refused g.D.Disk.state old new c.in-Err.ensures.call refl c.args.n (table_of new.pair c.args.n).state c.in-Err.fault told.field-0 told.ensures.0 told.ensures.1 c.in-Err.ensures.does

pub returns-in_ok-refused-in-Err-clause-switches : goal.returns-in_ok-refused-in-Err-clause-switches
returns-in_ok-refused-in-Err-clause-switches g c =
    let old = c.args.self.now in
    let new : Desk g.row.D.Denot = record { pair = c.ready.new.self; job = old.job } in
    let told = c.in_ok-refused-in-Err in
    not_ready g.D.Disk.state old new c.args.n c.in-Err.ensures.beside c.in-Err.fault c.in-Err.ensures.causes told.ensures.1 told.field-0 told.ensures.0

pub returns-in_err-refused-in-Err-clause-leads : goal.returns-in_err-refused-in-Err-clause-leads
returns-in_err-refused-in-Err-clause-leads g c =
    let old = c.args.self.now in
    let new : Desk g.row.D.Denot = record { pair = c.ready.new.self; job = old.job } in
    ready_undone g.D.Disk.state old new c.in-Err.ensures.call refl c.args.n (table_of new.pair c.args.n).state c.in-Err.fault c.from_residual.result c.from_residual.ensures.0 c.in_err-refused-in-Err.ensures c.in-Err.ensures.does
