use Rattle.generated_script.specs.GeneratedScript.{files, files_for, generated, streets}
use Rattle.generated_script.specs.declared.script.TheConstants.{STREETS}
use Rattle.office_run.proofs.Filling.{fills_stop, fills_then, left_more}
use Rattle.office_run.proofs.generate.fill.Goals as goal

pub returns-in_err-fill_streets : goal.returns-in_err-fill_streets
returns-in_err-fill_streets g c =
    let state = g.D.Disk.state in
    let seed = c.args.script.seed in
    let count = c.args.script.count in
    let now = c.fill_streets.new.desk in
    fills_stop state c.args.desk.now now (generated seed count) c.args.tally.now c.fill_streets.new.tally c.from_residual.result c.from_residual.ensures.0
    (left_more state c.args.desk.now now (streets STREETS) (files seed count (files_for count)) c.in_err-fill_streets.ensures.fills)

pub returns : goal.returns
returns g c =
    let state = g.D.Disk.state in
    let rest = files c.args.script.seed c.args.script.count (files_for c.args.script.count) in
    fills_then state c.args.desk.now c.fill_streets.new.desk c.fill_files.new.desk (streets STREETS) rest c.args.tally.now c.fill_streets.new.tally c.fill_files.new.tally c.fill_files.result
    c.in_ok-fill_streets.ensures.fills c.fill_files.ensures
