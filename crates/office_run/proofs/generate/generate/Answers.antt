use Rattle.std.proofs.Common.{rules, sym, subst}
use Rattle.std.specs.Io.KnownBytes.{Keeps}
use Rattle.generated_script.specs.GeneratedScript.{generated}
use Rattle.office_run.specs.Disks.{disks_of}
use Rattle.office_run.specs.Generated.{Generates}
use Rattle.office_run.specs.Serving.{disks_at}
use Rattle.office_run.specs.declared.status.Status.{Status}
use Rattle.office_run.proofs.Ends.{are_opened, later, open_desk, stays_since}
use Rattle.office_run.proofs.GeneratedEnds.{cause_by_count, generated_back, generates_since, not_generated}
use Rattle.office_run.proofs.generate.generate.Goals as goal
use Rattle.pair_core.specs.Pair.{count_of, handed}

pub generate_at-status-requires-clause-opened : goal.generate_at-status-requires-clause-opened
generate_at-status-requires-clause-opened g c =
    open_desk g.D.Disk.state c.args.a c.args.b c.args.duty c.in-Ok.desk c.in-Ok.ensures.0 g.met.D.Disk.sound
    c.frames_are_known_from_the_image.ensures c.duties_are_known_from_the_image.ensures c.in-Ok.ensures.1

pub returns-in-Err-clause-generates : goal.returns-in-Err-clause-generates
returns-in-Err-clause-generates g c =
    let held = g.K.Sink.contents c.args.sink.now in
    let state = g.D.Disk.state in
    let commands = generated c.args.seed c.args.count in
    let sink : Keeps held held = search rules in
    let P : Status → Type 0 = λ status. Generates (disks_of state c.args.a c.args.b c.args.duty) (disks_of state c.in-Err.a c.in-Err.b c.in-Err.duty) commands held held status in
    subst P (sym c.not_opened.ensures)
    (not_generated state c.args.a c.args.b c.args.duty c.in-Err.a c.in-Err.b c.in-Err.duty commands held held sink c.in-Err.end c.in-Err.ensures.kept)

pub returns-clause-generates : goal.returns-clause-generates
returns-clause-generates g c =
    let state = g.D.Disk.state in
    let before = disks_of state c.args.a c.args.b c.args.duty in
    let from = disks_at state c.in-Ok.desk in
    let now = disks_at state c.generate_at-status.new.desk in
    let old = g.K.Sink.contents c.args.sink.now in
    let new = g.K.Sink.contents c.generate_at-status.new.sink in
    let status = c.generate_at-status.result in
    let opened = c.in-Ok.ensures.0 in
    let commands = generated c.args.seed c.args.count in
    let since = generates_since before from now (later state c.args.a c.args.b c.args.duty c.in-Ok.desk opened) old new
    (stays_since state c.args.a c.args.b c.args.duty c.in-Ok.desk opened g.met.D.Disk.sound now) commands (count_of c.in-Ok.desk.pair) status
    c.generate_at-status.ensures.by_count c.generate_at-status.ensures.generates in
    generated_back state c.args.a c.args.b c.args.duty c.generate_at-status.new.desk c.close-a.result.0 c.close-a.result.1 c.close-a.result.2 commands old new status
    c.close-a.ensures.0 c.close-a.ensures.1 c.close-a.ensures.2 since

pub returns-clause-cause : goal.returns-clause-cause
returns-clause-cause g c =
    let state = g.D.Disk.state in
    let opened = c.in-Ok.ensures.0 in
    cause_by_count state c.args.a c.args.b c.args.duty c.in-Ok.desk opened (handed c.close-a.result.0 c.close-a.result.1 c.close-a.result.2) c.generate_at-status.result
    (are_opened state c.args.a c.args.b c.args.duty c.in-Ok.desk opened) c.generate_at-status.ensures.by_count
