use Rattle.pair_core.specs.Pair.{handed}
use Rattle.std.proofs.Common.{rules, sym, subst}
use Rattle.std.specs.Io.KnownBytes.{Keeps}
use Rattle.office_run.specs.Disks.{disks_of}
use Rattle.office_run.specs.Exit.{Exit}
use Rattle.office_run.specs.Serving.{disks_at}
use Rattle.office_run.specs.declared.status.Status.{Status}
use Rattle.office_run.proofs.Ends.{exit_since, later, stays_since, are_opened, open_desk, handed_back, refused_exit, served_cause}
use Rattle.office_run.proofs.run.run.Goals as goal

pub serve-status-requires : goal.serve-status-requires
serve-status-requires g c = record {
  opened = open_desk g.D.Disk.state c.args.a c.args.b c.args.duty c.in-Ok.desk c.in-Ok.ensures.0 g.met.D.Disk.sound
      c.frames_are_known_from_the_image.ensures c.duties_are_known_from_the_image.ensures c.in-Ok.ensures.1;
}

pub returns-in-Err-clause-exit : goal.returns-in-Err-clause-exit
returns-in-Err-clause-exit g c =
    let left = g.S.Source.left c.args.source.now in
    let held = g.K.Sink.contents c.args.sink.now in
    let state = g.D.Disk.state in
    let source : Keeps left left = search rules in
    let sink : Keeps held held = search rules in
    let P : Status → Type 0 = λ status. Exit (disks_of state c.args.a c.args.b c.args.duty) (disks_of state c.in-Err.a c.in-Err.b c.in-Err.duty) left left held held status in
    subst P (sym c.not_opened.ensures)
    (refused_exit state c.args.a c.args.b c.args.duty c.in-Err.a c.in-Err.b c.in-Err.duty left left held held source sink c.in-Err.end c.in-Err.ensures.kept)

pub returns-clause-exit : goal.returns-clause-exit
returns-clause-exit g c =
    let state = g.D.Disk.state in
    let before = disks_of state c.args.a c.args.b c.args.duty in
    let from = disks_at state c.in-Ok.desk in
    let now = disks_at state c.serve-status.new.desk in
    let left = g.S.Source.left c.args.source.now in
    let left' = g.S.Source.left c.serve-status.new.source in
    let old = g.K.Sink.contents c.args.sink.now in
    let new = g.K.Sink.contents c.serve-status.new.sink in
    let status = c.serve-status.result in
    let opened = c.in-Ok.ensures.0 in
    let since = exit_since before from now (later state c.args.a c.args.b c.args.duty c.in-Ok.desk opened) left left' old new
    (stays_since state c.args.a c.args.b c.args.duty c.in-Ok.desk opened g.met.D.Disk.sound now) status c.serve-status.ensures.served c.serve-status.ensures.exit in
    handed_back state c.args.a c.args.b c.args.duty c.serve-status.new.desk c.close-a.result.0 c.close-a.result.1 c.close-a.result.2 left left' old new status
    c.close-a.ensures.0 c.close-a.ensures.1 c.close-a.ensures.2 since

pub returns-clause-disk_cause : goal.returns-clause-disk_cause
returns-clause-disk_cause g c =
    let state = g.D.Disk.state in
    served_cause state (handed c.args.a c.args.b c.args.duty) (handed c.close-a.result.0 c.close-a.result.1 c.close-a.result.2) c.serve-status.result c.serve-status.ensures.served
    (are_opened state c.args.a c.args.b c.args.duty c.in-Ok.desk c.in-Ok.ensures.0)
