use Rattle.std.proofs.Common.{◌≡◌, rules, inl, inr, subst}
use Rattle.std.specs.Io.KnownBytes.{Keeps}
use Rattle.office_run.specs.InputFaults.{InputStops}
use Rattle.office_run.specs.ScriptInput.{TookAll}
use Rattle.office_run.specs.Serving.{disks_at}
use Rattle.office_run.specs.declared.input.InputFault.{InputFault}
use Rattle.office_run.proofs.Ends.{read_exit}
use Rattle.office_run.proofs.Serving.{idle}
use Rattle.office_run.proofs.run.serve.Goals as goal

pub returns-in-Ok-clause-exit : goal.returns-in-Ok-clause-exit
returns-in-Ok-clause-exit g c =
    let state = g.D.Disk.state in
    let left = g.S.Source.left in
    let contents = g.K.Sink.contents in
    let same : c.in-Ok.script.items ≡ c.deref.result.now = search rules in
    read_exit (disks_at state c.args.desk.now) (disks_at state c.answer_all.new.desk) (left c.args.source.now) (left c.read_all.new.source)
    (contents c.args.sink.now) (contents c.answer_all.new.sink) c.deref.result.now c.answer_all.result
    (subst (TookAll (left c.args.source.now) (left c.read_all.new.source)) same c.in-Ok.ensures.all) c.answer_all.ensures.serves

pub returns-in-Err-NoMemory-clause-exit : goal.returns-in-Err-NoMemory-clause-exit
returns-in-Err-NoMemory-clause-exit g c =
    let held = g.K.Sink.contents c.args.sink.now in
    let P : InputFault → Type 0 = λ fault. InputStops g.S.Source.left g.S.Source.faults c.args.source.now c.read_all.new.source fault in
    let nothing : Keeps held held = search rules in
    inr (inl (idle g.D.Disk.state c.args.desk.now c.requires.opened, subst P c.in-Err-NoMemory.field-0-is c.in-Err-NoMemory.ensures.fault, nothing))

pub returns-in-Err-Failed-clause-exit : goal.returns-in-Err-Failed-clause-exit
returns-in-Err-Failed-clause-exit g c =
    let held = g.K.Sink.contents c.args.sink.now in
    let P : InputFault → Type 0 = λ fault. InputStops g.S.Source.left g.S.Source.faults c.args.source.now c.read_all.new.source fault in
    let nothing : Keeps held held = search rules in
    let stops = subst P c.in-Err-Failed.field-0-is c.in-Err-Failed.ensures.fault in
    (stops.0, nothing, idle g.D.Disk.state c.args.desk.now c.requires.opened)

pub returns-in-Err-TooLong-clause-exit : goal.returns-in-Err-TooLong-clause-exit
returns-in-Err-TooLong-clause-exit g c =
    let held = g.K.Sink.contents c.args.sink.now in
    let P : InputFault → Type 0 = λ fault. InputStops g.S.Source.left g.S.Source.faults c.args.source.now c.read_all.new.source fault in
    let nothing : Keeps held held = search rules in
    (subst P c.in-Err-TooLong.field-0-is c.in-Err-TooLong.ensures.fault, nothing, idle g.D.Disk.state c.args.desk.now c.requires.opened)
