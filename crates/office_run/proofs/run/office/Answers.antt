use Rattle.std.proofs.Common.{◌≡◌, ℕ, Some, refl, subst, rules}
use Rattle.ali_base.specs.Faults.{Rose}
use Rattle.generated_script.specs.GeneratedScript.{generated}
use Rattle.office_run.specs.Disks.{disks_of}
use Rattle.office_run.specs.Generated.{Generates}
use Rattle.office_run.proofs.Completeness.{completes, honest_is_sane}
use Rattle.office_run.proofs.GeneratedEnds.{generates_all}
use Rattle.office_run.proofs.GeneratedWords.{count_within, same_numbers}
use Rattle.office_run.proofs.run.office.Goals as goal
use Rattle.office_words.specs.Words.{form_of, texts}
use Rattle.office_words.specs.declared.form.Form.TheVariants.{Generate}

pub generate-requires : goal.generate-requires
generate-requires g c =
    let said : form_of (texts c.args.words.now) ≡ Some (Generate c.in-Ok-Some-Generate.seed c.in-Ok-Some-Generate.count) = search rules in
    record { records = count_within (texts c.args.words.now) c.in-Ok-Some-Generate.seed c.in-Ok-Some-Generate.count said }

pub returns-in-Ok-Some-Run-clause-complete : goal.returns-in-Ok-Some-Run-clause-complete
returns-in-Ok-Some-Run-clause-complete g c is_run =
    let state = g.D.Disk.state in
    let contents = g.K.Sink.contents in
    let run = c.run.ensures in
    let journals = c.an_image_is_read_one_way.ensures in
    let registers = c.an_image_is_read_one_way-2.ensures in
    completes state c.args.a c.args.b c.args.duty c.run.result.1 c.run.result.2 c.run.result.3
    (g.S.Source.left c.run.new.source) (contents c.args.sink.now) (contents c.run.new.sink)
    (Rose (g.S.Source.faults c.args.source.now) (g.S.Source.faults c.run.new.source))
    (Rose (g.K.Sink.faults c.args.sink.now) (g.K.Sink.faults c.run.new.sink))
    (g.S.Source.left c.args.source.now) c.run.result.0 run.exit run.disk_cause run.source_fault run.sink_fault
    (honest_is_sane c.frames_are_known_from_the_image.ensures c.duties_are_known_from_the_image.ensures c.duties_are_counted.ensures
    journals.not_foreign journals.not_damaged registers.not_foreign registers.not_damaged
    state c.args.a c.args.b c.args.duty g.met.D.Disk.sound)

pub returns-in-Ok-Some-Generate-clause-generates : goal.returns-in-Ok-Some-Generate-clause-generates
returns-in-Ok-Some-Generate-clause-generates g c seed count is =
    let state = g.D.Disk.state in
    let contents = g.K.Sink.contents in
    let said : form_of (texts c.args.words.now) ≡ Some (Generate c.in-Ok-Some-Generate.seed c.in-Ok-Some-Generate.count) = search rules in
    let same = same_numbers (form_of (texts c.args.words.now)) c.in-Ok-Some-Generate.seed c.in-Ok-Some-Generate.count seed count said is in
    let P : ℕ → ℕ → Type 0 = λ s n.
    Generates (disks_of state c.args.a c.args.b c.args.duty) (disks_of state c.generate.result.1 c.generate.result.2 c.generate.result.3) (generated s n)
    (contents c.args.sink.now) (contents c.generate.new.sink) c.generate.result.0 in
    (refl, subst (λ s. P s count) same.0 (subst (P c.in-Ok-Some-Generate.seed) same.1 c.generate.ensures.generates))

pub returns-in-Ok-Some-Generate-clause-generates_all : goal.returns-in-Ok-Some-Generate-clause-generates_all
returns-in-Ok-Some-Generate-clause-generates_all g c seed count is =
    let state = g.D.Disk.state in
    let contents = g.K.Sink.contents in
    let journals = c.an_image_is_read_one_way.ensures in
    let registers = c.an_image_is_read_one_way-2.ensures in
    generates_all state c.args.a c.args.b c.args.duty c.generate.result.1 c.generate.result.2 c.generate.result.3
    (generated c.in-Ok-Some-Generate.seed c.in-Ok-Some-Generate.count) (contents c.args.sink.now) (contents c.generate.new.sink)
    (Rose (g.K.Sink.faults c.args.sink.now) (g.K.Sink.faults c.generate.new.sink)) c.generate.result.0
    c.generate.ensures.generates c.generate.ensures.cause c.generate.ensures.sink_fault
    (honest_is_sane c.frames_are_known_from_the_image.ensures c.duties_are_known_from_the_image.ensures c.duties_are_counted.ensures
    journals.not_foreign journals.not_damaged registers.not_foreign registers.not_damaged
    state c.args.a c.args.b c.args.duty g.met.D.Disk.sound)
