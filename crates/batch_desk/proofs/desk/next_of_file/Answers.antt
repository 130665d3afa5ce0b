use Rattle.std.proofs.Common.{◌≡◌, ◌≤◌, Ok, ap, ◌∙◌, sym, subst}
use Rattle.batch_frame.specs.CarrierFile.{CarrierFile}
use Rattle.sequence_once.specs.declared.standing.Standing.TheVariants.{New, Resume}
use Rattle.office_entry.specs.declared.entry.Entry.{Entry}
use Rattle.office_state.specs.Due.{IsDue}
use Rattle.batch_desk.specs.FileJobs.{file_standing, line_entry}
use Rattle.batch_desk.proofs.Files.{new_file, line_within, line_due}
use Rattle.batch_desk.proofs.desk.next_of_file.Goals as goal

pub line_entry-requires : goal.line_entry-requires
line_entry-requires c =
    let line = c.in-Ok-Resume.line in
    let stands : file_standing c.args.office.now.state c.args.job.now ≡ Ok (Resume line) = cc (c.file_standing.ensures.exact, c.in-Ok-Resume.is, c.in-Ok-Resume.field-0-is) in
    subst (λ (file : CarrierFile). (1 ≤ line) × (line ≤ file.count)) (sym c.file.ensures.value) (line_within c.args.office.now.state c.args.job.now line c.file_standing.ensures.sound stands)

pub returns-in-Ok-New-clause-due : goal.returns-in-Ok-New-clause-due
returns-in-Ok-New-clause-due c =
    let s = c.args.office.now.state in
    let stands : file_standing s c.args.job.now ≡ Ok New = cc (c.file_standing.ensures.exact, c.in-Ok-New.is, c.in-Ok-New.field-0-is) in
    subst (λ (e : Entry). IsDue s e) (sym c.opening.ensures) (new_file s c.args.job.now stands)

pub returns-in-Ok-Resume-clause-due : goal.returns-in-Ok-Resume-clause-due
returns-in-Ok-Resume-clause-due c =
    let s = c.args.office.now.state in
    let line = c.in-Ok-Resume.line in
    let stands : file_standing s c.args.job.now ≡ Ok (Resume line) = cc (c.file_standing.ensures.exact, c.in-Ok-Resume.is, c.in-Ok-Resume.field-0-is) in
    subst (λ (e : Entry). IsDue s e) (sym (c.line_entry.ensures ∙ ap (λ (file : CarrierFile). line_entry file line) c.file.ensures.value)) (line_due s c.args.job.now line c.file_standing.ensures.sound stands)
