use Rattle.std.proofs.Common.{◌≡◌, ◌∙◌, ap}
use Rattle.clap.specs.Words.{App, found_of, is_simple, matches_of, rows_of, takes}
use Rattle.office_words.specs.Generate.{generate}
use Rattle.office_words.specs.Words.{texts}
use Rattle.office_words.proofs.Generated.{matched, reads}
use Rattle.office_words.proofs.generate.read_generate.Goals as goal

pub want_of_memory-requires : goal.want_of_memory-requires
want_of_memory-requires c =
    let words = texts c.args.words.now in
    c.in-Err.ensures.passes (ap (λ (a : App). takes a words) c.in_ok-command.ensures ∙ (reads words c.requires).taken)

pub returns-in-Ok : goal.returns-in-Ok
returns-in-Ok c =
    let words = texts c.args.words.now in
    let rows : rows_of (found_of c.in-Ok.matches) ≡ matches_of generate words =
    (c.in-Ok.ensures.matches (ap is_simple c.in_ok-command.ensures)).0 ∙ ap (λ (a : App). matches_of a words) c.in_ok-command.ensures in
    c.matched_form.ensures ∙ matched (found_of c.in-Ok.matches) words c.requires rows
