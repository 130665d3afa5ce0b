use Rattle.std.proofs.Common.{ℕ, [], ap, ◌∙◌, arith}
use Rattle.std.specs.Fmt.{decimal}
use Rattle.std.proofs.lemmas.Fmt.{decimal_nonempty}
use Rattle.text_line.specs.WordLines.{with_word}
use Rattle.generated_script.proofs.ColumnLines.{two_words}
use Rattle.generated_script.proofs.names.numbered.Goals as goal

pub returns-clause-text : goal.returns-clause-text
returns-clause-text c =
    let word = c.args.word.now in
    c.add_number.ensures.line
    ∙ ap (λ line. with_word line (decimal c.from.result)) (c.add_word.ensures.line ∙ ap (λ line. with_word line word) c.new-line.ensures)
    ∙ ap (λ (n : ℕ). with_word (with_word [] word) (decimal n)) c.from.ensures
    ∙ two_words word (decimal c.args.number) c.requires.0 (decimal_nonempty c.args.number (omega arith))
