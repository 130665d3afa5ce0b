use Rattle.std.proofs.Common.{[], ◌∷◌, ◌++◌, ◌+◌, length, drop, sym, ap, ◌∙◌, arith}
use Rattle.std.proofs.lemmas.List.{drop_all}
use Rattle.text_line.specs.WordLines.{with_words}
use Rattle.retrieval.specs.WordLists.{texts}
use Rattle.retrieval.proofs.Words.{line_width, widths_next, line_next}
use Rattle.retrieval.proofs.forms.line_of.Goals as goal

pub add_word-requires : goal.add_word-requires
add_word-requires c = omega (arith, c.requires, c.loop-word.invariant.room, widths_next c.args.words.now c.loop-word.word-index c.loop-word-test.true)

pub loop-word-preserved : goal.loop-word-preserved
loop-word-preserved c =
    let words = c.args.words.now in
    let i = c.loop-word.word-index in
    record {
      line = ap (λ line. with_words line (texts (drop (i + 1) words))) c.add_word.ensures.line ∙ sym (line_next words i c.loop-word.line c.loop-word-test.true) ∙ c.loop-word.invariant.line;
      room = omega (arith, c.loop-word.invariant.room, c.add_word.ensures.len, widths_next words i c.loop-word-test.true);
    }

pub returns-clause-line : goal.returns-clause-line
returns-clause-line c =
    let none = drop_all c.loop-word.word-index c.args.words.now c.loop-word-test.false in
    c.end.ensures ∙ ap (λ line. line ++ 10 ∷ []) (ap (λ left. with_words c.loop-word.line (texts left)) (sym none) ∙ c.loop-word.invariant.line)

pub returns-clause-len : goal.returns-clause-len
returns-clause-len c =
    let none = drop_all c.loop-word.word-index c.args.words.now c.loop-word-test.false in
    let whole = c.end.ensures ∙ ap (λ line. line ++ 10 ∷ []) (ap (λ left. with_words c.loop-word.line (texts left)) (sym none) ∙ c.loop-word.invariant.line) in
    omega (arith, ap length whole, line_width c.args.words.now)
