use Rattle.std.proofs.Common.{◌≡◌, ◌+◌, ◌≤◌, [], length, drop}
use Rattle.text_line.specs.WordLines.{with_words}
use Rattle.retrieval.specs.WordLists.{texts, widths}
use Rattle.retrieval.proofs.forms.line_of.Given as goal

-- the words that are left make the line whole
abbrev pub invariant-loop-word : goal.invariant-loop-word
invariant-loop-word l =
    let left = drop l.word-index l.words in
    record {
      line : with_words l.line (texts left) ≡ with_words [] (texts l.words);
      room : length l.line + widths left ≤ widths l.words;
    }
