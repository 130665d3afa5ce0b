-- Lines by their first words, and the letter of a node as a word.
use Rattle.std.proofs.Common.{◌≡◌, ◌⊎◌, inl, inr, ℕ, ◌==◌, false, cond, List, ◌∷◌, ◌++◌, ap, sym, ◌∙◌, Some, option_and_then}
use Rattle.std.specs.Str.{bytes_eq}
use Rattle.std.proofs.lemmas.Bool.{cases_Bool, cond-true, cond-false}
use Rattle.std.proofs.lemmas.Slice.Eq.{bytes_eq-Decides}
use Rattle.ali_base.specs.NodeNames.{node_of, node_text}
use Rattle.ali_base.specs.declared.names.NodeName.{NodeName}
use Rattle.ali_base.specs.declared.names.NodeName.TheVariants.{A, B}
use Rattle.ali_base.proofs.NodeLetters.{text-node_of}
use Rattle.ali_base.proofs.Steps.{bind_ok, some_is}
use Rattle.text_line.specs.WordReading.{split_once}
use Rattle.text_line.proofs.Splits.{Clear, split_again, split_none}
use Rattle.office_commands.specs.LineReading.{word_alone, by_word, line_in, line_of}
use Rattle.office_commands.specs.declared.command_line.CommandLine.{CommandLine}

-- a line in two parts is read by its first word
pub by_parts : (line word words : List ℕ) → Clear 32 word → line ≡ word ++ 32 ∷ words → line_of line ≡ by_word word words
unfolding line_of
by_parts line word words clear is = ap (line_in line) (ap (split_once 32) is ∙ split_again 32 word words clear)

-- a line without a space is a word alone
pub alone : (line : List ℕ) → Clear 32 line → line_of line ≡ word_alone line
unfolding line_of
alone line clear = ap (line_in line) (split_none 32 line clear)

-- a word is this one, or another
pub this_word : {A : Type 0} (text word : List ℕ) (x y z : A) → cond (bytes_eq text word) x y ≡ z → ((text ≡ word) × (x ≡ z)) ⊎ (y ≡ z)
this_word text word x y z h = elim (cases_Bool (bytes_eq text word)) [
  | inl same ↦ inl ((bytes_eq-Decides text word).0 same, sym (cond-true (bytes_eq text word) x y same) ∙ h)
  | inr other ↦ inr (sym (cond-false (bytes_eq text word) x y other) ∙ h)
]

-- a text by its first word and the words behind it
pub spelled_as : (text word words first rest : List ℕ) → text ≡ word ++ 32 ∷ words → word ≡ first → words ≡ rest → text ≡ first ++ 32 ∷ rest
spelled_as text word words first rest is same behind = is ∙ ap (λ w. w ++ 32 ∷ words) same ∙ ap (λ w. first ++ 32 ∷ w) behind

-- a mark that is no letter of a node does not stand in one
pub node_clear : (sep : ℕ) → (97 == sep) ≡ false → (98 == sep) ≡ false → (n : NodeName) → Clear sep (node_text n)
node_clear sep a b A = (a, tt)
node_clear sep a b B = (b, tt)

-- words that are read as a node are its letter
pub one_node : (told : NodeName → CommandLine) (words : List ℕ) (line : CommandLine) → option_and_then (λ n. Some (told n)) (node_of words) ≡ Some line → (n : NodeName) × (told n ≡ line) × (words ≡ node_text n)
one_node told words line h =
    let node = bind_ok (node_of words) _ line h in
    (node.0, some_is (told node.0) line node.2, text-node_of words node.0 node.1)
