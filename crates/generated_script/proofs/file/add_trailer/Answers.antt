use Rattle.std.proofs.Common.{◌≡◌, ℕ, List, [], ◌∷◌, ◌++◌, ap, ◌∙◌}
use Rattle.std.specs.Prelude.{codes}
use Rattle.std.proofs.lemmas.Result.{on_ok_weaker}
use Rattle.generated_script.specs.GeneratedScript.{line_of, trailer_line}
use Rattle.generated_script.proofs.file.add_trailer.Goals as goal

-- the trailer with these digits as its count
abbrev line_with : List ℕ → List ℕ
line_with digits = line_of ((14, codes "UTL010124GENCO") ∷ (497, digits) ∷ (1, codes "*") ∷ [])

pub returns : goal.returns
unfolding trailer_line
returns c =
    let old = c.args.bytes.now.items in
    on_ok_weaker c.add_line.result
    (λ (e : c.add_line.new.bytes.items ≡ old ++ line_with c.write_zero_padded.new.out). e ∙ ap (λ digits. old ++ line_with digits) c.write_zero_padded.ensures)
    c.add_line.ensures
