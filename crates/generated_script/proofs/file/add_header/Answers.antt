use Rattle.std.proofs.Common.{◌≡◌, ℕ, List, [], ◌∷◌, ◌++◌, ap, ◌∙◌}
use Rattle.std.specs.Prelude.{codes}
use Rattle.std.proofs.lemmas.Result.{on_ok_weaker}
use Rattle.generated_script.specs.GeneratedScript.{header_line, line_of}
use Rattle.generated_script.proofs.file.add_header.Goals as goal

-- the header with these digits as its cycle
abbrev line_with : List ℕ → List ℕ
line_with digits = line_of ((14, codes "UHL010124GENCO") ∷ (6, digits) ∷ (491, codes "1") ∷ (1, codes "*") ∷ [])

pub returns : goal.returns
unfolding header_line
returns c =
    let old = c.args.bytes.now.items in
    on_ok_weaker c.add_line.result
    (λ (e : c.add_line.new.bytes.items ≡ old ++ line_with c.write_zero_padded.new.out). e ∙ ap (λ digits. old ++ line_with digits) c.write_zero_padded.ensures)
    c.add_line.ensures
