use Rattle.std.proofs.Common.{ℕ, ◌≤◌, length, List, ◌∙◌, subst, sym, arith}
use Rattle.std.proofs.lemmas.Fmt.{length-decimal-le}
use Rattle.ali_base.proofs.numbers.write_zero_padded.Goals as goal

pub write_right-requires : goal.write_right-requires
write_right-requires c =
    let width = length c.args.out.now in
    let small = length-decimal-le width c.args.number c.requires.some c.requires.room (omega arith) in
    let P : List ℕ → Type 0 = λ digits. length digits ≤ width in
    subst P (sym (c.as_bytes.ensures.value ∙ c.format.ensures.text)) small
