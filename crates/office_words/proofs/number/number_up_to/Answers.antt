use Rattle.std.proofs.Common.{◌≡◌, ℕ, true, List, rules, sym, subst, arith}
use Rattle.office_words.specs.Numbers.{is_number}
use Rattle.office_words.proofs.Numerals.{refused}
use Rattle.office_words.proofs.number.number_up_to.Goals as goal

pub returns-in-Err : goal.returns-in-Err
returns-in-Err c =
    let bytes : is_number c.as_bytes.result.now ≡ true = search rules in
    let number : is_number c.args.text.now ≡ true = subst (λ (t : List ℕ). is_number t ≡ true) c.as_bytes.ensures.value bytes in
    sym (refused c.args.most c.args.text.now number c.in-Err.field-0 c.in-Err.ensures.value.0 (omega arith))
