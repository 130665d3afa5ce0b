use Rattle.std.proofs.Common.{◌≡◌, ◌-◌, false, length, get_or, sym, ◌∙◌, arith}
use Rattle.std.proofs.lemmas.Bool.Decides.{nat_tests}
use Rattle.std.proofs.lemmas.List.{length-take-le}
use Rattle.std.proofs.lemmas.Grind.{common_steps}
use Rattle.ali_base.specs.Columns.{is_space}
use Rattle.ali_base.proofs.Trimming.{trimmed-front, trimmed-same}
use Rattle.ali_base.proofs.fields.trimmed.Goals as goal

pub returns-then-last-ne32-clause-value : goal.returns-then-last-ne32-clause-value
returns-then-last-ne32-clause-value c =
    let rest = c.loop-rest.rest.now in
    let other : is_space (get_or rest (length rest - 1) 0) ≡ false = grind (arith, nat_tests) in
    sym (trimmed-same rest (length rest - 1) (omega arith) other) ∙ c.loop-rest.invariant.same

pub loop-rest-preserved : goal.loop-rest-preserved
loop-rest-preserved c =
    let rest = c.loop-rest.rest.now in
    let last : get_or rest (length rest - 1) 0 ≡ 32 = grind (arith, common_steps) in
    record {
      same = trimmed-front rest (length rest - 1) (omega arith) last ∙ c.loop-rest.invariant.same;
      shorter = omega (arith, length-take-le (length rest - 1) rest (omega arith));
    }
