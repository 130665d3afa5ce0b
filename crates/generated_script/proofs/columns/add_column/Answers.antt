use Rattle.std.proofs.Common.{◌+◌, ◌-◌, [], ◌∷◌, ◌++◌, length, ap, ◌∙◌, arith}
use Rattle.generated_script.proofs.ColumnLines.{space_more}
use Rattle.generated_script.proofs.columns.add_column.Goals as goal

pub loop-preserved : goal.loop-preserved
loop-preserved c =
    let start = c.args.bytes.now.items ++ c.args.text.now in
    let i = c.loop.counter in
    let len = length c.args.text.now in
    record {
      text = c.in_ok-push.ensures.items ∙ ap (λ z. z ++ 32 ∷ []) c.loop.invariant.text ∙ space_more start (i - len) (i + 1 - len) (omega arith);
      end = omega arith;
    }
