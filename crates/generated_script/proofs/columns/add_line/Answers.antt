use Rattle.std.proofs.Common.{◌∙◌}
use Rattle.generated_script.proofs.ColumnLines.{column_more, line_whole}
use Rattle.generated_script.proofs.columns.add_line.Goals as goal

pub loop-width-preserved : goal.loop-width-preserved
loop-width-preserved c =
    column_more c.args.columns.now c.loop-width.width-index c.loop-width.bytes.items c.add_column.new.bytes.items c.loop-width-test.true c.in_ok-add_column.ensures
    ∙ c.loop-width.invariant

pub returns : goal.returns
returns c =
    c.in_ok-push.ensures.items
    ∙ line_whole c.args.columns.now c.loop-width.width-index c.args.bytes.now.items c.loop-width.bytes.items c.loop-width-test.false c.loop-width.invariant
