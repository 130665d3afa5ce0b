use Rattle.std.proofs.Common.{ap, ◌∙◌}
use Rattle.std.specs.FinMap.{values}
use Rattle.number_table.specs.NumberTable.{NumberTable}
use Rattle.number_table.proofs.RowLists.{values-in_order}
use Rattle.number_table.proofs.rows.Rows.in_order.Goals as goal

pub returns : goal.returns
returns c =
    c.values.ensures.rest ∙ values-in_order c.self.inside.by_tn.entries c.values.ensures.ordered
    ∙ ap (λ (m : NumberTable). values m) c.self.view_is
