use Rattle.std.proofs.Common.{ap, ◌∙◌}
use Rattle.number_table.specs.HeldRows.{count_held}
use Rattle.number_table.proofs.HeldLists.{count-held}
use Rattle.number_table.proofs.rows.Rows.count_held.Goals as goal

pub returns : goal.returns
returns c = c.count_in.ensures.value ∙ count-held c.self.inside.by_tn.entries c.args.r.now c.count_in.ensures.ordered ∙ ap (λ m. count_held m c.args.r.now) c.self.view_is
