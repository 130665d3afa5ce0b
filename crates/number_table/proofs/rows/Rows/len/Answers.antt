use Rattle.std.proofs.Common.{ap, sym, ◌∙◌}
use Rattle.std.specs.FinMap.{len}
use Rattle.number_table.proofs.Lookups.{as_many}
use Rattle.number_table.proofs.rows.Rows.len.Goals as goal

pub returns : goal.returns
returns c =
    c.len.ensures.len ∙ sym (as_many c.self.inside.by_tn.entries c.len.ensures.ordered) ∙ ap len c.self.view_is
