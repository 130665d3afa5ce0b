use Rattle.std.proofs.Common.{ap, sym, ◌∙◌}
use Rattle.std.specs.FinMap.{get}
use Rattle.number_table.proofs.Lookups.{get_row}
use Rattle.number_table.proofs.rows.Rows.get.Goals as goal

pub returns : goal.returns
returns c =
    c.get.ensures.value ∙ sym (get_row c.self.inside.by_tn.entries c.args.tn) ∙ ap (λ m. get m c.args.tn) c.self.view_is
