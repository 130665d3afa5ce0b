use Rattle.std.proofs.Common.{ℕ, List, ap, ◌∙◌}
use Rattle.std.specs.Option.{option_map}
use Rattle.number_life.specs.declared.row.Row.{Row}
use Rattle.number_table.specs.HeldRows.{least_held}
use Rattle.number_table.proofs.HeldLists.{first-held}
use Rattle.number_table.proofs.rows.RowsRowMover.least_held.Goals as goal

pub returns-in-Some : goal.returns-in-Some
returns-in-Some c =
    ap (option_map (λ (e : List ℕ × Row). e.0)) c.in-Some.ensures.value
    ∙ first-held c.self.inside.by_tn.entries c.args.r.now c.first_in.ensures.ordered ∙ ap (λ m. least_held m c.args.r.now) c.self.view_is

pub returns-in-None : goal.returns-in-None
returns-in-None c =
    ap (option_map (λ (e : List ℕ × Row). e.0)) c.in-None.ensures.value
    ∙ first-held c.self.inside.by_tn.entries c.args.r.now c.first_in.ensures.ordered ∙ ap (λ m. least_held m c.args.r.now) c.self.view_is
