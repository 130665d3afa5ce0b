use Rattle.std.proofs.Common.{rules, tests}
use Rattle.std.proofs.lemmas.Iterator.Search.{find_from_yields_List}
use Rattle.std.proofs.lemmas.Iterator.Consumers.{YieldsList-from_rest}
use Rattle.number_table.specs.HeldRows.{holds_row}
use Rattle.number_table.proofs.rows.first_in.Goals as goal

pub returns-clause-value : goal.returns-clause-value
returns-clause-value c =
    find_from_yields_List (λ e. holds_row c.args.r.now e.1) _ _ _ c.find.ensures.ran (YieldsList-from_rest c.args.by_tn.now.entries c.iter.ensures.rest) (λ x b q k. search (rules, tests))
