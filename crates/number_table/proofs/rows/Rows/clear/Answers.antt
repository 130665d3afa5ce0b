use Rattle.std.proofs.Common.{rules, ap, sym, ◌∙◌}
use Rattle.number_table.specs.NumberTable.{unlocked_in}
use Rattle.number_table.proofs.HeldLists.{map_of}
use Rattle.number_table.proofs.UnlockedRows.{unlocked-none}
use Rattle.number_table.proofs.rows.Rows.clear.Goals as goal

pub invariant_of-self : goal.invariant_of-self
invariant_of-self c = (search rules, sym (ap (λ es. unlocked_in (map_of es)) c.clear.ensures.empty ∙ unlocked-none))
