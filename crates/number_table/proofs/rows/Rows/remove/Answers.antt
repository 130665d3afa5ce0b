use Rattle.std.proofs.Common.{◌≡◌, ◌+◌, rules, ap, ◌∙◌, sym, arith}
use Rattle.std.specs.FinMap.{get, remove}
use Rattle.number_table.specs.NumberTable.{unlocked_of, unlocked_in}
use Rattle.number_table.proofs.HeldLists.{map_of}
use Rattle.number_table.proofs.Lookups.{get_row, one_removed}
use Rattle.number_table.proofs.UnlockedRows.{unlocked-remove}
use Rattle.number_table.proofs.rows.Rows.remove.Goals as goal

module _ (c : goal.After-count_of) where
  counted : c.count_of.result ≡ unlocked_of (get (map_of c.self.inside.by_tn.entries) c.args.tn)
  counted = c.count_of.ensures ∙ ap unlocked_of (c.as_ref.ensures.value ∙ c.remove-removed.ensures.value ∙ sym (get_row c.self.inside.by_tn.entries c.args.tn))

  removed : map_of c.remove-removed.new.self.entries ≡ remove (map_of c.self.inside.by_tn.entries) c.args.tn
  removed = one_removed c.self.inside.by_tn.entries c.remove-removed.new.self.entries c.args.tn c.remove-removed.ensures.updates.0

  less : unlocked_in (map_of c.remove-removed.new.self.entries) + c.count_of.result ≡ c.self.inside.unlocked
  less = omega (arith, counted, ap unlocked_in removed, c.self.invariant.1, unlocked-remove (map_of c.self.inside.by_tn.entries) c.args.tn)

pub overflow_sub-self : goal.overflow_sub-self
overflow_sub-self c = omega (arith, less c)

pub invariant_of-self : goal.invariant_of-self
invariant_of-self c = (search rules, omega (arith, less c.before))

pub returns : goal.returns
returns c = removed c.before ∙ ap (λ m. remove m c.args.tn) c.self.view_is
