use Rattle.std.proofs.Common.{rules, subst, ap, sym, ◌∙◌}
use Rattle.std.proofs.lemmas.Map.Made.{map_same_pairs}
use Rattle.number_table.specs.NumberTable.{NumberTable, unlocked_in}
use Rattle.number_table.specs.HeldRows.{AreChanged, shifted_row}
use Rattle.number_table.proofs.HeldLists.{changed-entries, map_of}
use Rattle.number_table.proofs.UnlockedRows.{unlocked-changed, unlocked-shifted}
use Rattle.number_table.proofs.rows.RowsRowMover.shift.Goals as goal

pub returns-clause-each : goal.returns-clause-each
returns-clause-each c =
    let change = shifted_row c.args.r.now c.args.by in
    let e = map_same_pairs _ change _ (λ k v b w f' t. search rules) _ _ c.retain.ensures.filtered in
    subst (λ (m : NumberTable). AreChanged change m (map_of c.retain.new.self.entries)) c.self.view_is (changed-entries change c.self.inside.by_tn.entries c.retain.new.self.entries e)

pub invariant_of-self : goal.invariant_of-self
invariant_of-self c =
    let change = shifted_row c.args.r.now c.args.by in
    let e = map_same_pairs _ change _ (λ k v b w f' t. search rules) _ _ c.retain.ensures.filtered in
    (search rules, c.self.invariant.1 ∙ sym (unlocked-changed change (unlocked-shifted c.args.r.now c.args.by) c.self.inside.by_tn.entries) ∙ sym (ap (λ es. unlocked_in (map_of es)) e))
