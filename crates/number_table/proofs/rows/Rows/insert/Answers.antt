use Rattle.std.proofs.Common.{◌≡◌, ◌⊎◌, inl, inr, ℕ, ◌+◌, ◌-◌, ◌≤◌, ◌<◌, ◌^◌, length, ap, sym, ◌∙◌, subst, arith, Option, Some, None, IsSome, is_some, if◌then◌else◌}
use Rattle.std.specs.FinMap.{get, insert, len}
use Rattle.number_table.specs.NumberTable.{unlocked_of, unlocked_in}
use Rattle.number_table.proofs.HeldLists.{map_of}
use Rattle.number_table.proofs.Lookups.{one_inserted, get_row, as_many}
use Rattle.number_table.proofs.UnlockedRows.{unlocked-insert, unlocked-remove, unlocked-most}
use Rattle.number_life.specs.declared.row.Row.{Row}
use Rattle.number_table.proofs.rows.Rows.insert.Goals as goal

-- one more fits, where the number has no row yet
fits : (n k : ℕ) (old found : Option Row) → k ≡ n + (if is_some old then 0 else 1) → n < 2 ^ 32 → old ≡ found → (IsSome found ⊎ n < 4_294_967_295) → k < 2 ^ 32
fits n k (Some row) found is small same room = omega arith
fits n k None found is small same (inl some) = absurd (cc (subst IsSome (sym same) some))
fits n k None found is small same (inr room) = omega arith

module _ (c : goal.After-count_of) where
  found : c.in_ok-replaced.replaced ≡ get (map_of c.self.inside.by_tn.entries) c.args.tn
  found = c.in_ok-replaced.ensures.old ∙ sym (get_row c.self.inside.by_tn.entries c.args.tn)

  counted : c.count_of.result ≡ unlocked_of (get (map_of c.self.inside.by_tn.entries) c.args.tn)
  counted = c.count_of.ensures ∙ ap unlocked_of (c.as_ref.ensures.value ∙ found)

  inserted : map_of c.insert.new.self.entries ≡ insert (map_of c.self.inside.by_tn.entries) c.args.tn c.args.row
  inserted = one_inserted c.self.inside.by_tn.entries c.insert.new.self.entries c.args.tn c.args.row c.in_ok-replaced.ensures.updates.0

  less : c.count_of.result ≤ c.self.inside.unlocked
  less = omega (arith, counted, c.self.invariant.1, unlocked-remove (map_of c.self.inside.by_tn.entries) c.args.tn)

  now_unlocked : c.self.inside.unlocked - c.count_of.result + c.count_of-added.result ≡ unlocked_in (map_of c.insert.new.self.entries)
  now_unlocked = omega (arith, less, counted, c.self.invariant.1, c.count_of-added.ensures, ap unlocked_in inserted, unlocked-insert (map_of c.self.inside.by_tn.entries) c.args.tn c.args.row)

  small : length c.insert.new.self.entries < 2 ^ 32
  small =
      let old = c.self.inside.by_tn in
      let many : len c.args.self.now ≡ length old.entries = sym (ap len c.self.view_is) ∙ as_many old.entries c.in_ok-replaced.ensures.was_ordered in
      let room : IsSome (get c.args.self.now c.args.tn) ⊎ length old.entries < 4_294_967_295 = elim c.requires [ inl some ↦ inl some | inr below ↦ inr (omega (arith, many, below)) ] in
      fits (length old.entries) (length c.insert.new.self.entries) c.in_ok-replaced.replaced (get c.args.self.now c.args.tn) c.in_ok-replaced.ensures.len c.self.invariant.0
      (found ∙ ap (λ m. get m c.args.tn) c.self.view_is) room

  few : unlocked_in (map_of c.insert.new.self.entries) < 2 ^ 32
  few = omega (arith, small, unlocked-most (map_of c.insert.new.self.entries), as_many c.insert.new.self.entries c.in_ok-replaced.ensures.ordered)

pub overflow_sub-self : goal.overflow_sub-self
overflow_sub-self c = omega (arith, less c)

pub overflow_add-self : goal.overflow_add-self
overflow_add-self c = omega (arith, now_unlocked c.before, few c.before)

pub invariant_of-self-2 : goal.invariant_of-self-2
invariant_of-self-2 c = (small c.before.before, now_unlocked c.before.before)

pub returns-clause-ok : goal.returns-clause-ok
returns-clause-ok c = inserted c.before.before ∙ ap (λ m. insert m c.args.tn c.args.row) c.self.view_is
