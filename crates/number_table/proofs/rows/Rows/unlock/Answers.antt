use Rattle.std.proofs.Common.{◌≡◌, ◌+◌, ◌-◌, ◌≤◌, ◌<◌, ◌^◌, List, ℕ, length, cond, Some, None, ap, sym, ◌∙◌, rules, arith}
use Rattle.std.specs.FinMap.{get}
use Rattle.std.specs.BTreeMap.{is_at}
use Rattle.std.specs.Option.{option_copied_mut}
use Rattle.number_life.specs.declared.row.Row.{Row}
use Rattle.number_table.specs.NumberTable.{tn_cmp, unlocked_of, unlocked_in}
use Rattle.number_table.proofs.HeldLists.{map_of}
use Rattle.number_table.proofs.Lookups.{row_at, get_row, as_many, one_inserted, one_written, none_written}
use Rattle.number_table.proofs.UnlockedRows.{unlocked-insert, unlocked-remove, unlocked-most}
use Rattle.number_table.proofs.rows.Rows.unlock.Goals as goal

module _ (c : goal.After-count_of) where
  -- the row as it becomes, and the entries with it
  abbrev written : Row
  written = record c.in-Some.row.now { unlocked = Some c.args.day }

  abbrev after : List (List ℕ × Row)
  after = (c.get_mut.follows.lender written).entries

  there : row_at c.self.inside.by_tn.entries c.args.tn ≡ Some c.in-Some.row.now
  there = sym c.get_mut.ensures.value ∙ ap option_copied_mut c.in-Some.is

  writes : (q : List ℕ) → row_at after q ≡ cond (is_at (tn_cmp c.args.tn) q) (Some written) (row_at c.self.inside.by_tn.entries q)
  writes = ((c.get_mut.follows.holds written).3 (rw there (search rules))).0

  counted : c.count_of.result ≡ unlocked_of (get (map_of c.self.inside.by_tn.entries) c.args.tn)
  counted = c.count_of.ensures ∙ ap unlocked_of (sym (get_row c.self.inside.by_tn.entries c.args.tn ∙ there))

  less : c.count_of.result ≤ c.self.inside.unlocked
  less = omega (arith, counted, c.self.invariant.1, unlocked-remove (map_of c.self.inside.by_tn.entries) c.args.tn)

  now_unlocked : c.self.inside.unlocked - c.count_of.result + 1 ≡ unlocked_in (map_of after)
  now_unlocked =
      omega (
        arith,
        less,
        counted,
        c.self.invariant.1,
        ap unlocked_in (one_inserted c.self.inside.by_tn.entries after c.args.tn written writes),
        unlocked-insert (map_of c.self.inside.by_tn.entries) c.args.tn written,
      )

  small : length after < 2 ^ 32
  small = search rules

  few : unlocked_in (map_of after) < 2 ^ 32
  few = omega (arith, small, unlocked-most (map_of after), as_many after (search rules))

pub overflow_sub-self : goal.overflow_sub-self
overflow_sub-self c = less c

pub overflow_add-self : goal.overflow_add-self
overflow_add-self c = omega (arith, now_unlocked c.before.before, few c.before.before)

pub invariant_of-self : goal.invariant_of-self
invariant_of-self c = (small c.before.before.before, now_unlocked c.before.before.before)

pub returns-in-Some : goal.returns-in-Some
returns-in-Some c =
    one_written c.self.inside.by_tn.entries (after c.before.before.before) c.args.self.now c.args.tn (λ r. record r { unlocked = Some c.args.day }) c.self.view_is
    c.in-Some.row.now (there c.before.before.before) (writes c.before.before.before)

pub returns-in_default : goal.returns-in_default
returns-in_default c =
    let there : row_at c.self.inside.by_tn.entries c.args.tn ≡ None = sym c.get_mut.ensures.value ∙ ap option_copied_mut c.in_default.is in
    none_written c.self.inside.by_tn.entries c.get_mut.follows.lender-at-none.entries c.args.self.now c.args.tn (λ r. record r { unlocked = Some c.args.day }) c.self.view_is
    there (ap (λ m. m.entries) c.get_mut.follows.holds-at-none)
