-- Tables in which each row is changed.
use Rattle.std.proofs.Common.{◌≡◌, ℕ, List, [], ◌∷◌, map, cond, Some, refl, sym, ap, ◌∙◌, true, false}
use Rattle.std.specs.Ordering.{eq_by_cmp}
use Rattle.std.proofs.lemmas.Cmp.{nat_list_cmp_total}
use Rattle.std.proofs.lemmas.Map.Lookups.{exact_bytes}
use Rattle.std.specs.Option.{option_map}
use Rattle.std.specs.FinMap.{find, get, entries, get-entries, get-from_entries, same_map}
use Rattle.number_life.specs.declared.row.Row.{Row}
use Rattle.number_table.specs.NumberTable.{NumberTable, tn_cmp}
use Rattle.number_table.specs.HeldRows.{AreChanged, changed}

pub find_changed : (change : Row → Row) (es : List (List ℕ × Row)) (tn : List ℕ) → find tn_cmp tn (map (λ e. (e.0, change e.1)) es) ≡ option_map change (find tn_cmp tn es)
find_changed change [] tn = refl
find_changed change (e ∷ es) tn =
    elim (eq_by_cmp tn_cmp tn e.0) as (λ b. cond b (Some (change e.1)) (find tn_cmp tn (map (λ x. (x.0, change x.1)) es)) ≡ option_map change (cond b (Some e.1) (find tn_cmp tn es)))
    [ true ↦ refl | false ↦ find_changed change es tn ]

-- each number has the row that it had, changed so
pub get-changed : (change : Row → Row) (rows : NumberTable) (tn : List ℕ) → get (changed change rows) tn ≡ option_map change (get rows tn)
unfolding changed
get-changed change rows tn =
    get-from_entries nat_list_cmp_total (map (λ e. (e.0, change e.1)) (entries rows)) tn ∙ find_changed change (entries rows) tn ∙ ap (option_map change) (sym (get-entries rows tn))

-- and no other table is changed so
pub changed-only : (change : Row → Row) (old new : NumberTable) → AreChanged change old new → new ≡ changed change old
changed-only change old new h = same_map nat_list_cmp_total exact_bytes new (changed change old) (λ tn. h tn ∙ sym (get-changed change old tn))
