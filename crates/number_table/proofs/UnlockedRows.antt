-- How many rows of a table are unlocked, when rows come, go and are changed.
use Rattle.std.proofs.Common.{◌≡◌, ℕ, ℤ, suc, ◌+◌, ◌&&◌, ◌≤◌, List, [], ◌∷◌, true, false, cond, T, length, map, count_by, Option, Some, None, is_some, refl, ap, sym, ◌∙◌, arith}
use Rattle.std.specs.Ordering.{eq_by_cmp, is_eq}
use Rattle.std.specs.Cmp.{tied_itself}
use Rattle.std.specs.declared.cmp.Ordering.TheVariants.{Less, Equal, Greater}
use Rattle.std.specs.Option.{option_map}
use Rattle.std.proofs.lemmas.Cmp.{nat_list_cmp_total}
use Rattle.std.proofs.lemmas.List.Sums.{sum_by-cons, count_by-le-length}
use Rattle.std.proofs.lemmas.List.{length-map}
use Rattle.std.proofs.lemmas.Map.Lookups.{exact_bytes}
use Rattle.std.specs.FinMap.{find, get, insert, remove, entries, entries_sorted, is_sorted, len, len-entries, get-entries, entries-insert, get-insert, get-remove, get-from_entries, get_tied, same_map, len-empty}
use Rattle.std.specs.FinMap.Entries as ordered
use Rattle.std.specs.FinMap.Entries.{length-put, by_order}
use Rattle.msag_ranges.specs.declared.range.Range.{Range}
use Rattle.number_life.specs.declared.row.Row.{Row}
use Rattle.number_table.specs.NumberTable.{NumberTable, tn_cmp, no_numbers, is_unlocked, unlocked_of, unlocked_in}
use Rattle.number_table.specs.HeldRows.{holds_row, shifted_row, shifted_house, esn_row}
use Rattle.ali_record.specs.FieldChanges.{with_house, with_esn}
use Rattle.number_table.proofs.HeldLists.{map_of, no_length}
use Rattle.number_table.proofs.ChangedRows.{find_changed}

-- how many of these entries have an unlocked row
abbrev pub unlocked_among : List (List ℕ × Row) → ℕ
unlocked_among es = count_by is_unlocked (map (λ e. e.1) es)

one_first : (e : List ℕ × Row) (es : List (List ℕ × Row)) → unlocked_among (e ∷ es) ≡ unlocked_of (Some e.1) + unlocked_among es
one_first e es = sum_by-cons (λ row. cond (is_unlocked row) 1 0) e.1 (map (λ x. x.1) es)

none_there : (o : Option Row) (n : ℕ) → suc (suc n) ≡ cond (is_some o) (suc n) (suc n + 1) → o ≡ None
none_there (Some row) n h = absurd (omega arith)
none_there None n h = refl

-- a number that stands before the first has no row
none_found : (k : List ℕ) (v : Row) (e : List ℕ × Row) (es : List (List ℕ × Row)) → T (is_sorted tn_cmp (e ∷ es)) → tn_cmp k e.0 ≡ Less → find tn_cmp k (e ∷ es) ≡ None
none_found k v e es sorted less =
    let here = ap (λ o. length (by_order o ((k, v) ∷ e ∷ es) ((e.0, v) ∷ es) (e ∷ ordered.put tn_cmp k v es))) less in
    none_there (find tn_cmp k (e ∷ es)) (length es) (sym here ∙ length-put tn_cmp nat_list_cmp_total k v (e ∷ es) sorted)

tail_sorted : (e : List ℕ × Row) (es : List (List ℕ × Row)) → T (is_sorted tn_cmp (e ∷ es)) → T (is_sorted tn_cmp es)
tail_sorted e es h = elim (ordered.below_all tn_cmp e.0 es) as (λ b. T (b && is_sorted tn_cmp es) → T (is_sorted tn_cmp es)) [ true ↦ λ t. t | false ↦ λ t. absurd t ] h

-- the row that comes is counted, and the one that it replaces is not
put-unlocked : (k : List ℕ) (v : Row) (es : List (List ℕ × Row)) → T (is_sorted tn_cmp es) → unlocked_among (ordered.put tn_cmp k v es) + unlocked_of (find tn_cmp k es) ≡ unlocked_among es + unlocked_of (Some v)
put-unlocked k v [] sorted = omega (arith, one_first (k, v) [])
put-unlocked k v (e ∷ es) sorted =
    let rest = put-unlocked k v es (tail_sorted e es sorted) in
    elim (tn_cmp k e.0) as (λ o. tn_cmp k e.0 ≡ o → unlocked_among (by_order o ((k, v) ∷ e ∷ es) ((e.0, v) ∷ es) (e ∷ ordered.put tn_cmp k v es)) + unlocked_of (cond (is_eq o) (Some e.1) (find tn_cmp k es)) ≡ unlocked_among (e ∷ es) + unlocked_of (Some v)) [
      | Less ↦ λ o.
          let none : find tn_cmp k es ≡ None = ap (λ r. cond (is_eq r) (Some e.1) (find tn_cmp k es)) (sym o) ∙ none_found k v e es sorted o in
          omega (arith, one_first (k, v) (e ∷ es), ap unlocked_of none)
      | Equal ↦ λ o. omega (arith, one_first (e.0, v) es, one_first e es)
      | Greater ↦ λ o. omega (arith, one_first e (ordered.put tn_cmp k v es), one_first e es, rest)
    ] refl

pub unlocked-insert : (table : NumberTable) (tn : List ℕ) (row : Row) → unlocked_in (insert table tn row) + unlocked_of (get table tn) ≡ unlocked_in table + unlocked_of (Some row)
unlocked-insert table tn row =
    omega (arith, ap unlocked_among (entries-insert nat_list_cmp_total table tn row), ap unlocked_of (get-entries table tn), put-unlocked tn row (entries table) (entries_sorted table))

put_back : (table : NumberTable) (tn : List ℕ) (row : Row) → get table tn ≡ Some row → insert (remove table tn) tn row ≡ table
put_back table tn row there = same_map nat_list_cmp_total exact_bytes _ _ (λ q.
    get-insert nat_list_cmp_total (remove table tn) tn row q ∙ ap (cond (eq_by_cmp tn_cmp q tn) (Some row)) (get-remove nat_list_cmp_total table tn q)
    ∙ elim (tn_cmp q tn) as (λ o. tn_cmp q tn ≡ o → cond (is_eq o) (Some row) (cond (is_eq o) None (get table q)) ≡ get table q)
    [ Less ↦ (λ o. refl) | Equal ↦ (λ o. sym there ∙ get_tied nat_list_cmp_total table q tn o) | Greater ↦ (λ o. refl) ] refl)

same_without : (table : NumberTable) (tn : List ℕ) → get table tn ≡ None → remove table tn ≡ table
same_without table tn none = same_map nat_list_cmp_total exact_bytes _ _ (λ q.
    get-remove nat_list_cmp_total table tn q
    ∙ elim (tn_cmp q tn) as (λ o. tn_cmp q tn ≡ o → cond (is_eq o) None (get table q) ≡ get table q)
    [ Less ↦ (λ o. refl) | Equal ↦ (λ o. sym none ∙ get_tied nat_list_cmp_total table q tn o) | Greater ↦ (λ o. refl) ] refl)

none_after : (table : NumberTable) (tn : List ℕ) → get (remove table tn) tn ≡ None
none_after table tn = get-remove nat_list_cmp_total table tn tn ∙ ap (λ o. cond (is_eq o) None (get table tn)) (tied_itself nat_list_cmp_total tn)

-- the row that goes is counted no more
pub unlocked-remove : (table : NumberTable) (tn : List ℕ) → unlocked_in (remove table tn) + unlocked_of (get table tn) ≡ unlocked_in table
unlocked-remove table tn =
    elim (get table tn) as (λ o. get table tn ≡ o → unlocked_in (remove table tn) + unlocked_of o ≡ unlocked_in table) [
      | None ↦ λ o. omega (arith, ap unlocked_in (same_without table tn o))
      | Some row ↦ λ o.
          let back = unlocked-insert (remove table tn) tn row in
          omega (arith, back, ap unlocked_in (put_back table tn row o), ap unlocked_of (none_after table tn))
    ] refl

-- there is no more than one for each row
pub unlocked-most : (table : NumberTable) → unlocked_in table ≤ len table
unlocked-most table =
    omega (arith, count_by-le-length is_unlocked (map (λ e. e.1) (entries table)), length-map (entries table) (λ e. e.1), len-entries table)

pub unlocked-none : unlocked_in no_numbers ≡ 0
unlocked-none = ap unlocked_among (no_length (entries no_numbers) (sym (len-entries no_numbers) ∙ len-empty tn_cmp Row))

-- a change that leaves the days of unlocking leaves their count
module _ (change : Row → Row) (keeps : (row : Row) → (change row).unlocked ≡ row.unlocked) where
  kept_one : (row : Option Row) → unlocked_of (option_map change row) ≡ unlocked_of row
  kept_one None = refl
  kept_one (Some row) = ap (λ day. cond (is_some day) 1 0) (keeps row)

  kept_find : (es : List (List ℕ × Row)) (tn : List ℕ) → unlocked_of (get (map_of (map (λ e. (e.0, change e.1)) es)) tn) ≡ unlocked_of (get (map_of es) tn)
  kept_find es tn =
      ap unlocked_of (get-from_entries nat_list_cmp_total (map (λ e. (e.0, change e.1)) es) tn ∙ find_changed change es tn)
      ∙ kept_one (find tn_cmp tn es) ∙ ap unlocked_of (sym (get-from_entries nat_list_cmp_total es tn))

  pub unlocked-changed : (es : List (List ℕ × Row)) → unlocked_in (map_of (map (λ e. (e.0, change e.1)) es)) ≡ unlocked_in (map_of es)
  unlocked-changed [] = refl
  unlocked-changed (e ∷ es) =
      let fs = map (λ (x : List ℕ × Row). (x.0, change x.1)) es in
      let rest = unlocked-changed es in
      let new = unlocked-insert (map_of fs) e.0 (change e.1) in
      let old = unlocked-insert (map_of es) e.0 e.1 in
      omega (arith, rest, new, old, kept_find es e.0, kept_one (Some e.1))

-- moving a house number, and an emergency service number, leave the day of unlocking
pub unlocked-shifted : (r : Range) (by : ℤ) (row : Row) → (shifted_row r by row).unlocked ≡ row.unlocked
unlocked-shifted r by row = elim (holds_row r row) as (λ b. (cond b (record row { rec = with_house row.rec (shifted_house by row.rec) }) row).unlocked ≡ row.unlocked) [ true ↦ refl | false ↦ refl ]

pub unlocked-esn : (r : Range) (esn : ℕ) (row : Row) → (esn_row r esn row).unlocked ≡ row.unlocked
unlocked-esn r esn row = elim (holds_row r row) as (λ b. (cond b (record row { rec = with_esn row.rec esn }) row).unlocked ≡ row.unlocked) [ true ↦ refl | false ↦ refl ]
