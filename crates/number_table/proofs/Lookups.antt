-- A tree of rows by telephone number, as a finite map.
use Rattle.std.proofs.Common.{◌≡◌, ℕ, ◌+◌, List, [], ◌∷◌, length, cond, Option, None, Some, refl, ap, sym, ◌∙◌, arith, Less}
use Rattle.std.specs.Cmp.{eq_by_cmp_equiv}
use Rattle.std.proofs.lemmas.Cmp.{nat_list_cmp_total}
use Rattle.std.proofs.lemmas.Map.Lookups.{exact_bytes}
use Rattle.std.specs.BTreeMap.{is_at}
use Rattle.std.specs.Option.{option_map_or}
use Rattle.std.specs.Map.{lookup, keys_of}
use Rattle.std.specs.List.{AllByRecursion}
use Rattle.std.specs.List.Sorted.{IsStrictlySortedBy}
use Rattle.std.specs.FinMap.{find, get, insert, remove, len, from_entries, get-from_entries, get-insert, get-remove, len-empty, len-insert, same_map}
use Rattle.number_table.specs.NumberTable.{NumberTable, tn_cmp}
use Rattle.number_life.specs.declared.row.Row.{Row}

-- the row that a tree has at a number
abbrev pub row_at : List (List ℕ × Row) → List ℕ → Option Row
row_at rows tn = lookup (is_at (tn_cmp tn)) rows

find_row : (es : List (List ℕ × Row)) (tn : List ℕ) → find tn_cmp tn es ≡ row_at es tn
find_row [] tn = refl
find_row (e ∷ es) tn = ap (cond (is_at (tn_cmp tn) e.0) (Some e.1)) (find_row es tn)

-- what the map that the entries make has at a number
pub get_row : (es : List (List ℕ × Row)) (tn : List ℕ) → get (from_entries {R = tn_cmp} es) tn ≡ row_at es tn
get_row es tn = get-from_entries nat_list_cmp_total es tn ∙ find_row es tn

-- trees that differ at one number make maps that differ there
pub one_inserted : (es fs : List (List ℕ × Row)) (tn : List ℕ) (row : Row) → ((q : List ℕ) → row_at fs q ≡ cond (is_at (tn_cmp tn) q) (Some row) (row_at es q)) → from_entries {R = tn_cmp} fs ≡ insert (from_entries es) tn row
one_inserted es fs tn row h = same_map nat_list_cmp_total exact_bytes _ _ (λ q.
    get_row fs q ∙ h q ∙ ap (λ b. cond b (Some row) (row_at es q)) ((eq_by_cmp_equiv nat_list_cmp_total).symm tn q)
    ∙ sym (get-insert nat_list_cmp_total (from_entries es) tn row q ∙ ap (cond (is_at (tn_cmp q) tn) (Some row)) (get_row es q)))

-- trees that differ by the entry at one number make maps that differ by it
pub one_removed : (es fs : List (List ℕ × Row)) (tn : List ℕ) → ((q : List ℕ) → row_at fs q ≡ cond (is_at (tn_cmp tn) q) None (row_at es q)) → from_entries {R = tn_cmp} fs ≡ remove (from_entries es) tn
one_removed es fs tn h = same_map nat_list_cmp_total exact_bytes _ _ (λ q.
    get_row fs q ∙ h q ∙ ap (λ b. cond b None (row_at es q)) ((eq_by_cmp_equiv nat_list_cmp_total).symm tn q)
    ∙ sym (get-remove nat_list_cmp_total (from_entries es) tn q ∙ ap (cond (is_at (tn_cmp q) tn) None) (get_row es q)))

-- a number below each of a tree's has no row
none_below : (es : List (List ℕ × Row)) (tn : List ℕ) → AllByRecursion (λ q. tn_cmp tn q ≡ Less) (keys_of es) → row_at es tn ≡ None
none_below [] tn h = refl
none_below (e ∷ es) tn h = rw h.0 (none_below es tn h.1)

-- a tree in order makes a map with as many numbers
pub as_many : (es : List (List ℕ × Row)) → IsStrictlySortedBy tn_cmp (keys_of es) → len (from_entries {R = tn_cmp} es) ≡ length es
unfolding IsStrictlySortedBy
as_many [] sorted = len-empty tn_cmp Row
as_many (e ∷ es) sorted =
    let none : get (from_entries {R = tn_cmp} es) e.0 ≡ None = get_row es e.0 ∙ none_below es e.0 sorted.0 in
    let more : len (insert (from_entries {R = tn_cmp} es) e.0 e.1) ≡ len (from_entries {R = tn_cmp} es) + 1 = len-insert nat_list_cmp_total (from_entries es) e.0 e.1 ∙ rw none refl in
    omega (arith, more, as_many es sorted.1)

-- a row is written over, where there is one
module _ (es fs : List (List ℕ × Row)) (m : NumberTable) (tn : List ℕ) (write : Row → Row) (same : from_entries es ≡ m) where
  pub one_written : (row : Row) → row_at es tn ≡ Some row → ((q : List ℕ) → row_at fs q ≡ cond (is_at (tn_cmp tn) q) (Some (write row)) (row_at es q)) → from_entries {R = tn_cmp} fs ≡ option_map_or (λ r. insert m tn (write r)) (get m tn) m
  one_written row there h =
      let here : get m tn ≡ Some row = ap (λ (t : NumberTable). get t tn) (sym same) ∙ get_row es tn ∙ there in
      rw here (one_inserted es fs tn (write row) h ∙ ap (λ (t : NumberTable). insert t tn (write row)) same)

  pub none_written : row_at es tn ≡ None → fs ≡ es → from_entries {R = tn_cmp} fs ≡ option_map_or (λ r. insert m tn (write r)) (get m tn) m
  none_written there h =
      let here : get m tn ≡ None = ap (λ (t : NumberTable). get t tn) (sym same) ∙ get_row es tn ∙ there in
      rw here (ap (λ (xs : List (List ℕ × Row)). from_entries {R = tn_cmp} xs) h ∙ same)
