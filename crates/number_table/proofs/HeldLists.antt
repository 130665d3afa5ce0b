-- The rows of a tree that a range holds, and rows that were changed in place.
use Rattle.std.proofs.Common.{◌≡◌, ℕ, List, [], ◌∷◌, Bool, true, false, cond, length, map, filter, find, refl, ap, sym, ◌∙◌, arith}
use Rattle.std.specs.List.{AllByRecursion}
use Rattle.std.specs.List.Sorted.{IsStrictlySortedBy}
use Rattle.std.specs.Map.{keys_of, values_of}
use Rattle.std.specs.Option.{option_map}
use Rattle.std.specs.declared.cmp.Ordering.TheVariants.{Less}
use Rattle.std.proofs.lemmas.Cmp.{nat_list_cmp_total}
use Rattle.std.specs.FinMap.{get, entries, from_entries, len-entries, len-empty, entries-insert, get-from_entries}
use Rattle.std.specs.FinMap.Entries as ordered
use Rattle.msag_ranges.specs.declared.range.Range.{Range}
use Rattle.number_life.specs.declared.row.Row.{Row}
use Rattle.number_table.specs.NumberTable.{NumberTable, tn_cmp}
use Rattle.number_table.specs.HeldRows.{AreChanged, holds_row, count_held, least_held}
use Rattle.number_table.proofs.ChangedRows.{find_changed}

-- the map that entries make
abbrev pub map_of : List (List ℕ × Row) → NumberTable
map_of es = from_entries {R = tn_cmp} es

pub no_length : (es : List (List ℕ × Row)) → length es ≡ 0 → es ≡ []
no_length [] h = refl
no_length (e ∷ es) h = absurd (omega arith)

put-first : (k : List ℕ) (v : Row) (es : List (List ℕ × Row)) → AllByRecursion (λ y. tn_cmp k y ≡ Less) (keys_of es) → ordered.put tn_cmp k v es ≡ (k, v) ∷ es
put-first k v [] h = refl
put-first k v (e ∷ es) h = ap (λ o. ordered.by_order o ((k, v) ∷ e ∷ es) ((e.0, v) ∷ es) (e ∷ ordered.put tn_cmp k v es)) h.0

-- entries in order are those of the map that they make
pub entries-in_order : (es : List (List ℕ × Row)) → IsStrictlySortedBy tn_cmp (keys_of es) → entries (map_of es) ≡ es
unfolding IsStrictlySortedBy
entries-in_order [] h = no_length (entries (map_of [])) (sym (len-entries (map_of [])) ∙ len-empty tn_cmp Row)
entries-in_order (e ∷ es) h =
    entries-insert nat_list_cmp_total (map_of es) e.0 e.1 ∙ ap (ordered.put tn_cmp e.0 e.1) (entries-in_order es h.1) ∙ put-first e.0 e.1 es h.0

-- where each row was changed, each number has its changed row
pub changed-entries : (f : Row → Row) (es fs : List (List ℕ × Row)) → fs ≡ map (λ e. (e.0, f e.1)) es → AreChanged f (map_of es) (map_of fs)
changed-entries f es fs is = λ tn.
    ap (λ xs. get (map_of xs) tn) is ∙ get-from_entries nat_list_cmp_total (map (λ e. (e.0, f e.1)) es) tn ∙ find_changed f es tn
    ∙ sym (ap (option_map f) (get-from_entries nat_list_cmp_total es tn))

count-values : (p : Row → Bool) (es : List (List ℕ × Row)) → length (filter p (values_of es)) ≡ length (filter (λ e. p e.1) es)
count-values p [] = refl
count-values p (e ∷ es) =
    let rest = count-values p es in
    elim (p e.1) as (λ b. length (cond b (e.1 ∷ filter p (values_of es)) (filter p (values_of es))) ≡ length (cond b (e ∷ filter (λ x. p x.1) es) (filter (λ x. p x.1) es)))
    [ true ↦ omega arith | false ↦ rest ]

-- how many rows a range holds, by the values in order
pub count-held : (es : List (List ℕ × Row)) (r : Range) → IsStrictlySortedBy tn_cmp (keys_of es) → length (filter (holds_row r) (values_of es)) ≡ count_held (map_of es) r
count-held es r h = count-values (holds_row r) es ∙ ap (λ xs. length (filter (λ (e : List ℕ × Row). holds_row r e.1) xs)) (sym (entries-in_order es h))

-- the first number whose row a range holds
pub first-held : (es : List (List ℕ × Row)) (r : Range) → IsStrictlySortedBy tn_cmp (keys_of es) → option_map (λ e. e.0) (find (λ (e : List ℕ × Row). holds_row r e.1) es) ≡ least_held (map_of es) r
first-held es r h = ap (λ xs. option_map (λ (e : List ℕ × Row). e.0) (find (λ (e : List ℕ × Row). holds_row r e.1) xs)) (sym (entries-in_order es h))
