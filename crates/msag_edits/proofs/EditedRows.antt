-- What each row keeps in an edit, and that no number comes or goes.
use Rattle.std.proofs.Common.{◌≡◌, ℕ, ◌+◌, ◌≤◌, Bool, true, false, cond, List, [], ◌∷◌, ◌++◌, length, map, take, drop, refl, ap, sym, ◌∙◌, subst, arith, Option, Some, None, is_none, is_some, length-append, length-drop, IfSome}
use Rattle.std.specs.Option.{option_map, option_map_or}
use Rattle.std.specs.FinMap.{get, len, entries, from_entries, get-entries, get-from_entries, len-insert, same_map}
use Rattle.std.specs.FinMap.Entries as ordered
use Rattle.std.specs.Ordering.{eq_by_cmp}
use Rattle.std.proofs.lemmas.Cmp.{nat_list_cmp_total}
use Rattle.std.proofs.lemmas.List.{length-take-le}
use Rattle.std.proofs.lemmas.Map.Lookups.{exact_bytes}
use Rattle.ali_record.specs.FieldChanges.{with_field}
use Rattle.ali_record.specs.declared.field.Field.TheVariants.{HouseNumber, Esn}
use Rattle.ali_record.proofs.Overwriting.{over, part_before, part_after}
use Rattle.msag_ranges.specs.StreetGuide.{StreetGuide, range_of}
use Rattle.msag_ranges.specs.declared.range.Range.{Range}
use Rattle.number_life.specs.declared.row.Row.{Row}
use Rattle.number_table.specs.NumberTable.{NumberTable, tn_cmp}
use Rattle.number_table.specs.HeldRows.{changed}
use Rattle.number_table.proofs.ChangedRows.{get-changed}
use Rattle.office_entry.specs.declared.edit.Edit.{Edit}
use Rattle.office_entry.specs.declared.edit.Edit.TheVariants.{Add, Retire, Split, Renumber, SetEsn}
use Rattle.msag_edits.specs.EditRules.{EditAct, nothing}
use Rattle.msag_edits.specs.Edits.{edit_verdict, edit_act}
use Rattle.msag_edits.specs.EditedTables.{rows_after}
use Rattle.msag_edits.specs.GuideSoundness.{AreSound, IsPlaced}
use Rattle.msag_edits.specs.KeptRows.{IsSameNumber}
use Rattle.msag_edits.proofs.EditedGuides.{whether}
use Rattle.msag_edits.proofs.Soundness.{placed-kept}

-- ---- a record with another text in one field, of 512 bytes again

-- the text is as wide as the field
as_wide : (b text : List ℕ) (p q : ℕ) → p ≤ q → q ≤ 512 → length b ≡ 512 → length (over b p q text) ≡ 512 → p + length text ≡ q
as_wide b text p q order inside size whole =
    omega (arith, size, whole, length-append (take p b ++ text) (drop q b), length-append (take p b) text, length-take-le p b (omega arith), length-drop q b)

same_itself : (row : Row) → IsSameNumber row row
same_itself row = record { company = refl; lock = refl; number = refl }

house_written : (row : Row) (text : List ℕ) → length row.rec ≡ 512 → length (with_field row.rec HouseNumber text) ≡ 512 → IsSameNumber row (record row { rec = with_field row.rec HouseNumber text })
house_written row text size whole =
    let wide = as_wide row.rec text 11 21 (omega arith) (omega arith) size whole in
    let long : 21 ≤ length row.rec = omega arith in
    record { company = part_after row.rec text 11 21 260 5 wide long (omega arith); lock = refl; number = part_before row.rec text 11 21 1 10 wide long (omega arith) }

esn_written : (row : Row) (text : List ℕ) → length row.rec ≡ 512 → length (with_field row.rec Esn text) ≡ 512 → IsSameNumber row (record row { rec = with_field row.rec Esn text })
esn_written row text size whole =
    let wide = as_wide row.rec text 225 230 (omega arith) (omega arith) size whole in
    let long : 230 ≤ length row.rec = omega arith in
    record { company = part_after row.rec text 225 230 260 5 wide long (omega arith); lock = refl; number = part_before row.rec text 225 230 1 10 wide long (omega arith) }

-- a change that is made where a range holds the row
where_held : (b : Bool) (row new : Row) → (length new.rec ≡ 512 → IsSameNumber row new) → length (cond b new row).rec ≡ 512 → IsSameNumber row (cond b new row)
where_held true row new change whole = change whole
where_held false row new change whole = same_itself row

-- the change of the range that is found
on_found : (g : StreetGuide) (found : Option Range) (act : Range → EditAct) (row : Row) → ((r : Range) → length ((act r).row row).rec ≡ 512 → IsSameNumber row ((act r).row row))
    → length ((option_map_or act found (nothing g)).row row).rec ≡ 512 → IsSameNumber row ((option_map_or act found (nothing g)).row row)
on_found g None act row change whole = same_itself row
on_found g (Some r) act row change whole = change r whole

same_number : (g : StreetGuide) (edit : Edit) (row : Row) → length row.rec ≡ 512 → length ((edit_act g edit).row row).rec ≡ 512 → IsSameNumber row ((edit_act g edit).row row)
same_number g (Add key low high parity esn) row size whole = same_itself row
same_number g (Retire id) row size whole = same_itself row
same_number g (Split id at esn) row size whole = on_found g (range_of g.ranges id) _ row (λ r long. where_held _ row _ (esn_written row _ size) long) whole
same_number g (Renumber id by) row size whole = on_found g (range_of g.ranges id) _ row (λ r long. where_held _ row _ (house_written row _ size) long) whole
same_number g (SetEsn id esn) row size whole = on_found g (range_of g.ranges id) _ row (λ r long. where_held _ row _ (esn_written row _ size) long) whole

-- ---- the rows of a table

size_of : (g : StreetGuide) (table : NumberTable) (tn : List ℕ) (row : Row) → IfSome (get table tn) (IsPlaced g.ranges) → get table tn ≡ Some row → length row.rec ≡ 512
size_of g table tn row placed has = (subst (λ o. IfSome o (IsPlaced g.ranges)) has placed).size

some_is : {A : Type 0} (x y : A) → Some x ≡ Some y → x ≡ y
some_is x y h = cc

-- an edit leaves each row its owner, its lock and its number
pub rows_kept : (g : StreetGuide) (rows : NumberTable) (edit : Edit) → AreSound g rows → (tn : List ℕ) (old new : Row) → get rows tn ≡ Some old
    → get (rows_after g rows edit (edit_verdict g rows edit).code) tn ≡ Some new → IsSameNumber old new
rows_kept g rows edit sound tn old new has =
    let act = edit_act g edit in
    let later = changed act.row rows in
    whether (edit_verdict g rows edit).code (λ b. get (cond b later rows) tn ≡ Some new → IsSameNumber old new)
    (λ clear there.
    let each = get-changed act.row rows in
    let is : act.row old ≡ new = some_is _ _ (ap (option_map act.row) (sym has) ∙ sym (each tn) ∙ there) in
    let placed = placed-kept g rows later edit sound clear each tn in
    let whole : length new.rec ≡ 512 = (subst (λ o. IfSome o (IsPlaced act.ranges)) there placed).size in
    subst (IsSameNumber old) is (same_number g edit old (size_of g rows tn old (sound.placed tn) has) (ap (λ (row : Row). length row.rec) is ∙ whole)))
    (λ there. subst (IsSameNumber old) (some_is _ _ (sym has ∙ there)) (same_itself old))

none_mapped : (change : Row → Row) (o : Option Row) → is_none (option_map change o) ≡ is_none o
none_mapped change None = refl
none_mapped change (Some row) = refl

some_mapped : (change : Row → Row) (o : Option Row) → is_some (option_map change o) ≡ is_some o
some_mapped change None = refl
some_mapped change (Some row) = refl

-- it neither adds nor removes a number
pub numbers_kept : (g : StreetGuide) (rows : NumberTable) (edit : Edit) (code : ℕ) (tn : List ℕ) → is_none (get (rows_after g rows edit code) tn) ≡ is_none (get rows tn)
numbers_kept g rows edit code tn =
    let act = edit_act g edit in
    whether code (λ b. is_none (get (cond b (changed act.row rows) rows) tn) ≡ is_none (get rows tn)) (λ clear. ap is_none (get-changed act.row rows tn) ∙ none_mapped act.row (get rows tn)) refl

-- ---- how many numbers there are

map_of : List (List ℕ × Row) → NumberTable
map_of es = from_entries {R = tn_cmp} es

with_change : (Row → Row) → List (List ℕ × Row) → List (List ℕ × Row)
with_change change es = map (λ e. (e.0, change e.1)) es

get_change : (change : Row → Row) (es : List (List ℕ × Row)) (tn : List ℕ) → get (map_of (with_change change es)) tn ≡ option_map change (get (map_of es) tn)
unfolding map_of with_change
get_change change es tn =
    get-from_entries nat_list_cmp_total (map (λ e. (e.0, change e.1)) es) tn ∙ at es ∙ ap (option_map change) (sym (get-from_entries nat_list_cmp_total es tn))
  where
    at : (es : List (List ℕ × Row)) → ordered.find tn_cmp tn (map (λ e. (e.0, change e.1)) es) ≡ option_map change (ordered.find tn_cmp tn es)
    at [] = refl
    at (e ∷ es) =
        elim (eq_by_cmp tn_cmp tn e.0) as (λ b. cond b (Some (change e.1)) (ordered.find tn_cmp tn (map (λ x. (x.0, change x.1)) es)) ≡ option_map change (cond b (Some e.1) (ordered.find tn_cmp tn es)))
        [ true ↦ refl | false ↦ at es ]

as_many : (change : Row → Row) (es : List (List ℕ × Row)) → len (map_of (with_change change es)) ≡ len (map_of es)
unfolding map_of with_change
as_many change [] = refl
as_many change (e ∷ es) =
    len-insert nat_list_cmp_total (map_of (with_change change es)) e.0 (change e.1)
    ∙ ap (λ b. cond b (len (map_of (with_change change es))) (len (map_of (with_change change es)) + 1)) (ap is_some (get_change change es e.0) ∙ some_mapped change (get (map_of es) e.0))
    ∙ ap (λ n. cond (is_some (get (map_of es) e.0)) n (n + 1)) (as_many change es)
    ∙ sym (len-insert nat_list_cmp_total (map_of es) e.0 e.1)

again : (rows : NumberTable) → map_of (entries rows) ≡ rows
unfolding map_of
again rows = same_map nat_list_cmp_total exact_bytes (map_of (entries rows)) rows (λ q. get-from_entries nat_list_cmp_total (entries rows) q ∙ sym (get-entries rows q))

len_changed : (change : Row → Row) (rows : NumberTable) → len (changed change rows) ≡ len rows
unfolding map_of with_change changed
len_changed change rows = as_many change (entries rows) ∙ ap len (again rows)

-- and leaves as many
pub len_kept : (g : StreetGuide) (rows : NumberTable) (edit : Edit) (code : ℕ) → len (rows_after g rows edit code) ≡ len rows
len_kept g rows edit code = whether code (λ b. len (cond b (changed (edit_act g edit).row rows) rows) ≡ len rows) (λ clear. len_changed (edit_act g edit).row rows) refl
