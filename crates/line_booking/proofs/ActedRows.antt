-- The row of each number after what is done to one of them.
use Rattle.std.proofs.Common.{◌≡◌, ℕ, Bool, true, false, cond, List, refl, ap, sym, ◌∙◌, Option, Some, None, Result, Ok, Err}
use Rattle.std.specs.Option.{option_map, option_map_or}
use Rattle.std.specs.FinMap.{get, insert, get-insert, get-remove}
use Rattle.std.specs.Str.{bytes_eq}
use Rattle.std.proofs.lemmas.Cmp.{nat_list_cmp_total}
use Rattle.std.proofs.lemmas.Map.Text.{is_eq-slice_cmp}
use Rattle.std.proofs.lemmas.Slice.Eq.{bytes_eq-Decides}
use Rattle.ali_record.specs.Layout.{field_of}
use Rattle.ali_record.specs.declared.field.Field.TheVariants as field
use Rattle.msag_ranges.specs.declared.range.Range.{Range}
use Rattle.number_life.specs.declared.act.LifeAct.{LifeAct}
use Rattle.number_life.specs.declared.act.LifeAct.TheVariants.{Store, Remove, Unlock}
use Rattle.number_life.specs.declared.row.Row.{Row}
use Rattle.number_table.specs.NumberTable.{NumberTable}
use Rattle.line_booking.specs.LineVerdict.{acted, stored, table_after}

-- the row of a number, or none, after what is done to it with this record
abbrev pub row_acted : Option Row → List ℕ → LifeAct → Option Row
row_acted found rec Store = Some (record { rec = rec; unlocked = None })
row_acted found rec Remove = None
row_acted found rec (Unlock day) = option_map {T = Row} (λ row. record row { unlocked = Some day }) found

-- a number has no row, whichever name it goes by
none_there : (table : NumberTable) (tn q : List ℕ) → get table tn ≡ None → (b : Bool) → bytes_eq q tn ≡ b → get table q ≡ cond b None (get table q)
none_there table tn q none true same = ap (get table) ((bytes_eq-Decides q tn).0 same) ∙ none
none_there table tn q none false same = refl

inserted : (table : NumberTable) (tn : List ℕ) (row : Row) (q : List ℕ) → get (insert table tn row) q ≡ cond (bytes_eq q tn) (Some row) (get table q)
inserted table tn row q = get-insert nat_list_cmp_total table tn row q ∙ ap (λ b. cond b (Some row) (get table q)) (is_eq-slice_cmp q tn)

-- the number has the row after the act, and every other number the row that it had
pub get_acted : (table : NumberTable) (tn rec : List ℕ) (act : LifeAct) (q : List ℕ) → get (acted table tn rec act) q ≡ cond (bytes_eq q tn) (row_acted (get table tn) rec act) (get table q)
get_acted table tn rec Store q = inserted table tn (record { rec = rec; unlocked = None }) q
get_acted table tn rec Remove q = get-remove nat_list_cmp_total table tn q ∙ ap (λ b. cond b None (get table q)) (is_eq-slice_cmp q tn)
get_acted table tn rec (Unlock day) q = at (get table tn) refl
  where
    at : (found : Option Row) → get table tn ≡ found
        → get (option_map_or (λ row. insert table tn (record row { unlocked = Some day })) found table) q ≡ cond (bytes_eq q tn) (option_map {T = Row} (λ row. record row { unlocked = Some day }) found) (get table q)
    at None none = none_there table tn q none (bytes_eq q tn) refl
    at (Some row) e = inserted table tn (record row { unlocked = Some day }) q

-- the same of a line, which a refused one leaves
abbrev pub row_after : Option Row → List ℕ → Result LifeAct ℕ → Option Row
row_after found rec (Err code) = found
row_after found rec (Ok act) = row_acted found rec act

-- a number is that of the line, or another
module _ (ranges : List Range) (table : NumberTable) (bytes q : List ℕ) (r : Result LifeAct ℕ) where
  abbrev number : List ℕ
  number = field_of bytes field.TelephoneNumber

  pub get_own : q ≡ number → get (table_after ranges table bytes r) q ≡ row_after (get table q) (stored ranges bytes) r
  get_own same = at r
    where
      at : (r : Result LifeAct ℕ) → get (table_after ranges table bytes r) q ≡ row_after (get table q) (stored ranges bytes) r
      at (Err code) = refl
      at (Ok act) =
          get_acted table number (stored ranges bytes) act q
          ∙ ap (λ b. cond b (row_acted (get table number) (stored ranges bytes) act) (get table q)) ((bytes_eq-Decides q number).1 same)
          ∙ ap (λ n. row_acted (get table n) (stored ranges bytes) act) (sym same)

  pub get_other : bytes_eq q number ≡ false → get (table_after ranges table bytes r) q ≡ get table q
  get_other differ = at r
    where
      at : (r : Result LifeAct ℕ) → get (table_after ranges table bytes r) q ≡ get table q
      at (Err code) = refl
      at (Ok act) = get_acted table number (stored ranges bytes) act q ∙ ap (λ b. cond b (row_acted (get table number) (stored ranges bytes) act) (get table q)) differ
