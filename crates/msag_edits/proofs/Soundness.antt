-- Edits keep guide and rows sound.
use Rattle.std.proofs.Common.{◌≡◌, ◌≢◌, ℕ, ◌+◌, ◌<◌, ◌≤◌, ◌==◌, Bool, true, false, cond, ◌&&◌, not, nat_le, ℤ, List, [], ◌∷◌, ◌++◌, length, map, refl, sym, ap, subst, ◌∙◌, arith, Option, Some, None, zero, suc, filter, find, IfSome, Contains, inl, inr, if◌then◌else◌, ◌⊎◌, Result, Ok, Err}
use Rattle.ali_base.specs.declared.no_memory.NoMemory.{NoMemory}
use Rattle.std.specs.Option.{option_map, option_map_or}
use Rattle.std.specs.FinMap.{get, entries, get-entries}
use Rattle.std.specs.FinMap.Entries as ordered
use Rattle.std.proofs.lemmas.List.Elements.{Contains-append_left, Contains-push, All-contains}
use Rattle.std.proofs.lemmas.Bool.Decides.{nat_tests}
use Rattle.msag_ranges.specs.StreetGuide.{StreetGuide, IsSoundGuide, new_range, least_overlap, holds, is_held, moved, with_moved, without}
use Rattle.msag_ranges.specs.HeldNumbers.{greatest_to}
use Rattle.msag_ranges.specs.declared.range.Range.{Range}
use Rattle.number_life.specs.declared.row.Row.{Row}
use Rattle.number_table.specs.NumberTable.{NumberTable, tn_cmp}
use Rattle.number_table.specs.HeldRows.{count_held, AreChanged, holds_row, least_held, record_house, esn_row, shifted_row}
use Rattle.msag_edits.specs.EditRules.{EditAct, upper_part, shifted, has_empty_part, is_esn, refused, done, new_id, unless_overlap, for_range, unused, on_range, nothing, add_act, retire_verdict, split_verdict, split_act, renumber_verdict, renumber_act, set_esn_verdict, set_esn_act}
use Rattle.msag_edits.specs.Edits.{edit_verdict, edit_act, AreKept, IsApplied}
use Rattle.msag_edits.specs.declared.edit_verdict.EditVerdict.{EditVerdict}
use Rattle.office_entry.specs.declared.edit.Edit.{Edit}
use Rattle.office_entry.specs.declared.edit.Edit.TheVariants.{Add, Retire, Split, Renumber, SetEsn}
use Rattle.ali_base.specs.declared.parity.Parity.{Parity}
use Rattle.ali_base.specs.declared.street_key.StreetKey.{StreetKey}
use Rattle.number_table.specs.HouseArithmetic.{added, stays_house}
use Rattle.msag_edits.specs.HouseArithmetic.{is_odd, is_one_parity}
use Rattle.ali_record.specs.FieldChanges.{with_house, with_esn}
use Rattle.ali_base.specs.Numbers.{zero_padded}
use Rattle.ali_base.specs.StreetKey.{same_key}
use Rattle.ali_base.specs.declared.house.TheConstants.{HIGHEST_HOUSE}
use Rattle.ali_base.specs.declared.esn.TheConstants.{HIGHEST_ESN}
use Rattle.std.specs.Ordering.{eq_by_cmp}
use Rattle.std.proofs.lemmas.Bool.{and_parts, and_from, not-false}
use Rattle.number_table.proofs.HeldAddresses.{stays-between, held-parts, held-from, held-address, held-by, same-address}
use Rattle.msag_edits.proofs.Arithmetic.{choice, not_both, none_between, added-order, added-parity, added-limit}
use Rattle.ali_record.specs.Address.{record_key}
use Rattle.msag_ranges.specs.StreetGuide.{range_of}
use Rattle.msag_edits.proofs.Ranges.{live, one_of_id, different_ids, one_holder}
use Rattle.msag_edits.proofs.RowFields.{house-size, house-there, house-key, house-esn, esn-size, esn-there, esn-house, esn-key}
use Rattle.msag_edits.proofs.Verdicts.{not_refused, found_range, small_esn}
use Rattle.msag_edits.specs.GuideSoundness.{IsPlaced, ArePlaced, AreSound}

-- ---- elements of changed lists

Contains-filter : (p : Range → Bool) (xs : List Range) (x : Range) → Contains xs x → p x ≡ true → Contains (filter p xs) x
Contains-filter p [] x h t = absurd (let lt = h.1 in omega arith)
Contains-filter p (y ∷ ys) x (zero, lt, is) t =
    let yes : p y ≡ true = ap p is ∙ t in
    subst (λ b. Contains (cond b (y ∷ filter p ys) (filter p ys)) x) (sym yes) (0, omega arith, is)
Contains-filter p (y ∷ ys) x (suc k, lt, is) t =
    let rest = Contains-filter p ys x (k, omega arith, is) t in
    elim (p y) as (λ b. Contains (cond b (y ∷ filter p ys) (filter p ys)) x)
    [ true ↦ (suc rest.0, omega (arith, rest.1), rest.2) | false ↦ rest ]

Contains-map : (f : Range → Range) (xs : List Range) (x : Range) → Contains xs x → Contains (map f xs) (f x)
Contains-map f [] x h = absurd (let lt = h.1 in omega arith)
Contains-map f (y ∷ ys) x (zero, lt, is) = (0, omega arith, ap f is)
Contains-map f (y ∷ ys) x (suc k, lt, is) =
    let rest = Contains-map f ys x (k, omega arith, is) in
    (suc rest.0, omega (arith, rest.1), rest.2)

-- ---- the range of an id

-- ranges that hold the same row are one
one_of_row : (g : StreetGuide) (rows : NumberTable) (s r : Range) (row : Row) → AreSound g rows → Contains g.ranges s → Contains g.ranges r → holds_row s row ≡ true → holds_row r row ≡ true → s ≡ r
one_of_row g rows s r row sound a b h k =
    let p = held-address s row.rec h in
    let q = held-address r row.rec k in
    let one : p.0 ≡ q.0 = let e : Some p.0 ≡ Some q.0 = sym p.1 ∙ q.1 in cc in
    one_holder g.ranges s r sound.apart a b (record_key row.rec, p.0, p.2, subst (λ (n : ℕ). holds r (record_key row.rec) n ≡ true) (sym one) q.2)

at_most : (n m : ℕ) → (m < n → ⊥) → n ≤ m
at_most n m h = grind (arith, nat_tests)

different-test : (a b : ℕ) → (a ≡ b → ⊥) → (a == b) ≡ false
different-test a b h = grind (arith, nat_tests)

-- ---- rows that stay, and rows that are changed

-- a row that the range of the id does not hold is placed as before
placed-other : (g : StreetGuide) (rows : NumberTable) (id low high esn : ℕ) (r : Range) (row : Row) → AreSound g rows → range_of g.ranges id ≡ Some r
    → holds_row r row ≡ false → IsPlaced g.ranges row → IsPlaced (with_moved g.ranges id low high esn) row
placed-other g rows id low high esn r row sound found free p =
    let w = live g.ranges id r found in
    let other : p.range.id ≡ id → ⊥ = λ e.
    let is : p.range ≡ r = one_of_id g.ranges p.range r sound.different p.live w.0 (e ∙ sym w.1) in
    not_both (holds_row r row) (subst (λ t. holds_row t row ≡ true) is p.held) free in
    let test : (p.range.id == id) ≡ false = different-test p.range.id id other in
    let stays : cond (p.range.id == id) (moved p.range low high esn) p.range ≡ p.range = ap (λ b. cond b (moved p.range low high esn) p.range) test in
    record {
      size = p.size;
      range = p.range;
      live = subst (Contains (with_moved g.ranges id low high esn)) stays (Contains-map (λ t. cond (t.id == id) (moved t low high esn) t) g.ranges p.range p.live);
      held = p.held;
      esn = p.esn;
    }

-- the moved range is one of the new ones
moved-live : (xs : List Range) (id low high esn : ℕ) (r : Range) → range_of xs id ≡ Some r → Contains (with_moved xs id low high esn) (moved r low high esn)
moved-live xs id low high esn r found =
    let w = live xs id r found in
    let test : (r.id == id) ≡ true = (let e = w.1 in grind (arith, nat_tests)) in
    subst (Contains (with_moved xs id low high esn)) (ap (λ b. cond b (moved r low high esn) r) test) (Contains-map (λ t. cond (t.id == id) (moved t low high esn) t) xs r w.0)

-- rows that were placed are placed after a change
placed-through : (xs ys : List Range) (change : Row → Row) (rows after : NumberTable) → AreChanged change rows after → ArePlaced xs rows
    → ((tn : List ℕ) (row : Row) → get rows tn ≡ Some row → IsPlaced xs row → IsPlaced ys (change row)) → ArePlaced ys after
placed-through xs ys change rows after each placed step = λ tn.
    subst (λ o. IfSome o (λ row. IsPlaced ys row)) (sym (each tn))
    (elim (get rows tn) as (λ o. get rows tn ≡ o → IfSome o (λ row. IsPlaced xs row) → IfSome (option_map change o) (λ row. IsPlaced ys row))
    [ None ↦ (λ e h. tt) | Some row ↦ (λ e h. step tn row e h) ] refl (placed tn))

-- ---- ADD

placed-add : (xs : List Range) (r : Range) (row : Row) → IsPlaced xs row → IsPlaced (xs ++ r ∷ []) row
placed-add xs r row p = record { size = p.size; range = p.range; live = Contains-append_left xs (r ∷ []) p.range p.live; held = p.held; esn = p.esn }

-- ---- RETIRE

unused-row : (es : List (List ℕ × Row)) (r : Range) (tn : List ℕ) (row : Row) → option_map (λ e. e.0) (find (λ (e : List ℕ × Row). holds_row r e.1) es) ≡ None → ordered.find tn_cmp tn es ≡ Some row → holds_row r row ≡ false
unused-row [] r tn row h k = absurd cc
unused-row (e ∷ es) r tn row h k =
    elim (holds_row r e.1) as (λ b. holds_row r e.1 ≡ b → option_map (λ (x : List ℕ × Row). x.0) (cond b (Some e) (find (λ (x : List ℕ × Row). holds_row r x.1) es)) ≡ None → holds_row r row ≡ false) [
      | true ↦ (λ t n. absurd cc)
      | false ↦ (λ t n.
          elim (eq_by_cmp tn_cmp tn e.0) as (λ b. cond b (Some e.1) (ordered.find tn_cmp tn es) ≡ Some row → holds_row r row ≡ false)
          [ true ↦ (λ s. let is : e.1 ≡ row = cc in subst (λ x. holds_row r x ≡ false) is t) | false ↦ (λ s. unused-row es r tn row n s) ] k)
    ] refl h

placed-retire : (g : StreetGuide) (rows : NumberTable) (id : ℕ) (r : Range) (tn : List ℕ) (row : Row) → AreSound g rows → range_of g.ranges id ≡ Some r → least_held rows r ≡ None
    → get rows tn ≡ Some row → IsPlaced g.ranges row → IsPlaced (without g.ranges id) row
placed-retire g rows id r tn row sound found none has p =
    let w = live g.ranges id r found in
    let free : holds_row r row ≡ false = unused-row (entries rows) r tn row none (sym (get-entries rows tn) ∙ has) in
    let other : p.range.id ≡ id → ⊥ = λ e.
    let is : p.range ≡ r = one_of_id g.ranges p.range r sound.different p.live w.0 (e ∙ sym w.1) in
    not_both (holds_row r row) (subst (λ t. holds_row t row ≡ true) is p.held) free in
    record {
      size = p.size;
      range = p.range;
      live = Contains-filter (λ t. not (t.id == id)) g.ranges p.range p.live (ap not (different-test p.range.id id other));
      held = p.held;
      esn = p.esn;
    }

-- ---- SETESN

-- a row that gets the emergency service number of a range that holds it is placed there
placed-esn : (ys : List Range) (s : Range) (row : Row) → length row.rec ≡ 512 → s.esn ≤ HIGHEST_ESN → Contains ys s → holds_row s row ≡ true → IsPlaced ys (record row { rec = with_esn row.rec s.esn })
placed-esn ys s row size small there held = record {
  size = esn-size row.rec s.esn size small;
  range = s;
  live = there;
  held = same-address s row.rec (with_esn row.rec s.esn) (esn-key row.rec s.esn size small) (esn-house row.rec s.esn size small) ∙ held;
  esn = esn-there row.rec s.esn size small;
}

placed-set_esn : (g : StreetGuide) (rows : NumberTable) (id esn : ℕ) (r : Range) (row : Row) → AreSound g rows → range_of g.ranges id ≡ Some r → esn ≤ HIGHEST_ESN
    → IsPlaced g.ranges row → IsPlaced (with_moved g.ranges id r.low r.high esn) (esn_row r esn row)
placed-set_esn g rows id esn r row sound found small p =
    let ys = with_moved g.ranges id r.low r.high esn in
    choice (holds_row r row) (record row { rec = with_esn row.rec esn }) row (IsPlaced ys)
    (λ h. placed-esn ys (moved r r.low r.high esn) row p.size small (moved-live g.ranges id r.low r.high esn r found) h)
    (λ h. placed-other g rows id r.low r.high esn r row sound found h p)

-- ---- SPLIT

-- what the upper part does not hold, the lower part holds
not_above : (r : Range) (new at esn : ℕ) (row : Row) → holds_row r row ≡ true → holds_row (upper_part r new at esn) row ≡ false → holds_row (moved r r.low (greatest_to r.parity at) r.esn) row ≡ true
not_above r new at esn row k h =
    let a = held-address r row.rec k in
    let n : ℕ = a.0 in
    let q = and_parts (same_key r.key (record_key row.rec)) (is_held r n) a.2 in
    let w = held-parts r n q.1 in
    let gap = none_between r.parity at n w.2 in
    let s : Range = upper_part r new at esn in
    let below : n ≤ at = at_most n at (λ gt.
    let held : is_held s n ≡ true = held-from s n (gap.1 gt, w.1, w.2) in
    not_both (holds_row s row) (held-by s row.rec n a.1 (and_from _ _ q.0 held)) h) in
    held-by (moved r r.low (greatest_to r.parity at) r.esn) row.rec n a.1 (and_from _ _ q.0 (held-from (moved r r.low (greatest_to r.parity at) r.esn) n (w.0, gap.0 below, w.2)))

placed-split : (g : StreetGuide) (rows : NumberTable) (id new at esn : ℕ) (r : Range) (row : Row) → AreSound g rows → range_of g.ranges id ≡ Some r → esn ≤ HIGHEST_ESN
    → IsPlaced g.ranges row
    → IsPlaced (with_moved g.ranges id r.low (greatest_to r.parity at) r.esn ++ upper_part r new at esn ∷ []) (esn_row (upper_part r new at esn) esn row)
placed-split g rows id new at esn r row sound found small p =
    let xs = with_moved g.ranges id r.low (greatest_to r.parity at) r.esn in
    let s : Range = upper_part r new at esn in
    let lower : Range = moved r r.low (greatest_to r.parity at) r.esn in
    choice (holds_row s row) (record row { rec = with_esn row.rec esn }) row (IsPlaced (xs ++ s ∷ []))
    (λ h. placed-esn (xs ++ s ∷ []) s row p.size small (Contains-push xs s) h)
    (λ h. placed-add xs s row (stay (holds_row r row) refl h))
  where
    stay : (b : Bool) → holds_row r row ≡ b → holds_row (upper_part r new at esn) row ≡ false → IsPlaced (with_moved g.ranges id r.low (greatest_to r.parity at) r.esn) row
    stay false k h = placed-other g rows id r.low (greatest_to r.parity at) r.esn r row sound found k p
    stay true k h =
        let w = live g.ranges id r found in
        let is : p.range ≡ r = one_of_row g rows p.range r row sound p.live w.0 p.held k in
        record {
          size = p.size;
          range = moved r r.low (greatest_to r.parity at) r.esn;
          live = moved-live g.ranges id r.low (greatest_to r.parity at) r.esn r found;
          held = not_above r new at esn row k h;
          esn = p.esn ∙ ap (λ (t : Range). zero_padded 5 t.esn) is;
        }

-- ---- RENUMBER

placed-renumber : (g : StreetGuide) (rows : NumberTable) (id : ℕ) (by : ℤ) (r : Range) (row : Row) → AreSound g rows → range_of g.ranges id ≡ Some r
    → (is_one_parity r.parity && is_odd by) ≡ false → stays_house r.low by ≡ true → stays_house r.high by ≡ true
    → IsPlaced g.ranges row → IsPlaced (with_moved g.ranges id (added r.low by) (added r.high by) r.esn) (shifted_row r by row)
placed-renumber g rows id by r row sound found even low high p =
    let ys = with_moved g.ranges id (added r.low by) (added r.high by) r.esn in
    let new = option_map_or (λ n. added n by) (record_house row.rec) 0 in
    choice (holds_row r row) (record row { rec = with_house row.rec new }) row (IsPlaced ys)
    (λ k.
    let w = live g.ranges id r found in
    let is : p.range ≡ r = one_of_row g rows p.range r row sound p.live w.0 p.held k in
    let a = held-address r row.rec k in
    let n : ℕ = a.0 in
    let m : ℕ = added n by in
    let same : new ≡ m = ap (λ o. option_map_or (λ n. added n by) o 0) a.1 in
    let q = and_parts (same_key r.key (record_key row.rec)) (is_held r n) a.2 in
    let at = held-parts r n q.1 in
    let top : r.high ≤ HIGHEST_HOUSE = All-contains (λ t. t.high ≤ HIGHEST_HOUSE) g.ranges r sound.numbers w.0 in
    let stays : stays_house n by ≡ true = stays-between r.low n r.high by at.0 at.1 low high in
    let small : m ≤ HIGHEST_HOUSE = added-limit n by (omega (arith, at.1, top)) stays in
    let held : is_held (shifted r by) m ≡ true = held-from (shifted r by) m (added-order r.low n by at.0, added-order n r.high by at.1, added-parity r.parity n by even stays at.2) in
    let size = p.size in
    subst (λ (x : ℕ). IsPlaced ys (record row { rec = with_house row.rec x })) (sym same) (record {
      size = house-size row.rec m size small;
      range = shifted r by;
      live = moved-live g.ranges id (added r.low by) (added r.high by) r.esn r found;
      held = held-by (shifted r by) (with_house row.rec m) m (house-there row.rec m size small)
          (subst (λ key. holds (shifted r by) key m ≡ true) (sym (house-key row.rec m size small)) (and_from _ _ q.0 held));
      esn = house-esn row.rec m size small ∙ p.esn ∙ ap (λ (t : Range). zero_padded 5 t.esn) is;
    }))
    (λ k. placed-other g rows id (added r.low by) (added r.high by) r.esn r row sound found k p)

-- ---- what a verdict of code 0 tells

add-done : (g : StreetGuide) (rows after : NumberTable) (key : StreetKey) (low high : ℕ) (parity : Parity) (esn : ℕ) → AreSound g rows
    → AreChanged (λ row. row) rows after → ArePlaced (add_act g key low high parity esn).ranges after
add-done g rows after key low high parity esn sound each =
    placed-through g.ranges (add_act g key low high parity esn).ranges (λ row. row) rows after each sound.placed
    (λ tn row has p. placed-add g.ranges (new_range g.next key low high parity esn) row p)

-- what is done to a range that is there
on_range-is : (g : StreetGuide) (id : ℕ) (act : Range → EditAct) (r : Range) → range_of g.ranges id ≡ Some r → on_range g id act ≡ act r
on_range-is g id act r found = ap (λ o. option_map_or act o (nothing g)) found

retire-done : (g : StreetGuide) (rows after : NumberTable) (id : ℕ) → AreSound g rows → (retire_verdict g rows id).code ≡ 0
    → AreChanged (λ row. row) rows after → ArePlaced (without g.ranges id) after
retire-done g rows after id sound clear each =
    let w = found_range (range_of g.ranges id) (λ r. unused (least_held rows r)) clear in
    let none : least_held rows w.0 ≡ None = no_row (least_held rows w.0) w.2 in
    placed-through g.ranges (without g.ranges id) (λ row. row) rows after each sound.placed
    (λ tn row has p. placed-retire g rows id w.0 tn row sound w.1 none has p)
  where
    no_row : (o : Option (List ℕ)) → (unused o).code ≡ 0 → o ≡ None
    no_row None h = refl
    no_row (Some tn) h = absurd (omega arith)

split-done : (g : StreetGuide) (rows after : NumberTable) (id at esn : ℕ) → AreSound g rows → (split_verdict g id at esn).code ≡ 0
    → AreChanged (split_act g id at esn).row rows after → ArePlaced (split_act g id at esn).ranges after
split-done g rows after id at esn sound clear each =
    let test = λ (r : Range). (if has_empty_part r at then refused 505 else (if not (is_esn esn) then refused 508 else new_id g)) in
    let act = λ (r : Range). (let a : EditAct = record {
      ranges = with_moved g.ranges id r.low (greatest_to r.parity at) r.esn ++ upper_part r g.next at esn ∷ [];
      next = g.next + 1;
      row = esn_row (upper_part r g.next at esn) esn;
    } in a) in
    let w = found_range (range_of g.ranges id) test clear in
    let r : Range = w.0 in
    let parts = not_refused (has_empty_part r at) 505 (if not (is_esn esn) then refused 508 else new_id g) (omega arith) w.2 in
    let number = not_refused (not (is_esn esn)) 508 (new_id g) (omega arith) parts.1 in
    let small = small_esn esn (not-false _ number.0) in
    let is : split_act g id at esn ≡ act r = on_range-is g id act r w.1 in
    subst (λ (a : EditAct). ArePlaced a.ranges after) (sym is)
    (placed-through g.ranges (act r).ranges (act r).row rows after (subst (λ (a : EditAct). AreChanged a.row rows after) is each) sound.placed
    (λ tn row has p. placed-split g rows id g.next at esn r row sound w.1 small p))

set_esn-done : (g : StreetGuide) (rows after : NumberTable) (id esn : ℕ) → AreSound g rows → (set_esn_verdict g rows id esn).code ≡ 0
    → AreChanged (set_esn_act g id esn).row rows after → ArePlaced (set_esn_act g id esn).ranges after
set_esn-done g rows after id esn sound clear each =
    let test = λ (r : Range). (if not (is_esn esn) then refused 508 else done (count_held rows r)) in
    let act = λ (r : Range). (let a : EditAct = record { ranges = with_moved g.ranges id r.low r.high esn; next = g.next; row = esn_row r esn } in a) in
    let w = found_range (range_of g.ranges id) test clear in
    let r : Range = w.0 in
    let number = not_refused (not (is_esn esn)) 508 (done (count_held rows r)) (omega arith) w.2 in
    let small = small_esn esn (not-false _ number.0) in
    let is : set_esn_act g id esn ≡ act r = on_range-is g id act r w.1 in
    subst (λ (a : EditAct). ArePlaced a.ranges after) (sym is)
    (placed-through g.ranges (act r).ranges (act r).row rows after (subst (λ (a : EditAct). AreChanged a.row rows after) is each) sound.placed
    (λ tn row has p. placed-set_esn g rows id esn r row sound w.1 small p))

renumber-done : (g : StreetGuide) (rows after : NumberTable) (id : ℕ) (by : ℤ) → AreSound g rows → (renumber_verdict g rows id by).code ≡ 0
    → AreChanged (renumber_act g id by).row rows after → ArePlaced (renumber_act g id by).ranges after
renumber-done g rows after id by sound clear each =
    let last = λ (r : Range). unless_overlap (least_overlap g.ranges (shifted r by) (Some id)) (done (count_held rows r)) in
    let second = λ (r : Range). (if not (stays_house r.low by && stays_house r.high by) then refused 506 else last r) in
    let test = λ (r : Range). (if is_one_parity r.parity && is_odd by then refused 507 else second r) in
    let act = λ (r : Range). (let a : EditAct = record { ranges = with_moved g.ranges id (added r.low by) (added r.high by) r.esn; next = g.next; row = shifted_row r by } in a) in
    let w = found_range (range_of g.ranges id) test clear in
    let r : Range = w.0 in
    let even = not_refused (is_one_parity r.parity && is_odd by) 507 (second r) (omega arith) w.2 in
    let inside = not_refused (not (stays_house r.low by && stays_house r.high by)) 506 (last r) (omega arith) even.1 in
    let ends = and_parts (stays_house r.low by) (stays_house r.high by) (not-false _ inside.0) in
    let is : renumber_act g id by ≡ act r = on_range-is g id act r w.1 in
    subst (λ (a : EditAct). ArePlaced a.ranges after) (sym is)
    (placed-through g.ranges (act r).ranges (act r).row rows after (subst (λ (a : EditAct). AreChanged a.row rows after) is each) sound.placed
    (λ tn row has p. placed-renumber g rows id by r row sound w.1 even.0 ends.0 ends.1 p))

-- an edit that is done leaves each row placed
pub placed-kept : (g : StreetGuide) (rows after : NumberTable) (edit : Edit) → AreSound g rows → (edit_verdict g rows edit).code ≡ 0
    → AreChanged (edit_act g edit).row rows after → ArePlaced (edit_act g edit).ranges after
placed-kept g rows after (Add key low high parity esn) sound clear each = add-done g rows after key low high parity esn sound each
placed-kept g rows after (Retire id) sound clear each = retire-done g rows after id sound clear each
placed-kept g rows after (Split id at esn) sound clear each = split-done g rows after id at esn sound clear each
placed-kept g rows after (Renumber id by) sound clear each = renumber-done g rows after id by sound clear each
placed-kept g rows after (SetEsn id esn) sound clear each = set_esn-done g rows after id esn sound clear each

-- guide and rows are sound where the guide is one, and each row is placed
pub sound-from : (g : StreetGuide) (rows : NumberTable) → IsSoundGuide g.ranges g.next g.limit → ArePlaced g.ranges rows → AreSound g rows
sound-from g rows s placed = record {
  ends = s.ends;
  numbers = s.numbers;
  different = different_ids g.ranges s.rising;
  known = λ k d inside. (s.known k d inside).1;
  apart = s.apart;
  placed = placed;
}

-- guide and rows are the old ones
sound-same : (g later : StreetGuide) (before after : NumberTable) → AreKept g later before after → AreSound g before → AreSound later after
sound-same g later before after kept sound =
    let same : AreSound (record g { spare = later.spare }) before = record {
      ends = sound.ends;
      numbers = sound.numbers;
      different = sound.different;
      known = sound.known;
      apart = sound.apart;
      placed = sound.placed;
    } in
    subst (λ (m : NumberTable). AreSound later m) (sym kept.rows) (subst (λ (x : StreetGuide). AreSound x before) (sym kept.guide) same)

same_or_not : (n : ℕ) → (n ≡ 0) ⊎ (n ≢ 0)
same_or_not n = grind arith

-- whatever an edit answers, guide and rows stay sound
pub sound-kept : (edit : Edit) (g later : StreetGuide) (before after : NumberTable) (result : Result EditVerdict NoMemory)
    → IsApplied edit g later before after result → AreSound g before → AreSound later after
sound-kept edit g later before after (Err e) applied sound = sound-same g later before after applied.kept sound
sound-kept edit g later before after (Ok answer) applied sound =
    elim (same_or_not answer.code) as (λ _. AreSound later after) [
      | inl is ↦ (
          let done = applied.done is in
          let code : (edit_verdict g before edit).code ≡ 0 = sym (ap (λ (v : EditVerdict). v.code) applied.verdict) ∙ is in
          let ranges : later.ranges ≡ (edit_act g edit).ranges = ap (λ (x : StreetGuide). x.ranges) done.guide in
          sound-from later after done.sound (subst (λ (xs : List Range). ArePlaced xs after) (sym ranges) (placed-kept g before after edit sound code done.rows)))
      | inr other ↦ sound-same g later before after (applied.refused other) sound
    ]
