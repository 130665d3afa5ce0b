-- What holds of a table after a line: each row has its number in its columns, and the limit of numbers is kept.
use Rattle.std.proofs.Common.{◌≡◌, ◌⊎◌, inl, inr, ℕ, ◌+◌, ◌-◌, ◌<◌, ◌≤◌, Bool, true, false, cond, List, refl, ap, sym, ◌∙◌, subst, arith, Option, Some, None, is_some, IfSome, Result, Ok, Err}
use Rattle.std.specs.Option.{option_map, option_map_or}
use Rattle.std.specs.FinMap.{get, len, insert, len-insert, len-remove}
use Rattle.std.specs.Str.{bytes_eq}
use Rattle.std.proofs.lemmas.Cmp.{nat_list_cmp_total}
use Rattle.std.proofs.lemmas.Slice.Eq.{bytes_eq-Decides}
use Rattle.ali_base.specs.CivilDay.{CivilDay}
use Rattle.ali_record.specs.Layout.{field_of}
use Rattle.ali_record.specs.declared.field.Field.TheVariants as field
use Rattle.msag_edits.proofs.GuideEdits.{HaveFiveDigits}
use Rattle.msag_ranges.specs.declared.range.Range.{Range}
use Rattle.number_life.specs.declared.act.LifeAct.{LifeAct}
use Rattle.number_life.specs.declared.act.LifeAct.TheVariants.{Store, Remove, Unlock}
use Rattle.number_life.specs.declared.row.Row.{Row}
use Rattle.number_table.specs.NumberTable.{NumberTable}
use Rattle.line_booking.specs.LineVerdict.{record_act, stored, acted, table_after, table_with_line}
use Rattle.line_booking.proofs.ActedRows.{row_acted, get_acted}
use Rattle.line_booking.proofs.RecordActs.{judged, read_tells}
use Rattle.line_booking.proofs.Rooms.{stored_within}
use Rattle.line_booking.proofs.StoredRecords.{stored-number}

-- the row has this number in its columns
abbrev pub HasNumber : List ℕ → Row → Type 0
HasNumber tn row = field_of row.rec field.TelephoneNumber ≡ tn

-- and each row of the table has its own
abbrev pub HaveOwnNumbers : NumberTable → Type 0
HaveOwnNumbers table = (tn : List ℕ) → IfSome (get table tn) (HasNumber tn)

one_more : (b : Bool) (n most : ℕ) → (b ≡ true) ⊎ (n < most) → n ≤ most → cond b n (n + 1) ≤ most
one_more true n most room low = low
one_more false n most (inl h) low = absurd (cc h)
one_more false n most (inr h) low = omega (arith, h)

one_less : (b : Bool) (n most : ℕ) → n ≤ most → cond b (n - 1) n ≤ most
one_less true n most low = omega (arith, low)
one_less false n most low = low

module _ (ranges : List Range) (table : NumberTable) (most : ℕ) (company bytes : List ℕ) where
  abbrev number : List ℕ
  number = field_of bytes field.TelephoneNumber

  abbrev rec : List ℕ
  rec = stored ranges bytes

  -- ---- numbers

  unlocked_number : (found : Option Row) (day : CivilDay) → IfSome found (HasNumber number) → IfSome (option_map {T = Row} (λ row. record row { unlocked = Some day }) found) (HasNumber number)
  unlocked_number None day h = tt
  unlocked_number (Some row) day h = h

  acted_number : HaveFiveDigits ranges → HaveOwnNumbers table → (act : LifeAct) → record_act ranges table most company bytes ≡ Ok act → IfSome (row_acted (get table number) rec act) (HasNumber number)
  acted_number small own Remove h = tt
  acted_number small own (Unlock day) h = unlocked_number (get table number) day (own number)
  acted_number small own Store h = let read = read_tells company bytes (judged ranges table most company bytes Store h).reading in stored-number ranges bytes small (omega (arith, read.long))

  -- after a line each row has its own number
  pub own_numbers : HaveFiveDigits ranges → HaveOwnNumbers table → HaveOwnNumbers (table_with_line ranges table most company bytes)
  own_numbers small own = at (record_act ranges table most company bytes) refl
    where
      which : (q : List ℕ) (b : Bool) (o : Option Row) → bytes_eq q number ≡ b → IfSome o (HasNumber number) → IfSome (cond b o (get table q)) (HasNumber q)
      which q true o same there = subst (λ n. IfSome o (HasNumber n)) (sym ((bytes_eq-Decides q number).0 same)) there
      which q false o differ there = own q

      at : (r : Result LifeAct ℕ) → record_act ranges table most company bytes ≡ r → HaveOwnNumbers (table_after ranges table bytes r)
      at (Err code) h = own
      at (Ok act) h = λ q. subst (λ o. IfSome o (HasNumber q)) (sym (get_acted table number rec act q)) (which q (bytes_eq q number) (row_acted (get table number) rec act) refl (acted_number small own act h))

  -- ---- the limit

  no_more : (day : CivilDay) (found : Option Row) → get table number ≡ found → len table ≤ most → len (option_map_or (λ row. insert table number (record row { unlocked = Some day })) found table) ≤ most
  no_more day None is low = low
  no_more day (Some row) is low =
      omega (arith, low, len-insert nat_list_cmp_total table number (record row { unlocked = Some day }) ∙ ap (λ o. cond (is_some o) (len table) (len table + 1)) is)

  acted_len : len table ≤ most → (act : LifeAct) → record_act ranges table most company bytes ≡ Ok act → len (acted table number rec act) ≤ most
  acted_len low Remove h = subst (λ n. n ≤ most) (sym (len-remove nat_list_cmp_total table number)) (one_less (is_some (get table number)) (len table) most low)
  acted_len low (Unlock day) h = no_more day (get table number) refl low
  acted_len low Store h =
      let j = judged ranges table most company bytes Store h in
      subst (λ n. n ≤ most) (sym (len-insert nat_list_cmp_total table number (record { rec = rec; unlocked = None })))
      (one_more (is_some (get table number)) (len table) most (stored_within table (get table number) bytes most j.life j.room) low)

  -- after a line the table is within the limit of numbers
  pub line_within : len table ≤ most → len (table_with_line ranges table most company bytes) ≤ most
  line_within low = at (record_act ranges table most company bytes) refl
    where
      at : (r : Result LifeAct ℕ) → record_act ranges table most company bytes ≡ r → len (table_after ranges table bytes r) ≤ most
      at (Err code) h = low
      at (Ok act) h = acted_len low act h
