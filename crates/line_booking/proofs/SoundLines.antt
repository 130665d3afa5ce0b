-- Guide and table stay sound after a line.
use Rattle.std.proofs.Common.{◌≡◌, ℕ, ◌==◌, ◌||◌, Bool, true, false, cond, List, length, refl, ap, sym, ◌∙◌, subst, Option, Some, None, IfSome, Result, Ok, Err}
use Rattle.std.specs.Option.{option_map, option_map_or}
use Rattle.std.specs.Str.{bytes_eq}
use Rattle.std.specs.FinMap.{get}
use Rattle.ali_base.specs.CivilDay.{CivilDay, day_of}
use Rattle.msag_ranges.specs.StreetGuide.{StreetGuide}
use Rattle.msag_ranges.specs.declared.range.Range.{Range}
use Rattle.ali_record.specs.Functions.{function_of}
use Rattle.ali_record.specs.Layout.{field_of, byte_of}
use Rattle.ali_record.specs.RecordReading.{is_function, sends_address}
use Rattle.ali_record.specs.declared.field.Field.TheVariants as field
use Rattle.msag_edits.specs.GuideSoundness.{IsPlaced, AreSound}
use Rattle.msag_edits.proofs.GuideEdits.{HaveFiveDigits}
use Rattle.number_life.specs.declared.act.LifeAct.{LifeAct}
use Rattle.number_life.specs.declared.act.LifeAct.TheVariants.{Store, Remove, Unlock}
use Rattle.ali_record.specs.declared.function.Function.TheVariants as function
use Rattle.number_life.specs.declared.number_standing.NumberStanding.{NumberStanding}
use Rattle.number_life.specs.declared.number_standing.NumberStanding.TheVariants.{Absent}
use Rattle.number_life.specs.declared.row.Row.{Row}
use Rattle.number_life.specs.NumberLife.{life, life_of, number_standing}
use Rattle.number_table.specs.NumberTable.{NumberTable}
use Rattle.line_booking.specs.declared.judging.Asked.{Asked}
use Rattle.line_booking.specs.AskedLines.{IsAsked}
use Rattle.line_booking.specs.LineVerdict.{record_act, acted, stored, table_after, table_with_line}
use Rattle.line_booking.proofs.ActedRows.{row_acted, get_acted}
use Rattle.line_booking.proofs.RecordActs.{read_tells, judged}
use Rattle.line_booking.proofs.StoredRecords.{stored-size, stored-placed, held_there}

-- ---- what is stored was sent with an address

deletes_none : (standing : NumberStanding) (day : CivilDay) → life function.Delete standing day ≡ Ok Store → ⊥
deletes_none Absent day h = cc
deletes_none _ day h = cc

unlocks_none : (standing : NumberStanding) (day : CivilDay) → life function.Unlock standing day ≡ Ok Store → ⊥
unlocks_none Absent day h = cc
unlocks_none _ day h = cc

-- the tests of the letters I, C, D, U and M
by_letter : (i c d u m : Bool) (standing : NumberStanding) (day : CivilDay) → (i || c || d || u || m) ≡ true
    → life (cond i function.Insert (cond c function.Change (cond d function.Delete (cond u function.Unlock function.Migrate)))) standing day ≡ Ok Store → (i || c || m) ≡ true
by_letter true c d u m standing day one h = refl
by_letter false true d u m standing day one h = refl
by_letter false false true u m standing day one h = absurd (deletes_none standing day h)
by_letter false false false true m standing day one h = absurd (unlocks_none standing day h)
by_letter false false false false m standing day one h = one

store_sends : (found : Option Row) (bytes : List ℕ) → is_function (byte_of bytes field.Function) ≡ true → life_of found bytes ≡ Ok Store → sends_address (byte_of bytes field.Function) ≡ true
unfolding life_of
store_sends found bytes one h = by_day (day_of (field_of bytes field.ExtractDate)) h
  where
    byte : ℕ
    byte = byte_of bytes field.Function

    standing : NumberStanding
    standing = number_standing found (field_of bytes field.Company)

    by_day : (day : Option CivilDay) → option_map_or (life (function_of byte) standing) day (Err 107) ≡ Ok Store → sends_address byte ≡ true
    by_day None h = absurd cc
    by_day (Some day) h = by_letter (byte == 73) (byte == 67) (byte == 68) (byte == 85) (byte == 77) standing day one h

-- ---- rows

placed_if : (ranges : List Range) (b : Bool) (found other : Option Row) → IfSome found (IsPlaced ranges) → IfSome other (IsPlaced ranges) → IfSome (cond b found other) (IsPlaced ranges)
placed_if ranges true found other h k = h
placed_if ranges false found other h k = k

placed_unlocked : (ranges : List Range) (found : Option Row) (day : CivilDay) → IfSome found (IsPlaced ranges) → IfSome (option_map {T = Row} (λ row. record row { unlocked = Some day }) found) (IsPlaced ranges)
placed_unlocked ranges None day h = tt
placed_unlocked ranges (Some row) day h = record { size = h.size; range = h.range; live = h.live; held = h.held; esn = h.esn }

-- ---- lines

module _ (g : StreetGuide) (table : NumberTable) (most : ℕ) (company bytes : List ℕ) (size : length bytes ≡ 512) (sound : AreSound g table) where
  abbrev number : List ℕ
  number = field_of bytes field.TelephoneNumber

  abbrev rec : List ℕ
  rec = stored g.ranges bytes

  row_placed : (act : LifeAct) → length rec ≡ 512 → record_act g.ranges table most company bytes ≡ Ok act → IfSome (row_acted (get table number) rec act) (IsPlaced g.ranges)
  row_placed Remove whole h = tt
  row_placed (Unlock day) whole h = placed_unlocked g.ranges (get table number) day (sound.placed number)
  row_placed Store whole h =
      let j = judged g.ranges table most company bytes Store h in
      let read = read_tells company bytes j.reading in
      let sends = store_sends (get table number) bytes read.function j.life in
      stored-placed g.ranges bytes size whole (held_there g.ranges bytes sends (read.house sends) j.placed)

  -- what is done with a record that was judged keeps guide and table sound
  sound_acted : (act : LifeAct) → length rec ≡ 512 → record_act g.ranges table most company bytes ≡ Ok act → AreSound g (acted table number rec act)
  sound_acted act whole h = record {
    ends = sound.ends;
    numbers = sound.numbers;
    different = sound.different;
    known = sound.known;
    apart = sound.apart;
    placed = λ q. subst (λ o. IfSome o (IsPlaced g.ranges)) (sym (get_acted table number rec act q)) (placed_if g.ranges (bytes_eq q number) (row_acted (get table number) rec act) (get table q) (row_placed act whole h) (sound.placed q));
  }

  -- a line keeps them sound, where emergency service numbers have five digits
  pub sound_line : HaveFiveDigits g.ranges → AreSound g (table_with_line g.ranges table most company bytes)
  sound_line small = at (record_act g.ranges table most company bytes) refl
    where
      at : (r : Result LifeAct ℕ) → record_act g.ranges table most company bytes ≡ r → AreSound g (table_after g.ranges table bytes r)
      at (Err code) h = sound
      at (Ok act) h = sound_acted act (stored-size g.ranges bytes small size) h

-- ---- what was asked for and done

done_is : (ranges : List Range) (table later : NumberTable) (most : ℕ) (company bytes : List ℕ) (asked : Asked) → IsAsked ranges table most company bytes asked → later ≡ acted table asked.tn asked.rec asked.act
    → later ≡ acted table (field_of bytes field.TelephoneNumber) (stored ranges bytes) asked.act
done_is ranges table later most company bytes asked is done = done ∙ ap (λ n. acted table n asked.rec asked.act) is.tn ∙ ap (λ r. acted table (field_of bytes field.TelephoneNumber) r asked.act) is.rec

-- it is the table with the line
pub asked_table : (ranges : List Range) (table later : NumberTable) (most : ℕ) (company bytes : List ℕ) (asked : Asked) → IsAsked ranges table most company bytes asked → later ≡ acted table asked.tn asked.rec asked.act
    → later ≡ table_with_line ranges table most company bytes
asked_table ranges table later most company bytes asked is done = done_is ranges table later most company bytes asked is done ∙ ap (table_after ranges table bytes) (sym is.act)

-- and sound
pub asked_sound : (g : StreetGuide) (table later : NumberTable) (most : ℕ) (company bytes : List ℕ) (asked : Asked) → length bytes ≡ 512 → IsAsked g.ranges table most company bytes asked → later ≡ acted table asked.tn asked.rec asked.act
    → AreSound g table → AreSound g later
asked_sound g table later most company bytes asked size is done sound =
    subst (λ t. AreSound g t) (sym (done_is g.ranges table later most company bytes asked is done)) (sound_acted g table most company bytes size sound asked.act (ap length (sym is.rec) ∙ is.size) is.act)
