-- What a record of a company's file does to the row of its number, and to every other row.
use Rattle.std.proofs.Common.{◌≡◌, inl, inr, ℕ, true, false, cond, List, refl, ap, sym, ◌∙◌, arith, Option, Some, None, IsSome, Result, Ok, Err, ◌⊎◌}
use Rattle.std.specs.Option.{option_map_or, unwrap_or}
use Rattle.std.specs.FinMap.{get}
use Rattle.std.specs.Str.{bytes_eq}
use Rattle.std.proofs.lemmas.Bool.{false_from_ne_true}
use Rattle.std.proofs.lemmas.Slice.Eq.{bytes_eq-Decides}
use Rattle.ali_base.specs.CivilDay.{CivilDay, day_of}
use Rattle.ali_record.specs.Functions.{function_of}
use Rattle.ali_record.specs.Layout.{field_of, byte_of}
use Rattle.ali_record.specs.declared.field.Field.TheVariants as field
use Rattle.msag_ranges.specs.declared.range.Range.{Range}
use Rattle.msag_edits.proofs.GuideEdits.{HaveFiveDigits}
use Rattle.number_life.specs.declared.act.LifeAct.{LifeAct}
use Rattle.number_life.specs.declared.act.LifeAct.TheVariants.{Store, Remove, Unlock}
use Rattle.ali_record.specs.declared.function.Function.{Function}
use Rattle.ali_record.specs.declared.function.Function.TheVariants as function
use Rattle.number_life.specs.declared.row.Row.{Row}
use Rattle.number_life.specs.declared.number_standing.NumberStanding.{NumberStanding}
use Rattle.number_life.specs.declared.number_standing.NumberStanding.TheVariants.{Absent, OwnLocked}
use Rattle.number_life.specs.NumberLife.{life, life_of, own, others, owner, number_standing}
use Rattle.number_table.specs.NumberTable.{NumberTable}
use Rattle.line_booking.specs.LineLaws.{IsMigrated, IsUnlocked}
use Rattle.line_booking.specs.LineVerdict.{record_act, stored, table_with_line}
use Rattle.line_booking.proofs.ActedRows.{get_own, get_other, row_after}
use Rattle.line_booking.proofs.RecordActs.{judged, read_tells}
use Rattle.line_booking.proofs.StoredRecords.{stored-company}

-- the row was unlocked, and the function migrates it
abbrev Migrates : Option CivilDay → Function → LifeAct → Type 0
Migrates unlocked f act = IsSome unlocked × (f ≡ function.Migrate) × (act ≡ Store)

only_migrates : (f : Function) (unlocked : Option CivilDay) (day : CivilDay) (act : LifeAct) → life f (others unlocked) day ≡ Ok act → Migrates unlocked f act
only_migrates function.Migrate (Some d) day act h = (refl, refl, cc h)
only_migrates function.Migrate None day act h = absurd (cc h)
only_migrates function.Insert None day act h = absurd (cc h)
only_migrates function.Insert (Some d) day act h = absurd (cc h)
only_migrates function.Change None day act h = absurd (cc h)
only_migrates function.Change (Some d) day act h = absurd (cc h)
only_migrates function.Delete None day act h = absurd (cc h)
only_migrates function.Delete (Some d) day act h = absurd (cc h)
only_migrates function.Unlock None day act h = absurd (cc h)
only_migrates function.Unlock (Some d) day act h = absurd (cc h)

-- only the function U on a row of its own that is locked unlocks it, on the record's day
only_unlocks : (f : Function) (standing : NumberStanding) (day d : CivilDay) → life f standing day ≡ Ok (Unlock d) → (f ≡ function.Unlock) × (standing ≡ OwnLocked) × (day ≡ d)
only_unlocks function.Unlock OwnLocked day d h = (refl, refl, cc h)
only_unlocks function.Unlock _ day d h = absurd (cc h)
only_unlocks function.Insert Absent day d h = absurd (cc h)
only_unlocks function.Insert _ day d h = absurd (cc h)
only_unlocks function.Change Absent day d h = absurd (cc h)
only_unlocks function.Change _ day d h = absurd (cc h)
only_unlocks function.Delete Absent day d h = absurd (cc h)
only_unlocks function.Delete _ day d h = absurd (cc h)
only_unlocks function.Migrate Absent day d h = absurd (cc h)
only_unlocks function.Migrate _ day d h = absurd (cc h)

-- what the life of a number says, by the day of the record
by_day : (P : CivilDay → Type 0) (f : Function) (standing : NumberStanding) (day : Option CivilDay) (act : LifeAct) → option_map_or (life f standing) day (Err 107) ≡ Ok act → ((d : CivilDay) → day ≡ Some d → life f standing d ≡ Ok act → P d) → (d : CivilDay) × (day ≡ Some d) × P d
by_day P f standing None act h next = absurd (cc h)
by_day P f standing (Some d) act h next = (d, refl, next d refl h)

unlike : (a b : List ℕ) → (a ≡ b → ⊥) → bytes_eq a b ≡ false
unlike a b differ = false_from_ne_true _ (λ e. differ ((bytes_eq-Decides a b).0 e))

one_or_two : (a b : List ℕ) → a ≡ b ⊎ (bytes_eq a b ≡ false)
one_or_two a b = elim (bytes_eq a b) as (λ t. bytes_eq a b ≡ t → a ≡ b ⊎ (bytes_eq a b ≡ false)) [ true ↦ λ e. inl ((bytes_eq-Decides a b).0 e) | false ↦ λ e. inr e ] refl

is_own : (row : Row) (company : List ℕ) → number_standing (Some row) company ≡ OwnLocked → (owner row ≡ company) × (row.unlocked ≡ None)
is_own row company h = elim (bytes_eq (owner row) company) as (λ t. bytes_eq (owner row) company ≡ t → cond t (own row.unlocked) (others row.unlocked) ≡ OwnLocked → (owner row ≡ company) × (row.unlocked ≡ None)) [
  | true ↦ λ e k. ((bytes_eq-Decides (owner row) company).0 e, locked row.unlocked k)
  | false ↦ λ e k. absurd (never row.unlocked k)
] refl h
  where
    locked : (unlocked : Option CivilDay) → own unlocked ≡ OwnLocked → unlocked ≡ None
    locked None h = refl
    locked (Some day) h = cc h

    never : (unlocked : Option CivilDay) → others unlocked ≡ OwnLocked → ⊥
    never None h = cc h
    never (Some day) h = cc h

-- a guide, a table, and a record of a company's file
module _ (ranges : List Range) (table : NumberTable) (most : ℕ) (company bytes : List ℕ) where
  abbrev number : List ℕ
  number = field_of bytes field.TelephoneNumber

  abbrev rec : List ℕ
  rec = stored ranges bytes

  abbrev asks : Function
  asks = function_of (byte_of bytes field.Function)

  abbrev later : NumberTable
  later = table_with_line ranges table most company bytes

  -- no other row is changed
  pub other_rows : (q : List ℕ) → (q ≡ number → ⊥) → get later q ≡ get table q
  other_rows q differ = get_other ranges table bytes q (record_act ranges table most company bytes) (unlike q number differ)

  -- a number that had no row has a locked one
  pub new_locked : (tn : List ℕ) (new : Row) → get table tn ≡ None → get later tn ≡ Some new → new.unlocked ≡ None
  new_locked tn new none e = elim (one_or_two tn number) [
    | inl same ↦ there (record_act ranges table most company bytes) (sym (get_own ranges table bytes tn (record_act ranges table most company bytes) same ∙ ap (λ o. row_after o rec (record_act ranges table most company bytes)) none) ∙ e)
    | inr other ↦ absurd (let h = sym none ∙ sym (get_other ranges table bytes tn (record_act ranges table most company bytes) other) ∙ e in cc)
  ]
    where
      there : (r : Result LifeAct ℕ) → row_after None rec r ≡ Some new → new.unlocked ≡ None
      there (Err code) h = absurd (cc h)
      there (Ok Store) h = ap (λ (o : Option Row). (unwrap_or o new).unlocked) (sym h)
      there (Ok Remove) h = absurd (cc h)
      there (Ok (Unlock day)) h = absurd (cc h)

  -- a number with a row
  module _ (tn : List ℕ) (row : Row) (held : get table tn ≡ Some row) where
    there : (tn ≡ number) → (r : Result LifeAct ℕ) → record_act ranges table most company bytes ≡ r → get later tn ≡ row_after (Some row) rec r
    there same r h = get_own ranges table bytes tn (record_act ranges table most company bytes) same ∙ ap (λ o. row_after o rec (record_act ranges table most company bytes)) held ∙ ap (row_after (Some row) rec) h

    elsewhere : bytes_eq tn number ≡ false → get later tn ≡ Some row
    elsewhere other = get_other ranges table bytes tn (record_act ranges table most company bytes) other ∙ held

    -- what is done to it is what the life of its number says
    lives : tn ≡ number → (act : LifeAct) → record_act ranges table most company bytes ≡ Ok act → life_of (Some row) bytes ≡ Ok act
    lives same act h = ap (λ o. life_of o bytes) (sym held ∙ ap (get table) same) ∙ (judged ranges table most company bytes act h).life

    of_company : (act : LifeAct) → record_act ranges table most company bytes ≡ Ok act → field_of bytes field.Company ≡ company
    of_company act h = (read_tells company bytes (judged ranges table most company bytes act h).reading).of_company

    others_act : tn ≡ number → (owner row ≡ company → ⊥) → (act : LifeAct) → record_act ranges table most company bytes ≡ Ok act → Migrates row.unlocked asks act
    unfolding life_of
    others_act same differ act h =
        let other : number_standing (Some row) (field_of bytes field.Company) ≡ others row.unlocked = rw (of_company act h, unlike (owner row) company differ) refl in
        (by_day (λ d. Migrates row.unlocked asks act) asks (number_standing (Some row) (field_of bytes field.Company)) (day_of (field_of bytes field.ExtractDate)) act (lives same act h) (λ d is k. only_migrates asks row.unlocked d act (ap (λ s. life asks s d) (sym other) ∙ k))).2

    -- a locked row stays as it is, whatever the files of other companies have
    pub locked_stays : row.unlocked ≡ None → (owner row ≡ company → ⊥) → get later tn ≡ Some row
    locked_stays locked differ = elim (one_or_two tn number) [ inl same ↦ at same (record_act ranges table most company bytes) refl | inr other ↦ elsewhere other ]
      where
        at : tn ≡ number → (r : Result LifeAct ℕ) → record_act ranges table most company bytes ≡ r → get later tn ≡ Some row
        at same (Err code) h = there same (Err code) h
        at same (Ok act) h = absurd (let migrates = others_act same differ act h in cc (migrates.0, locked))

    -- where emergency service numbers have five digits, a row gets another owner only by a migrate
    pub owner_changes : (new : Row) → HaveFiveDigits ranges → get later tn ≡ Some new → (owner new ≡ owner row → ⊥) → IsMigrated company bytes row new
    owner_changes new small e differ = elim (one_or_two tn number) [ inl same ↦ at same (record_act ranges table most company bytes) refl | inr other ↦ absurd (kept (sym (elsewhere other) ∙ e)) ]
      where
        kept : Some row ≡ Some new → ⊥
        kept h = differ (ap (λ (o : Option Row). owner (unwrap_or o new)) (sym h))

        at : tn ≡ number → (r : Result LifeAct ℕ) → record_act ranges table most company bytes ≡ r → IsMigrated company bytes row new
        at same (Err code) h = absurd (kept (sym (there same (Err code) h) ∙ e))
        at same (Ok Remove) h = absurd (let gone = sym (there same (Ok Remove) h) ∙ e in cc)
        at same (Ok (Unlock day)) h = absurd (differ (ap (λ (o : Option Row). owner (unwrap_or o new)) (sym e ∙ there same (Ok (Unlock day)) h)))
        at same (Ok Store) h =
            let is = sym e ∙ there same (Ok Store) h in
            let read = read_tells company bytes (judged ranges table most company bytes Store h).reading in
            let company_is : owner new ≡ company = ap (λ (o : Option Row). owner (unwrap_or o new)) is ∙ stored-company ranges bytes small (omega (arith, read.long)) ∙ read.of_company in
            let act = others_act same (λ own. differ (company_is ∙ sym own)) Store h in
            record { unlocked = act.0; migrates = act.1; new_owner = company_is; locked = ap (λ (o : Option Row). (unwrap_or o new).unlocked) is }

    -- a row gets a day of unlocking only by its owner's unlock
    pub unlocks : (new : Row) → get later tn ≡ Some new → (new.unlocked ≡ row.unlocked → ⊥) → IsSome new.unlocked → IsUnlocked company bytes tn row new
    unfolding life_of
    unlocks new e differ some = elim (one_or_two tn number) [ inl same ↦ at same (record_act ranges table most company bytes) refl | inr other ↦ absurd (kept (sym (elsewhere other) ∙ e)) ]
      where
        kept : Some row ≡ Some new → ⊥
        kept h = differ (ap (λ (o : Option Row). (unwrap_or o new).unlocked) (sym h))

        at : tn ≡ number → (r : Result LifeAct ℕ) → record_act ranges table most company bytes ≡ r → IsUnlocked company bytes tn row new
        at same (Err code) h = absurd (kept (sym (there same (Err code) h) ∙ e))
        at same (Ok Remove) h = absurd (let gone = sym (there same (Ok Remove) h) ∙ e in cc)
        at same (Ok Store) h = absurd (let none : new.unlocked ≡ None = ap (λ (o : Option Row). (unwrap_or o new).unlocked) (sym e ∙ there same (Ok Store) h) in cc (none, some))
        at same (Ok (Unlock day)) h =
            let is = sym e ∙ there same (Ok (Unlock day)) h in
            let standing = number_standing (Some row) (field_of bytes field.Company) in
            let told = by_day (λ d. (asks ≡ function.Unlock) × (standing ≡ OwnLocked) × (d ≡ day)) asks standing (day_of (field_of bytes field.ExtractDate)) (Unlock day) (lives same (Unlock day) h) (λ d _ k. only_unlocks asks standing d day k) in
            let mine = is_own row (field_of bytes field.Company) told.2.1 in
            record {
              number = sym same;
              unlocks = told.2.0;
              old_owner = mine.0 ∙ of_company (Unlock day) h;
              locked = mine.1;
              day = ap (λ (o : Option Row). (unwrap_or o new).unlocked) is ∙ ap (λ d. Some d) (sym told.2.2) ∙ sym told.1;
              kept = ap (λ (o : Option Row). (unwrap_or o new).rec) is;
            }
