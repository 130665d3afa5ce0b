-- The table of numbers: a finite map from telephone numbers to rows.
use Rattle.std.specs.Prelude.{ℕ, Bool, List, Option, Some, is_some, count_by, refl, if◌then◌else◌}
use Rattle.std.specs.Ordering.{nat_cmp}
use Rattle.std.specs.Cmp.Lexicographic.{slice_cmp}
use Rattle.std.specs.declared.cmp.Ordering.{Ordering}
use Rattle.std.specs.Option.{option_map_or}
use Rattle.std.specs.Coded.{Coded, code_by, coded_list, coded_ℕ, coded×, coded_option}
use Rattle.std.specs.FinMap.{FinMap, code, empty, get, insert, values}
use Rattle.ali_base.specs.CivilDay.{CivilDay}
use Rattle.number_life.specs.declared.row.Row.{Row}

-- telephone numbers in the order of their digits
abbrev pub tn_cmp : List ℕ → List ℕ → Ordering
tn_cmp = slice_cmp nat_cmp

abbrev pub NumberTable : Type 0
NumberTable = FinMap tn_cmp Row

abbrev pub no_numbers : NumberTable
no_numbers = empty

-- the row of a number, where it has one, is unlocked on this day
abbrev pub with_unlocked : NumberTable → List ℕ → CivilDay → NumberTable
with_unlocked table tn day =
    option_map_or (λ row. insert table tn (record row { unlocked = Some day })) (get table tn) table

-- a row that is unlocked
abbrev pub is_unlocked : Row → Bool
is_unlocked row = is_some row.unlocked

-- 1 where there is a row and it is unlocked
abbrev pub unlocked_of : Option Row → ℕ
unlocked_of row = option_map_or (λ row. if is_unlocked row then 1 else 0) row 0

-- how many rows of a table are unlocked
abbrev pub unlocked_in : NumberTable → ℕ
unlocked_in table = count_by is_unlocked (values table)

-- a day is stored as its three numbers
abbrev pub coded_day : Coded CivilDay
coded_day = code_by (ℕ × (ℕ × ℕ)) (coded× coded_ℕ (coded× coded_ℕ coded_ℕ)) (λ d. (d.year, (d.month, d.day))) (λ p. record { year = p.0; month = p.1.0; day = p.1.1 }) (λ _. refl)

-- a row is stored as its record and its day of unlocking
abbrev pub coded_row : Coded Row
coded_row = code_by (List ℕ × Option CivilDay) (coded× (coded_list coded_ℕ) (coded_option coded_day)) (λ row. (row.rec, row.unlocked)) (λ p. record { rec = p.0; unlocked = p.1 }) (λ _. refl)

abbrev pub coded_table : Coded NumberTable
coded_table = code (coded_list coded_ℕ) coded_row
