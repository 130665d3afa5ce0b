-- Civil days of the years 2000 to 2099, written MMDDYY.
use Rattle.std.specs.Prelude.{◌≡◌, ℕ, ◌+◌, ◌-◌, ◌==◌, ◌≤◌, ◌&&◌, Bool, true, nat_le, List, ◌++◌, length, ℤ, pos, ◌-ℤ◌, Option, None, if◌then◌else◌}
use Rattle.jiff_core.specs.Calendar.{days_in_month, days_from_civil}
use Rattle.ali_base.specs.Steps.{◌>>=◌, when}
use Rattle.ali_base.specs.Columns.{columns}
use Rattle.ali_base.specs.Digits.{digits_number}
use Rattle.ali_base.specs.Numbers.{zero_padded}

pub record CivilDay : Type 0 where
  pub year : ℕ
  pub month : ℕ
  pub day : ℕ

-- the calendar has this day
abbrev pub is_civil_date : ℕ → ℕ → ℕ → Bool
is_civil_date year month day = nat_le 1 month && nat_le month 12 && nat_le 1 day && nat_le day (days_in_month (pos year) month)

-- a day of the years 2000 to 2099 that the calendar has
pub record IsDay (d : CivilDay) : Type 0 where
  pub from : 2000 ≤ d.year
  pub to : d.year ≤ 2099
  pub civil : is_civil_date d.year d.month d.day ≡ true

-- the day of this number of the century's years, where the calendar has it
abbrev pub day_in_century : ℕ → ℕ → ℕ → Option CivilDay
day_in_century year month day = when (is_civil_date (2000 + year) month day) (record { year = 2000 + year; month = month; day = day })

-- six digits: the month, the day, and the year's last two digits
unfoldable pub written_day : List ℕ → Option CivilDay
written_day bytes = do
  month ← digits_number (columns bytes 1 2)
  day ← digits_number (columns bytes 3 4)
  year ← digits_number (columns bytes 5 6)
  day_in_century year month day

-- the day that these bytes are
abbrev pub day_of : List ℕ → Option CivilDay
day_of bytes = if length bytes == 6 then written_day bytes else None

-- the number of a day in the calendar: the days since 1 January 1970
abbrev pub day_number : CivilDay → ℤ
day_number d = days_from_civil (pos d.year) d.month d.day

-- the days from one day to another; negative where the other lies before it
abbrev pub days_between : CivilDay → CivilDay → ℤ
days_between from to = day_number to -ℤ day_number from

-- six digits: the month, the day, and the year's last two digits
abbrev pub day_text : CivilDay → List ℕ
day_text d = zero_padded 2 d.month ++ zero_padded 2 d.day ++ zero_padded 2 (d.year - 2000)
