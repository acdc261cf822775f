-- Dates of the proleptic Gregorian calendar, in UTC (RFC 3339), of a number of seconds since 1970 (NumericDate: RFC 8392
-- section 2).
use Rattle.std.specs.Prelude.{◌≡◌, ℕ, zero, suc, ◌+◌, ◌-◌, ◌*◌, ◌/◌, ◌%◌, ◌<◌, ◌≤◌, ℤ, pos, negsuc, Bool, not, List, ◌++◌, Option, Some, None, codes, nat_lt, ◌==◌, ◌&&◌, ◌||◌, if◌then◌else◌}
use Rattle.std.specs.Fmt.{decimal}
use Rattle.cose_text.specs.declared.date.Date.{Date}

-- RFC 3339, Appendix C.
abbrev pub is_leap : ℕ → Bool
is_leap year = year % 4 == 0 && (not (year % 100 == 0) || year % 400 == 0)

abbrev pub year_length : ℕ → ℕ
year_length year = if is_leap year then 366 else 365

-- RFC 3339 section 5.7.
abbrev pub month_length : ℕ → ℕ → ℕ
month_length year month =
    if month == 2 then (if is_leap year then 29 else 28) else
    if month == 4 || (month == 6 || (month == 9 || month == 11)) then 30 else 31

-- Of a number of days: the first year that they don't fill, from a year on and of so many years, and the days that are
-- left in it. So with the months of a year, and the day of the month, from 1 on.
unfoldable pub year_from : ℕ → ℕ → ℕ → Option (ℕ × ℕ)
year_from zero year days = None
year_from (suc n) year days =
    if nat_lt days (year_length year) then Some (year, days) else year_from n (suc year) (days - year_length year)

unfoldable pub month_from : ℕ → ℕ → ℕ → ℕ → Option (ℕ × ℕ)
month_from zero year month days = None
month_from (suc n) year month days =
    if nat_lt days (month_length year month) then Some (month, days + 1) else month_from n year (suc month) (days - month_length year month)

-- The seconds since the beginning of the year 0, which is 62,167,219,200 seconds before that of 1970.
abbrev pub seconds_from_zero : ℤ → Option ℕ
seconds_from_zero (pos n) = Some (62167219200 + n)
seconds_from_zero (negsuc n) = if nat_lt n 62167219200 then Some (62167219200 - suc n) else None

abbrev pub dated : ℕ → ℕ → Option (ℕ × ℕ) → Option Date
dated second year None = None
dated second year (Some found) = Some (record {
  year = year;
  month = found.0;
  day = found.1;
  hour = second / 3600;
  minute = second / 60 % 60;
  second = second % 60;
})

abbrev pub in_year : ℕ → Option (ℕ × ℕ) → Option Date
in_year second None = None
in_year second (Some found) = dated second found.0 (month_from 12 found.0 1 found.1)

abbrev pub on_day : Option ℕ → Option Date
on_day None = None
on_day (Some seconds) = in_year (seconds % 86400) (year_from 10000 0 (seconds / 86400))

-- The date, where its year has four digits.
abbrev pub date_of : ℤ → Option Date
date_of seconds = on_day (seconds_from_zero seconds)

-- ---- the same by the calendar: how many seconds are before a date, which is one of the calendar

abbrev pub days_before_year : ℕ → ℕ
days_before_year zero = 0
days_before_year (suc year) = days_before_year year + year_length year

abbrev pub days_before_month : ℕ → ℕ → ℕ
days_before_month year zero = 0
days_before_month year (suc n) = days_before_month year n + month_length year (suc n)

abbrev pub seconds_before : Date → ℕ
seconds_before date =
    86400 * (days_before_year date.year + days_before_month date.year (date.month - 1) + (date.day - 1))
    + 3600 * date.hour + 60 * date.minute + date.second

pub record IsDateOf (seconds : ℤ) (date : Date) : Type 0 where
  pub four_digits : date.year < 10000
  pub month_from_one : 1 ≤ date.month
  pub month_to_twelve : date.month ≤ 12
  pub day_from_one : 1 ≤ date.day
  pub day_in_month : date.day ≤ month_length date.year date.month
  pub hour : date.hour < 24
  pub minute : date.minute < 60
  pub second : date.second < 60
  pub counted : seconds_from_zero seconds ≡ Some (seconds_before date)

-- ---- the text (RFC 3339 section 5.6)

unfoldable pub two_digits : ℕ → List ℕ
two_digits n = decimal (n / 10) ++ decimal (n % 10)

unfoldable pub four_digits : ℕ → List ℕ
four_digits n = decimal (n / 1000) ++ decimal (n / 100 % 10) ++ decimal (n / 10 % 10) ++ decimal (n % 10)

unfoldable pub full_date : Date → List ℕ
full_date date = four_digits date.year ++ codes "-" ++ two_digits date.month ++ codes "-" ++ two_digits date.day

unfoldable pub partial_time : Date → List ℕ
partial_time date = two_digits date.hour ++ codes ":" ++ two_digits date.minute ++ codes ":" ++ two_digits date.second

abbrev pub date_text : Date → List ℕ
date_text date = full_date date ++ codes "T" ++ partial_time date ++ codes "Z"
