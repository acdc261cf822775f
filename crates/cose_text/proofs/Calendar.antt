-- The date that is found is one of the calendar, and as many seconds are before it.
use Rattle.std.proofs.Common.{◌≡◌, ℕ, zero, suc, ◌+◌, ◌-◌, ◌*◌, ◌/◌, ◌%◌, ◌<◌, ◌≤◌, ℤ, Bool, true, false, Some, refl, sym, ap, subst, ◌∙◌, arith, nat_lt, ltb-true, ltb-false}
use Rattle.cose_text.specs.Date.{IsDateOf, days_before_month, days_before_year, month_from, month_length, seconds_from_zero, year_from, year_length}

-- so many days are before the year that is found, and the day is in it
record InYear (all : ℕ) (found : ℕ × ℕ) : Type 0 where
  counted : days_before_year found.0 + found.1 ≡ all
  inside : found.1 < year_length found.0

year_is : (n year days : ℕ) (found : ℕ × ℕ) → year_from n year days ≡ Some found → InYear (days_before_year year + days) found × (found.0 < year + n)
unfolding year_from
year_is zero year days found e = absurd cc
year_is (suc n) year days found e = go (year_is n (suc year) (days - year_length year) found) (nat_lt days (year_length year)) refl
  where
    go : (year_from n (suc year) (days - year_length year) ≡ Some found → InYear (days_before_year (suc year) + (days - year_length year)) found × (found.0 < suc year + n)) →
        (b : Bool) → nat_lt days (year_length year) ≡ b → InYear (days_before_year year + days) found × (found.0 < year + suc n)
    go others true t =
        let same : (year, days) ≡ found = let s : Some (year, days) ≡ Some found = rw t at e in cc in
        subst (λ f. InYear (days_before_year year + days) f × (f.0 < year + suc n)) same
        (record { counted = refl; inside = ltb-true days (year_length year) t }, omega arith)
    go others false t =
        let s : year_from n (suc year) (days - year_length year) ≡ Some found = rw t at e in
        let next = others s in
        let more : year_length year ≤ days = ltb-false days (year_length year) t in
        let all : days_before_year year + year_length year + (days - year_length year) ≡ days_before_year year + days = omega (arith, more) in
        (record { counted = next.0.counted ∙ all; inside = next.0.inside }, omega (arith, next.1))

-- and so many days of the year are before the month that is found
record InMonth (year all : ℕ) (found : ℕ × ℕ) : Type 0 where
  counted : days_before_month year (found.0 - 1) + (found.1 - 1) ≡ all
  from_one : 1 ≤ found.1
  inside : found.1 ≤ month_length year found.0

month_is : (n year m days : ℕ) (found : ℕ × ℕ) → month_from n year (suc m) days ≡ Some found →
    InMonth year (days_before_month year m + days) found × (1 ≤ found.0) × (found.0 ≤ m + n)
unfolding month_from
month_is zero year m days found e = absurd cc
month_is (suc n) year m days found e = go (month_is n year (suc m) (days - month_length year (suc m)) found) (nat_lt days (month_length year (suc m))) refl
  where
    go : (month_from n year (suc (suc m)) (days - month_length year (suc m)) ≡ Some found →
        InMonth year (days_before_month year (suc m) + (days - month_length year (suc m))) found × (1 ≤ found.0) × (found.0 ≤ suc m + n)) →
        (b : Bool) → nat_lt days (month_length year (suc m)) ≡ b →
        InMonth year (days_before_month year m + days) found × (1 ≤ found.0) × (found.0 ≤ m + suc n)
    go others true t =
        let same : (suc m, days + 1) ≡ found = let s : Some (suc m, days + 1) ≡ Some found = rw t at e in cc in
        let inside : days < month_length year (suc m) = ltb-true days (month_length year (suc m)) t in
        let last : suc m - 1 ≡ m = omega arith in
        let day : days + 1 - 1 ≡ days = omega arith in
        subst (λ f. InMonth year (days_before_month year m + days) f × (1 ≤ f.0) × (f.0 ≤ m + suc n)) same
        (record { counted = rw (last, day) refl; from_one = omega arith; inside = omega (arith, inside) }, omega arith, omega arith)
    go others false t =
        let s : month_from n year (suc (suc m)) (days - month_length year (suc m)) ≡ Some found = rw t at e in
        let next = others s in
        let more : month_length year (suc m) ≤ days = ltb-false days (month_length year (suc m)) t in
        let all : days_before_month year m + month_length year (suc m) + (days - month_length year (suc m)) ≡ days_before_month year m + days = omega (arith, more) in
        (record { counted = next.0.counted ∙ all; from_one = next.0.from_one; inside = next.0.inside }, next.1, omega (arith, next.2))

-- the time of day
record IsClock (r : ℕ) : Type 0 where
  hour : r / 3600 < 24
  minute : r / 60 % 60 < 60
  second : r % 60 < 60
  counted : 3600 * (r / 3600) + 60 * (r / 60 % 60) + r % 60 ≡ r

clock : (s : ℕ) → IsClock (s % 86400)
clock s = record { hour = omega arith; minute = omega arith; second = omega arith; counted = omega arith }

pub dated_is : (z : ℤ) (s : ℕ) (year month : ℕ × ℕ) → seconds_from_zero z ≡ Some s → year_from 10000 0 (s / 86400) ≡ Some year →
    month_from 12 year.0 1 year.1 ≡ Some month →
    IsDateOf z (record { year = year.0; month = month.0; day = month.1; hour = s % 86400 / 3600; minute = s % 86400 / 60 % 60; second = s % 86400 % 60 })
dated_is z s year month counts in_year_found in_month_found =
    let y = year_is 10000 0 (s / 86400) year in_year_found in
    let m = month_is 12 year.0 0 year.1 month in_month_found in
    let c = clock s in
    let days : days_before_year year.0 + days_before_month year.0 (month.0 - 1) + (month.1 - 1) ≡ s / 86400 = omega (arith, y.0.counted, m.0.counted) in
    let r = s % 86400 in
    let all : 86400 * (days_before_year year.0 + days_before_month year.0 (month.0 - 1) + (month.1 - 1)) + 3600 * (r / 3600) + 60 * (r / 60 % 60) + r % 60 ≡ s =
    omega (arith, days, c.counted) in
    record {
      four_digits = y.1;
      month_from_one = m.1;
      month_to_twelve = m.2;
      day_from_one = m.0.from_one;
      day_in_month = m.0.inside;
      hour = c.hour;
      minute = c.minute;
      second = c.second;
      counted = counts ∙ ap Some (sym all);
    }
