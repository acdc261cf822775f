-- One year more, and one month more, of the days that are left.
use Rattle.std.proofs.Common.{◌≡◌, ℕ, suc, ◌+◌, ◌-◌, ◌<◌, ◌≤◌, Option, Some, None, refl, sym, ap, ◌∙◌, arith, le-ltb, lt-ltb, nat_lt, true, false}
use Rattle.cose_text.specs.Date.{month_from, month_length, year_from, year_length}

abbrev Found : Type 0
Found = Option (ℕ × ℕ)

pub year_found : (year days length : ℕ) (all : Found) → length ≡ year_length year → days < length → year < 10000 →
    year_from (10000 - year) year days ≡ all → Some (year, days) ≡ all
unfolding year_from
year_found year days length all same less below e =
    let n : 10000 - year ≡ suc (10000 - suc year) = omega arith in
    let t : nat_lt days (year_length year) ≡ true = ap (nat_lt days) (sym same) ∙ lt-ltb days length less in
    sym (ap (λ k. year_from k year days) n ∙ rw t refl) ∙ e

pub year_left : (year days length : ℕ) (all : Found) → length ≡ year_length year → length ≤ days → year < 10000 →
    year_from (10000 - year) year days ≡ all → year_from (10000 - (year + 1)) (year + 1) (days - length) ≡ all
unfolding year_from
year_left year days length all same more below e =
    let n : 10000 - year ≡ suc (10000 - suc year) = omega arith in
    let next : year + 1 ≡ suc year = omega arith in
    let t : nat_lt days (year_length year) ≡ false = ap (nat_lt days) (sym same) ∙ le-ltb days length more in
    rw (next, same) (sym (ap (λ k. year_from k year days) n ∙ rw t refl) ∙ e)

pub no_year : (year days : ℕ) (all : Found) → year ≡ 10000 → year_from (10000 - year) year days ≡ all → None ≡ all
unfolding year_from
no_year year days all end e = sym (rw end refl) ∙ e

pub month_found : (year month days length : ℕ) (all : Found) → length ≡ month_length year month → days < length → month < 13 →
    month_from (13 - month) year month days ≡ all → Some (month, days + 1) ≡ all
unfolding month_from
month_found year month days length all same less below e =
    let n : 13 - month ≡ suc (13 - suc month) = omega arith in
    let t : nat_lt days (month_length year month) ≡ true = ap (nat_lt days) (sym same) ∙ lt-ltb days length less in
    sym (ap (λ k. month_from k year month days) n ∙ rw t refl) ∙ e

pub month_left : (year month days length : ℕ) (all : Found) → length ≡ month_length year month → length ≤ days → month < 13 →
    month_from (13 - month) year month days ≡ all → month_from (13 - (month + 1)) year (month + 1) (days - length) ≡ all
unfolding month_from
month_left year month days length all same more below e =
    let n : 13 - month ≡ suc (13 - suc month) = omega arith in
    let next : month + 1 ≡ suc month = omega arith in
    let t : nat_lt days (month_length year month) ≡ false = ap (nat_lt days) (sym same) ∙ le-ltb days length more in
    rw (next, same) (sym (ap (λ k. month_from k year month days) n ∙ rw t refl) ∙ e)

pub no_month : (year month days : ℕ) (all : Found) → month ≡ 13 → month_from (13 - month) year month days ≡ all → None ≡ all
unfolding month_from
no_month year month days all end e = sym (rw end refl) ∙ e
