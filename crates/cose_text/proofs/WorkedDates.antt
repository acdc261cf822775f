-- The dates of numbers of seconds, by computing; what they should be is of `date -u -d @N` of GNU coreutils, and of Python's
-- datetime. Leap years are those that 4 divides, but of those that 100 divides only every fourth.
use Rattle.std.specs.Prelude.{◌≡◌, ℕ, ℤ, pos, negsuc, List, [], ◌∷◌, map, Option, Some, None, codes, refl}
use Prim.Native.String.{String}
use Rattle.std.specs.Fmt.{digits}
use Rattle.cose_text.specs.declared.date.Date.{Date}
use Rattle.cose_text.specs.Date.{date_of, date_text, four_digits, full_date, month_from, partial_time, two_digits, year_from}

abbrev text_of : Option Date → List ℕ
text_of None = []
text_of (Some date) = date_text date

unfoldable shown : ℤ → List ℕ
unfolding year_from month_from four_digits two_digits full_date partial_time digits
shown seconds = text_of (date_of seconds)

abbrev Shows : List (ℤ × String) → Type 0
Shows rows = map (λ (row : ℤ × String). shown row.0) rows ≡ map (λ (row : ℤ × String). codes row.1) rows

around_1970 : Shows (
    (pos 0, "1970-01-01T00:00:00Z") ∷ (pos 1, "1970-01-01T00:00:01Z") ∷ (pos 86399, "1970-01-01T23:59:59Z") ∷ (pos 86400, "1970-01-02T00:00:00Z") ∷
    (negsuc 0, "1969-12-31T23:59:59Z") ∷ (negsuc 86399, "1969-12-31T00:00:00Z") ∷ (negsuc 86400, "1969-12-30T23:59:59Z") ∷ [])
unfolding shown
around_1970 = refl

leap_years : Shows (
    (pos 951782399, "2000-02-28T23:59:59Z") ∷ (pos 951782400, "2000-02-29T00:00:00Z") ∷ (pos 951868800, "2000-03-01T00:00:00Z") ∷
    (pos 978307199, "2000-12-31T23:59:59Z") ∷ (pos 1709164800, "2024-02-29T00:00:00Z") ∷ (pos 1677628800, "2023-03-01T00:00:00Z") ∷
    (pos 4107542399, "2100-02-28T23:59:59Z") ∷ (pos 4107542400, "2100-03-01T00:00:00Z") ∷ [])
unfolding shown
leap_years = refl

-- RFC 8392, Appendix A.1: exp and nbf of its claims.
of_claims : Shows ((pos 1444064944, "2015-10-05T17:09:04Z") ∷ (pos 1443944944, "2015-10-04T07:49:04Z") ∷ (pos 2147483648, "2038-01-19T03:14:08Z") ∷ [])
unfolding shown
of_claims = refl

-- The years 0000 to 9999 have four digits; other years have no date.
first_and_last : Shows (
    (pos 253402300799, "9999-12-31T23:59:59Z") ∷ (pos 253402300800, "") ∷ (pos 18446744073709551615, "") ∷
    (negsuc 62135596799, "0001-01-01T00:00:00Z") ∷ (negsuc 62167219199, "0000-01-01T00:00:00Z") ∷ (negsuc 62167219200, "") ∷
    (negsuc 18446744073709551615, "") ∷ [])
unfolding shown
first_and_last = refl
