-- The diagnostic notation of the items of RFC 8949, Appendix A, by computing: all of them but the indefinite lengths, which
-- no message here has. A float is its bytes. The last rows are texts that could end their quotes, or aren't UTF-8.
use Rattle.std.specs.Prelude.{◌≡◌, ℕ, ◌+◌, ◌-◌, ◌*◌, nat_lt, if◌then◌else◌, List, [], ◌∷◌, map, codes, refl}
use Prim.Native.String.{String}
use Rattle.std.specs.Fmt.{digits}
use Rattle.std.specs.Str.{is_utf8, chars}
use Rattle.cose_head.specs.Reading.{read, head}
use Rattle.cose_text.specs.Diagnostic.{diagnostic, diagnostic_of}
use Rattle.hex.specs.Hex.{encode_with}

abbrev digit : ℕ → ℕ
digit code = if nat_lt code 0x61 then code - 0x30 else code - 0x57

abbrev bytes_of : List ℕ → List ℕ
bytes_of [] = []
bytes_of (high ∷ []) = []
bytes_of (high ∷ low ∷ others) = (16 * digit high + digit low) ∷ bytes_of others

unfoldable shown : String → List ℕ
unfolding read head diagnostic is_utf8 chars lib.Utf8.encode digits encode_with
shown text = diagnostic_of (record { bytes = bytes_of (codes text); place = 0 })

abbrev Shows : List (String × String) → Type 0
Shows rows = map (λ (row : String × String). shown row.0) rows ≡ map (λ (row : String × String). codes row.1) rows

integers : Shows (
    ("00", "0") ∷ ("01", "1") ∷ ("0a", "10") ∷ ("17", "23") ∷ ("1818", "24") ∷ ("1819", "25") ∷ ("1864", "100") ∷
    ("1903e8", "1000") ∷ ("1a000f4240", "1000000") ∷ ("1b000000e8d4a51000", "1000000000000") ∷
    ("1bffffffffffffffff", "18446744073709551615") ∷ ("c249010000000000000000", "2(h'010000000000000000')") ∷
    ("3bffffffffffffffff", "-18446744073709551616") ∷ ("c349010000000000000000", "3(h'010000000000000000')") ∷
    ("20", "-1") ∷ ("29", "-10") ∷ ("3863", "-100") ∷ ("3903e7", "-1000") ∷ [])
unfolding shown
integers = refl

floats : Shows (
    ("f90000", "float'0000'") ∷ ("f98000", "float'8000'") ∷ ("f93c00", "float'3c00'") ∷
    ("fb3ff199999999999a", "float'3ff199999999999a'") ∷ ("fa47c35000", "float'47c35000'") ∷ ("f97c00", "float'7c00'") ∷
    ("f97e00", "float'7e00'") ∷ ("fbfff0000000000000", "float'fff0000000000000'") ∷ [])
unfolding shown
floats = refl

simple_values : Shows (
    ("f4", "false") ∷ ("f5", "true") ∷ ("f6", "null") ∷ ("f7", "undefined") ∷ ("f0", "simple(16)") ∷ ("f8ff", "simple(255)") ∷ [])
unfolding shown
simple_values = refl

tags : Shows (
    ("c074323031332d30332d32315432303a30343a30305a", "0(\"2013-03-21T20:04:00Z\")") ∷ ("c11a514b67b0", "1(1363896240)") ∷
    ("c1fb41d452d9ec200000", "1(float'41d452d9ec200000')") ∷ ("d74401020304", "23(h'01020304')") ∷
    ("d818456449455446", "24(h'6449455446')") ∷
    ("d82076687474703a2f2f7777772e6578616d706c652e636f6d", "32(\"http://www.example.com\")") ∷ [])
unfolding shown
tags = refl

strings : Shows (
    ("40", "h''") ∷ ("4401020304", "h'01020304'") ∷ ("60", "\"\"") ∷ ("6161", "\"a\"") ∷ ("6449455446", "\"IETF\"") ∷
    ("62225c", "\"\\\"\\\\\"") ∷ ("62c3bc", "\"\\u00fc\"") ∷ ("63e6b0b4", "\"\\u6c34\"") ∷ ("64f0908591", "\"\\ud800\\udd51\"") ∷ [])
unfolding shown
strings = refl

lists : Shows (
    ("80", "[]") ∷ ("83010203", "[1, 2, 3]") ∷ ("8301820203820405", "[1, [2, 3], [4, 5]]") ∷ (
      "98190102030405060708090a0b0c0d0e0f101112131415161718181819",
      "[1, 2, 3, 4, 5, 6, 7, 8, 9, 10, 11, 12, 13, 14, 15, 16, 17, 18, 19, 20, 21, 22, 23, 24, 25]",
    ) ∷
    ("a0", "{}") ∷ ("a201020304", "{1: 2, 3: 4}") ∷ ("a26161016162820203", "{\"a\": 1, \"b\": [2, 3]}") ∷
    ("826161a161626163", "[\"a\", {\"b\": \"c\"}]") ∷
    ("a56161614161626142616361436164614461656145", "{\"a\": \"A\", \"b\": \"B\", \"c\": \"C\", \"d\": \"D\", \"e\": \"E\"}") ∷ [])
unfolding shown
lists = refl

-- A line feed, a delete, a next line, a mark that turns the direction, a byte that begins no character, and a half of a pair.
no_text_forges : Shows (
    ("610a", "\"\\u000a\"") ∷ ("617f", "\"\\u007f\"") ∷ ("62c285", "\"\\u0085\"") ∷ ("63e280ae", "\"\\u202e\"") ∷
    ("61ff", "text'ff'") ∷ ("63eda080", "text'eda080'") ∷ ("6322202c", "\"\\\" ,\"") ∷ ("617e", "\"~\"") ∷ ("6120", "\" \"") ∷ [])
unfolding shown
no_text_forges = refl
