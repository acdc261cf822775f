-- What is written is of printable ASCII characters alone.
use Rattle.std.proofs.Common.{◌≡◌, ℕ, zero, suc, ◌+◌, ◌-◌, ◌/◌, ◌%◌, ◌<◌, ◌≤◌, ◌==◌, ◌&&◌, ◌||◌, nat_lt, Bool, true, false, List, [], ◌∷◌, ◌++◌, Ok, Err, length, drop, map as map_list, codes, refl, sym, ap, ◌∙◌, arith}
use Rattle.std.specs.Prelude.{slice_index, if◌then◌else◌}
use Rattle.std.specs.Fmt.{decimal, digit_glyph, digits, digits_onto}
use Rattle.std.specs.Int.{byte_at, bytes_high_first, to_be_bytes, w16, w64}
use Rattle.std.specs.List.{concat, list_all}
use Rattle.std.specs.Str.{chars, is_utf8}
use Rattle.std.proofs.lemmas.Bool.{eqb-true, le-leb, lt-ltb, ltb-true}
use Rattle.std.proofs.lemmas.List.Folds.{list_all-append}
use Rattle.hex.specs.Hex.{encode_lower, encode_with, lower_digits}
use Rattle.cose_head.specs.Item.{Item, unsigned, negative, byte_string, text_string, array, map, tag, simple, float, Items, no_items, item, Begins, Spells, SpellsAll}
use Rattle.cose_head.specs.Laws.{ReadIsSpelled}
use Rattle.cose_head.specs.Measured.{left_of}
use Rattle.cose_head.specs.Reading.{Outcome, read}
use Rattle.cose_text.specs.Date.{four_digits, full_date, partial_time, two_digits}
use Rattle.cose_text.specs.declared.date.Date.{Date}
use Rattle.cose_text.specs.Diagnostic.{bytes_text, diagnostic, diagnostics, float_text, joined, simple_text, string_text, tree_text}
use Rattle.cose_text.specs.Printable.{AreBytes, DatesArePrintable, IsPrintable, NotationIsPrintable, QuotesArePrintable, is_printable}
use Rattle.cose_text.specs.Quoted.{char_text, chars_text, quoted, unit_text, units_of, units_text}

both_true : (a b : Bool) → a && b ≡ true → (a ≡ true) × (b ≡ true)
both_true true true e = (refl, refl)
both_true true false e = absurd cc
both_true false b e = absurd cc

-- ---- parts of texts

joins : (xs ys : List ℕ) → IsPrintable xs → IsPrintable ys → IsPrintable (xs ++ ys)
joins xs ys x y = list_all-append is_printable xs ys ∙ rw (x, y) refl

each_of : {A : Type 0} (text_of : A → List ℕ) (xs : List A) → ((x : A) → IsPrintable (text_of x)) → IsPrintable (concat (map_list text_of xs))
each_of text_of [] each = refl
each_of text_of (x ∷ xs) each = joins (text_of x) (concat (map_list text_of xs)) (each x) (each_of text_of xs each)

around : (first texts last : List ℕ) → IsPrintable first → IsPrintable texts → IsPrintable last → IsPrintable (first ++ texts ++ last)
around first texts last f t l = joins (first ++ texts) last (joins first texts f t) l

shown : (c : ℕ) → 32 ≤ c → c ≤ 126 → is_printable c ≡ true
shown c least most = rw (le-leb 32 c least, le-leb c 126 most) refl

-- ---- numbers

glyph_shown : (d : ℕ) → d < 10 → is_printable (digit_glyph false d) ≡ true
glyph_shown d small = rw (lt-ltb d 10 small) (shown (48 + d) (omega arith) (omega arith))

either_shown : (xs ys : List ℕ) (first : Bool) → IsPrintable xs → IsPrintable ys → IsPrintable (if first then xs else ys)
either_shown xs ys true x y = x
either_shown xs ys false x y = y

digits_shown : (k n : ℕ) (after : List ℕ) → IsPrintable after → IsPrintable (digits_onto k 10 false n after)
digits_shown zero n after e = e
digits_shown (suc k) n after e =
    let more : IsPrintable (digit_glyph false (n % 10) ∷ after) = rw (glyph_shown (n % 10) (omega arith), e) refl in
    either_shown _ _ (n / 10 == 0) more (digits_shown k (n / 10) (digit_glyph false (n % 10) ∷ after) more)

decimal_shown : (n : ℕ) → IsPrintable (decimal n)
unfolding digits
decimal_shown n = digits_shown 64 n [] refl

-- ---- bytes

in_list : (cs : List ℕ) (n : ℕ) → IsPrintable cs → n < length cs → is_printable (slice_index cs n) ≡ true
in_list [] n e small = absurd (omega (arith, small))
in_list (c ∷ cs) zero e small = (both_true (is_printable c) (list_all is_printable cs) e).0
in_list (c ∷ cs) (suc n) e small = in_list cs n (both_true (is_printable c) (list_all is_printable cs) e).1 (omega (arith, small))

digit_shown : (n : ℕ) → n < 16 → is_printable (slice_index lower_digits n) ≡ true
digit_shown n small = in_list lower_digits n refl small

hexadecimal_shown : (bytes : List ℕ) → AreBytes bytes → IsPrintable (encode_lower bytes)
unfolding encode_with
hexadecimal_shown [] e = refl
hexadecimal_shown (b ∷ bytes) e =
    let parts = both_true (nat_lt b 256) (list_all (λ (byte : ℕ). nat_lt byte 256) bytes) e in
    let small : b < 256 = ltb-true b 256 parts.0 in
    rw (digit_shown (b / 16) (omega arith), digit_shown (b % 16) (omega arith), hexadecimal_shown bytes parts.1) refl

byte_below : (k n : ℕ) → byte_at k n < 256
byte_below zero n = omega arith
byte_below (suc k) n = omega arith

are_bytes : (k n : ℕ) → AreBytes (bytes_high_first k n)
are_bytes zero n = refl
are_bytes (suc k) n = rw (lt-ltb (byte_at k n) 256 (byte_below k n), are_bytes k n) refl

are_bytes_past : (count : ℕ) (bytes : List ℕ) → AreBytes bytes → AreBytes (drop count bytes)
are_bytes_past zero bytes e = e
are_bytes_past (suc count) [] e = refl
are_bytes_past (suc count) (b ∷ bytes) e = are_bytes_past count bytes (both_true (nat_lt b 256) (list_all (λ (byte : ℕ). nat_lt byte 256) bytes) e).1

are_bytes_in : (front rest : List ℕ) → AreBytes (front ++ rest) → (AreBytes front) × (AreBytes rest)
are_bytes_in front rest e =
    both_true (list_all (λ (byte : ℕ). nat_lt byte 256) front) (list_all (λ (byte : ℕ). nat_lt byte 256) rest) (sym (list_all-append (λ (byte : ℕ). nat_lt byte 256) front rest) ∙ e)

bytes_shown : (word bytes : List ℕ) → IsPrintable word → AreBytes bytes → IsPrintable (bytes_text word bytes)
bytes_shown word bytes w e =
    around (word ++ codes "'") (encode_lower bytes) (codes "'") (joins word (codes "'") w refl) (hexadecimal_shown bytes e) refl

-- ---- texts

unit_shown : (unit : ℕ) → IsPrintable (unit_text unit)
unit_shown unit = hexadecimal_shown (to_be_bytes w16 unit) (are_bytes 2 unit)

char_shown : (c : ℕ) → IsPrintable (char_text c)
char_shown c = go (c == 34 || c == 92) (nat_lt 31 c && nat_lt c 127) refl refl
  where
    marked_shown : (c : ℕ) (quote escape : Bool) → (c == 34) ≡ quote → (c == 92) ≡ escape → (quote || escape) ≡ true → is_printable c ≡ true
    marked_shown c true escape is_quote is_escape e = let same = eqb-true c 34 is_quote in rw same refl
    marked_shown c false true is_quote is_escape e = let same = eqb-true c 92 is_escape in rw same refl
    marked_shown c false false is_quote is_escape e = absurd cc

    go : (marked plain : Bool) → (c == 34 || c == 92) ≡ marked → (nat_lt 31 c && nat_lt c 127) ≡ plain →
        IsPrintable (if marked then 92 ∷ c ∷ [] else if plain then c ∷ [] else units_text c)
    go true plain is_marked is_plain = rw (marked_shown c (c == 34) (c == 92) refl refl is_marked) refl
    go false true is_marked is_plain =
        let parts = both_true (nat_lt 31 c) (nat_lt c 127) is_plain in
        let least = ltb-true 31 c parts.0 in
        let most = ltb-true c 127 parts.1 in
        rw (shown c (omega (arith, least)) (omega (arith, most))) refl
    go false false is_marked is_plain = each_of unit_text (units_of c) unit_shown

pub quotes_shown : QuotesArePrintable
quotes_shown content = joins (chars_text content) (codes "\"") (each_of char_text (chars content) char_shown) refl

-- ---- items

string_shown : (content : List ℕ) → AreBytes content → IsPrintable (string_text content)
string_shown content e = go (is_utf8 content)
  where
    go : (valid : Bool) → IsPrintable (if valid then quoted content else bytes_text (codes "text") content)
    go true = quotes_shown content
    go false = bytes_shown (codes "text") content refl e

simple_shown : (n : ℕ) → IsPrintable (simple_text n)
simple_shown n = go (n == 20) (n == 21) (n == 22) (n == 23)
  where
    go : (a b c d : Bool) → IsPrintable (if a then codes "false" else if b then codes "true" else if c then codes "null" else if d then codes "undefined" else codes "simple(" ++ decimal n ++ codes ")")
    go true b c d = refl
    go false true c d = refl
    go false false true d = refl
    go false false false true = refl
    go false false false false = around (codes "simple(") (decimal n) (codes ")") refl (decimal_shown n) refl

float_shown : (width bits : ℕ) → IsPrintable (float_text width bits)
float_shown width bits = bytes_shown (codes "float") (drop (8 - width) (to_be_bytes w64 bits)) refl (are_bytes_past (8 - width) (to_be_bytes w64 bits) (are_bytes 8 bits))

joined_shown : (before next other : List ℕ) (texts : List (List ℕ)) → IsPrintable before → IsPrintable next → IsPrintable other → list_all (list_all is_printable) texts ≡ true → IsPrintable (joined before next other texts)
joined_shown before next other [] b n o e = refl
joined_shown before next other (text ∷ texts) b n o e =
    let parts = both_true (list_all is_printable text) (list_all (list_all is_printable) texts) e in
    around before text (joined next other next texts) b parts.0 (joined_shown next other next texts n o n parts.1)

rest_of_head : (bytes : List ℕ) (major argument : ℕ) (IsRest : List ℕ → Type 0) (begun : Begins bytes major argument IsRest) → AreBytes bytes → AreBytes begun.rest
rest_of_head bytes major argument IsRest begun e = (are_bytes_in begun.head begun.rest (sym (ap (list_all (λ (byte : ℕ). nat_lt byte 256)) begun.whole) ∙ e)).1

content_bytes : (bytes content : List ℕ) (major : ℕ) → Begins bytes major (length content) (λ rest. rest ≡ content) → AreBytes bytes → AreBytes content
content_bytes bytes content major begun e = sym (ap (list_all (λ (byte : ℕ). nat_lt byte 256)) begun.is_rest) ∙ rest_of_head bytes major (length content) (λ rest. rest ≡ content) begun e

mutual
  unfolding diagnostic diagnostics Spells SpellsAll

  item_shown : (it : Item) (bytes : List ℕ) → AreBytes bytes → Spells bytes it → IsPrintable (diagnostic it)
  item_shown (unsigned n) bytes e spelled = decimal_shown n
  item_shown (negative n) bytes e spelled = decimal_shown (suc n)
  item_shown (byte_string content) bytes e spelled = bytes_shown (codes "h") content refl (content_bytes bytes content 2 spelled e)
  item_shown (text_string content) bytes e spelled = string_shown content (content_bytes bytes content 3 spelled e)
  item_shown (array items) bytes e spelled =
      around (codes "[") (joined [] (codes ", ") (codes ", ") (diagnostics items)) (codes "]") refl
      (joined_shown [] (codes ", ") (codes ", ") (diagnostics items) refl refl refl (items_shown items spelled.rest (rest_of_head bytes _ _ _ spelled e) spelled.is_rest)) refl
  item_shown (map items) bytes e spelled =
      around (codes "{") (joined [] (codes ": ") (codes ", ") (diagnostics items)) (codes "}") refl
      (joined_shown [] (codes ": ") (codes ", ") (diagnostics items) refl refl refl (items_shown items spelled.2.rest (rest_of_head bytes _ _ _ spelled.2 e) spelled.2.is_rest)) refl
  item_shown (tag n content) bytes e spelled =
      around (decimal n ++ codes "(") (diagnostic content) (codes ")") (joins (decimal n) (codes "(") (decimal_shown n) refl)
      (item_shown content spelled.rest (rest_of_head bytes _ _ _ spelled e) spelled.is_rest) refl
  item_shown (simple n) bytes e spelled = simple_shown n
  item_shown (float width bits) bytes e spelled = float_shown width bits

  items_shown : (items : Items) (bytes : List ℕ) → AreBytes bytes → SpellsAll bytes items → list_all (list_all is_printable) (diagnostics items) ≡ true
  items_shown no_items bytes e spelled = refl
  items_shown (item first others) bytes e spelled =
      let parts = are_bytes_in spelled.0 spelled.1 (sym (ap (list_all (λ (byte : ℕ). nat_lt byte 256)) spelled.2) ∙ e) in
      rw (item_shown first spelled.0 parts.0 spelled.3, items_shown others spelled.1 parts.1 spelled.4) refl

pub notation_shown : ReadIsSpelled → NotationIsPrintable
notation_shown spelled p e = go (read 32 (left_of p.bytes (length p.bytes) p.place)) refl
  where
    go : (outcome : Outcome Item) → read 32 (left_of p.bytes (length p.bytes) p.place) ≡ outcome → IsPrintable (tree_text outcome)
    go (Err refusal) is = refl
    go (Ok found) is =
        let part = ((spelled 32 (left_of p.bytes (length p.bytes) p.place) found.0 found.1).0 is).0 in
        item_shown found.0 part.part (are_bytes_in part.part found.1.bytes (sym (ap (list_all (λ (byte : ℕ). nat_lt byte 256)) part.whole) ∙ e)).0 part.is_part

-- ---- dates

two_shown : (n : ℕ) → IsPrintable (two_digits n)
unfolding two_digits
two_shown n = joins (decimal (n / 10)) (decimal (n % 10)) (decimal_shown (n / 10)) (decimal_shown (n % 10))

four_shown : (n : ℕ) → IsPrintable (four_digits n)
unfolding four_digits
four_shown n =
    around (decimal (n / 1000) ++ decimal (n / 100 % 10)) (decimal (n / 10 % 10)) (decimal (n % 10)) (joins (decimal (n / 1000)) (decimal (n / 100 % 10)) (decimal_shown (n / 1000)) (decimal_shown (n / 100 % 10)))
    (decimal_shown (n / 10 % 10)) (decimal_shown (n % 10))

date_shown : (date : Date) → IsPrintable (full_date date)
unfolding full_date
date_shown date =
    around (four_digits date.year ++ codes "-" ++ two_digits date.month) (codes "-") (two_digits date.day)
    (around (four_digits date.year) (codes "-") (two_digits date.month) (four_shown date.year) refl (two_shown date.month)) refl (two_shown date.day)

time_shown : (date : Date) → IsPrintable (partial_time date)
unfolding partial_time
time_shown date =
    around (two_digits date.hour ++ codes ":" ++ two_digits date.minute) (codes ":") (two_digits date.second)
    (around (two_digits date.hour) (codes ":") (two_digits date.minute) (two_shown date.hour) refl (two_shown date.minute)) refl (two_shown date.second)

pub dates_shown : DatesArePrintable
dates_shown date =
    around (full_date date ++ codes "T") (partial_time date) (codes "Z") (joins (full_date date) (codes "T") (date_shown date) refl) (time_shown date) refl
