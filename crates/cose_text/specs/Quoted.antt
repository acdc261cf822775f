-- Texts in quotes (RFC 8949 section 8): a string of JSON (RFC 8259 section 7), of printable ASCII characters alone.
use Rattle.std.specs.Prelude.{◌≡◌, ℕ, ◌+◌, ◌-◌, ◌/◌, ◌%◌, List, [], ◌∷◌, ◌++◌, map, Option, Some, None, codes, nat_lt, ◌==◌, ◌&&◌, ◌||◌, if◌then◌else◌}
use Rattle.std.specs.List.{concat}
use Rattle.std.specs.Int.{w16, to_be_bytes}
use Rattle.std.specs.Str.{chars}
use Rattle.hex.specs.Hex.{encode_lower}

-- A UTF-16 code unit: four digits after a backslash (92) and u.
abbrev pub unit_text : ℕ → List ℕ
unit_text unit = 92 ∷ codes "u" ++ encode_lower (to_be_bytes w16 unit)

-- The code units of a character: one below 2^16, and from there a pair (RFC 2781 section 2.1).
abbrev pub units_of : ℕ → List ℕ
units_of c =
    if nat_lt c 0x10000 then c ∷ []
    else (0xd800 + (c - 0x10000) / 1024) ∷ (0xdc00 + (c - 0x10000) % 1024) ∷ []

abbrev pub units_text : ℕ → List ℕ
units_text c = concat (map unit_text (units_of c))

-- A quote (34) and a backslash have a backslash before them; other printable ASCII characters are as they are, from the
-- space (32) to the tilde (126).
abbrev pub char_text : ℕ → List ℕ
char_text c =
    if c == 34 || c == 92 then 92 ∷ c ∷ []
    else if nat_lt 31 c && nat_lt c 127 then c ∷ []
    else units_text c

-- The text of these bytes, which are UTF-8.
abbrev pub chars_text : List ℕ → List ℕ
chars_text content = concat (map char_text (chars content))

abbrev pub quoted : List ℕ → List ℕ
quoted content = 34 ∷ chars_text content ++ codes "\""

-- What follows a text in quotes, for a reader that is past the first quote (RFC 8259 section 7): a backslash and the character
-- after it are passed together, and the next quote ends the text.
unfoldable pub past_quotes : List ℕ → Option (List ℕ)
past_quotes [] = None
past_quotes (c ∷ []) = if c == 34 then Some [] else None
past_quotes (c ∷ d ∷ rest) =
    if c == 34 then Some (d ∷ rest) else if c == 92 then past_quotes rest else past_quotes (d ∷ rest)

-- So a text ends where its quotes do, whatever its characters are and whatever follows.
abbrev pub QuotesEnd : Type 0
QuotesEnd = (content rest : List ℕ) → past_quotes (chars_text content ++ 34 ∷ rest) ≡ Some rest
