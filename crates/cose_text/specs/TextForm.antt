-- Which bytes an input stands for that may be a text: hexadecimal (RFC 4648 section 8), or base64url (section 5).
use Rattle.std.specs.Prelude.{ℕ, ◌+◌, ◌-◌, ◌*◌, ◌/◌, ◌%◌, ◌&&◌, ◌||◌, ◌==◌, Bool, true, false, Option, Some, None, is_some, option_map, nat_le, if◌then◌else◌}
use Rattle.cose_text.specs.declared.text_form.Next.{Next}
use Rattle.cose_text.specs.declared.text_form.Next.TheVariants.{Byte, First, Text, High, Low, Group, Second, Third, Fourth, Padding, End, Wrong, Short}

abbrev pub is_between : ℕ → ℕ → ℕ → Bool
is_between first last c = nat_le first c && nat_le c last

-- Line breaks, spaces and tabs stand for nothing.
abbrev pub is_blank : ℕ → Bool
is_blank c = (c == 32) || (c == 10) || (c == 13) || (c == 9)

-- The value of a hexadecimal digit: 0 to 9, A to F, a to f.
abbrev pub hexadecimal_value : ℕ → Option ℕ
hexadecimal_value c =
    if is_between 48 57 c then Some (c - 48) else if is_between 65 70 c then Some (c - 55) else if is_between 97 102 c then Some (c - 87) else None

-- The value of a character of base64url: A to Z, a to z, 0 to 9, `-` and `_`; and `+` and `/`, which base64 has in their place.
abbrev pub base64url_value : ℕ → Option ℕ
base64url_value c =
    if is_between 65 90 c then Some (c - 65)
    else if is_between 97 122 c then Some (c - 71)
    else if is_between 48 57 c then Some (c + 4)
    else if (c == 45) || (c == 43) then Some 62
    else if (c == 95) || (c == 47) then Some 63
    else None

-- ---- what comes next

abbrev pub after_value : (ℕ → Next) → Option ℕ → Next
after_value next (Some value) = next value
after_value next None = Wrong

-- A text whose first digit is 8 or greater is in hexadecimal, and any other in base64url. So for each message one
-- character decides: it begins with an array or a tag, a byte from 128 to 223, which hexadecimal begins with 8, 9, a, b,
-- c or d, and base64url with a character of a value from 32 to 55: g to z, 0, 1, 2 or 3.
abbrev pub leads_hexadecimal : ℕ → Bool
leads_hexadecimal c = is_between 56 57 c || is_between 65 70 c || is_between 97 102 c

-- After the first character of a text.
abbrev pub begun : ℕ → Next
begun c = if leads_hexadecimal c then after_value Low (hexadecimal_value c) else after_value Second (base64url_value c)

-- Where two or three characters of four have come, `=` fills them up (RFC 4648 section 3.2). It may be left out.
abbrev pub after_third_character : ℕ → Next
after_third_character c = if c == 61 then Padding else after_value Fourth (base64url_value c)

abbrev pub after_fourth_character : ℕ → Next
after_fourth_character c = if c == 61 then End else if is_some (base64url_value c) then Group else Wrong

abbrev pub after_character : Next → ℕ → Next
after_character Byte c = Byte
after_character First c = if is_some (base64url_value c) then begun c else Byte
after_character Text c = begun c
after_character High c = after_value Low (hexadecimal_value c)
after_character (Low high) c = if is_some (hexadecimal_value c) then High else Wrong
after_character Group c = after_value Second (base64url_value c)
after_character (Second first) c = after_value Third (base64url_value c)
after_character (Third second) c = after_third_character c
after_character (Fourth third) c = after_fourth_character c
after_character Padding c = if c == 61 then End else Wrong
after_character End c = Wrong
after_character Wrong c = Wrong
after_character Short c = Short

-- A blank before the first character says that the input is a text.
abbrev pub after_blank : Next → Next
after_blank First = Text
after_blank next = next

abbrev pub after : Next → ℕ → Next
after next c = if is_blank c then after_blank next else after_character next c

-- The last eight bits of what two characters make, of which the second gives its first bits.
abbrev pub byte_of : ℕ → ℕ → ℕ → ℕ → ℕ
byte_of before factor divisor value = (before * factor + value / divisor) % 256

-- The byte that is whole with this one of the input.
abbrev pub given : Next → ℕ → Option ℕ
given Byte c = Some c
given First c = if is_blank c || is_some (base64url_value c) then None else Some c
given (Low high) c = option_map (byte_of high 16 1) (hexadecimal_value c)
given (Second first) c = option_map (byte_of first 4 16) (base64url_value c)
given (Third second) c = option_map (byte_of second 16 4) (base64url_value c)
given (Fourth third) c = option_map (byte_of third 64 1) (base64url_value c)
given _ c = None

abbrev pub may_end : Next → Bool
may_end (Low high) = false
may_end (Second first) = false
may_end Padding = false
may_end Wrong = false
may_end Short = false
may_end _ = true
