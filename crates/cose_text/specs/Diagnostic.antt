-- Diagnostic notation (RFC 8949 section 8).
use Rattle.std.specs.Prelude.{ℕ, ◌-◌, negsuc, List, [], ◌∷◌, ◌++◌, drop, length, Ok, Err, codes, ◌==◌, if◌then◌else◌}
use Rattle.std.specs.Fmt.{decimal, signed_decimal}
use Rattle.std.specs.Int.{w64, to_be_bytes}
use Rattle.std.specs.Str.{is_utf8}
use Rattle.cose_head.specs.Item.{Item, unsigned, negative, byte_string, text_string, array, map, tag, simple, float, Items, no_items, item}
use Rattle.cose_head.specs.Measured.{left_of}
use Rattle.cose_head.specs.Placed.{Placed}
use Rattle.cose_head.specs.Reading.{Outcome, read}
use Rattle.cose_text.specs.Quoted.{quoted}
use Rattle.hex.specs.Hex.{encode_lower}

-- Bytes in hexadecimal, in single quotes after a word: h for a byte string.
abbrev pub bytes_text : List ℕ → List ℕ → List ℕ
bytes_text word bytes = word ++ codes "'" ++ encode_lower bytes ++ codes "'"

-- A text string. One that isn't UTF-8 is not valid (section 5.3.1), and no notation has it: here it is its bytes.
abbrev pub string_text : List ℕ → List ℕ
string_text content = if is_utf8 content then quoted content else bytes_text (codes "text") content

-- A float is its bytes, 2, 4 or 8 of them after the initial byte: so it is exact, and its width is seen.
abbrev pub float_text : ℕ → ℕ → List ℕ
float_text width bits = bytes_text (codes "float") (drop (8 - width) (to_be_bytes w64 bits))

-- A simple value (section 3.3).
abbrev pub simple_text : ℕ → List ℕ
simple_text n =
    if n == 20 then codes "false" else if n == 21 then codes "true" else
    if n == 22 then codes "null" else if n == 23 then codes "undefined" else
    codes "simple(" ++ decimal n ++ codes ")"

-- Texts one after another: `before` comes before the first, and before the others `next` and `other` by turns.
abbrev pub joined : List ℕ → List ℕ → List ℕ → List (List ℕ) → List ℕ
joined before next other [] = []
joined before next other (text ∷ texts) = before ++ text ++ joined next other next texts

abbrev pub array_text : List (List ℕ) → List ℕ
array_text texts = codes "[" ++ joined [] (codes ", ") (codes ", ") texts ++ codes "]"

-- The texts are label, value, label, value.
abbrev pub map_text : List (List ℕ) → List ℕ
map_text texts = codes "{" ++ joined [] (codes ": ") (codes ", ") texts ++ codes "}"

abbrev pub tag_text : ℕ → List ℕ → List ℕ
tag_text number content = decimal number ++ codes "(" ++ content ++ codes ")"

unfoldable mutual
  pub diagnostic : Item → List ℕ
  diagnostic (unsigned n) = decimal n
  diagnostic (negative n) = signed_decimal (negsuc n)
  diagnostic (byte_string content) = bytes_text (codes "h") content
  diagnostic (text_string content) = string_text content
  diagnostic (array items) = array_text (diagnostics items)
  diagnostic (map items) = map_text (diagnostics items)
  diagnostic (tag n content) = tag_text n (diagnostic content)
  diagnostic (simple n) = simple_text n
  diagnostic (float width bits) = float_text width bits

  pub diagnostics : Items → List (List ℕ)
  diagnostics no_items = []
  diagnostics (item first others) = diagnostic first ∷ diagnostics others

-- The notation of the item that the bytes are, of a nesting of at most 32. Where they are none, it is empty.
abbrev pub tree_text : Outcome Item → List ℕ
tree_text (Ok found) = diagnostic found.0
tree_text (Err refusal) = []

abbrev pub diagnostic_of : Placed → List ℕ
diagnostic_of p = tree_text (read 32 (left_of p.bytes (length p.bytes) p.place))
