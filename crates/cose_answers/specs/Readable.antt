-- What people read in addition to the bytes, where they ask for it: an item in diagnostic notation (RFC 8949 section 8), a text
-- in quotes, a date (RFC 3339).
use Rattle.std.specs.Prelude.{ℕ, ℤ, Bool, List, [], ◌++◌, Option, Some, None, Result, Ok, Err, codes, if◌then◌else◌}
use Rattle.std.specs.Fmt.{signed_decimal}
use Rattle.cose_head.specs.declared.refusal.Refusal.{Refusal}
use Rattle.cose_head.specs.Placed.{Placed}
use Rattle.cose_head.specs.Refusal.{refusal_text}
use Rattle.cose_head.specs.Whole.{whole}
use Rattle.cose_map.specs.Label.{LabelValue, number, words}
use Rattle.cose_text.specs.declared.date.Date.{Date}
use Rattle.cose_text.specs.Date.{date_of, date_text}
use Rattle.cose_text.specs.Diagnostic.{bytes_text, diagnostic_of}
use Rattle.cose_text.specs.Quoted.{quoted}

-- A label in diagnostic notation: an integer in decimal, a text in quotes.
abbrev pub label_text : LabelValue → List ℕ
label_text (number z) = signed_decimal z
label_text (words content) = quoted content

-- A pair after its bytes: the label and the value.
abbrev pub pair_notation : Bool → Placed → Placed → List ℕ
pair_notation diagnostic label value =
    if diagnostic then codes " " ++ diagnostic_of label ++ codes ": " ++ diagnostic_of value else []

-- Bytes that are one item of CBOR: the item in diagnostic notation. Others: the bytes as a byte string has them there, and why
-- they are no such item.
abbrev pub item_or_bytes : List ℕ → Result Placed Refusal → List ℕ
item_or_bytes bytes (Ok item) = diagnostic_of item
item_or_bytes bytes (Err refusal) = bytes_text (codes "h") bytes ++ codes " refused " ++ refusal_text refusal

-- The line of a payload, whose items may nest this deep.
abbrev pub payload_line : ℕ → List ℕ → List ℕ
payload_line nesting payload = codes "payload " ++ item_or_bytes payload (whole nesting (record { bytes = payload; place = 0 })) ++ codes "\n"

-- The payload of a message, where it is asked for, and the same of a message that hasn't its payload.
abbrev pub payload_shown : Bool → ℕ → List ℕ → List ℕ
payload_shown asked nesting payload = if asked then payload_line nesting payload else []

abbrev pub no_payload_shown : Bool → List ℕ
no_payload_shown asked = if asked then codes "payload elsewhere\n" else []

-- A text after its bytes.
abbrev pub text_notation : Bool → List ℕ → List ℕ
text_notation readable text = if readable then codes " " ++ quoted text else []

-- A date after its number of seconds, where its year has four digits.
abbrev pub date_after : Option Date → List ℕ
date_after None = []
date_after (Some date) = codes " " ++ date_text date

abbrev pub date_notation : Bool → ℤ → List ℕ
date_notation readable seconds = if readable then date_after (date_of seconds) else []
