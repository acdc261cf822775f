-- What a caller gets of the claims of a token.
use Rattle.std.specs.Prelude.{◌≡◌, ℕ, ℤ, pos, negsuc, ◌+◌, ◌-◌, ◌≤◌, ◌==◌, if◌then◌else◌, is_some, List, [], ◌∷◌, length, take, drop, Option, Some, None, Result, Ok, Err, option_and_then, ⊤}
use Rattle.cose_head.specs.declared.item.Span.{Span}
use Rattle.cose_head.specs.declared.refusal.Refusal.{Refusal}
use Rattle.cose_head.specs.Placed.{Placed, bytes_in, children_of, head_of_item, integer_in, is_an_array, look, span_at, text_in}
use Rattle.cose_head.specs.PlacedLaws.{end_of}
use Rattle.cose_map.specs.Key.Value.{KeyValue, MaterialValue, YValue, coordinate, elliptic, sign, symmetric}
use Rattle.cose_map.specs.Map.Form.{Table}
use Rattle.cose_cwt.specs.Confirmation.{CnfValue}
use Rattle.cose_c.specs.declared.numbers.CoseStatus.{CoseStatus}
use Rattle.cose_c.specs.declared.cose_claims.CoseClaims.{CoseClaims}
use Rattle.cose_c.specs.declared.cose_claims.CoseDate.{CoseDate}
use Rattle.cose_c.specs.declared.cose_claims.CoseRange.{CoseRange}
use Rattle.cose_c.specs.Message.{Covers}

abbrev pub no_range : CoseRange
no_range = record { at = 0; length = 0; present = 0 }

abbrev pub no_date : CoseDate
no_date = record { number = 0; present = 0; negative = 0 }

-- The bytes after an item's head: the content of a string, if it is one.
abbrev pub range_of : Placed → ℕ → CoseRange
range_of item count = record { at = item.place + (head_of_item item).width; length = count; present = 1 }

abbrev pub content_range : Placed → Option (List ℕ) → CoseRange
content_range item (Some content) = range_of item (length content)
content_range item None = no_range

abbrev pub text_range : Option Placed → CoseRange
text_range (Some item) = content_range item (text_in (look item))
text_range None = no_range

abbrev pub bytes_range : Option Placed → CoseRange
bytes_range (Some item) = content_range item (bytes_in (look item))
bytes_range None = no_range

-- A range begins before the end of the item that it is of, or at it.
abbrev pub StartsInside : Option Placed → CoseRange → Type 0
StartsInside (Some item) range = range.at ≤ end_of item
StartsInside None range = ⊤

-- An item ends by the end of the one that it is in.
abbrev pub EndsIn : Placed → Option Placed → Type 0
EndsIn outer (Some inner) = end_of inner ≤ end_of outer
EndsIn outer None = ⊤

-- A range ends by the end of the item that it is in. Where there is no item, there is no range.
abbrev pub LiesIn : Option Placed → CoseRange → Type 0
LiesIn (Some item) range = range.at + range.length ≤ end_of item
LiesIn None range = range ≡ no_range

-- A date before 1970 is -1 less its number (RFC 8949 section 3.1).
abbrev pub date_value : Option Placed → Option ℤ
date_value item = option_and_then (λ value. integer_in (look value)) item

abbrev pub date_numbers : Option ℤ → CoseDate
date_numbers None = no_date
date_numbers (Some (pos n)) = record { number = n; present = 1; negative = 0 }
date_numbers (Some (negsuc n)) = record { number = n; present = 1; negative = 1 }

-- ---- audiences

-- The text string of this number, from 0.
abbrev pub text_numbered : ℕ → List (List ℕ) → Option (List ℕ)
text_numbered n [] = None
text_numbered n (text ∷ others) = if n == 0 then Some text else text_numbered (n - 1) others

-- The item of the text string of this number: the elements end before one that isn't a text string.
abbrev pub element_numbered : ℕ → List Placed → Option Placed
element_numbered n [] = None
element_numbered n (element ∷ others) =
    if n == 0 then Some element else
    if is_some (text_in (look element)) then element_numbered (n - 1) others else None

abbrev pub audience_item : ℕ → Option Placed → Option Placed
audience_item n None = None
audience_item n (Some value) =
    if is_an_array (look value) then element_numbered n (children_of value) else
    if n == 0 then Some value else None

-- The item that bytes begin with, of a nesting of at most 32.
abbrev pub first_with : Placed → Result Span Refusal → Option Placed
first_with p (Ok span) = Some (record { bytes = take span.length p.bytes; place = p.place })
first_with p (Err refusal) = None

abbrev pub first_in : Placed → Option Placed
first_in p = first_with p (span_at p.bytes)

-- The text string that the item at a place of the payload is.
abbrev pub text_at : List ℕ → ℕ → Option (List ℕ)
text_at payload place = option_and_then (λ item. text_in (look item)) (first_in (record { bytes = drop place payload; place = place }))

-- ---- ranges

-- A range of the payload has these bytes, where there are any.
abbrev pub Ranges : List ℕ → Option (List ℕ) → CoseRange → Type 0
Ranges payload None range = range ≡ no_range
Ranges payload (Some content) range = (range.present ≡ 1) × Covers payload content range.at range.length

-- A range of the payload, or none, is within it.
abbrev pub IsWithin : List ℕ → CoseRange → Type 0
IsWithin payload range = range.at + range.length ≤ length payload

abbrev pub no_claims : CoseStatus → CoseClaims
no_claims s = record {
  status = s.status;
  reason = s.reason;
  place = s.place;
  payload_at = 0;
  payload_length = 0;
  iss = no_range;
  sub = no_range;
  aud = no_range;
  cti = no_range;
  aud_count = 0;
  exp = no_date;
  nbf = no_date;
  iat = no_date;
  cnf_kid = no_range;
  cnf_x = no_range;
  cnf_y = no_range;
  cnf_crv = 0;
  cnf_y_sign = 0;
}

-- The number of the curve of a key on one (RFC 9053 section 7.1), and the sign of its coordinate y, where it has that alone: 1 even, 2 odd.
abbrev pub curve_of_material : MaterialValue → ℕ
curve_of_material (symmetric secret) = 0
curve_of_material (elliptic curve x y) = curve

abbrev pub sign_of_y : YValue → ℕ
sign_of_y (coordinate y) = 0
sign_of_y (sign odd) = if odd then 2 else 1

abbrev pub sign_of_material : MaterialValue → ℕ
sign_of_material (symmetric secret) = 0
sign_of_material (elliptic curve x y) = sign_of_y y

abbrev pub curve_number : Option KeyValue → ℕ
curve_number None = 0
curve_number (Some key) = curve_of_material key.material

abbrev pub sign_number : Option KeyValue → ℕ
sign_number None = 0
sign_number (Some key) = sign_of_material key.material

-- Those of the key that a token confirms (RFC 8747 section 3.2), 0 where it confirms none.
abbrev pub confirmed_curve : Option CnfValue → ℕ
confirmed_curve None = 0
confirmed_curve (Some confirmation) = curve_number confirmation.key

abbrev pub confirmed_sign : Option CnfValue → ℕ
confirmed_sign None = 0
confirmed_sign (Some confirmation) = sign_number confirmation.key

-- A map any of whose values will do.
abbrev pub any_value : Table
any_value name value = None
