-- The material of a key, by its type (RFC 9053 section 7).
use Rattle.std.specs.Prelude.{ℕ, ℤ, pos, Bool, List, length, Option, Some, None, Ok, ◌==◌, if◌then◌else◌}
use Rattle.std.specs.Ordering.{int_eq}
use Rattle.cose_head.specs.declared.reason.Reason.TheVariants.{BadValue, UnknownKey}
use Rattle.cose_head.specs.Placed.{Placed, look, integer_in, bytes_in, is_a_text, truth_in}
use Rattle.cose_map.specs.declared.key.curve.Curve.{Curve}
use Rattle.cose_map.specs.Map.Form.{is_bytes}
use Rattle.cose_map.specs.Map.Pairs.{value_of, Pair}
use Rattle.cose_map.specs.Key.Curve.{curve_of}
use Rattle.cose_map.specs.Key.Labels.{kty, k, crv, x, y, d}
use Rattle.cose_map.specs.Key.Value.{MaterialValue, symmetric, elliptic, YValue, coordinate, sign}
use Rattle.cose_map.specs.Label.{LabelValue}
use Rattle.cose_map.specs.Map.Read.{Read, refuse, ◌>>=◌}

-- The members of one type of keys: the place of a missing one is the key's head, and that of one of the wrong form is
-- its value.
abbrev pub present : Placed → Option Placed → Read Placed
present key None = refuse BadValue key
present key (Some value) = Ok value

abbrev pub member : Placed → List Pair → LabelValue → Read Placed
member key pairs name = present key (value_of name pairs)

-- A symmetric key has k, at least one byte (RFC 9053 section 7.3).
abbrev pub secret_in : Placed → Option (List ℕ) → Read MaterialValue
secret_in value None = refuse BadValue value
secret_in value (Some content) = if length content == 0 then refuse BadValue value else Ok (symmetric content)

abbrev pub symmetric_key : Placed → List Pair → Read MaterialValue
symmetric_key key pairs = do
  value ← member key pairs k
  secret_in value (bytes_in (look value))

-- The curve is one of the usable ones.
abbrev pub usable_curve : Placed → Option Curve → Read Curve
usable_curve key None = refuse UnknownKey key
usable_curve key (Some curve) = Ok curve

abbrev pub curve_in : Placed → Placed → Option ℤ → Read Curve
curve_in key value (Some z) = usable_curve key (curve_of z)
curve_in key value None = if is_a_text (look value) then refuse UnknownKey key else refuse BadValue value

-- A coordinate has its full length, with leading zeros. In place of y there may be its sign.
abbrev pub coordinate_of : ℕ → Placed → List ℕ → Read (List ℕ)
coordinate_of size value content = if length content == size then Ok content else refuse BadValue value

abbrev pub coordinate_in : ℕ → Placed → Option (List ℕ) → Read (List ℕ)
coordinate_in size value None = refuse BadValue value
coordinate_in size value (Some content) = coordinate_of size value content

abbrev pub sign_in : Placed → Option Bool → Read YValue
sign_in value None = refuse BadValue value
sign_in value (Some odd) = Ok (sign odd)

abbrev pub y_in : ℕ → Placed → Option (List ℕ) → Read YValue
y_in size value None = sign_in value (truth_in (look value))
y_in size value (Some content) = do
  bytes ← coordinate_of size value content
  Ok (coordinate bytes)

abbrev pub private_part : Option Placed → Read (Unit {0})
private_part None = Ok tt
private_part (Some value) = if is_bytes value then Ok tt else refuse BadValue value

-- A key on a curve has crv, x and y, and may have the private key d (RFC 9053 section 7.1.1).
abbrev pub elliptic_key : Placed → List Pair → Read MaterialValue
elliptic_key key pairs = do
  curve_value ← member key pairs crv
  curve ← curve_in key curve_value (integer_in (look curve_value))
  x_value ← member key pairs x
  x_bytes ← coordinate_in curve.coordinate_length x_value (bytes_in (look x_value))
  y_value ← member key pairs y
  point_y ← y_in curve.coordinate_length y_value (bytes_in (look y_value))
  unused ← private_part (value_of d pairs)
  Ok (elliptic curve.number x_bytes point_y)

-- The types of keys (RFC 9053 section 7): 2 is EC2, and 4 is Symmetric.
abbrev pub material_in : Placed → List Pair → Option ℤ → Read MaterialValue
material_in key pairs None = refuse UnknownKey key
material_in key pairs (Some z) =
    if int_eq z (pos 4) then symmetric_key key pairs else
    if int_eq z (pos 2) then elliptic_key key pairs else refuse UnknownKey key

unfoldable pub material_of : Placed → List Pair → Read MaterialValue
material_of key pairs = do
  value ← member key pairs kty
  material_in key pairs (integer_in (look value))
