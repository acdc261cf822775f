-- Public keys of the type OKP, octet key pairs (RFC 9053 section 7.2), on the curves of EdDSA.
use Rattle.std.specs.Prelude.{ℕ, ℤ, pos, List, Option, Some, None, Ok, option_map, if◌then◌else◌}
use Rattle.std.specs.Ordering.{int_eq}
use Rattle.cose_head.specs.declared.further.OkpCurve.{OkpCurve}
use Rattle.cose_head.specs.declared.reason.Reason.TheVariants.{BadValue, UnknownKey}
use Rattle.cose_head.specs.Further.{okp_curve_numbered, public_key_length_of}
use Rattle.cose_head.specs.Placed.{Placed, look, integer_in, bytes_in, is_a_text}
use Rattle.cose_map.specs.declared.key.okp.OkpKey.{OkpKey}
use Rattle.cose_map.specs.Key.{bytes_under, label_under, operations_under}
use Rattle.cose_map.specs.Key.Form.{key_table}
use Rattle.cose_map.specs.Key.Labels.{kty, key_kid, key_alg, key_ops, crv, x, d}
use Rattle.cose_map.specs.Key.Material.{coordinate_in, member, private_part}
use Rattle.cose_map.specs.Key.View.{contents, operations_of}
use Rattle.cose_map.specs.Label.{LabelValue}
use Rattle.cose_map.specs.Label.View.{label_value}
use Rattle.cose_map.specs.Map.Pairs.{value_of, Pair}
use Rattle.cose_map.specs.Map.Read.{Read, read_map, refuse, ◌>>=◌}

-- The identifier, the one algorithm and the operations that the key is restricted to, if it names them, the curve, and the
-- public key.
pub record OkpValue : Type 0 where
  pub kid : Option (List ℕ)
  pub alg : Option LabelValue
  pub operations : Option (List ℤ)
  pub curve : OkpCurve
  pub x : List ℕ

abbrev pub okp_with : List Pair → OkpCurve → List ℕ → OkpValue
okp_with pairs curve public_key = record {
  kid = bytes_under key_kid pairs;
  alg = label_under key_alg pairs;
  operations = operations_under key_ops pairs;
  curve = curve;
  x = public_key;
}

-- The curve is one of EdDSA: 6 is Ed25519, and 7 is Ed448 (RFC 9053 section 7.1, table 18).
abbrev pub usable_okp_curve : Placed → Option OkpCurve → Read OkpCurve
usable_okp_curve key None = refuse UnknownKey key
usable_okp_curve key (Some curve) = Ok curve

abbrev pub okp_curve_in : Placed → Placed → Option ℤ → Read OkpCurve
okp_curve_in key value (Some z) = usable_okp_curve key (okp_curve_numbered z)
okp_curve_in key value None = if is_a_text (look value) then refuse UnknownKey key else refuse BadValue value

-- A public key has crv and x, which is as long as the curve says, and may have the private key d (RFC 9053 section 7.2).
abbrev pub octet_key_pair : Placed → List Pair → Read OkpValue
octet_key_pair key pairs = do
  curve_value ← member key pairs crv
  curve ← okp_curve_in key curve_value (integer_in (look curve_value))
  x_value ← member key pairs x
  public_key ← coordinate_in (public_key_length_of curve) x_value (bytes_in (look x_value))
  unused ← private_part (value_of d pairs)
  Ok (okp_with pairs curve public_key)

-- The type 1 is OKP (RFC 9053 section 7).
abbrev pub okp_in : Placed → List Pair → Option ℤ → Read OkpValue
okp_in key pairs None = refuse UnknownKey key
okp_in key pairs (Some z) = if int_eq z (pos 1) then octet_key_pair key pairs else refuse UnknownKey key

unfoldable pub okp_by : Placed → List Pair → Read OkpValue
okp_by key pairs = do
  value ← member key pairs kty
  okp_in key pairs (integer_in (look value))

-- A key, or its first fault.
unfoldable pub okp_of : Placed → Read OkpValue
okp_of key = do
  pairs ← read_map key_table 8 key
  okp_by key pairs

-- A key of the code, without where it is in memory.
abbrev pub okp_value : OkpKey → OkpValue
okp_value key = record {
  kid = option_map contents key.kid;
  alg = option_map label_value key.alg;
  operations = option_map operations_of key.ops;
  curve = key.curve;
  x = key.x.now;
}
