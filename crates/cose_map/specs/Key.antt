-- One key (RFC 9052 section 7): a map, and then the members that its type requires.
pub mod Labels
pub mod Form
pub mod Curve
pub mod Material
pub mod Value
pub mod View
pub mod Okp
pub mod Shown
use Rattle.std.specs.Prelude.{ℕ, ℤ, List, Option, Ok, option_map, option_and_then, filter_map}
use Rattle.cose_head.specs.Placed.{Placed, look, integer_in, bytes_in, children_of}
use Rattle.cose_map.specs.Map.Pairs.{value_of, Pair}
use Rattle.cose_map.specs.Key.Form.{key_table}
use Rattle.cose_map.specs.Key.Labels.{key_kid, key_alg, key_ops}
use Rattle.cose_map.specs.Key.Value.{KeyValue, MaterialValue}
use Rattle.cose_map.specs.Label.{LabelValue, label_of}
use Rattle.cose_map.specs.Map.Read.{Read, read_map, ◌>>=◌}
use Rattle.cose_map.specs.Key.Material.{material_of}

-- The operations that it lists by their numbers. One that is a text string is none of those that a query requires.
abbrev pub integers_of : List Placed → List ℤ
integers_of elements = filter_map (λ element. integer_in (look element)) elements

-- The members that a key may have.
abbrev pub bytes_under : LabelValue → List Pair → Option (List ℕ)
bytes_under name pairs = option_and_then (λ value. bytes_in (look value)) (value_of name pairs)

abbrev pub label_under : LabelValue → List Pair → Option LabelValue
label_under name pairs = option_and_then label_of (value_of name pairs)

abbrev pub operations_under : LabelValue → List Pair → Option (List ℤ)
operations_under name pairs = option_map (λ value. integers_of (children_of value)) (value_of name pairs)

abbrev pub key_with : List Pair → MaterialValue → KeyValue
key_with pairs material = record {
  kid = bytes_under key_kid pairs;
  alg = label_under key_alg pairs;
  operations = operations_under key_ops pairs;
  material = material;
}

-- A key by its members, or why these are no key.
abbrev pub key_by : Placed → List Pair → Read KeyValue
key_by key pairs = do
  material ← material_of key pairs
  Ok (key_with pairs material)

-- A key, or its first fault.
unfoldable pub key_of : Placed → Read KeyValue
key_of key = do
  pairs ← read_map key_table 8 key
  key_by key pairs
