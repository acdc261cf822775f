-- A key of the code, without where it is in memory.
use Rattle.std.specs.Prelude.{ℕ, ℤ, List, option_map}
use Rattle.std.specs.Borrow.{Bor}
use Rattle.cose_head.specs.Items.{items_left}
use Rattle.cose_map.specs.declared.key.Key.{Key}
use Rattle.cose_map.specs.declared.key.material.Y.{Y}
use Rattle.cose_map.specs.declared.key.material.Y.TheVariants.{Bytes, Sign}
use Rattle.cose_map.specs.declared.key.material.Material.{Material}
use Rattle.cose_map.specs.declared.key.material.Material.TheVariants.{Symmetric, Ec}
use Rattle.cose_map.specs.declared.key.operations.Ops.{Ops}
use Rattle.cose_map.specs.Key.{integers_of}
use Rattle.cose_map.specs.Key.Value.{YValue, coordinate, sign, MaterialValue, symmetric, elliptic, KeyValue}
use Rattle.cose_map.specs.Label.View.{label_value}

abbrev pub contents : Bor (List ℕ) → List ℕ
contents bytes = bytes.now

abbrev pub y_value : Y → YValue
y_value (Bytes y) = coordinate y.now
y_value (Sign s) = sign s

abbrev pub material_value : Material → MaterialValue
material_value (Symmetric k) = symmetric k.now
material_value (Ec crv x y) = elliptic crv x.now (y_value y)

-- The operations that a key lists, by their numbers.
abbrev pub operations_of : Ops → List ℤ
operations_of ops = integers_of (items_left ops.elements)

abbrev pub key_value : Key → KeyValue
key_value key = record {
  kid = option_map contents key.kid;
  alg = option_map label_value key.alg;
  operations = option_map operations_of key.ops;
  material = material_value key.material;
}
