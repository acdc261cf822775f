-- The meaning of a key, without where it is in memory (RFC 9052 section 7.1, RFC 9053 section 7).
use Rattle.std.specs.Prelude.{ℕ, ℤ, List, Bool, Option}
use Rattle.cose_map.specs.Label.{LabelValue}

-- The coordinate y of a point: its bytes, or its sign alone.
pub data YValue : Type 0 where
  coordinate : List ℕ → YValue
  sign : Bool → YValue

-- A secret, or a point: the number of its curve, x and y.
pub data MaterialValue : Type 0 where
  symmetric : List ℕ → MaterialValue
  elliptic : ℕ → List ℕ → YValue → MaterialValue

-- The identifier, the one algorithm and the operations that the key is restricted to, if it names them, and the
-- material.
pub record KeyValue : Type 0 where
  pub kid : Option (List ℕ)
  pub alg : Option LabelValue
  pub operations : Option (List ℤ)
  pub material : MaterialValue
