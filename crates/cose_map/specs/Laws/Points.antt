-- The point of a key: its coordinates have the full length of its curve (RFC 9053 section 7.1.1).
use Rattle.std.specs.Prelude.{◌≡◌, ◌≤◌, ℕ, ℤ, List, length, Some, Ok, ⊤}
use Rattle.std.specs.List.{AllByRecursion}
use Rattle.cose_head.specs.Placed.{Placed}
use Rattle.cose_map.specs.declared.key.curve.Curve.{Curve}
use Rattle.cose_map.specs.Key.{key_of}
use Rattle.cose_map.specs.Key.Curve.{curve_of}
use Rattle.cose_map.specs.Key.Value.{KeyValue, MaterialValue, YValue, coordinate, elliptic, sign, symmetric}
use Rattle.cose_map.specs.KeySet.{keys_of}

-- Of the coordinate y there may be the sign alone.
abbrev pub HasLength : ℕ → YValue → Type 0
HasLength size (coordinate bytes) = length bytes ≡ size
HasLength size (sign odd) = ⊤

-- A point is on a usable curve, and each of its coordinates has as many bytes as the curve says.
abbrev pub IsFull : MaterialValue → Type 0
IsFull (symmetric secret) = ⊤
IsFull (elliptic crv x y) =
    (z : ℤ) × (curve : Curve) × (curve_of z ≡ Some curve) × (crv ≡ curve.number) × (length x ≡ curve.coordinate_length) × HasLength curve.coordinate_length y

abbrev pub PointIsFull : Type 0
PointIsFull = (p : Placed) (key : KeyValue) → key_of p ≡ Ok key → IsFull key.material

abbrev pub PointsAreFull : Type 0
PointsAreFull = (bytes : List ℕ) (keys : List KeyValue) → keys_of bytes ≡ Ok keys → AllByRecursion (λ key. IsFull key.material) keys

-- No usable curve has coordinates of more than 66 bytes.
abbrev pub HasAtMost : ℕ → YValue → Type 0
HasAtMost most (coordinate bytes) = length bytes ≤ most
HasAtMost most (sign odd) = ⊤

abbrev pub IsShort : MaterialValue → Type 0
IsShort (symmetric secret) = ⊤
IsShort (elliptic crv x y) = (length x ≤ 66) × HasAtMost 66 y

abbrev pub FullIsShort : Type 0
FullIsShort = (material : MaterialValue) → IsFull material → IsShort material
