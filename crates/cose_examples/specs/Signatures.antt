-- What elliptic curves of the caller's are asked about a signature (RFC 9053 sections 2.1 and
-- 7.1.1).
use Rattle.std.specs.Prelude.{ℕ, Bool, false, List, ◌∷◌, ◌++◌, ◌/◌, length, take, drop, nat_le, ◌&&◌, if◌then◌else◌}
use Rattle.cose_map.specs.Key.Value.{MaterialValue, symmetric, elliptic, YValue, coordinate, sign}

-- A point in the encoding of SEC 1, section 2.3.3: 4, x and y, or, where only the sign of y is known, 2 (even) or 3 (odd) and x.
abbrev pub encoded : List ℕ → YValue → List ℕ
encoded x (coordinate y) = 4 ∷ x ++ y
encoded x (sign odd) = (if odd then 3 else 2) ∷ x

-- The answer of curves about the number of a curve, a point, a digest, r and s.
abbrev pub Accepts : Type 0
Accepts = ℕ → List ℕ → List ℕ → List ℕ → List ℕ → Bool

-- They are asked about a key that is a point, of at most 133 bytes, and about the halves of the signature. No other one holds.
abbrev pub asks : Accepts → MaterialValue → List ℕ → List ℕ → Bool
asks accepts (symmetric secret) digest signature = false
asks accepts (elliptic curve x y) digest signature =
    let half = length signature / 2 in
    nat_le (length (encoded x y)) 133 && accepts curve (encoded x y) digest (take half signature) (drop half signature)
