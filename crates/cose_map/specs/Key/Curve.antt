-- The curves of keys (RFC 9053 section 7.1).
use Rattle.std.specs.Prelude.{ℤ, pos, List, [], ◌∷◌, Option, find}
use Rattle.std.specs.Ordering.{int_eq}
use Rattle.cose_map.specs.declared.key.curve.Curve.{Curve}

-- The usable curves: the number of each, and the number of bytes of a coordinate. 1 is P-256, 2 is P-384, and 3 is P-521,
-- whose coordinates have 521 bits.
abbrev pub curves : List Curve
curves =
    record { number = 1; coordinate_length = 32 } ∷
    record { number = 2; coordinate_length = 48 } ∷
    record { number = 3; coordinate_length = 66 } ∷ []

abbrev pub curve_of : ℤ → Option Curve
curve_of z = find (λ curve. int_eq z (pos curve.number)) curves
