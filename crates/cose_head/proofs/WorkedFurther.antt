-- The tables of EdDSA (RFC 9053 section 2.2, table 2; RFC 9864 section 2.2, table 2; RFC 9053 section 7.1, table 18), row by
-- row, by computing.
use Rattle.std.proofs.Common.{◌≡◌, pos, negsuc, true, false, [], ◌∷◌, Some, None, map, replicate, refl}
use Rattle.cose_head.specs.declared.further.OkpCurve.TheVariants as curves
use Rattle.cose_head.specs.declared.further.FurtherAlg.TheVariants as algorithms
use Rattle.cose_head.specs.Algorithm.{algorithm_numbered}
use Rattle.cose_head.specs.Further.{curve_row, curve_row_of, further_algorithms, further_number, further_numbered, further_row, further_row_of, okp_curve_numbered, okp_curves, takes_curve}

all_curves : map curve_row_of okp_curves ≡ curve_row (pos 6) 32 64 ∷ curve_row (pos 7) 57 114 ∷ []
all_curves = refl

all_algorithms : map further_row_of further_algorithms ≡
    further_row (negsuc 7) None ∷ further_row (negsuc 18) (Some curves.Ed25519) ∷ further_row (negsuc 52) (Some curves.Ed448) ∷ []
all_algorithms = refl

curves_by_number : map okp_curve_numbered (pos 6 ∷ pos 7 ∷ []) ≡ Some curves.Ed25519 ∷ Some curves.Ed448 ∷ []
curves_by_number = refl

algorithms_by_number : map further_numbered (negsuc 7 ∷ negsuc 18 ∷ negsuc 52 ∷ []) ≡
    Some algorithms.EdDsa ∷ Some algorithms.Ed25519 ∷ Some algorithms.Ed448 ∷ []
algorithms_by_number = refl

-- P-256, P-384 and P-521, X25519 and X448, secp256k1, the numbers next to these, with the other sign, and alike in the low byte
by_no_other_curve : map okp_curve_numbered (pos 1 ∷ pos 2 ∷ pos 3 ∷ pos 4 ∷ pos 5 ∷ pos 8 ∷ negsuc 5 ∷ negsuc 6 ∷ pos 262 ∷ pos 263 ∷ []) ≡
    replicate 10 None
by_no_other_curve = refl

-- the numbers next to these, with the other sign, alike in the low byte, and the algorithms that aren't left to the caller
by_no_other_number : map further_numbered (pos 8 ∷ pos 19 ∷ pos 53 ∷ negsuc 6 ∷ negsuc 8 ∷ negsuc 17 ∷ negsuc 19 ∷ negsuc 51 ∷ negsuc 53 ∷ pos 248 ∷ negsuc 263 ∷ pos 5 ∷ negsuc 34 ∷ []) ≡
    replicate 13 None
by_no_other_number = refl

-- No algorithm that isn't left to the caller has such a number.
by_no_alg : map (λ alg. algorithm_numbered (further_number alg)) further_algorithms ≡ replicate 3 None
by_no_alg = refl

-- EdDSA takes a key on either curve, Ed25519 and Ed448 take their own.
taken_curves : map (λ alg. map (takes_curve alg) okp_curves) further_algorithms ≡
    (true ∷ true ∷ []) ∷ (true ∷ false ∷ []) ∷ (false ∷ true ∷ []) ∷ []
taken_curves = refl
