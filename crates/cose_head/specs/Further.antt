-- The signature algorithms that are left to the caller, EdDSA (RFC 9053 section 2.2, table 2; RFC 9864 section 2.2, table 2),
-- and the curves of their keys (RFC 9053 section 7.1, table 18), with the numbers of bytes of public keys and signatures
-- (RFC 8032 sections 5.1 and 5.2).
use Rattle.std.specs.Prelude.{ℕ, ℤ, pos, negsuc, Bool, true, false, List, [], ◌∷◌, Option, Some, None, find}
use Rattle.std.specs.Ordering.{int_eq}
use Rattle.cose_head.specs.declared.further.CurveRow.{CurveRow}
use Rattle.cose_head.specs.declared.further.FurtherRow.{FurtherRow}
use Rattle.cose_head.specs.declared.further.OkpCurve.{OkpCurve}
use Rattle.cose_head.specs.declared.further.OkpCurve.TheVariants as curves
use Rattle.cose_head.specs.declared.further.FurtherAlg.{FurtherAlg}
use Rattle.cose_head.specs.declared.further.FurtherAlg.TheVariants as algorithms

-- ---- the curves

-- number, and bytes of a public key and of a signature
abbrev pub curve_row : ℤ → ℕ → ℕ → CurveRow
curve_row number public_key_length signature_length =
    record { number = number; public_key_length = public_key_length; signature_length = signature_length }

abbrev pub curve_row_of : OkpCurve → CurveRow
curve_row_of curves.Ed25519 = curve_row (pos 6) 32 64
curve_row_of curves.Ed448 = curve_row (pos 7) 57 114

abbrev pub okp_curve_number : OkpCurve → ℤ
okp_curve_number curve = (curve_row_of curve).number

abbrev pub public_key_length_of : OkpCurve → ℕ
public_key_length_of curve = (curve_row_of curve).public_key_length

abbrev pub signature_length_of : OkpCurve → ℕ
signature_length_of curve = (curve_row_of curve).signature_length

abbrev pub okp_curves : List OkpCurve
okp_curves = curves.Ed25519 ∷ curves.Ed448 ∷ []

-- The curve of this number, if there is one.
abbrev pub okp_curve_numbered : ℤ → Option OkpCurve
okp_curve_numbered number = find (λ curve. int_eq (okp_curve_number curve) number) okp_curves

abbrev pub same_curve : OkpCurve → OkpCurve → Bool
same_curve curves.Ed25519 curves.Ed25519 = true
same_curve curves.Ed25519 curves.Ed448 = false
same_curve curves.Ed448 curves.Ed25519 = false
same_curve curves.Ed448 curves.Ed448 = true

-- ---- the algorithms

-- number, and the one curve that the algorithm takes: EdDSA takes that of the key, whichever it is
abbrev pub further_row : ℤ → Option OkpCurve → FurtherRow
further_row number only = record { number = number; only = only }

abbrev pub further_row_of : FurtherAlg → FurtherRow
further_row_of algorithms.EdDsa = further_row (negsuc 7) None
further_row_of algorithms.Ed25519 = further_row (negsuc 18) (Some curves.Ed25519)
further_row_of algorithms.Ed448 = further_row (negsuc 52) (Some curves.Ed448)

abbrev pub further_number : FurtherAlg → ℤ
further_number alg = (further_row_of alg).number

abbrev pub further_algorithms : List FurtherAlg
further_algorithms = algorithms.EdDsa ∷ algorithms.Ed25519 ∷ algorithms.Ed448 ∷ []

-- The algorithm of this number, if there is one.
abbrev pub further_numbered : ℤ → Option FurtherAlg
further_numbered number = find (λ alg. int_eq (further_number alg) number) further_algorithms

abbrev is_only : Option OkpCurve → OkpCurve → Bool
is_only None curve = true
is_only (Some only) curve = same_curve only curve

-- Whether the algorithm takes keys on this curve.
abbrev pub takes_curve : FurtherAlg → OkpCurve → Bool
takes_curve alg curve = is_only (further_row_of alg).only curve
