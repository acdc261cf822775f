-- Keys of the type OKP and their choice on examples, by computing.
use Rattle.std.proofs.Common.{◌≡◌, ℕ, pos, negsuc, List, [], ◌∷◌, ◌++◌, Option, Some, None, Result, Ok, Err, map, replicate, refl}
use Rattle.std.specs.Str.{is_utf8, chars}
use Rattle.cose_head.specs.declared.further.FurtherAlg.{FurtherAlg}
use Rattle.cose_head.specs.declared.further.FurtherAlg.TheVariants as algorithms
use Rattle.cose_head.specs.declared.further.OkpCurve.{OkpCurve}
use Rattle.cose_head.specs.declared.further.OkpCurve.TheVariants as curves
use Rattle.cose_head.specs.declared.kind.Kind.{Kind}
use Rattle.cose_head.specs.declared.kind.Kind.TheVariants.{Mac0, Sign1}
use Rattle.cose_head.specs.declared.reason.Reason.{Reason}
use Rattle.cose_head.specs.declared.reason.Reason.TheVariants.{BadValue, UnknownKey, NoAlg, UnknownAlg, AlgUnprotected, NoKey, AmbiguousKey}
use Rattle.cose_head.specs.Head.{bare_head}
use Rattle.cose_head.specs.Item.{depth_of}
use Rattle.cose_head.specs.Reading.{read, head}
use Rattle.cose_head.specs.Placed.{look, children_of, items_from, head_of_item}
use Rattle.cose_map.specs.Choice.Further.{chosen}
use Rattle.cose_map.specs.Key.Form.{key_table}
use Rattle.cose_map.specs.Key.Okp.{OkpValue, okp_by, okp_of}
use Rattle.cose_map.specs.KeySet.Okp.{okp_keys_of}
use Rattle.cose_map.specs.Label.{LabelValue, number, words}
use Rattle.cose_map.specs.Map.Read.{Read, check_pairs}

unfoldable key : List ℕ → Read OkpValue
unfolding okp_of okp_by key_table check_pairs children_of items_from look head_of_item bare_head read head depth_of is_utf8 chars lib.Utf8.encode
key bytes = okp_of (record { bytes = bytes; place = 0 })

unfoldable keys : List ℕ → List OkpValue
unfolding okp_of okp_by key_table check_pairs children_of items_from look head_of_item bare_head read head depth_of is_utf8 chars lib.Utf8.encode
keys bytes = okp_keys_of bytes

abbrev refused : {A : Type 0} → Reason → ℕ → Read A
refused reason place = Err (record { reason = reason; place = place })

abbrev plain : OkpCurve → List ℕ → OkpValue
plain curve x = record { kid = None; alg = None; operations = None; curve = curve; x = x }

-- A key of so many bytes, on the curve of this number.
abbrev spelled : ℕ → ℕ → List ℕ
spelled curve count = 0xa3 ∷ 1 ∷ 1 ∷ 0x20 ∷ curve ∷ 0x21 ∷ 0x58 ∷ count ∷ replicate count 7

on_ed25519 : key (spelled 6 32) ≡ Ok (plain curves.Ed25519 (replicate 32 7))
unfolding key
on_ed25519 = refl

on_ed448 : key (spelled 7 57) ≡ Ok (plain curves.Ed448 (replicate 57 7))
unfolding key
on_ed448 = refl

-- One byte less and one more, and the length of the other curve.
other_lengths : map key (spelled 6 31 ∷ spelled 6 33 ∷ spelled 6 57 ∷ spelled 7 56 ∷ spelled 7 58 ∷ spelled 7 32 ∷ []) ≡ replicate 6 (refused BadValue 6)
unfolding key
other_lengths = refl

-- P-256, X25519 and X448, and the number after Ed448.
other_curves : map key (spelled 1 32 ∷ spelled 4 32 ∷ spelled 5 56 ∷ spelled 8 32 ∷ []) ≡ replicate 4 (refused UnknownKey 0)
unfolding key
other_curves = refl

-- Symmetric, a text, no type, no curve, and no x.
other_keys : map key (
    (0xa2 ∷ 1 ∷ 4 ∷ 0x20 ∷ 0x41 ∷ 7 ∷ []) ∷
    (0xa2 ∷ 1 ∷ 0x61 ∷ 0x61 ∷ 0x20 ∷ 6 ∷ []) ∷
    (0xa1 ∷ 0x20 ∷ 6 ∷ []) ∷
    (0xa1 ∷ 1 ∷ 1 ∷ []) ∷
    (0xa2 ∷ 1 ∷ 1 ∷ 0x20 ∷ 6 ∷ []) ∷ []) ≡
    refused UnknownKey 0 ∷ refused UnknownKey 0 ∷ refused BadValue 0 ∷ refused BadValue 0 ∷ refused BadValue 0 ∷ []
unfolding key
other_keys = refl

-- The curve is a text, or bytes; x is a text; the private key is a number.
other_members : map key (
    (0xa2 ∷ 1 ∷ 1 ∷ 0x20 ∷ 0x61 ∷ 0x61 ∷ []) ∷
    (0xa2 ∷ 1 ∷ 1 ∷ 0x20 ∷ 0x41 ∷ 6 ∷ []) ∷
    (0xa3 ∷ 1 ∷ 1 ∷ 0x20 ∷ 6 ∷ 0x21 ∷ 0x61 ∷ 0x61 ∷ []) ∷
    (0xa4 ∷ 1 ∷ 1 ∷ 0x23 ∷ 0 ∷ 0x20 ∷ 6 ∷ 0x21 ∷ 0x58 ∷ 32 ∷ replicate 32 7) ∷ []) ≡
    refused UnknownKey 0 ∷ refused BadValue 4 ∷ refused BadValue 6 ∷ refused BadValue 4 ∷ []
unfolding key
other_members = refl

-- Of a set, those items that are such keys.
of_a_set : keys (0x83 ∷ spelled 6 32 ++ 0xa2 ∷ 1 ∷ 4 ∷ 0x20 ∷ 0x41 ∷ 7 ∷ spelled 7 57) ≡
    plain curves.Ed25519 (replicate 32 7) ∷ plain curves.Ed448 (replicate 57 7) ∷ []
unfolding keys
of_a_set = refl

of_a_single_key : keys (spelled 6 32) ≡ plain curves.Ed25519 (replicate 32 7) ∷ []
unfolding keys
of_a_single_key = refl

-- ---- the choice

abbrev eddsa : Option LabelValue
eddsa = Some (number (negsuc 7))

abbrev ed25519 : Option LabelValue
ed25519 = Some (number (negsuc 18))

abbrev ed448 : Option LabelValue
ed448 = Some (number (negsuc 52))

-- A key that names this algorithm, if any.
abbrev named : OkpCurve → Option LabelValue → OkpValue
named curve alg = record { kid = None; alg = alg; operations = None; curve = curve; x = [] }

abbrev short : OkpValue
short = named curves.Ed25519 None

abbrev long : OkpValue
long = named curves.Ed448 None

unfoldable asked : Kind → Option LabelValue → Option LabelValue → List OkpValue → Result (OkpValue × FurtherAlg) Reason
unfolding chosen
asked kind protected unprotected keys =
    chosen (record { kind = kind; operation = pos 2; protected_alg = protected; unprotected_alg = unprotected; kid = Some (0x31 ∷ []) }) keys

-- EdDSA takes either curve, and the others their own.
by_algorithm : map (λ alg. asked Sign1 alg None (short ∷ [])) (eddsa ∷ ed25519 ∷ ed448 ∷ []) ≡
    Ok (short, algorithms.EdDsa) ∷ Ok (short, algorithms.Ed25519) ∷ Err NoKey ∷ []
unfolding asked
by_algorithm = refl

of_both : map (λ alg. asked Sign1 alg None (short ∷ long ∷ [])) (eddsa ∷ ed25519 ∷ ed448 ∷ []) ≡
    Err AmbiguousKey ∷ Ok (short, algorithms.Ed25519) ∷ Ok (long, algorithms.Ed448) ∷ []
unfolding asked
of_both = refl

-- Another algorithm, a text, and a COSE_Mac0.
unknown : asked Sign1 (Some (number (negsuc 6))) None (short ∷ []) ∷ asked Sign1 (Some (words [])) None (short ∷ []) ∷ asked Mac0 eddsa None (short ∷ []) ∷ [] ≡
    replicate 3 (Err UnknownAlg)
unfolding asked
unknown = refl

-- The algorithm of the unprotected bucket, and none, count only where the key names its own.
by_own : asked Sign1 None eddsa (short ∷ []) ∷ asked Sign1 None None (short ∷ []) ∷ [] ≡ Err AlgUnprotected ∷ Err NoAlg ∷ []
unfolding asked
by_own = refl

abbrev for_eddsa : OkpValue
for_eddsa = named curves.Ed25519 eddsa

confirmed : asked Sign1 None eddsa (for_eddsa ∷ []) ∷ asked Sign1 None None (for_eddsa ∷ []) ∷ asked Sign1 ed25519 None (for_eddsa ∷ []) ∷ [] ≡
    Ok (for_eddsa, algorithms.EdDsa) ∷ Ok (for_eddsa, algorithms.EdDsa) ∷ Err NoKey ∷ []
unfolding asked
confirmed = refl

-- A key of another identifier, and one that may only sign.
other_restrictions : asked Sign1 eddsa None (record short { kid = Some (0x32 ∷ []) } ∷ []) ∷ asked Sign1 eddsa None (record short { operations = Some (pos 1 ∷ []) } ∷ []) ∷ [] ≡
    replicate 2 (Err NoKey)
unfolding asked
other_restrictions = refl
