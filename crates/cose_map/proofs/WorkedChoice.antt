-- The choice of the key on examples, by computing.
use Rattle.std.proofs.Common.{◌≡◌, ℕ, ℤ, pos, negsuc, true, List, [], ◌∷◌, ◌++◌, Option, Some, None, Result, Ok, Err, map, replicate, refl}
use Rattle.cose_head.specs.declared.kind.Kind.TheVariants.{Mac0, Sign1}
use Rattle.cose_head.specs.declared.reason.Reason.{Reason}
use Rattle.cose_head.specs.declared.reason.Reason.TheVariants.{NoAlg, UnknownAlg, AlgUnprotected, NoKey, AmbiguousKey}
use Rattle.cose_map.specs.Label.{LabelValue, number, words}
use Rattle.cose_map.specs.Key.Value.{KeyValue, symmetric, elliptic, sign}
use Rattle.cose_map.specs.Choice.{Question, chosen}

abbrev secret : Option (List ℕ) → Option LabelValue → Option (List ℤ) → List ℕ → KeyValue
secret kid alg operations content = record { kid = kid; alg = alg; operations = operations; material = symmetric content }

-- A key that names no algorithm, and one for HMAC 256/256 alone.
abbrev plain : KeyValue
plain = secret None None None (0x4a ∷ [])

abbrev for_five : KeyValue
for_five = secret None (Some (number (pos 5))) None (0x4a ∷ [])

abbrev asks : Option LabelValue → Option LabelValue → Option (List ℕ) → Question
asks protected unprotected kid = record { kind = Mac0; operation = pos 10; protected_alg = protected; unprotected_alg = unprotected; kid = kid }

abbrev five : Option LabelValue
five = Some (number (pos 5))

unfoldable answer : Option LabelValue → Option LabelValue → Option (List ℕ) → List KeyValue → Result (KeyValue × ℤ) Reason
unfolding chosen
answer protected unprotected kid keys = chosen (asks protected unprotected kid) keys

protected_algorithm : answer five None None (plain ∷ []) ≡ Ok (plain, pos 5)
unfolding answer
protected_algorithm = refl

confirmed_algorithm : answer None five None (for_five ∷ []) ≡ Ok (for_five, pos 5)
unfolding answer
confirmed_algorithm = refl

unconfirmed_algorithm : answer None five None (plain ∷ []) ≡ Err AlgUnprotected
unfolding answer
unconfirmed_algorithm = refl

own_algorithm : answer None None None (for_five ∷ []) ≡ Ok (for_five, pos 5)
unfolding answer
own_algorithm = refl

no_algorithm : answer None None None (plain ∷ []) ≡ Err NoAlg
unfolding answer
no_algorithm = refl

-- A signature's algorithm, and a text string.
other_kind : answer (Some (number (negsuc 6))) None None (for_five ∷ []) ≡ Err UnknownAlg
unfolding answer
other_kind = refl

named_algorithm : answer (Some (words (0x35 ∷ []))) None None (for_five ∷ []) ≡ Err UnknownAlg
unfolding answer
named_algorithm = refl

another_algorithm : answer (Some (number (pos 4))) None None (for_five ∷ []) ≡ Err NoKey
unfolding answer
another_algorithm = refl

abbrev one : List ℕ
one = 0x31 ∷ []

two_keys : answer five None (Some one) (secret (Some one) None None (0x61 ∷ []) ∷ secret (Some one) None None (0x62 ∷ []) ∷ []) ≡ Err AmbiguousKey
unfolding answer
two_keys = refl

-- The second key may create, and not verify.
one_operation : answer five None (Some one) (secret (Some one) None None (0x61 ∷ []) ∷ secret (Some one) None (Some (pos 9 ∷ [])) (0x62 ∷ []) ∷ []) ≡ Ok (secret (Some one) None None (0x61 ∷ []), pos 5)
unfolding answer
one_operation = refl

no_kid_fits_each : answer five None (Some one) (plain ∷ []) ≡ Ok (plain, pos 5)
unfolding answer
no_kid_fits_each = refl

-- The algorithms for MACs are 4 to 7, and no other number is one.
macs : map (λ n. answer (Some (number n)) None None (plain ∷ [])) (pos 4 ∷ pos 5 ∷ pos 6 ∷ pos 7 ∷ [])
    ≡ Ok (plain, pos 4) ∷ Ok (plain, pos 5) ∷ Ok (plain, pos 6) ∷ Ok (plain, pos 7) ∷ []
unfolding answer
macs = refl

no_macs : map (λ n. answer (Some (number n)) None None (plain ∷ [])) (pos 3 ∷ pos 8 ∷ pos 0 ∷ negsuc 3 ∷ negsuc 6 ∷ negsuc 34 ∷ negsuc 35 ∷ [])
    ≡ replicate 7 (Err UnknownAlg)
unfolding answer
no_macs = refl

-- Nor is one that equals a MAC's number, or that of ES256 (-7), in the low bits.
no_macs_alike : map (λ n. answer (Some (number n)) None None (plain ∷ [])) (pos 260 ∷ pos 261 ∷ pos 65541 ∷ pos 4294967301 ∷ pos 18446744073709551609 ∷ negsuc 250 ∷ [])
    ≡ replicate 6 (Err UnknownAlg)
unfolding answer
no_macs_alike = refl

-- A point on P-256 (curve 1) is for ES256 (-7), one on P-384 (2) for ES384 (-35), and one on P-521 (3) for ES512 (-36).
-- A point on another curve, or a secret, isn't, and a point isn't for a MAC.
abbrev point : ℕ → KeyValue
point curve = record { kid = None; alg = None; operations = None; material = elliptic curve (7 ∷ []) (sign true) }

abbrev asks_signature : Option LabelValue → Question
asks_signature protected = record { kind = Sign1; operation = pos 2; protected_alg = protected; unprotected_alg = None; kid = None }

unfoldable signed : Option LabelValue → List KeyValue → Result (KeyValue × ℤ) Reason
unfolding chosen
signed protected keys = chosen (asks_signature protected) keys

abbrev es256 : Option LabelValue
es256 = Some (number (negsuc 6))

abbrev es384 : Option LabelValue
es384 = Some (number (negsuc 34))

abbrev es512 : Option LabelValue
es512 = Some (number (negsuc 35))

signature : signed es256 (point 1 ∷ []) ≡ Ok (point 1, negsuc 6)
unfolding signed
signature = refl

each_curve : map (λ alg. map (λ curve. signed alg (point curve ∷ [])) (1 ∷ 2 ∷ 3 ∷ 4 ∷ [])) (es256 ∷ es384 ∷ es512 ∷ []) ≡
    (Ok (point 1, negsuc 6) ∷ Err NoKey ∷ Err NoKey ∷ Err NoKey ∷ []) ∷
    (Err NoKey ∷ Ok (point 2, negsuc 34) ∷ Err NoKey ∷ Err NoKey ∷ []) ∷
    (Err NoKey ∷ Err NoKey ∷ Ok (point 3, negsuc 35) ∷ Err NoKey ∷ []) ∷ []
unfolding signed
each_curve = refl

-- Of three keys, one on each curve.
one_of_each : map (λ alg. signed alg (point 1 ∷ point 2 ∷ point 3 ∷ [])) (es256 ∷ es384 ∷ es512 ∷ []) ≡
    Ok (point 1, negsuc 6) ∷ Ok (point 2, negsuc 34) ∷ Ok (point 3, negsuc 35) ∷ []
unfolding signed
one_of_each = refl

no_signatures : map (λ n. signed (Some (number n)) (point 1 ∷ point 2 ∷ point 3 ∷ [])) (negsuc 5 ∷ negsuc 7 ∷ negsuc 33 ∷ negsuc 36 ∷ pos 35 ∷ [])
    ≡ replicate 5 (Err UnknownAlg)
unfolding signed
no_signatures = refl

no_signatures_alike : map (λ n. signed (Some (number n)) (point 1 ∷ [])) (negsuc 262 ∷ negsuc 65542 ∷ pos 249 ∷ []) ≡ replicate 3 (Err UnknownAlg)
unfolding signed
no_signatures_alike = refl

curve_alike : signed es256 (point 257 ∷ []) ≡ Err NoKey
unfolding signed
curve_alike = refl

other_curve : signed es256 (point 2 ∷ []) ≡ Err NoKey
unfolding signed
other_curve = refl

secret_for_signature : map (λ alg. signed alg (plain ∷ [])) (es256 ∷ es384 ∷ es512 ∷ []) ≡ replicate 3 (Err NoKey)
unfolding signed
secret_for_signature = refl

mac_for_signature : signed five (plain ∷ []) ≡ Err UnknownAlg
unfolding signed
mac_for_signature = refl

point_for_mac : map (λ curve. answer five None None (point curve ∷ [])) (1 ∷ 2 ∷ 3 ∷ []) ≡ replicate 3 (Err NoKey)
unfolding answer
point_for_mac = refl

own_algorithm_of_other_kind : answer None None None (secret None (Some (number (negsuc 6))) None (0x61 ∷ []) ∷ []) ≡ Err NoAlg
unfolding answer
own_algorithm_of_other_kind = refl

-- A key's own algorithm must be for messages of the kind, also where it is for the key's own type and curve.
abbrev for_es256 : KeyValue
for_es256 = record (point 1) { alg = es256 }

own_signature_for_mac : answer None None None (for_es256 ∷ []) ≡ Err NoAlg
unfolding answer
own_signature_for_mac = refl

own_mac_for_signature : signed None (for_five ∷ []) ≡ Err NoAlg
unfolding signed
own_mac_for_signature = refl

own_signature : signed None (for_es256 ∷ []) ≡ Ok (for_es256, negsuc 6)
unfolding signed
own_signature = refl

own_signature_on_another_curve : signed None (record (point 2) { alg = es256 } ∷ record (point 3) { alg = es384 } ∷ []) ≡ Err NoAlg
unfolding signed
own_signature_on_another_curve = refl

-- A key for an algorithm that a text string names.
abbrev for_words : KeyValue
for_words = secret None (Some (words (0x35 ∷ []))) None (0x61 ∷ [])

own_named_algorithm : answer None None None (for_words ∷ []) ≡ Err NoAlg
unfolding answer
own_named_algorithm = refl

other_named_algorithm : answer five None None (for_words ∷ []) ≡ Err NoKey
unfolding answer
other_named_algorithm = refl

same_named_algorithm : answer None (Some (words (0x35 ∷ []))) None (for_words ∷ []) ≡ Err UnknownAlg
unfolding answer
same_named_algorithm = refl

-- The protected bucket's algorithm is used, whatever the unprotected one's is.
protected_first : answer five (Some (number (pos 99))) None (plain ∷ []) ≡ Ok (plain, pos 5)
unfolding answer
protected_first = refl

protected_against_own : answer (Some (number (pos 4))) five None (for_five ∷ []) ≡ Err NoKey
unfolding answer
protected_against_own = refl

protected_unknown : answer (Some (number (pos 99))) five None (plain ∷ []) ≡ Err UnknownAlg
unfolding answer
protected_unknown = refl

unprotected_unknown : answer None (Some (number (negsuc 6))) None (for_five ∷ []) ≡ Err UnknownAlg
unfolding answer
unprotected_unknown = refl

unprotected_differs : answer None (Some (number (pos 4))) None (for_five ∷ []) ≡ Err AlgUnprotected
unfolding answer
unprotected_differs = refl

-- An unknown algorithm has precedence over everything that the keys decide.
unknown_without_keys : answer (Some (number (pos 99))) None None [] ≡ Err UnknownAlg
unfolding answer
unknown_without_keys = refl

unknown_with_two_keys : answer (Some (number (pos 99))) None None (plain ∷ plain ∷ []) ≡ Err UnknownAlg
unfolding answer
unknown_with_two_keys = refl

-- Without keys.
no_keys : answer five None None [] ≡ Err NoKey
unfolding answer
no_keys = refl

no_keys_unprotected : answer None five None [] ≡ Err AlgUnprotected
unfolding answer
no_keys_unprotected = refl

no_keys_no_algorithm : answer None None None [] ≡ Err NoAlg
unfolding answer
no_keys_no_algorithm = refl

-- Identifiers: equal ones, different ones, and a message without one.
abbrev two : List ℕ
two = 0x32 ∷ []

abbrev named : KeyValue
named = secret (Some one) (Some (number (pos 5))) None (0x61 ∷ [])

same_kid : answer five None (Some one) (named ∷ []) ≡ Ok (named, pos 5)
unfolding answer
same_kid = refl

other_kid : answer five None (Some two) (named ∷ []) ≡ Err NoKey
unfolding answer
other_kid = refl

kid_unasked : answer five None None (named ∷ []) ≡ Ok (named, pos 5)
unfolding answer
kid_unasked = refl

longer_kid : answer five None (Some (0x31 ∷ 0x32 ∷ [])) (named ∷ []) ≡ Err NoKey
unfolding answer
longer_kid = refl

-- Two identifiers of 9 bytes that differ in the last one.
last_byte_of_kid : map (λ kid. answer five None (Some kid) (secret (Some (replicate 8 0x31 ++ 0x31 ∷ [])) None None (0x61 ∷ []) ∷ []))
    ((replicate 8 0x31 ++ 0x32 ∷ []) ∷ replicate 8 0x31 ∷ []) ≡ replicate 2 (Err NoKey)
unfolding answer
last_byte_of_kid = refl

-- An empty identifier is an identifier, of a key and of a message.
abbrev with_empty_kid : KeyValue
with_empty_kid = secret (Some []) None None (0x61 ∷ [])

empty_kid : answer five None (Some one) (with_empty_kid ∷ []) ≡ Err NoKey
unfolding answer
empty_kid = refl

empty_kid_asked : answer five None (Some []) (named ∷ []) ≡ Err NoKey
unfolding answer
empty_kid_asked = refl

same_empty_kid : answer five None (Some []) (with_empty_kid ∷ []) ≡ Ok (with_empty_kid, pos 5)
unfolding answer
same_empty_kid = refl

-- The absence of the algorithm has precedence, for whatever reason no key fits.
other_kid_unprotected : answer None five (Some two) (named ∷ []) ≡ Err AlgUnprotected
unfolding answer
other_kid_unprotected = refl

other_kid_no_algorithm : answer None None (Some two) (named ∷ []) ≡ Err NoAlg
unfolding answer
other_kid_no_algorithm = refl

-- Operations: one that verifies, and none.
verifies : answer five None None (secret None None (Some (pos 9 ∷ pos 10 ∷ [])) (0x61 ∷ []) ∷ []) ≡ Ok (secret None None (Some (pos 9 ∷ pos 10 ∷ [])) (0x61 ∷ []), pos 5)
unfolding answer
verifies = refl

verifies_and_creates : answer five None None (secret None None (Some (pos 10 ∷ pos 9 ∷ [])) (0x61 ∷ []) ∷ [])
    ≡ Ok (secret None None (Some (pos 10 ∷ pos 9 ∷ [])) (0x61 ∷ []), pos 5)
unfolding answer
verifies_and_creates = refl

no_operations : answer five None None (secret None None (Some []) (0x61 ∷ []) ∷ []) ≡ Err NoKey
unfolding answer
no_operations = refl

-- Operations that equal 10 and 2 in the low byte are neither.
operations_alike : map (λ n. answer five None None (secret None None (Some (pos n ∷ [])) (0x61 ∷ []) ∷ [])) (266 ∷ 65546 ∷ []) ≡ replicate 2 (Err NoKey)
unfolding answer
operations_alike = refl

signing_alike : signed es256 (record (point 1) { operations = Some (pos 258 ∷ []) } ∷ []) ≡ Err NoKey
unfolding signed
signing_alike = refl

-- Three keys, of which the first and the last fit; and two that fit for algorithms of their own.
first_and_last : answer five None None (plain ∷ secret None (Some (number (pos 4))) None (0x61 ∷ []) ∷ for_five ∷ []) ≡ Err AmbiguousKey
unfolding answer
first_and_last = refl

three_keys : answer five None None (plain ∷ for_five ∷ plain ∷ []) ≡ Err AmbiguousKey
unfolding answer
three_keys = refl

own_algorithms : answer None None None (for_five ∷ secret None (Some (number (pos 7))) None (0x61 ∷ []) ∷ []) ≡ Err AmbiguousKey
unfolding answer
own_algorithms = refl

last_one : answer (Some (number (pos 7))) None None (for_five ∷ secret None (Some (number (pos 4))) None (0x61 ∷ []) ∷ plain ∷ []) ≡ Ok (plain, pos 7)
unfolding answer
last_one = refl
