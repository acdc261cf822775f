-- The choice of the key of a message, on examples, by computing (RFC 9052 section 7.1).
use Rattle.std.specs.Prelude.{ℕ, pos, List, [], ◌∷◌, Option, Some, None, refl}
use Rattle.cose_head.specs.declared.reason.Reason.TheVariants.{Truncated, NoAlg, UnknownAlg, AlgUnprotected, NoKey, AmbiguousKey}
use Rattle.cose_map.specs.Label.{number}
use Rattle.cose_msg.specs.declared.context.Wanted.TheVariants as wants
use Rattle.cose_msg.specs.Answer.{refused}
use Rattle.cose_msg.proofs.WorkedMessages.{hex, Gives, reading, verdict, verdict_in, under, secret, plain, for_five, point, point_on}

-- Without a key. The fault is at the place of the payload's head, and precedes every fault of that head.
without_keys : Gives (verdict []) (
    (hex "d18443a10105a0", refused NoKey 7) ∷
    (hex "d18443a10105a0 5f", refused NoKey 7) ∷
    (hex "d18443a10105a0 f6", refused NoKey 7) ∷
    (hex "d18441a0a10105", refused AlgUnprotected 7) ∷
    (hex "d18440a0", refused NoAlg 4) ∷ [])
unfolding reading
without_keys = refl

-- Under a key that names no algorithm, and under one for HMAC 256/256.
under_plain : Gives (verdict plain) (
    (hex "d18443a10105a0", refused Truncated 7) ∷
    (hex "d18443a10126a0", refused UnknownAlg 7) ∷
    (hex "d18441a0a10105", refused AlgUnprotected 7) ∷
    (hex "d18442b800a10105", refused AlgUnprotected 8) ∷
    (hex "d18440a0", refused NoAlg 4) ∷ [])
unfolding reading
under_plain = refl

under_five : Gives (verdict for_five) (
    (hex "d18441a0a10105", refused Truncated 7) ∷
    (hex "d18442b800a10105", refused Truncated 8) ∷
    (hex "d18440a0", refused Truncated 4) ∷
    (hex "d18443a10104a0", refused NoKey 7) ∷ [])
unfolding reading
under_five = refl

-- An algorithm that isn't known, or that a text names, precedes what the keys say, in the unprotected bucket too.
unknown_algorithms : Gives (verdict for_five) (
    (hex "d18441a0a10126", refused UnknownAlg 7) ∷
    (hex "d18441a0a1016135", refused UnknownAlg 8) ∷
    (hex "d18444a1016135a0", refused UnknownAlg 8) ∷
    (hex "d18443a10103a0", refused UnknownAlg 7) ∷ [])
unfolding reading
unknown_algorithms = refl

-- The kind is that of the tag, or the one that is wanted.
other_kinds : Gives (verdict plain) (
    (hex "d28443a10105a0", refused UnknownAlg 7) ∷
    (hex "d28443a10126a0", refused NoKey 7) ∷
    (hex "d83dd28443a10105a0", refused UnknownAlg 9) ∷ [])
unfolding reading
other_kinds = refl

-- Each signature algorithm under a point on each curve; EdDSA (-8), and the numbers next to ES384 and ES512, are unknown.
signed_under_p_256 : Gives (verdict (point None ∷ [])) (
    (hex "d28443a10126a0", refused Truncated 7) ∷
    (hex "d28444a1013822a0", refused NoKey 8) ∷
    (hex "d28444a1013823a0", refused NoKey 8) ∷
    (hex "d28443a10127a0", refused UnknownAlg 7) ∷
    (hex "d28444a1013821a0", refused UnknownAlg 8) ∷
    (hex "d28444a1013824a0", refused UnknownAlg 8) ∷ [])
unfolding reading
signed_under_p_256 = refl

signed_under_p_384 : Gives (verdict (point_on 2 48 ∷ [])) (
    (hex "d28443a10126a0", refused NoKey 7) ∷
    (hex "d28444a1013822a0", refused Truncated 8) ∷
    (hex "d28444a1013823a0", refused NoKey 8) ∷
    (hex "d28443a10127a0", refused UnknownAlg 7) ∷
    (hex "d18444a1013822a0", refused UnknownAlg 8) ∷ [])
unfolding reading
signed_under_p_384 = refl

signed_under_p_521 : Gives (verdict (point_on 3 66 ∷ [])) (
    (hex "d28443a10126a0", refused NoKey 7) ∷
    (hex "d28444a1013822a0", refused NoKey 8) ∷
    (hex "d28444a1013823a0", refused Truncated 8) ∷
    (hex "d28443a10127a0", refused UnknownAlg 7) ∷
    (hex "d18444a1013823a0", refused UnknownAlg 8) ∷ [])
unfolding reading
signed_under_p_521 = refl

untagged_mac0 : Gives (verdict_in (record (under plain) { wanted = wants.Mac0 })) (
    (hex "8443a10105a0", refused Truncated 6) ∷
    (hex "8443a10126a0", refused UnknownAlg 6) ∷ [])
unfolding reading
untagged_mac0 = refl

untagged_sign1 : Gives (verdict_in (record (under plain) { wanted = wants.Sign1 })) (
    (hex "8443a10105a0", refused UnknownAlg 6) ∷
    (hex "8443a10126a0", refused NoKey 6) ∷ [])
unfolding reading
untagged_sign1 = refl

-- The identifier, in the unprotected bucket and in the protected one. A key without one fits each.
abbrev one : Option (List ℕ)
one = Some (hex "31")

abbrev two : Option (List ℕ)
two = Some (hex "32")

same_kid : Gives (verdict (secret one None None ∷ secret two None None ∷ [])) (
    (hex "d18443a10105a1044131", refused Truncated 10) ∷
    (hex "d18446a20105044131a0", refused Truncated 10) ∷
    (hex "d18443a10105a1044133", refused NoKey 10) ∷
    (hex "d18446a20105044133a0", refused NoKey 10) ∷
    (hex "d18443a10105a0", refused AmbiguousKey 7) ∷ [])
unfolding reading
same_kid = refl

-- Algorithms and identifiers are compared by value: here their heads have two bytes.
wider_heads : Gives (verdict (secret one (Some (number (pos 5))) None ∷ [])) (
    (hex "d18444a1011805a0", refused Truncated 8) ∷
    (hex "d18441a0a1011805", refused Truncated 8) ∷
    (hex "d18443a10105a104580131", refused Truncated 11) ∷ [])
unfolding reading
wider_heads = refl

-- An empty identifier is one.
empty_kid : Gives (verdict (secret one None None ∷ secret (Some []) None None ∷ [])) (
    (hex "d18443a10105a10440", refused Truncated 9) ∷
    (hex "d18443a10105a1044133", refused NoKey 10) ∷
    (hex "d18443a10105a0", refused AmbiguousKey 7) ∷ [])
unfolding reading
empty_kid = refl

empty_kid_of_none : Gives (verdict (secret one None None ∷ [])) ((hex "d18443a10105a10440", refused NoKey 9) ∷ [])
unfolding reading
empty_kid_of_none = refl

any_kid : Gives (verdict plain) ((hex "d18443a10105a1044131", refused Truncated 10) ∷ [])
unfolding reading
any_kid = refl

two_of_a_kid : Gives (verdict (secret one None None ∷ secret one None None ∷ [])) ((hex "d18443a10105a1044131", refused AmbiguousKey 10) ∷ [])
unfolding reading
two_of_a_kid = refl

-- The second key creates MACs, and verifies none: 9 and 10.
creates_alone : Gives (verdict (secret one None None ∷ secret one None (Some (pos 9 ∷ [])) ∷ [])) ((hex "d18443a10105a1044131", refused Truncated 10) ∷ [])
unfolding reading
creates_alone = refl

verifies : Gives (verdict (secret one None None ∷ secret one None (Some (pos 10 ∷ [])) ∷ [])) ((hex "d18443a10105a1044131", refused AmbiguousKey 10) ∷ [])
unfolding reading
verifies = refl

-- A point that may verify signatures, 2, and one that may not: 1 signs, 10 verifies MACs.
verifies_signatures : Gives (verdict (point (Some (pos 2 ∷ [])) ∷ [])) ((hex "d28443a10126a0", refused Truncated 7) ∷ [])
unfolding reading
verifies_signatures = refl

verifies_no_signatures : Gives (verdict (point (Some (pos 1 ∷ pos 10 ∷ [])) ∷ [])) ((hex "d28443a10126a0", refused NoKey 7) ∷ [])
unfolding reading
verifies_no_signatures = refl
