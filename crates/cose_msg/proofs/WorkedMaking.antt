-- The COSE_Mac0 that is made, and the faults of the arguments, on examples, by computing (RFC 9052 section 6.2, RFC
-- 9053 section 3.1). The MAC is left as it is defined.
use Rattle.std.specs.Prelude.{◌≡◌, ℕ, ◌^◌, ◌-◌, pos, List, [], ◌∷◌, ◌++◌, map, replicate, length, Option, None, Some, refl}
use Rattle.std.proofs.Common.{ap, ◌∙◌}
use Prim.Native.String.{String}
use Rattle.cose_head.specs.Head.{shortest_head}
use Rattle.cose_head.specs.Shortest.{shortest, shortest_all}
use Rattle.cose_head.specs.declared.algorithm.Alg.{Alg}
use Rattle.cose_head.specs.declared.algorithm.Alg.TheVariants.{Hmac64, Hmac256, Hmac384, Hmac512, Es256, Es384, Es512, Esp256, Esp384, Esp512}
use Rattle.cose_mac.specs.Hmac.{mac}
use Rattle.cose_mac.specs.Laws.{MacHasItsLength}
use Rattle.cose_head.specs.declared.kind.Kind.TheVariants.{Sign1}
use Rattle.cose_mac.specs.Structure.{encoded_string, mac_structure, sig_structure, structure_of}
use Rattle.cose_map.specs.Key.Value.{KeyValue}
use Rattle.cose_map.specs.Label.{number, words}
use Rattle.cose_msg.specs.declared.make.MakeFault.{MakeFault}
use Rattle.cose_msg.specs.declared.make.MakeFault.TheVariants.{WrongKey, TooLong}
use Rattle.cose_msg.specs.Make.{make_fault}
use Rattle.cose_msg.specs.declared.make.sign1_maker.SignFault.TheVariants as wrongly
use Rattle.cose_msg.specs.declared.make.sign1_maker.SignFault.TheVariants.{WrongAlgorithm}
use Rattle.cose_msg.specs.Making.{made, protected_made}
use Rattle.cose_msg.specs.Signing.{sign_fault, signed}
use Rattle.cose_msg.proofs.lemmas.Made.Making.{in_parts, signed_in_parts}
use Rattle.cose_msg.proofs.WorkedMessages.{any, hex, jefe, point, point_on, secret}

abbrev message : Alg → Option (List ℕ) → List ℕ → List ℕ → List ℕ
message alg kid aad payload = made alg jefe kid aad payload

-- What precedes the payload, its head, the payload, and the MAC of what is authenticated: what precedes the payload
-- there, and the same head and payload.
abbrev spelled : Alg → List ℕ → String → String → List ℕ → List ℕ
spelled alg front authenticated head payload =
    front ++ (hex head ++ (payload ++ encoded_string 2 (mac alg jefe (hex authenticated ++ (hex head ++ payload)))))

-- Two tables are one row by row.
and_rows : {a b : List ℕ} {xs ys : List (List ℕ)} → a ≡ b → xs ≡ ys → a ∷ xs ≡ b ∷ ys
and_rows {a} {b} {xs} {ys} row rows = ap (λ (t : List ℕ). t ∷ xs) row ∙ ap (λ (l : List (List ℕ)). b ∷ l) rows

-- Each algorithm.
algorithms : (byte : ℕ → ℕ) → map (λ alg. message alg None [] (any byte 2)) (Hmac64 ∷ Hmac256 ∷ Hmac384 ∷ Hmac512 ∷ []) ≡
    spelled Hmac64 (hex "d184 43a10104 a0") "84644d414330 43a10104 40" "42" (any byte 2) ∷
    spelled Hmac256 (hex "d184 43a10105 a0") "84644d414330 43a10105 40" "42" (any byte 2) ∷
    spelled Hmac384 (hex "d184 43a10106 a0") "84644d414330 43a10106 40" "42" (any byte 2) ∷
    spelled Hmac512 (hex "d184 43a10107 a0") "84644d414330 43a10107 40" "42" (any byte 2) ∷ []
unfolding mac_structure shortest shortest_all shortest_head
algorithms byte =
    and_rows (in_parts Hmac64 jefe None [] (any byte 2)) (
    and_rows (in_parts Hmac256 jefe None [] (any byte 2)) (
    and_rows (in_parts Hmac384 jefe None [] (any byte 2)) (
    and_rows (in_parts Hmac512 jefe None [] (any byte 2)) refl)))

-- Payloads of these lengths, with the heads that they get.
payloads : (byte : ℕ → ℕ) → map (λ n. message Hmac256 None [] (any byte n)) (0 ∷ 23 ∷ 24 ∷ 255 ∷ 256 ∷ []) ≡
    map (λ (row : String × ℕ). spelled Hmac256 (hex "d184 43a10105 a0") "84644d414330 43a10105 40" row.0 (any byte row.1))
    (("40", 0) ∷ ("57", 23) ∷ ("5818", 24) ∷ ("58ff", 255) ∷ ("590100", 256) ∷ [])
unfolding mac_structure shortest shortest_all shortest_head
payloads byte =
    and_rows (in_parts Hmac256 jefe None [] (any byte 0)) (
    and_rows (in_parts Hmac256 jefe None [] (any byte 23)) (
    and_rows (in_parts Hmac256 jefe None [] (any byte 24)) (
    and_rows (in_parts Hmac256 jefe None [] (any byte 255)) (
    and_rows (in_parts Hmac256 jefe None [] (any byte 256)) refl))))

-- Identifiers of these lengths. They are not authenticated.
identifiers : (byte : ℕ → ℕ) → map (λ n. message Hmac256 (Some (any byte n)) [] (hex "6869")) (0 ∷ 23 ∷ 24 ∷ 255 ∷ 256 ∷ []) ≡
    map (λ (row : String × ℕ). spelled Hmac256 (hex "d184 43a10105 a104" ++ (hex row.0 ++ any byte row.1)) "84644d414330 43a10105 40" "42" (hex "6869"))
    (("40", 0) ∷ ("57", 23) ∷ ("5818", 24) ∷ ("58ff", 255) ∷ ("590100", 256) ∷ [])
unfolding mac_structure shortest shortest_all shortest_head
identifiers byte =
    and_rows (in_parts Hmac256 jefe (Some (any byte 0)) [] (hex "6869")) (
    and_rows (in_parts Hmac256 jefe (Some (any byte 23)) [] (hex "6869")) (
    and_rows (in_parts Hmac256 jefe (Some (any byte 24)) [] (hex "6869")) (
    and_rows (in_parts Hmac256 jefe (Some (any byte 255)) [] (hex "6869")) (
    and_rows (in_parts Hmac256 jefe (Some (any byte 256)) [] (hex "6869")) refl))))

-- External data are authenticated, and aren't in the message.
external_data : message Hmac256 None (hex "0102") (hex "6869") ≡
    spelled Hmac256 (hex "d184 43a10105 a0") "84644d414330 43a10105 420102" "42" (hex "6869")
unfolding mac_structure shortest shortest_all shortest_head
external_data = in_parts Hmac256 jefe None (hex "0102") (hex "6869")

-- The tag's head says the length of the algorithm's MACs.
tags : MacHasItsLength → (bytes : List ℕ) → map (λ alg. encoded_string 2 (mac alg jefe bytes)) (Hmac64 ∷ Hmac256 ∷ Hmac384 ∷ Hmac512 ∷ []) ≡
    (hex "48" ++ mac Hmac64 jefe bytes) ∷ (hex "5820" ++ mac Hmac256 jefe bytes) ∷
    (hex "5830" ++ mac Hmac384 jefe bytes) ∷ (hex "5840" ++ mac Hmac512 jefe bytes) ∷ []
unfolding shortest_head
tags length bytes = rw (length Hmac64 jefe bytes refl, length Hmac256 jefe bytes refl, length Hmac384 jefe bytes refl, length Hmac512 jefe bytes refl) refl

-- ---- faults of the arguments

-- The fault under a key, for a payload of two bytes without identifier and external data.
abbrev under_key : Alg → KeyValue → Option MakeFault
under_key alg key = make_fault alg key None [] 2

plain_keys : map (λ alg. under_key alg (secret None None None)) (Hmac64 ∷ Hmac256 ∷ Hmac384 ∷ Hmac512 ∷ Es256 ∷ Es384 ∷ Es512 ∷ []) ≡
    None ∷ None ∷ None ∷ None ∷ Some WrongKey ∷ Some WrongKey ∷ Some WrongKey ∷ []
plain_keys = refl

-- A key for HMAC 256/256 alone, and one for an algorithm that a text names.
keys_of_one_algorithm : map (λ alg. under_key alg (secret None (Some (number (pos 5))) None)) (Hmac64 ∷ Hmac256 ∷ Hmac384 ∷ []) ≡ Some WrongKey ∷ None ∷ Some WrongKey ∷ []
keys_of_one_algorithm = refl

named_algorithm : under_key Hmac256 (secret None (Some (words (hex "35"))) None) ≡ Some WrongKey
named_algorithm = refl

-- Of the operations 9 makes a MAC, and 10 verifies one.
operations : map (λ allowed. under_key Hmac256 (secret None None (Some allowed))) ((pos 10 ∷ []) ∷ (pos 9 ∷ []) ∷ (pos 10 ∷ pos 9 ∷ []) ∷ (pos 1 ∷ pos 2 ∷ []) ∷ []) ≡
    Some WrongKey ∷ None ∷ None ∷ Some WrongKey ∷ []
operations = refl

-- A point makes no MAC, also under an algorithm that is for its curve.
points : map (λ alg. under_key alg (point None)) (Hmac256 ∷ Es256 ∷ []) ≡ Some WrongKey ∷ Some WrongKey ∷ []
points = refl

points_on_other_curves : map (λ alg. under_key alg (point_on 2 48)) (Hmac384 ∷ Es384 ∷ []) ++ map (λ alg. under_key alg (point_on 3 66)) (Hmac512 ∷ Es512 ∷ []) ≡ replicate 4 (Some WrongKey)
points_on_other_curves = refl

-- The key's own identifier is not compared.
other_identifier : make_fault Hmac256 (secret (Some (hex "31")) None None) (Some (hex "32")) [] 2 ≡ None
other_identifier = refl

long_identifiers : (byte : ℕ → ℕ) → map (λ n. make_fault Hmac256 (secret None None None) (Some (any byte n)) [] 2) (0 ∷ 255 ∷ 256 ∷ []) ≡ None ∷ None ∷ Some TooLong ∷ []
long_identifiers byte = refl

long_payloads : map (λ n. make_fault Hmac256 (secret None None None) None [] n) (0 ∷ (2 ^ 56 - 1) ∷ (2 ^ 56) ∷ (2 ^ 64 - 1) ∷ []) ≡ None ∷ None ∷ Some TooLong ∷ Some TooLong ∷ []
long_payloads = refl

-- The key is looked at first.
both_faults : (byte : ℕ → ℕ) → make_fault Hmac256 (point None) (Some (any byte 256)) [] (2 ^ 56) ≡ Some WrongKey
both_faults byte = refl

-- ---- a COSE_Sign1

-- The single signature of RFC 9052 appendix C.2.1: the message without its signature, and what is signed (section 4.4).
content : List ℕ
content = hex "54 68 69 73 20 69 73 20 74 68 65 20 63 6f 6e 74 65 6e 74 2e"

signed_example : (signature : List ℕ) → length signature ≡ 64 → signed Es256 (Some (hex "3131")) content signature ≡
    hex "d284 43a10126 a104423131 54" ++ (content ++ (hex "5840" ++ signature))
unfolding content shortest shortest_all shortest_head
signed_example signature has_64 = rw has_64 at (signed_in_parts Es256 (Some (hex "3131")) content signature)

signed_structure : structure_of Sign1 (protected_made Es256) [] content ≡ hex "846a5369676e61747572653143a1012640 54" ++ content
unfolding content sig_structure shortest shortest_all shortest_head
signed_structure = refl

-- Each algorithm's protected header.
protected_headers : map protected_made (Es256 ∷ Es384 ∷ Es512 ∷ Esp256 ∷ Esp384 ∷ Esp512 ∷ []) ≡
    hex "a10126" ∷ hex "a1013822" ∷ hex "a1013823" ∷ hex "a10128" ∷ hex "a1013832" ∷ hex "a1013833" ∷ []
unfolding shortest shortest_all shortest_head
protected_headers = refl

-- An algorithm of MACs signs nothing; it is looked at before the lengths.
sign_faults : (byte : ℕ → ℕ) → sign_fault Hmac256 (Some (any byte 256)) [] 2 ∷ sign_fault Es256 (Some (any byte 255)) [] (2 ^ 56 - 1) ∷ sign_fault Es256 (Some (any byte 256)) [] 2 ∷ sign_fault Es512 None [] (2 ^ 56) ∷ [] ≡
    Some WrongAlgorithm ∷ None ∷ Some wrongly.TooLong ∷ Some wrongly.TooLong ∷ []
sign_faults byte = refl
