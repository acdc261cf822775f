-- Messages all of whose bytes are there, on examples, by computing (RFC 9052 sections 4.4 and 6.3). The MAC, and the
-- digest of what is signed, are left as they are defined.
use Rattle.std.specs.Prelude.{◌≡◌, ℕ, Bool, true, false, List, [], ◌∷◌, ◌++◌, None, Some, refl, if◌then◌else◌}
use Prim.Native.String.{String}
use Rattle.std.specs.Str.{bytes_eq}
use Rattle.cose_head.specs.Head.{shortest_head}
use Rattle.cose_head.specs.Shortest.{shortest, shortest_all}
use Rattle.cose_head.specs.declared.kind.Kind.TheVariants.{Mac0, Sign1}
use Rattle.cose_head.specs.declared.reason.Reason.TheVariants.{BadAuth}
use Rattle.cose_head.specs.declared.algorithm.Alg.{Alg}
use Rattle.cose_head.specs.declared.algorithm.Alg.TheVariants.{Hmac64, Hmac256, Hmac384, Hmac512, Es256, Es384, Es512}
use Rattle.cose_mac.specs.Hmac.{mac}
use Rattle.cose_mac.specs.Hash.{digest_of}
use Rattle.cose_mac.specs.Structure.{mac_structure, sig_structure}
use Rattle.cose_map.specs.Key.Value.{KeyValue, symmetric}
use Rattle.cose_msg.specs.declared.context.Wanted.TheVariants as wants
use Rattle.cose_msg.specs.declared.verdict.Verdict.{Verdict}
use Rattle.cose_msg.specs.declared.verdict.Verdict.TheVariants.{Authentic, Refused}
use Rattle.cose_msg.specs.Answer.{Answer, Chosen, decided, complete, refused}
use Rattle.cose_msg.specs.Message.{Decides, Setting, structure, uncompared, comparing, verified, verifying}
use Rattle.cose_msg.proofs.WorkedMessages.{hex, any, algorithm, Gives, reading, under, jefe, secret, plain, for_five, point, point_on}

-- The answer where the tag is compared with the MAC of these bytes, for a payload of two bytes.
abbrev if_mac_of : String → Alg → List ℕ → ℕ → ℕ → Answer
if_mac_of to_mac alg tag auth_at taken =
    if bytes_eq tag (mac alg jefe (hex to_mac)) then decided (Authentic Mac0 alg 2 taken) else refused BadAuth auth_at

abbrev if_hmac_of : String → List ℕ → ℕ → ℕ → Answer
if_hmac_of to_mac tag auth_at taken = if_mac_of to_mac Hmac256 tag auth_at taken

-- The answer for all bytes where tags are compared.
abbrev comparison : Setting → List ℕ → Answer
comparison setting bytes = (reading (comparing 1024 4 setting) bytes).answer

-- For every tag of 32 bytes. What follows it isn't looked at.
mac0 : (byte : ℕ → ℕ) → Gives (λ after. comparison (under plain) (hex "d18443a10105a0 426869 5820" ++ (any byte 32 ++ after))) (
    (hex "", if_hmac_of "84644d41433043a1010540426869" (any byte 32) 10 44) ∷
    (hex "ff", if_hmac_of "84644d41433043a1010540426869" (any byte 32) 10 44) ∷ [])
unfolding reading structure mac_structure shortest shortest_all shortest_head
mac0 byte = refl

-- The `EcVerifier` is not asked.
kept : (decides : Decides) (aad : List ℕ) (found : Chosen) (holds : Bool) (one other : Verdict) →
    verified aad decides (Some found) (if holds then decided one else decided other) ≡ (if holds then decided one else decided other)
kept decides aad found true one other = refl
kept decides aad found false one other = refl

unasked : (decides : Decides) (byte : ℕ → ℕ) →
    (reading (verifying 1024 4 (under plain) decides) (hex "d18443a10105a0 426869 5820" ++ any byte 32)).answer ≡
    if_hmac_of "84644d41433043a1010540426869" (any byte 32) 10 44
unfolding reading structure mac_structure shortest shortest_all shortest_head
unasked decides byte = kept decides [] (record { key = secret None None None; alg = Hmac256 }) (bytes_eq (any byte 32) (mac Hmac256 jefe (hex "84644d41433043a1010540426869"))) (Authentic Mac0 Hmac256 2 44) (Refused (record { reason = BadAuth; place = 10 }))

-- Wider heads, the tag of a CWT, an identifier and a nested value change nothing of what is authenticated.
same_mac : (byte : ℕ → ℕ) → Gives (λ front. comparison (under plain) (front ++ any byte 32)) (
    (hex "d18443a10105a0 590002 6869 5820", if_hmac_of "84644d41433043a1010540426869" (any byte 32) 12 46) ∷
    (hex "d8118443a10105a0 426869 5820", if_hmac_of "84644d41433043a1010540426869" (any byte 32) 11 45) ∷ (
      hex "db0000000000000011 9b0000000000000004 5b0000000000000003a10105 a0 5b00000000000000026869 5b0000000000000020",
      if_hmac_of "84644d41433043a1010540426869" (any byte 32) 42 83,
    ) ∷
    (hex "d83dd18443a10105a0 426869 5820", if_hmac_of "84644d41433043a1010540426869" (any byte 32) 12 46) ∷
    (hex "d18443a10105a10a81818100 426869 5820", if_hmac_of "84644d41433043a1010540426869" (any byte 32) 15 49) ∷
    (hex "d18443a10105a1044131 426869 5820", if_hmac_of "84644d41433043a1010540426869" (any byte 32) 13 47) ∷ [])
unfolding reading structure mac_structure shortest shortest_all shortest_head
same_mac byte = refl

untagged_mac0 : (byte : ℕ → ℕ) →
    comparison (record (under plain) { wanted = wants.Mac0 }) (hex "8443a10105a0 426869 5820" ++ any byte 32) ≡
    if_hmac_of "84644d41433043a1010540426869" (any byte 32) 9 43
unfolding reading structure mac_structure shortest shortest_all shortest_head
untagged_mac0 byte = refl

-- An empty protected bucket is an empty string in what is authenticated, also where it was received as an empty map.
empty_protected : (byte : ℕ → ℕ) → Gives (λ front. comparison (under for_five) (front ++ any byte 32)) (
    (hex "d18440a0 426869 5820", if_hmac_of "84644d4143304040426869" (any byte 32) 7 41) ∷
    (hex "d18441a0a10105 426869 5820", if_hmac_of "84644d4143304040426869" (any byte 32) 10 44) ∷
    (hex "d18442b800a10105 426869 5820", if_hmac_of "84644d4143304040426869" (any byte 32) 11 45) ∷ [])
unfolding reading structure mac_structure shortest shortest_all shortest_head
empty_protected byte = refl

-- Otherwise it is authenticated as it was received.
as_received : (byte : ℕ → ℕ) →
    comparison (under plain) (hex "d18444a1180105a0 426869 5820" ++ any byte 32) ≡ if_hmac_of "84644d41433044a118010540426869" (any byte 32) 11 45
unfolding reading structure mac_structure shortest shortest_all shortest_head
as_received byte = refl

-- The secret is that of the key that was chosen, here by its identifier.
abbrev other_secret : KeyValue
other_secret = record (secret (Some (hex "31")) None None) { material = symmetric (hex "61") }

chosen_secret : (byte : ℕ → ℕ) →
    comparison (under (other_secret ∷ secret (Some (hex "32")) None None ∷ [])) (hex "d18443a10105a1044132 426869 5820" ++ any byte 32) ≡
    if_hmac_of "84644d41433043a1010540426869" (any byte 32) 13 47
unfolding reading structure mac_structure shortest shortest_all shortest_head
chosen_secret byte = refl

-- The externally supplied data are authenticated.
external_data : (byte : ℕ → ℕ) →
    comparison (record (under plain) { aad = hex "2a" }) (hex "d18443a10105a0 426869 5820" ++ any byte 32) ≡
    if_hmac_of "84644d41433043a10105412a426869" (any byte 32) 10 44
unfolding reading structure mac_structure shortest shortest_all shortest_head
external_data byte = refl

-- HMAC 256/64: eight bytes.
short_tag : (byte : ℕ → ℕ) →
    comparison (under plain) (hex "d18443a10104a0 426869 48" ++ any byte 8) ≡
    if_mac_of "84644d41433043a1010440426869" Hmac64 (any byte 8) 10 19
unfolding reading structure mac_structure shortest shortest_all shortest_head
short_tag byte = refl

-- HMAC 384/384 and 512/512: 48 bytes, and 64.
long_tags : (byte : ℕ → ℕ) →
    comparison (under plain) (hex "d18443a10106a0 426869 5830" ++ any byte 48) ∷ comparison (under plain) (hex "d18443a10107a0 426869 5840" ++ any byte 64) ∷ [] ≡
    if_mac_of "84644d41433043a1010640426869" Hmac384 (any byte 48) 10 60 ∷ if_mac_of "84644d41433043a1010740426869" Hmac512 (any byte 64) 10 76 ∷ []
unfolding reading structure mac_structure shortest shortest_all shortest_head
long_tags byte = refl

-- An empty payload.
no_payload : (byte : ℕ → ℕ) →
    comparison (under plain) (hex "d18443a10105a0 40 5820" ++ any byte 32) ≡
    (if bytes_eq (any byte 32) (mac Hmac256 jefe (hex "84644d41433043a101054040")) then decided (Authentic Mac0 Hmac256 0 42) else refused BadAuth 8)
unfolding reading structure mac_structure shortest shortest_all shortest_head
no_payload byte = refl

-- A signature: the `EcVerifier` is asked, with the key, the digest of the structure and the 64 bytes.
sign1 : (decides : Decides) (byte : ℕ → ℕ) →
    (reading (verifying 1024 4 (under (point None ∷ [])) decides) (hex "d28443a10126a0 40 5840" ++ any byte 64)).answer ≡
    (if decides (point None) (digest_of Es256 (hex "846a5369676e61747572653143a101264040")) (any byte 64)
    then decided (Authentic Sign1 Es256 0 74) else refused BadAuth 8)
unfolding reading structure sig_structure shortest shortest_all shortest_head
sign1 decides byte = refl

-- ES384 and ES512: the digest is by SHA-384 and by SHA-512, and the signature has 96 bytes and 132.
sign1_by_es384 : (decides : Decides) (byte : ℕ → ℕ) →
    (reading (verifying 1024 4 (under (point_on 2 48 ∷ [])) decides) (hex "d28444a1013822a0 40 5860" ++ any byte 96)).answer ≡
    (if decides (point_on 2 48) (digest_of Es384 (hex "846a5369676e61747572653144a10138224040")) (any byte 96)
    then decided (Authentic Sign1 Es384 0 107) else refused BadAuth 9)
unfolding reading structure sig_structure shortest shortest_all shortest_head
sign1_by_es384 decides byte = refl

sign1_by_es512 : (decides : Decides) (byte : ℕ → ℕ) →
    (reading (verifying 1024 4 (under (point_on 3 66 ∷ [])) decides) (hex "d28444a1013823a0 40 5884" ++ any byte 132)).answer ≡
    (if decides (point_on 3 66) (digest_of Es512 (hex "846a5369676e61747572653144a10138234040")) (any byte 132)
    then decided (Authentic Sign1 Es512 0 143) else refused BadAuth 9)
unfolding reading structure sig_structure shortest shortest_all shortest_head
sign1_by_es512 decides byte = refl

-- The signature covers the external data and the payload too.
sign1_with_data : (decides : Decides) (byte : ℕ → ℕ) →
    (reading (verifying 1024 4 (record (under (point None ∷ [])) { aad = hex "2a" }) decides) (hex "d28443a10126a0 426869 5840" ++ any byte 64)).answer ≡
    (if decides (point None) (digest_of Es256 (hex "846a5369676e61747572653143a10126412a426869")) (any byte 64)
    then decided (Authentic Sign1 Es256 2 76) else refused BadAuth 10)
unfolding reading structure sig_structure shortest shortest_all shortest_head
sign1_with_data decides byte = refl

-- Where only tags are compared, the `EcVerifier` is not asked: all bytes of the signature are there, and the message is
-- complete.
signature_left : (byte : ℕ → ℕ) →
    (reading (comparing 1024 4 (under (point None ∷ []))) (hex "d28443a10126a0 40 5840" ++ any byte 64)).answer ≡
    complete (record {
      headers = record { kind = Sign1; protected = hex "a10126"; protected_pairs = algorithm 0x26 ∷ []; unprotected_pairs = [] };
      chosen = Some (record { key = point None; alg = Es256 });
      payload = [];
      auth = any byte 64;
      auth_at = 8;
      taken = 74;
    })
unfolding reading
signature_left byte = refl

-- Where nothing is compared, the same holds of a tag.
tag_left : (byte : ℕ → ℕ) →
    (reading (uncompared 1024 4 (under plain)) (hex "d18443a10105a0 426869 5820" ++ any byte 32)).answer ≡
    complete (record {
      headers = record { kind = Mac0; protected = hex "a10105"; protected_pairs = algorithm 5 ∷ []; unprotected_pairs = [] };
      chosen = Some (record { key = secret None None None; alg = Hmac256 });
      payload = hex "6869";
      auth = any byte 32;
      auth_at = 10;
      taken = 44;
    })
unfolding reading
tag_left byte = refl
