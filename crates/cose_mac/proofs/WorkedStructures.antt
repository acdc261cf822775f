-- The structures that are authenticated (RFC 9052 sections 6.3 and 4.4), on examples, by computing.
use Rattle.std.proofs.Common.{◌≡◌, ℕ, List, [], ◌∷◌, ◌++◌, refl}
use Rattle.std.specs.Prelude.{replicate}
use Rattle.cose_head.specs.Head.{shortest_head}
use Rattle.cose_head.specs.Shortest.{shortest, shortest_all}
use Rattle.cose_head.specs.declared.kind.Kind.{Kind}
use Rattle.cose_head.specs.declared.kind.Kind.TheVariants.{Mac0, Sign1}
use Rattle.cose_mac.specs.Structure.{mac_structure, sig_structure, structure_of, structure_front}

unfoldable structure : Kind → List ℕ → List ℕ → List ℕ → List ℕ
unfolding mac_structure sig_structure shortest shortest_all shortest_head
structure kind protected aad payload = structure_of kind protected aad payload

-- An array of four, and the context: 84 64 "MAC0", and 84 6a "Signature1".
abbrev mac0 : List ℕ
mac0 = 0x84 ∷ 0x64 ∷ 0x4d ∷ 0x41 ∷ 0x43 ∷ 0x30 ∷ []

abbrev signature1 : List ℕ
signature1 = 0x84 ∷ 0x6a ∷ 0x53 ∷ 0x69 ∷ 0x67 ∷ 0x6e ∷ 0x61 ∷ 0x74 ∷ 0x75 ∷ 0x72 ∷ 0x65 ∷ 0x31 ∷ []

-- The protected header {1: 5}, HMAC 256/256.
abbrev hmac_256 : List ℕ
hmac_256 = 0xa1 ∷ 1 ∷ 5 ∷ []

-- An empty protected header is the byte string of length zero, as empty external data and an empty payload are.
mac_of_nothing : structure Mac0 [] [] [] ≡ mac0 ++ 0x40 ∷ 0x40 ∷ 0x40 ∷ []
unfolding structure
mac_of_nothing = refl

signature_of_nothing : structure Sign1 [] [] [] ≡ signature1 ++ 0x40 ∷ 0x40 ∷ 0x40 ∷ []
unfolding structure
signature_of_nothing = refl

mac_of_one_byte : structure Mac0 hmac_256 [] (0xff ∷ []) ≡ mac0 ++ 0x43 ∷ 0xa1 ∷ 1 ∷ 5 ∷ 0x40 ∷ 0x41 ∷ 0xff ∷ []
unfolding structure
mac_of_one_byte = refl

signature_of_one_byte : structure Sign1 hmac_256 [] (0xff ∷ []) ≡ signature1 ++ 0x43 ∷ 0xa1 ∷ 1 ∷ 5 ∷ 0x40 ∷ 0x41 ∷ 0xff ∷ []
unfolding structure
signature_of_one_byte = refl

-- The external data are between the protected header and the payload.
mac_with_external_data : structure Mac0 hmac_256 (0x2a ∷ []) (7 ∷ 8 ∷ []) ≡ mac0 ++ 0x43 ∷ 0xa1 ∷ 1 ∷ 5 ∷ 0x41 ∷ 0x2a ∷ 0x42 ∷ 7 ∷ 8 ∷ []
unfolding structure
mac_with_external_data = refl

signature_with_external_data : structure Sign1 [] (0x2a ∷ []) (7 ∷ 8 ∷ []) ≡ signature1 ++ 0x40 ∷ 0x41 ∷ 0x2a ∷ 0x42 ∷ 7 ∷ 8 ∷ []
unfolding structure
signature_with_external_data = refl

-- The head of a payload of 24 bytes has two bytes.
mac_of_24_bytes : structure Mac0 hmac_256 [] (replicate 24 7) ≡ mac0 ++ 0x43 ∷ 0xa1 ∷ 1 ∷ 5 ∷ 0x40 ∷ 0x58 ∷ 24 ∷ replicate 24 7
unfolding structure
mac_of_24_bytes = refl

-- The bytes before the content of a payload of this length.
front_of_mac : structure_front Mac0 hmac_256 [] 0x10000 ≡ mac0 ++ 0x43 ∷ 0xa1 ∷ 1 ∷ 5 ∷ 0x40 ∷ 0x5a ∷ 0 ∷ 1 ∷ 0 ∷ 0 ∷ []
unfolding structure_front shortest_head
front_of_mac = refl

-- Its head is the shortest: at each width the last length that fits, and the first that does not.
front_of_mac_23 : structure_front Mac0 [] [] 23 ≡ mac0 ++ 0x40 ∷ 0x40 ∷ 0x57 ∷ []
unfolding structure_front shortest_head
front_of_mac_23 = refl

front_of_mac_24 : structure_front Mac0 [] [] 24 ≡ mac0 ++ 0x40 ∷ 0x40 ∷ 0x58 ∷ 24 ∷ []
unfolding structure_front shortest_head
front_of_mac_24 = refl

front_of_mac_255 : structure_front Mac0 [] [] 255 ≡ mac0 ++ 0x40 ∷ 0x40 ∷ 0x58 ∷ 0xff ∷ []
unfolding structure_front shortest_head
front_of_mac_255 = refl

front_of_mac_256 : structure_front Mac0 [] [] 256 ≡ mac0 ++ 0x40 ∷ 0x40 ∷ 0x59 ∷ 1 ∷ 0 ∷ []
unfolding structure_front shortest_head
front_of_mac_256 = refl

front_of_mac_65_535 : structure_front Mac0 [] [] 65_535 ≡ mac0 ++ 0x40 ∷ 0x40 ∷ 0x59 ∷ 0xff ∷ 0xff ∷ []
unfolding structure_front shortest_head
front_of_mac_65_535 = refl

front_of_mac_below_2_32 : structure_front Mac0 [] [] 0xffff_ffff ≡ mac0 ++ 0x40 ∷ 0x40 ∷ 0x5a ∷ 0xff ∷ 0xff ∷ 0xff ∷ 0xff ∷ []
unfolding structure_front shortest_head
front_of_mac_below_2_32 = refl

front_of_mac_2_32 : structure_front Mac0 [] [] 0x1_0000_0000 ≡ mac0 ++ 0x40 ∷ 0x40 ∷ 0x5b ∷ 0 ∷ 0 ∷ 0 ∷ 1 ∷ 0 ∷ 0 ∷ 0 ∷ 0 ∷ []
unfolding structure_front shortest_head
front_of_mac_2_32 = refl

front_of_signature : structure_front Sign1 [] (0x2a ∷ []) 0 ≡ signature1 ++ 0x40 ∷ 0x41 ∷ 0x2a ∷ 0x40 ∷ []
unfolding structure_front shortest_head
front_of_signature = refl
