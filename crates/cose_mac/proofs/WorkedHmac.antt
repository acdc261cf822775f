-- The lengths of the hash functions (FIPS 180-4, figure 1) and the blocks of HMAC (RFC 2104 section 2), on examples, by computing.
use Rattle.std.proofs.Common.{◌≡◌, ℕ, List, [], ◌∷◌, ◌++◌, map, refl}
use Rattle.std.specs.Prelude.{replicate, take}
use Rattle.sha2.specs.Sha256.{sha256}
use Rattle.sha2.specs.Sha512.{sha384, sha512}
use Rattle.cose_head.specs.declared.algorithm.Alg.TheVariants.{Hmac64, Hmac256, Hmac384, Hmac512, Es256, Es384, Es512}
use Rattle.cose_head.specs.declared.algorithm.Hash.TheVariants.{Sha256, Sha384, Sha512}
use Rattle.cose_mac.proofs.HashLemmas.{length_digest}
use Rattle.cose_mac.specs.Hash.{function_of, digest_of, digest_length_of}
use Rattle.cose_mac.specs.Hmac.{key_block, xor_pad, ipad, opad, hmac, mac}

block_of_sha256 : (function_of Sha256).block_length ≡ 64
block_of_sha256 = refl

block_of_sha384 : (function_of Sha384).block_length ≡ 128
block_of_sha384 = refl

block_of_sha512 : (function_of Sha512).block_length ≡ 128
block_of_sha512 = refl

-- ES256 signs a digest by SHA-256, ES384 one by SHA-384, and ES512 one by SHA-512 (RFC 9053 section 2.1).
digest_of_es256 : (message : List ℕ) → digest_of Es256 message ≡ sha256 message
unfolding digest_of
digest_of_es256 message = refl

digest_of_es384 : (message : List ℕ) → digest_of Es384 message ≡ sha384 message
unfolding digest_of
digest_of_es384 message = refl

digest_of_es512 : (message : List ℕ) → digest_of Es512 message ≡ sha512 message
unfolding digest_of
digest_of_es512 message = refl

digest_lengths : map digest_length_of (Es256 ∷ Es384 ∷ Es512 ∷ []) ≡ 32 ∷ 48 ∷ 64 ∷ []
digest_lengths = refl

digest_length_of_hmac384 : digest_length_of Hmac384 ≡ 48
digest_length_of_hmac384 = refl

digest_length_of_hmac512 : digest_length_of Hmac512 ≡ 64
digest_length_of_hmac512 = refl

-- The key "Jefe" of RFC 4231 section 4.3, as a block, and the blocks XOR ipad and XOR opad.
abbrev jefe : List ℕ
jefe = 0x4a ∷ 0x65 ∷ 0x66 ∷ 0x65 ∷ []

short_key : key_block (function_of Sha256) jefe ≡ jefe ++ replicate 60 0
unfolding key_block
short_key = refl

short_key_of_sha384 : key_block (function_of Sha384) jefe ≡ jefe ++ replicate 124 0
unfolding key_block
short_key_of_sha384 = refl

short_key_of_sha512 : key_block (function_of Sha512) jefe ≡ jefe ++ replicate 124 0
unfolding key_block
short_key_of_sha512 = refl

abbrev inner_of_jefe : List ℕ
inner_of_jefe = 0x7c ∷ 0x53 ∷ 0x50 ∷ 0x53 ∷ replicate 60 0x36

abbrev outer_of_jefe : List ℕ
outer_of_jefe = 0x16 ∷ 0x39 ∷ 0x3a ∷ 0x39 ∷ replicate 60 0x5c

abbrev long_inner_of_jefe : List ℕ
long_inner_of_jefe = 0x7c ∷ 0x53 ∷ 0x50 ∷ 0x53 ∷ replicate 124 0x36

abbrev long_outer_of_jefe : List ℕ
long_outer_of_jefe = 0x16 ∷ 0x39 ∷ 0x3a ∷ 0x39 ∷ replicate 124 0x5c

inner_block : xor_pad (key_block (function_of Sha256) jefe) ipad ≡ inner_of_jefe
unfolding key_block xor_pad
inner_block = refl

outer_block : xor_pad (key_block (function_of Sha256) jefe) opad ≡ outer_of_jefe
unfolding key_block xor_pad
outer_block = refl

-- The inner hash is of the inner block and the text, the outer one of the outer block and the inner digest.
hmac_of_jefe : (text : List ℕ) → hmac (function_of Sha256) jefe text ≡ sha256 (outer_of_jefe ++ sha256 (inner_of_jefe ++ text))
unfolding hmac key_block xor_pad
hmac_of_jefe text = refl

-- HMAC 256/64 keeps the leftmost 8 bytes of it, and HMAC 256/256 all 32 (RFC 9053 section 3.1).
mac_of_eight_bytes : (text : List ℕ) → mac Hmac64 jefe text ≡ take 8 (sha256 (outer_of_jefe ++ sha256 (inner_of_jefe ++ text)))
unfolding mac hmac key_block xor_pad
mac_of_eight_bytes text = refl

mac_of_32_bytes : (text : List ℕ) → mac Hmac256 jefe text ≡ take 32 (sha256 (outer_of_jefe ++ sha256 (inner_of_jefe ++ text)))
unfolding mac hmac key_block xor_pad
mac_of_32_bytes text = refl

-- HMAC 384/384 and 512/512 hash by SHA-384 and by SHA-512, whose blocks have 128 bytes.
mac_by_sha384 : (text : List ℕ) → mac Hmac384 jefe text
    ≡ take 48 (sha384 (long_outer_of_jefe ++ sha384 (long_inner_of_jefe ++ text)))
unfolding mac hmac key_block xor_pad
mac_by_sha384 text = refl

mac_by_sha512 : (text : List ℕ) → mac Hmac512 jefe text
    ≡ take 64 (sha512 (long_outer_of_jefe ++ sha512 (long_inner_of_jefe ++ text)))
unfolding mac hmac key_block xor_pad
mac_by_sha512 text = refl

-- A key that is one byte shorter than a block gets one zero.
key_below_a_block : key_block (function_of Sha256) (replicate 63 0xaa) ≡ replicate 63 0xaa ++ 0 ∷ []
unfolding key_block
key_below_a_block = refl

key_below_a_block_of_sha512 : key_block (function_of Sha512) (replicate 127 0xaa) ≡ replicate 127 0xaa ++ 0 ∷ []
unfolding key_block
key_below_a_block_of_sha512 = refl

-- A key as long as a block is unchanged.
key_of_a_block : key_block (function_of Sha256) (replicate 64 0xaa) ≡ replicate 64 0xaa
unfolding key_block
key_of_a_block = refl

key_of_a_block_of_sha384 : key_block (function_of Sha384) (replicate 128 0xaa) ≡ replicate 128 0xaa
unfolding key_block
key_of_a_block_of_sha384 = refl

key_of_a_block_of_sha512 : key_block (function_of Sha512) (replicate 128 0xaa) ≡ replicate 128 0xaa
unfolding key_block
key_of_a_block_of_sha512 = refl

-- A key that is one byte longer is hashed, and zeros are appended to its digest.
key_above_a_block : key_block (function_of Sha256) (replicate 65 0xaa) ≡ sha256 (replicate 65 0xaa) ++ replicate 32 0
unfolding key_block
key_above_a_block = rw (length_digest Sha256 (replicate 65 0xaa)) refl

key_above_a_block_of_sha384 : key_block (function_of Sha384) (replicate 129 0xaa) ≡ sha384 (replicate 129 0xaa) ++ replicate 80 0
unfolding key_block
key_above_a_block_of_sha384 = rw (length_digest Sha384 (replicate 129 0xaa)) refl

key_above_a_block_of_sha512 : key_block (function_of Sha512) (replicate 129 0xaa) ≡ sha512 (replicate 129 0xaa) ++ replicate 64 0
unfolding key_block
key_above_a_block_of_sha512 = rw (length_digest Sha512 (replicate 129 0xaa)) refl
