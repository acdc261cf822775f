-- HMAC (RFC 2104 section 2), over whole lists, and the MACs that the algorithms make with it.
use Rattle.std.specs.Prelude.{ℕ, ◌-◌, List, ◌++◌, length, map, replicate, take, bit_xor, nat_lt, if◌then◌else◌}
use Rattle.cose_head.specs.Algorithm.{auth_length_of}
use Rattle.cose_head.specs.declared.algorithm.Alg.{Alg}
use Rattle.cose_mac.specs.Hash.{HashFunction, function_of_algorithm}

-- the bytes that are repeated over a block
abbrev pub ipad : ℕ
ipad = 0x36

abbrev pub opad : ℕ
opad = 0x5c

-- A key longer than a block is hashed first.
abbrev pub fitting_key : HashFunction → List ℕ → List ℕ
fitting_key hash key = if nat_lt hash.block_length (length key) then hash.digest key else key

-- Zeros are appended to the key, up to a block.
unfoldable pub key_block : HashFunction → List ℕ → List ℕ
key_block hash key =
    fitting_key hash key ++ replicate (hash.block_length - length (fitting_key hash key)) 0

-- each byte of a block XOR this byte
unfoldable pub xor_pad : List ℕ → ℕ → List ℕ
xor_pad block pad = map (λ byte. bit_xor byte pad) block

-- H(K XOR opad, H(K XOR ipad, text))
unfoldable pub hmac : HashFunction → List ℕ → List ℕ → List ℕ
hmac hash key text =
    let k = key_block hash key in
    hash.digest (xor_pad k opad ++ hash.digest (xor_pad k ipad ++ text))

-- The MAC of a message: its HMAC, cut to the leftmost bytes (RFC 9053 section 3.1).
unfoldable pub mac : Alg → List ℕ → List ℕ → List ℕ
mac alg key message = take (auth_length_of alg) (hmac (function_of_algorithm alg) key message)
