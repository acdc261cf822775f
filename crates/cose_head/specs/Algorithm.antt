-- The algorithms that authenticate messages (RFC 9053 section 2.1, table 1, and section 3.1, table 3; RFC 9864 section 2.1,
-- table 1), each with the keys that it takes (RFC 9053 section 7). That ES256, ES384 and ES512 take one curve alone is this
-- profile's rule; ESP256, ESP384 and ESP512 name theirs.
use Rattle.std.specs.Prelude.{ℕ, ℤ, pos, negsuc, Bool, true, false, List, [], ◌∷◌, Option, find}
use Rattle.std.specs.Ordering.{int_eq}
use Rattle.cose_head.specs.declared.kind.Kind.{Kind}
use Rattle.cose_head.specs.declared.kind.Kind.TheVariants.{Mac0, Sign1}
use Rattle.cose_head.specs.declared.algorithm.Row.{Row}
use Rattle.cose_head.specs.declared.algorithm.Hash.{Hash}
use Rattle.cose_head.specs.declared.algorithm.Hash.TheVariants.{Sha256, Sha384, Sha512}
use Rattle.cose_head.specs.declared.algorithm.KeyType.{KeyType}
use Rattle.cose_head.specs.declared.algorithm.KeyType.TheVariants.{Symmetric, Elliptic}
use Rattle.cose_head.specs.declared.algorithm.Alg.{Alg}
use Rattle.cose_head.specs.declared.algorithm.Alg.TheVariants.{Hmac64, Hmac256, Hmac384, Hmac512, Es256, Es384, Es512, Esp256, Esp384, Esp512}

-- number, kind of message, keys, hash function, and bytes of a MAC or signature
abbrev pub row : ℤ → Kind → KeyType → Hash → ℕ → Row
row number kind key_type hash auth_length =
    record { number = number; kind = kind; key_type = key_type; hash = hash; auth_length = auth_length }

-- the numbers of the curves P-256, P-384 and P-521 (RFC 9053 section 7.1, table 18)
abbrev pub p_256 : ℕ
p_256 = 1

abbrev pub p_384 : ℕ
p_384 = 2

abbrev pub p_521 : ℕ
p_521 = 3

abbrev pub row_of : Alg → Row
row_of Hmac64 = row (pos 4) Mac0 Symmetric Sha256 8
row_of Hmac256 = row (pos 5) Mac0 Symmetric Sha256 32
row_of Hmac384 = row (pos 6) Mac0 Symmetric Sha384 48
row_of Hmac512 = row (pos 7) Mac0 Symmetric Sha512 64
row_of Es256 = row (negsuc 6) Sign1 (Elliptic p_256) Sha256 64
row_of Es384 = row (negsuc 34) Sign1 (Elliptic p_384) Sha384 96
row_of Es512 = row (negsuc 35) Sign1 (Elliptic p_521) Sha512 132
row_of Esp256 = row (negsuc 8) Sign1 (Elliptic p_256) Sha256 64
row_of Esp384 = row (negsuc 50) Sign1 (Elliptic p_384) Sha384 96
row_of Esp512 = row (negsuc 51) Sign1 (Elliptic p_521) Sha512 132

abbrev pub algorithm_number : Alg → ℤ
algorithm_number alg = (row_of alg).number

abbrev pub kind_of : Alg → Kind
kind_of alg = (row_of alg).kind

abbrev pub key_type_of : Alg → KeyType
key_type_of alg = (row_of alg).key_type

abbrev pub hash_of : Alg → Hash
hash_of alg = (row_of alg).hash

abbrev pub auth_length_of : Alg → ℕ
auth_length_of alg = (row_of alg).auth_length

abbrev is_mac0 : Kind → Bool
is_mac0 Mac0 = true
is_mac0 Sign1 = false

-- whether the algorithm makes MACs, and not signatures
abbrev pub is_mac_of : Alg → Bool
is_mac_of alg = is_mac0 (kind_of alg)

abbrev pub algorithms : List Alg
algorithms = Hmac64 ∷ Hmac256 ∷ Hmac384 ∷ Hmac512 ∷ Es256 ∷ Es384 ∷ Es512 ∷ Esp256 ∷ Esp384 ∷ Esp512 ∷ []

-- The algorithm of this number, if there is one.
abbrev pub algorithm_numbered : ℤ → Option Alg
algorithm_numbered number = find (λ alg. int_eq (algorithm_number alg) number) algorithms
