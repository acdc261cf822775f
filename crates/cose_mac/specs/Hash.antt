-- The hash functions that the algorithms use (FIPS 180-4).
use Rattle.std.specs.Prelude.{ℕ, List}
use Rattle.sha2.specs.Sha256.{sha256}
use Rattle.sha2.specs.Sha512.{sha384, sha512}
use Rattle.cose_head.specs.Algorithm.{hash_of}
use Rattle.cose_head.specs.declared.algorithm.Alg.{Alg}
use Rattle.cose_head.specs.declared.algorithm.Hash.{Hash}
use Rattle.cose_head.specs.declared.algorithm.Hash.TheVariants.{Sha256, Sha384, Sha512}

-- What HMAC uses of a hash function: H, B and L of RFC 2104 section 2, the lengths in bytes.
pub record HashFunction : Type 0 where
  pub digest : List ℕ → List ℕ
  pub block_length : ℕ
  pub output_length : ℕ

-- The block lengths and output lengths of FIPS 180-4, figure 1.
abbrev pub function_of : Hash → HashFunction
function_of Sha256 = record { digest = sha256; block_length = 64; output_length = 32 }
function_of Sha384 = record { digest = sha384; block_length = 128; output_length = 48 }
function_of Sha512 = record { digest = sha512; block_length = 128; output_length = 64 }

-- the hash function of an algorithm
abbrev pub function_of_algorithm : Alg → HashFunction
function_of_algorithm alg = function_of (hash_of alg)

-- The digest of a message, which a signature algorithm signs (RFC 9053 section 2.1).
unfoldable pub digest_of : Alg → List ℕ → List ℕ
digest_of alg message = (function_of_algorithm alg).digest message

-- the number of its bytes
abbrev pub digest_length_of : Alg → ℕ
digest_length_of alg = (function_of_algorithm alg).output_length
