-- The lengths of digests.
use Rattle.std.proofs.Common.{◌≡◌, ℕ, List, length, refl}
use Rattle.sha2.specs.Sha256.{sha256}
use Rattle.sha2.specs.Sha256 as S256
use Rattle.sha2.specs.Sha512.{sha384, sha512}
use Rattle.sha2.specs.Sha512 as S512
use Rattle.cose_head.specs.declared.algorithm.Hash.{Hash}
use Rattle.cose_head.specs.declared.algorithm.Hash.TheVariants.{Sha256, Sha384, Sha512}
use Rattle.cose_mac.specs.Hash.{function_of}

pub length_digest : (hash : Hash) (message : List ℕ) → length ((function_of hash).digest message) ≡ (function_of hash).output_length
unfolding sha256 sha384 sha512 S256.digest_bytes S512.digest_bytes
length_digest Sha256 message = refl
length_digest Sha384 message = refl
length_digest Sha512 message = refl
