-- The lengths of MACs.
use Rattle.std.proofs.Common.{◌≡◌, ◌==◌, ℕ, List, length, refl, IsTrue}
use Rattle.std.proofs.lemmas.Bool.{eqb-true}
use Rattle.sha2.specs.Sha256.{sha256}
use Rattle.sha2.specs.Sha256 as S256
use Rattle.sha2.specs.Sha512.{sha384, sha512}
use Rattle.sha2.specs.Sha512 as S512
use Rattle.cose_head.specs.Algorithm.{is_mac_of, auth_length_of}
use Rattle.cose_head.specs.declared.algorithm.Alg.{Alg}
use Rattle.cose_head.proofs.lemmas.Algorithms.{each_mac}
use Rattle.cose_mac.specs.Hmac.{hmac, mac}

pub length_mac : (alg : Alg) (key message : List ℕ) → IsTrue (is_mac_of alg) → length (mac alg key message) ≡ auth_length_of alg
unfolding mac hmac sha256 sha384 sha512 S256.digest_bytes S512.digest_bytes
length_mac alg key message is_mac = eqb-true _ _ (each_mac (λ a. length (mac a key message) == auth_length_of a) refl alg is_mac)
