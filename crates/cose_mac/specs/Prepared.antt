-- Keys that are prepared for many MACs (RFC 2104 section 4).
use Rattle.std.specs.Prelude.{ℕ, Bool, ◌&&◌, List, IsTrue}
use Rattle.cose_head.specs.Algorithm.{is_mac_of, hash_of}
use Rattle.cose_head.specs.declared.algorithm.Alg.{Alg}
use Rattle.cose_mac.specs.Hash.{function_of_algorithm}
use Rattle.cose_mac.specs.Hasher.{Holds, is_of}
use Rattle.cose_mac.specs.Hmac.{key_block, xor_pad, ipad, opad}
use Rattle.cose_mac.specs.declared.prepared.Prepared.{Prepared}

-- Whether it is prepared for this algorithm: one for MACs, with its hash function.
abbrev pub serves : Prepared → Alg → Bool
serves prepared alg = is_mac_of alg && is_of (hash_of alg) prepared.inner

-- It is prepared for this key: its hashers were fed the key's block XOR ipad and XOR opad, and nothing more.
pub record IsPrepared (prepared : Prepared) (key : List ℕ) : Type 0 where
  pub inner : (alg : Alg) → IsTrue (serves prepared alg)
      → Holds (hash_of alg) prepared.inner (xor_pad (key_block (function_of_algorithm alg) key) ipad)
  pub outer : (alg : Alg) → IsTrue (serves prepared alg)
      → Holds (hash_of alg) prepared.outer (xor_pad (key_block (function_of_algorithm alg) key) opad)
