-- Laws of the definitions that the contracts cite.
use Rattle.std.specs.Prelude.{◌≡◌, ◌<◌, ◌↔◌, ℕ, List, length, IsTrue}
use Rattle.cose_head.specs.Algorithm.{is_mac_of, auth_length_of}
use Rattle.cose_head.specs.declared.algorithm.Alg.{Alg}
use Rattle.cose_mac.specs.Hash.{function_of_algorithm, digest_of}
use Rattle.cose_mac.specs.Hmac.{mac}
use Rattle.cose_mac.specs.Running.{FedMac, IsMacOf}
use Rattle.cose_mac.specs.declared.running.Running.{Running}

-- A MAC has as many bytes as the table of algorithms says (RFC 9053 section 3.1).
abbrev pub MacHasItsLength : Type 0
MacHasItsLength = (alg : Alg) (key message : List ℕ) → IsTrue (is_mac_of alg) → length (mac alg key message) ≡ auth_length_of alg

-- longer than a block of the algorithm's hash function
abbrev pub IsLongKey : Alg → List ℕ → Type 0
IsLongKey alg key = (function_of_algorithm alg).block_length < length key

-- The MACs under a key longer than a block are those under its digest (RFC 2104 section 2).
abbrev pub MacsOfLongKey : Type 0
MacsOfLongKey = (alg : Alg) (key message : List ℕ) → IsLongKey alg key → mac alg (digest_of alg key) message ≡ mac alg key message

-- A running MAC under such a key is also one under its digest.
abbrev pub RunningOfLongKey : Type 0
RunningOfLongKey = (alg : Alg) (key message : List ℕ) → IsLongKey alg key
    → (running : Running) → FedMac running alg key message ↔ FedMac running alg (digest_of alg key) message

-- Two that were fed the same message, one under such a key and one under its digest, end with the same MAC.
abbrev pub EndsOfLongKey : Type 0
EndsOfLongKey = (alg : Alg) (key message : List ℕ) → IsLongKey alg key
    → (one other : Running) → FedMac one alg key message → FedMac other alg (digest_of alg key) message
    → (first second : List ℕ) → IsMacOf one first → IsMacOf other second → first ≡ second
