-- What was fed to a running hash or MAC.
use Rattle.std.specs.Prelude.{◌≡◌, ℕ, Bool, List, ◌++◌, Option, Some, None, is_some, IsTrue, IsFalse}
use Rattle.cose_head.specs.Algorithm.{is_mac_of, hash_of}
use Rattle.cose_head.specs.declared.algorithm.Alg.{Alg}
use Rattle.cose_head.specs.declared.algorithm.Hash.{Hash}
use Rattle.cose_mac.specs.Hash.{function_of_algorithm}
use Rattle.cose_mac.specs.Hasher.{Holds}
use Rattle.cose_mac.specs.Hmac.{key_block, xor_pad, ipad, opad, mac}
use Rattle.cose_mac.specs.declared.hasher.Hasher.{Hasher}
use Rattle.cose_mac.specs.declared.running.Running.{Running}

-- Whether it makes a MAC, and not a digest.
abbrev pub makes_mac : Running → Bool
makes_mac running = is_some running.outer

abbrev key_block_of : Alg → List ℕ → List ℕ
key_block_of alg key = key_block (function_of_algorithm alg) key

-- The hasher is there, is one of this hash function, and was fed this message.
abbrev pub HoldsSome : Hash → Option Hasher → List ℕ → Type 0
HoldsSome hash (Some hasher) message = Holds hash hasher message
HoldsSome hash None message = ⊥

-- It makes the MAC under this algorithm and key, and was fed this message so far.
pub record FedMac (running : Running) (alg : Alg) (key message : List ℕ) : Type 0 where
  pub algorithm : running.alg ≡ alg
  pub mac_algorithm : IsTrue (is_mac_of alg)
  pub is_mac : IsTrue (makes_mac running)
  pub outer : HoldsSome (hash_of alg) running.outer (xor_pad (key_block_of alg key) opad)
  pub held : Holds (hash_of alg) running.hasher (xor_pad (key_block_of alg key) ipad ++ message)

-- The bytes are the MAC of the message that it was fed.
abbrev pub IsMacOf : Running → List ℕ → Type 0
IsMacOf running bytes = (alg : Alg) (key message : List ℕ) → FedMac running alg key message → bytes ≡ mac alg key message

-- It makes the digest that this algorithm signs, and was fed this message so far.
pub record FedDigest (running : Running) (alg : Alg) (message : List ℕ) : Type 0 where
  pub algorithm : running.alg ≡ alg
  pub signature_algorithm : IsFalse (is_mac_of alg)
  pub is_digest : IsFalse (makes_mac running)
  pub held : Holds (hash_of alg) running.hasher message

-- A piece was appended to the message that was fed before.
pub record Appends (old new : Running) (piece : List ℕ) : Type 0 where
  pub purpose : makes_mac new ≡ makes_mac old
  pub fed_mac : (alg : Alg) (key message : List ℕ) → FedMac old alg key message → FedMac new alg key (message ++ piece)
  pub fed_digest : (alg : Alg) (message : List ℕ) → FedDigest old alg message → FedDigest new alg (message ++ piece)
