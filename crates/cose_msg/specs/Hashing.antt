-- What the hash over the authenticated structure was fed, and its result (RFC 9052 sections 4.4 and 6.3).
use Rattle.std.specs.Prelude.{ℕ, Bool, true, false, List, [], Option, Some, None, if◌then◌else◌, ⊤}
use Rattle.cose_head.specs.Algorithm.{is_mac_of}
use Rattle.cose_mac.specs.Hmac.{mac}
use Rattle.cose_mac.specs.Hash.{digest_of}
use Rattle.cose_mac.specs.Running.{FedMac, FedDigest}
use Rattle.cose_mac.specs.declared.running.Running.{Running}
use Rattle.cose_msg.specs.declared.hashing.Hashing.{Hashing}
use Rattle.cose_msg.specs.declared.hashing.Hashing.TheVariants as states
use Rattle.cose_msg.specs.Answer.{Chosen}
use Rattle.cose_msg.specs.Message.{secret_of}

-- It makes the MAC, or the digest, that the chosen algorithm requires, and was fed this message.
abbrev pub FedAs : Bool → Running → Chosen → List ℕ → Type 0
FedAs true running found message = FedMac running found.alg (secret_of found.key.material) message
FedAs false running found message = FedDigest running found.alg message

abbrev pub Hashes : Hashing → Chosen → List ℕ → Type 0
Hashes (states.Running running) found message = FedAs (is_mac_of found.alg) running found message
Hashes states.Nothing found message = ⊥
Hashes (states.Finished bytes) found message = ⊥
Hashes states.Elsewhere found message = ⊤

-- Where no key is chosen, nothing is required of it.
abbrev pub HashesFor : Hashing → Option Chosen → List ℕ → Type 0
HashesFor hashing (Some found) message = Hashes hashing found message
HashesFor hashing None message = ⊤

-- The finished bytes.
abbrev pub result_of : Hashing → List ℕ
result_of (states.Finished bytes) = bytes.items
result_of states.Nothing = []
result_of (states.Running running) = []
result_of states.Elsewhere = []

-- Whether nothing is hashed here, since the caller authenticates the message.
abbrev pub is_elsewhere : Hashing → Bool
is_elsewhere states.Elsewhere = true
is_elsewhere states.Nothing = false
is_elsewhere (states.Running running) = false
is_elsewhere (states.Finished bytes) = false

-- The MAC of a message, or its digest, as the algorithm requires.
abbrev pub authenticator : Chosen → List ℕ → List ℕ
authenticator found message =
    if is_mac_of found.alg then mac found.alg (secret_of found.key.material) message else digest_of found.alg message
