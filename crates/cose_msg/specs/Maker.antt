-- A COSE_Mac0 that is being made of a payload which comes in pieces.
use Rattle.std.specs.Prelude.{◌≡◌, ℕ, ◌+◌, Bool, true, false, List, ◌++◌, length, Option, None, Some, Result, Ok, Err}
use Rattle.cose_head.specs.declared.algorithm.Alg.{Alg}
use Rattle.cose_head.specs.declared.kind.Kind.TheVariants.{Mac0}
use Rattle.cose_mac.specs.Running.{FedMac}
use Rattle.cose_mac.specs.Structure.{encoded_string, structure_of}
use Rattle.cose_msg.specs.declared.make.MakeFault.{MakeFault}
use Rattle.cose_msg.specs.declared.make.MakeFault.TheVariants as faults
use Rattle.cose_msg.specs.declared.make.maker.Maker.{Maker}
use Rattle.cose_msg.specs.Making.{auth_made, made, protected_made}
use Rattle.cose_msg.specs.Writes.{front_of}

abbrev pub bytes_left : Maker → ℕ
bytes_left maker = maker.left

-- It makes the message of a payload of so many bytes, and has taken this prefix of it: its MAC was fed the prefix, after bytes that any
-- payload of this length completes to the MAC_structure (RFC 9052 section 6.3).
pub record IsMaking (alg : Alg) (secret aad : List ℕ) (payload_length : ℕ) (so_far : List ℕ) (maker : Maker) : Type 0 where
  pub left : length so_far + maker.left ≡ payload_length
  pub front : List ℕ
  pub fed : FedMac maker.running alg secret (front ++ so_far)
  pub completes : (payload : List ℕ) → length payload ≡ payload_length → front ++ payload ≡ structure_of Mac0 (protected_made alg) aad payload

-- The fault of the arguments that an answer is, if it is one.
abbrev pub begun_fault : Result Maker MakeFault → Option MakeFault
begun_fault (Ok maker) = None
begun_fault (Err faults.ShortPayload) = None
begun_fault (Err faults.WrongKey) = Some faults.WrongKey
begun_fault (Err faults.Intake) = None
begun_fault (Err faults.Sink) = None
begun_fault (Err faults.TooLong) = Some faults.TooLong

-- Whether an answer says that the sink has failed.
abbrev pub stops_for_sink : Result Maker MakeFault → Bool
stops_for_sink (Ok maker) = false
stops_for_sink (Err faults.ShortPayload) = false
stops_for_sink (Err faults.WrongKey) = false
stops_for_sink (Err faults.Intake) = false
stops_for_sink (Err faults.Sink) = true
stops_for_sink (Err faults.TooLong) = false

-- The message is what precedes the payload's content, the payload, and its MAC as a byte string.
abbrev pub MadeInParts : Type 0
MadeInParts = (alg : Alg) (secret : List ℕ) (kid : Option (List ℕ)) (aad payload : List ℕ) →
    made alg secret kid aad payload ≡ front_of (protected_made alg) kid (length payload) ++ (payload ++ encoded_string 2 (auth_made alg secret aad payload))
