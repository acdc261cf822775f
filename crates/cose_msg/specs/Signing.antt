-- The COSE_Sign1 that is made of a payload and of a signature that the caller makes (RFC 9052 section 4.2).
use Rattle.std.specs.Prelude.{◌≡◌, ℕ, ◌+◌, Bool, true, false, List, ◌++◌, length, Option, None, Some, Result, Ok, Err, if◌then◌else◌}
use Rattle.cose_head.specs.declared.algorithm.Alg.{Alg}
use Rattle.cose_head.specs.declared.kind.Kind.TheVariants.{Sign1}
use Rattle.cose_head.specs.Algorithm.{is_mac_of}
use Rattle.cose_head.specs.Item.{byte_string, tag}
use Rattle.cose_head.specs.Shortest.{shortest}
use Rattle.cose_mac.specs.Hash.{digest_of}
use Rattle.cose_mac.specs.Running.{FedDigest}
use Rattle.cose_mac.specs.Structure.{encoded_string, structure_of}
use Rattle.cose_msg.specs.declared.make.sign1_maker.SignFault.{SignFault}
use Rattle.cose_msg.specs.declared.make.sign1_maker.SignFault.TheVariants as faults
use Rattle.cose_msg.specs.declared.make.sign1_maker.Sign1Maker.{Sign1Maker}
use Rattle.cose_msg.specs.declared.make.sign1_maker.Unsigned.{Unsigned}
use Rattle.cose_msg.specs.Grammar.{four_elements, tag_number}
use Rattle.cose_msg.specs.Make.{is_too_long}
use Rattle.cose_msg.specs.Making.{protected_made, unprotected_made}
use Rattle.cose_msg.specs.Writes.{front_under}

-- The message under its tag, in its shortest spelling: its protected header names the algorithm alone.
unfoldable pub signed : Alg → Option (List ℕ) → List ℕ → List ℕ → List ℕ
signed alg kid payload signature = shortest (
    tag (tag_number Sign1) (
    four_elements (protected_made alg) (unprotected_made kid) (byte_string payload) signature))

-- What is signed: the digest of the Sig_structure (RFC 9052 section 4.4, RFC 9053 section 2.1).
abbrev pub digest_to_sign : Alg → List ℕ → List ℕ → List ℕ
digest_to_sign alg aad payload = digest_of alg (structure_of Sign1 (protected_made alg) aad payload)

-- The fault that the arguments have. The algorithm is looked at first.
abbrev pub sign_fault : Alg → Option (List ℕ) → List ℕ → ℕ → Option SignFault
sign_fault alg kid aad payload_length =
    if is_mac_of alg then Some faults.WrongAlgorithm else (if is_too_long kid aad payload_length then Some faults.TooLong else None)

-- The fault of the arguments that an answer is, if it is one.
abbrev pub begun_fault : Result Sign1Maker SignFault → Option SignFault
begun_fault (Ok maker) = None
begun_fault (Err faults.ShortPayload) = None
begun_fault (Err faults.WrongAlgorithm) = Some faults.WrongAlgorithm
begun_fault (Err faults.WrongSignature) = None
begun_fault (Err faults.Sink) = None
begun_fault (Err faults.TooLong) = Some faults.TooLong

-- Whether an answer says that the sink has failed.
abbrev pub is_of_sink : {A : Type 0} → Result A SignFault → Bool
is_of_sink (Ok value) = false
is_of_sink (Err faults.ShortPayload) = false
is_of_sink (Err faults.WrongAlgorithm) = false
is_of_sink (Err faults.WrongSignature) = false
is_of_sink (Err faults.Sink) = true
is_of_sink (Err faults.TooLong) = false

abbrev pub bytes_to_come : Sign1Maker → ℕ
bytes_to_come maker = maker.left

abbrev pub digest_held : Unsigned → List ℕ
digest_held unsigned = unsigned.digest.items

abbrev pub algorithm_held : Unsigned → Alg
algorithm_held unsigned = unsigned.alg

-- The message of a payload of so many bytes is being made, and this prefix of it has come: the hash was fed the prefix, after bytes that
-- any payload of this length completes to the Sig_structure.
pub record IsSigning (alg : Alg) (aad : List ℕ) (payload_length : ℕ) (so_far : List ℕ) (maker : Sign1Maker) : Type 0 where
  pub left : length so_far + maker.left ≡ payload_length
  pub algorithm : maker.alg ≡ alg
  pub front : List ℕ
  pub fed : FedDigest maker.running alg (front ++ so_far)
  pub completes : (payload : List ℕ) → length payload ≡ payload_length → front ++ payload ≡ structure_of Sign1 (protected_made alg) aad payload

-- All of the message but its signature was made, and this is what has to be signed.
pub record IsToBeSigned (alg : Alg) (aad payload : List ℕ) (unsigned : Unsigned) : Type 0 where
  pub algorithm : unsigned.alg ≡ alg
  pub digest : unsigned.digest.items ≡ digest_to_sign alg aad payload

-- The message is what precedes the payload's content, the payload, and the signature as a byte string.
abbrev pub SignedInParts : Type 0
SignedInParts = (alg : Alg) (kid : Option (List ℕ)) (payload signature : List ℕ) →
    signed alg kid payload signature ≡ front_under Sign1 (protected_made alg) kid (length payload) ++ (payload ++ encoded_string 2 signature)
