-- A COSE_Sign1 that is made over pieces, with a signature of the caller's.
use Rattle.std.specs.Prelude.{◌≡◌, ℕ, ℤ, Bool, true, false, List, length, Option, None, Some, nat_lt, if◌then◌else◌}
use Rattle.cose_head.specs.declared.algorithm.Alg.{Alg}
use Rattle.cose_head.specs.Algorithm.{algorithm_numbered, is_mac_of}
use Rattle.cose_msg.specs.declared.make.sign1_maker.SignFault.{SignFault}
use Rattle.cose_msg.specs.Signing.{IsSigning, IsToBeSigned, bytes_to_come, sign_fault}
use Rattle.cose_c.specs.declared.held.signer.Signing.{Signing}
use Rattle.cose_c.specs.declared.held.signer.Signing.TheVariants as states
use Rattle.cose_c.specs.declared.make.CoseMade.{CoseMade}
use Rattle.cose_c.specs.Make.{kid_given, not_made}

-- The algorithm of this number, if it makes signatures.
abbrev pub signatures_only : Option Alg → Option Alg
signatures_only None = None
signatures_only (Some alg) = if is_mac_of alg then None else Some alg

abbrev pub signature_numbered : ℤ → Option Alg
signature_numbered number = signatures_only (algorithm_numbered number)

-- Each fault of arguments is a bad argument (12) here.
abbrev pub sign_fault_numbers : Option SignFault → Option CoseMade
sign_fault_numbers None = None
sign_fault_numbers (Some fault) = Some (not_made 12 0)

-- The fault of the arguments, if they have one: first the number of the algorithm (12), then the external data (5), then the lengths.
abbrev pub sign1_fault : Option Alg → List ℕ → List ℕ → ℕ → Option CoseMade
sign1_fault None kid aad payload_length = Some (not_made 12 0)
sign1_fault (Some alg) kid aad payload_length =
    if nat_lt 65535 (length aad) then Some (not_made 5 0) else sign_fault_numbers (sign_fault alg (kid_given kid) aad payload_length)

-- The block makes the message of a payload of so many bytes, and has taken this prefix of it. A block without a message makes none.
abbrev pub SignsIn : Alg → List ℕ → ℕ → List ℕ → Option Signing → Type 0
SignsIn alg aad payload_length so_far None = ⊥
SignsIn alg aad payload_length so_far (Some (states.Payload maker)) = IsSigning alg aad payload_length so_far maker
SignsIn alg aad payload_length so_far (Some (states.Signature unsigned)) =
    (length so_far ≡ payload_length) × IsToBeSigned alg aad so_far unsigned

-- How many bytes of the payload are to come.
abbrev pub left_to_sign : Option Signing → ℕ
left_to_sign None = 0
left_to_sign (Some (states.Payload maker)) = bytes_to_come maker
left_to_sign (Some (states.Signature unsigned)) = 0

-- Whether the block takes a payload.
abbrev pub is_taking : Option Signing → Bool
is_taking None = false
is_taking (Some (states.Payload maker)) = true
is_taking (Some (states.Signature unsigned)) = false
