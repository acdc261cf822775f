-- A COSE_Mac0 that is made over pieces.
use Rattle.std.specs.Prelude.{ℕ, ℤ, List, [], ◌∷◌, length, Option, None, Some, Ok, Err, nat_lt, if◌then◌else◌}
use Rattle.cose_head.specs.declared.algorithm.Alg.{Alg}
use Rattle.cose_head.specs.Algorithm.{algorithm_numbered, is_mac_of}
use Rattle.cose_head.specs.Placed.{Placed}
use Rattle.cose_head.specs.Reason.{number_of}
use Rattle.cose_map.specs.Key.Value.{KeyValue}
use Rattle.cose_map.specs.Map.Read.{Read}
use Rattle.cose_msg.specs.declared.make.maker.Maker.{Maker}
use Rattle.cose_msg.specs.declared.make.MakeFault.{MakeFault}
use Rattle.cose_msg.specs.declared.make.MakeFault.TheVariants as faults
use Rattle.cose_msg.specs.Make.{make_fault}
use Rattle.cose_msg.specs.Maker.{IsMaking, bytes_left}
use Rattle.cose_c.specs.declared.make.CoseMade.{CoseMade}

-- The algorithm of this number, if it makes MACs.
abbrev pub macs_only : Option Alg → Option Alg
macs_only None = None
macs_only (Some alg) = if is_mac_of alg then Some alg else None

abbrev pub mac_numbered : ℤ → Option Alg
mac_numbered number = macs_only (algorithm_numbered number)

-- The bytes of a key, which are not part of a set.
abbrev pub whole : List ℕ → Placed
whole bytes = record { bytes = bytes; place = 0 }

-- An empty identifier is none.
abbrev pub kid_given : List ℕ → Option (List ℕ)
kid_given [] = None
kid_given (byte ∷ bytes) = Some (byte ∷ bytes)

-- Why no message is made: a status, and the number of a refusal's reason.
abbrev pub not_made : ℕ → ℕ → CoseMade
not_made status reason = record { status = status; reason = reason; length = 0 }

-- The key makes no MAC by the algorithm (4), or the payload or the identifier is too long (12).
abbrev pub fault_numbers : Option MakeFault → Option CoseMade
fault_numbers None = None
fault_numbers (Some faults.ShortPayload) = Some (not_made 12 0)
fault_numbers (Some faults.WrongKey) = Some (not_made 4 0)
fault_numbers (Some faults.Intake) = Some (not_made 12 0)
fault_numbers (Some faults.Sink) = Some (not_made 12 0)
fault_numbers (Some faults.TooLong) = Some (not_made 12 0)

abbrev pub key_fault : Alg → Read KeyValue → List ℕ → List ℕ → ℕ → Option CoseMade
key_fault alg (Err refusal) kid aad payload_length = Some (not_made 4 (number_of refusal.reason))
key_fault alg (Ok key) kid aad payload_length = fault_numbers (make_fault alg key (kid_given kid) aad payload_length)

-- The fault of the arguments, if they have one: first the number of the algorithm (12), then the external data (5), then the key.
abbrev pub arguments_fault : Option Alg → Read KeyValue → List ℕ → List ℕ → ℕ → Option CoseMade
arguments_fault None key kid aad payload_length = Some (not_made 12 0)
arguments_fault (Some alg) key kid aad payload_length =
    if nat_lt 65535 (length aad) then Some (not_made 5 0) else key_fault alg key kid aad payload_length

-- The block makes the message of a payload of so many bytes, and has taken this prefix of it. A block without a message makes none.
abbrev pub MakesIn : Alg → List ℕ → List ℕ → ℕ → List ℕ → Option Maker → Type 0
MakesIn alg secret aad payload_length so_far None = ⊥
MakesIn alg secret aad payload_length so_far (Some maker) = IsMaking alg secret aad payload_length so_far maker

-- How many bytes of the payload are to come.
abbrev pub left_by : Option Maker → ℕ
left_by None = 0
left_by (Some maker) = bytes_left maker
