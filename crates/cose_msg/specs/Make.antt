-- What a call of `make_mac0` answers, and what it did with an intake and a sink.
use Rattle.std.specs.Prelude.{◌≡◌, ℕ, ◌^◌, ◌<◌, ◌≤◌, Bool, true, false, ◌||◌, List, length, take, Option, None, Some, Result, Ok, Err, nat_le, nat_lt, if◌then◌else◌}
use Rattle.std.specs.Io.KnownBytes.{Appends, Consumes, IsAtEnd}
use Rattle.cose_head.specs.declared.algorithm.Alg.{Alg}
use Rattle.cose_map.specs.Key.Value.{KeyValue}
use Rattle.cose_msg.specs.declared.make.MakeFault.{MakeFault}
use Rattle.cose_msg.specs.declared.make.MakeFault.TheVariants as faults
use Rattle.cose_msg.specs.Intake.{TakesInAll}
use Rattle.cose_msg.specs.Making.{fits_making, made}
use Rattle.cose_msg.specs.Message.{secret_of}
use Rattle.cose_msg.specs.Sink.{AppendsFront, IsPrefix}

-- The message that is made under a key.
abbrev pub made_under : Alg → KeyValue → Option (List ℕ) → List ℕ → List ℕ → List ℕ
made_under alg key kid aad payload = made alg (secret_of key.material) kid aad payload

-- What is too long: a payload of 2^56 bytes or more, external data of more than 65,535 bytes, an identifier of more than 255.
abbrev pub is_long_kid : Option (List ℕ) → Bool
is_long_kid None = false
is_long_kid (Some kid) = nat_lt 255 (length kid)

abbrev pub is_too_long : Option (List ℕ) → List ℕ → ℕ → Bool
is_too_long kid aad payload_length = nat_le (2 ^ 56) payload_length || (nat_lt 65535 (length aad) || is_long_kid kid)

-- The fault that the arguments have. The key is looked at first.
abbrev pub make_fault : Alg → KeyValue → Option (List ℕ) → List ℕ → ℕ → Option MakeFault
make_fault alg key kid aad payload_length =
    if fits_making key alg then (if is_too_long kid aad payload_length then Some faults.TooLong else None) else Some faults.WrongKey

-- The fault of the arguments that an answer is, if it is one.
abbrev pub argument_fault : Result ℕ MakeFault → Option MakeFault
argument_fault (Ok n) = None
argument_fault (Err faults.ShortPayload) = None
argument_fault (Err faults.WrongKey) = Some faults.WrongKey
argument_fault (Err faults.Intake) = None
argument_fault (Err faults.Sink) = None
argument_fault (Err faults.TooLong) = Some faults.TooLong

abbrev pub stops_for_intake : Result ℕ MakeFault → Bool
stops_for_intake (Ok n) = false
stops_for_intake (Err faults.ShortPayload) = false
stops_for_intake (Err faults.WrongKey) = false
stops_for_intake (Err faults.Intake) = true
stops_for_intake (Err faults.Sink) = false
stops_for_intake (Err faults.TooLong) = false

abbrev pub stops_for_sink : Result ℕ MakeFault → Bool
stops_for_sink (Ok n) = false
stops_for_sink (Err faults.ShortPayload) = false
stops_for_sink (Err faults.WrongKey) = false
stops_for_sink (Err faults.Intake) = false
stops_for_sink (Err faults.Sink) = true
stops_for_sink (Err faults.TooLong) = false

-- Where neither the intake nor the sink fails, and these bytes are to come: the number of the message's bytes, or that
-- they are fewer than the payload's length.
abbrev pub answer_over : (List ℕ → List ℕ) → ℕ → List ℕ → Result ℕ MakeFault
answer_over message payload_length bytes =
    if nat_lt (length bytes) payload_length then Err faults.ShortPayload else Ok (length (message (take payload_length bytes)))

-- The intake's bytes are taken in their order, each once. The bytes to come may be unknown to the contract only after a
-- failure of the intake.
abbrev pub TakesPayload : Option (List ℕ) → Option (List ℕ) → Result ℕ MakeFault → List ℕ → Type 0
TakesPayload old new (Ok n) taken = Consumes old new taken
TakesPayload old new (Err faults.ShortPayload) taken = Consumes old new taken
TakesPayload old new (Err faults.WrongKey) taken = ⊥
TakesPayload old new (Err faults.Intake) taken = TakesInAll old new taken
TakesPayload old new (Err faults.Sink) taken = Consumes old new taken
TakesPayload old new (Err faults.TooLong) taken = ⊥

-- How many bytes were taken for a payload of this length: all of them; fewer where the intake has ended, and gives no
-- further byte, or failed; at most this many where the sink failed.
abbrev pub TakesSome : ℕ → Bool → Option (List ℕ) → Result ℕ MakeFault → ℕ → Type 0
TakesSome payload_length ended come_after (Ok n) count = count ≡ payload_length
TakesSome payload_length ended come_after (Err faults.ShortPayload) count = (count < payload_length) × (ended ≡ true) × IsAtEnd come_after
TakesSome payload_length ended come_after (Err faults.WrongKey) count = ⊥
TakesSome payload_length ended come_after (Err faults.Intake) count = count < payload_length
TakesSome payload_length ended come_after (Err faults.Sink) count = count ≤ payload_length
TakesSome payload_length ended come_after (Err faults.TooLong) count = ⊥

-- The sink grows by the message of the bytes taken, whose length is answered; or by a prefix of the message of every
-- payload that begins with them.
abbrev pub Grows : (List ℕ → List ℕ) → ℕ → Option (List ℕ) → Option (List ℕ) → Result ℕ MakeFault → List ℕ → Type 0
Grows message payload_length contents contents_after (Ok n) taken = Appends contents contents_after (message taken) × (n ≡ length (message taken))
Grows message payload_length contents contents_after (Err fault) taken =
    (payload : List ℕ) → length payload ≡ payload_length → IsPrefix payload taken → AppendsFront contents contents_after (message payload)

-- A call whose arguments have no fault has taken these bytes, to make the message of a payload of this length.
pub record Makes (message : List ℕ → List ℕ) (payload_length : ℕ) (come come_after : Option (List ℕ)) (ended : Bool) (contents contents_after : Option (List ℕ)) (result : Result ℕ MakeFault) (taken : List ℕ) : Type 0 where
  pub bytes : TakesPayload come come_after result taken
  pub count : TakesSome payload_length ended come_after result (length taken)
  pub grows : Grows message payload_length contents contents_after result taken
