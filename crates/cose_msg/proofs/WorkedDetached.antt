-- A detached payload, on examples, by computing (RFC 9052 sections 2, 4.2 and 6.2): the message has nil, and the bytes that have
-- come of the payload are known on their own.
use Rattle.std.specs.Prelude.{ℕ, ◌-◌, ◌^◌, List, [], ◌∷◌, refl}
use Rattle.cose_head.specs.declared.reason.Reason.TheVariants.{Truncated, BadSimple, WrongType, Attached, BadAuthLength, PayloadTooLong}
use Rattle.cose_msg.specs.declared.status.Status.{Status}
use Rattle.cose_msg.specs.declared.status.Status.TheVariants.{More, PayloadNext, Refused}
use Rattle.cose_msg.specs.Answer.{Answer, refused}
use Rattle.cose_msg.specs.Message.{verifying}
use Rattle.cose_msg.specs.Reading.{Reading}
use Rattle.cose_msg.specs.Source.{detached}
use Rattle.cose_msg.specs.Status.{status_of_reading}
use Rattle.cose_msg.proofs.WorkedMessages.{hex, Gives, reading, verdict_in, under, never, plain}

-- The verdict, where these bytes have come of a payload of so many.
abbrev beside : List ℕ → ℕ → List ℕ → Answer
beside came detached_length bytes = verdict_in (record (under plain) { source = detached came detached_length }) bytes

-- In the place of the payload is nil, in one byte. A payload in the message is Attached, whatever its length.
heads : Gives (beside [] 2) (
    (hex "d18443a10105a0", refused Truncated 7) ∷
    (hex "d18443a10105a0 40", refused Attached 7) ∷
    (hex "d18443a10105a0 426869", refused Attached 7) ∷
    (hex "d18443a10105a0 5b0100000000000000", refused Attached 7) ∷
    (hex "d18443a10105a0 f816", refused BadSimple 7) ∷
    (hex "d18443a10105a0 f916", refused Truncated 9) ∷
    (hex "d18443a10105a0 f90016", refused WrongType 7) ∷
    (hex "d18443a10105a0 f7", refused WrongType 7) ∷
    (hex "d18443a10105a0 6161", refused WrongType 7) ∷ [])
unfolding reading
heads = refl

-- The number that is stated is looked at where the nil is: it is less than 2^56, and within the application's limit.
too_many : Gives (beside [] (2 ^ 56)) (
    (hex "d18443a10105a0", refused Truncated 7) ∷
    (hex "d18443a10105a0 f6", refused PayloadTooLong 7) ∷
    (hex "d18443a10105a0 42", refused Attached 7) ∷ [])
unfolding reading
too_many = refl

-- Fewer bytes are missing, however many they are.
as_many_as_allowed : Gives (beside [] (2 ^ 56 - 1)) ((hex "d18443a10105a0 f6", refused Truncated 7) ∷ [])
unfolding reading
as_many_as_allowed = refl

more_than_32_bits : Gives (beside [] (2 ^ 32)) ((hex "d18443a10105a0 f6", refused Truncated 7) ∷ [])
unfolding reading
more_than_32_bits = refl

abbrev limited : ℕ → ℕ → List ℕ → Answer
limited limit detached_length bytes = verdict_in (record (under plain) { payload_limit = limit; source = detached [] detached_length }) bytes

over_the_limit : Gives (limited 1 2) ((hex "d18443a10105a0 f6", refused PayloadTooLong 7) ∷ [])
unfolding reading
over_the_limit = refl

at_the_limit : Gives (limited 2 2) ((hex "d18443a10105a0 f6", refused Truncated 7) ∷ [])
unfolding reading
at_the_limit = refl

-- Where bytes of the payload are missing, the message is Truncated at its nil, whatever follows it there.
missing : Gives (beside (hex "68") 2) (
    (hex "d18443a10105a0", refused Truncated 7) ∷
    (hex "d18443a10105a0 f6", refused Truncated 7) ∷
    (hex "d18443a10105a0 f6 40", refused Truncated 7) ∷
    (hex "d18443a10105a0 f6 5820", refused Truncated 7) ∷ [])
unfolding reading
missing = refl

-- Where all have come, the tag follows, and so it does after a payload of no byte. Further bytes make no difference.
tag_heads : List (List ℕ × Answer)
tag_heads =
    (hex "d18443a10105a0 f6", refused Truncated 8) ∷
    (hex "d18443a10105a0 f6 40", refused BadAuthLength 8) ∷
    (hex "d18443a10105a0 f6 60", refused WrongType 8) ∷
    (hex "d18443a10105a0 f6 5820", refused Truncated 10) ∷ []

all_there : Gives (beside (hex "6869") 2) tag_heads
unfolding reading tag_heads
all_there = refl

more_than_stated : Gives (beside (hex "686921") 2) tag_heads
unfolding reading tag_heads
more_than_stated = refl

empty_payload : Gives (beside [] 0) tag_heads
unfolding reading tag_heads
empty_payload = refl

-- The status, how many bytes of the payload are wanted, and how many of the message.
abbrev fed : List ℕ → List ℕ → Status × ℕ × ℕ
fed came bytes =
    let reading : Reading = reading (verifying 1024 4 (record (under plain) { source = detached came 2 }) never) bytes in
    (status_of_reading reading, reading.payload_wanted, reading.wanted)

nothing_given : Gives (fed []) (
    (hex "d18443a10105a0", (More, 0, 1)) ∷
    (hex "d18443a10105a0 f6", (PayloadNext, 2, 0)) ∷
    (hex "d18443a10105a0 f6 40", (PayloadNext, 2, 0)) ∷ [])
unfolding reading
nothing_given = refl

one_came : Gives (fed (hex "68")) ((hex "d18443a10105a0 f6", (PayloadNext, 1, 0)) ∷ [])
unfolding reading
one_came = refl

both_came : Gives (fed (hex "6869")) (
    (hex "d18443a10105a0 f6", (More, 0, 1)) ∷
    (hex "d18443a10105a0 f6 5820", (More, 0, 32)) ∷
    (hex "d18443a10105a0 f6 40", (Refused (record { reason = BadAuthLength; place = 8 }), 0, 0)) ∷ [])
unfolding reading
both_came = refl
