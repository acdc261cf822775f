-- The payload and the head of the tag of messages, on examples, by computing (RFC 9052 sections 2, 4.2 and 6.2).
use Rattle.std.specs.Prelude.{ℕ, ◌^◌, List, [], ◌∷◌, None, refl}
use Rattle.cose_head.specs.declared.reason.Reason.TheVariants.{Truncated, Reserved, Indefinite, BadSimple, WrongType, Detached, BadAuthLength, PayloadTooLong}
use Rattle.cose_msg.specs.Answer.{Answer, refused}
use Rattle.cose_msg.proofs.WorkedMessages.{hex, Gives, reading, verdict, verdict_in, under, secret, plain, point, point_on}

-- The head of the payload: a byte string of less than 2^56 bytes. nil marks a detached payload, in one byte alone.
payload_heads : Gives (verdict plain) (
    (hex "d18443a10105a0", refused Truncated 7) ∷
    (hex "d18443a10105a0 1c", refused Reserved 7) ∷
    (hex "d18443a10105a0 5f", refused Indefinite 7) ∷
    (hex "d18443a10105a0 f816", refused BadSimple 7) ∷
    (hex "d18443a10105a0 f6", refused Detached 7) ∷
    (hex "d18443a10105a0 f916", refused Truncated 9) ∷
    (hex "d18443a10105a0 f90016", refused WrongType 7) ∷
    (hex "d18443a10105a0 fa00000016", refused WrongType 7) ∷
    (hex "d18443a10105a0 f7", refused WrongType 7) ∷
    (hex "d18443a10105a0 f5", refused WrongType 7) ∷
    (hex "d18443a10105a0 96", refused WrongType 7) ∷
    (hex "d18443a10105a0 b6", refused WrongType 7) ∷
    (hex "d18443a10105a0 d6", refused WrongType 7) ∷
    (hex "d18443a10105a0 c2", refused WrongType 7) ∷
    (hex "d18443a10105a0 16", refused WrongType 7) ∷
    (hex "d18443a10105a0 36", refused WrongType 7) ∷
    (hex "d18443a10105a0 6161", refused WrongType 7) ∷
    (hex "d18443a10105a0 7b0100000000000000", refused WrongType 7) ∷
    (hex "d18443a10105a0 5b0100000000000000", refused PayloadTooLong 7) ∷
    (hex "d18443a10105a0 5b00ffffffffffffff", refused Truncated 16) ∷ [])
unfolding reading
payload_heads = refl

-- The application may allow less, and never more.
abbrev limited : ℕ → List ℕ → Answer
limited limit bytes = verdict_in (record (under plain) { payload_limit = limit }) bytes

at_most_a_byte : Gives (limited 1) (
    (hex "d18443a10105a0 41", refused Truncated 8) ∷
    (hex "d18443a10105a0 42", refused PayloadTooLong 7) ∷
    (hex "d18443a10105a0 62", refused WrongType 7) ∷
    (hex "d18443a10105a0 f6", refused Detached 7) ∷ [])
unfolding reading
at_most_a_byte = refl

no_byte : Gives (limited 0) (
    (hex "d18443a10105a0 40", refused Truncated 8) ∷
    (hex "d18443a10105a0 41", refused PayloadTooLong 7) ∷ [])
unfolding reading
no_byte = refl

no_more_than_2_to_the_56 : Gives (limited (2 ^ 64)) (
    (hex "d18443a10105a0 5b0100000000000000", refused PayloadTooLong 7) ∷
    (hex "d18443a10105a0 5b00ffffffffffffff", refused Truncated 16) ∷ [])
unfolding reading
no_more_than_2_to_the_56 = refl

-- The payload, and the head of the tag: a byte string of the algorithm's length, here 32. Its type is looked at first.
auth_heads : Gives (verdict plain) (
    (hex "d18443a10105a0 40", refused Truncated 8) ∷
    (hex "d18443a10105a0 42", refused Truncated 8) ∷
    (hex "d18443a10105a0 4268", refused Truncated 9) ∷
    (hex "d18443a10105a0 426869", refused Truncated 10) ∷
    (hex "d18443a10105a0 426869 5f", refused Indefinite 10) ∷
    (hex "d18443a10105a0 426869 1820", refused WrongType 10) ∷
    (hex "d18443a10105a0 426869 3820", refused WrongType 10) ∷
    (hex "d18443a10105a0 426869 9820", refused WrongType 10) ∷
    (hex "d18443a10105a0 426869 b820", refused WrongType 10) ∷
    (hex "d18443a10105a0 426869 d820", refused WrongType 10) ∷
    (hex "d18443a10105a0 426869 f820", refused WrongType 10) ∷
    (hex "d18443a10105a0 426869 60", refused WrongType 10) ∷
    (hex "d18443a10105a0 426869 f6", refused WrongType 10) ∷
    (hex "d18443a10105a0 426869 7820", refused WrongType 10) ∷
    (hex "d18443a10105a0 426869 48", refused BadAuthLength 10) ∷
    (hex "d18443a10105a0 426869 581f", refused BadAuthLength 10) ∷
    (hex "d18443a10105a0 426869 5821", refused BadAuthLength 10) ∷
    (hex "d18443a10105a0 426869 590120", refused BadAuthLength 10) ∷
    (hex "d18443a10105a0 426869 5bffffffffffffffff", refused BadAuthLength 10) ∷
    (hex "d18443a10105a0 426869 5820", refused Truncated 12) ∷
    (hex "d18443a10105a0 426869 5820 00", refused Truncated 13) ∷ [])
unfolding reading
auth_heads = refl

-- The lengths of the other algorithms: HMAC 256/64, 384/384 and 512/512, and ES256, ES384 and ES512.
auth_lengths : Gives (verdict (secret None None None ∷ point None ∷ point_on 2 48 ∷ point_on 3 66 ∷ [])) (
    (hex "d18443a10104a0 40 48", refused Truncated 9) ∷
    (hex "d18443a10104a0 40 47", refused BadAuthLength 8) ∷
    (hex "d18443a10104a0 40 49", refused BadAuthLength 8) ∷
    (hex "d18443a10104a0 40 5820", refused BadAuthLength 8) ∷
    (hex "d18443a10106a0 40 5830", refused Truncated 10) ∷
    (hex "d18443a10106a0 40 582f", refused BadAuthLength 8) ∷
    (hex "d18443a10106a0 40 5831", refused BadAuthLength 8) ∷
    (hex "d18443a10106a0 40 5820", refused BadAuthLength 8) ∷
    (hex "d18443a10107a0 40 5840", refused Truncated 10) ∷
    (hex "d18443a10107a0 40 583f", refused BadAuthLength 8) ∷
    (hex "d18443a10107a0 40 5841", refused BadAuthLength 8) ∷
    (hex "d18443a10107a0 40 5830", refused BadAuthLength 8) ∷
    (hex "d28443a10126a0 40 5840", refused Truncated 10) ∷
    (hex "d28443a10126a0 40 583f", refused BadAuthLength 8) ∷
    (hex "d28443a10126a0 40 5841", refused BadAuthLength 8) ∷
    (hex "d28443a10126a0 40 5820", refused BadAuthLength 8) ∷
    (hex "d28444a1013822a0 40 5860", refused Truncated 11) ∷
    (hex "d28444a1013822a0 40 585f", refused BadAuthLength 9) ∷
    (hex "d28444a1013822a0 40 5861", refused BadAuthLength 9) ∷
    (hex "d28444a1013822a0 40 5840", refused BadAuthLength 9) ∷
    (hex "d28444a1013823a0 40 5884", refused Truncated 11) ∷
    (hex "d28444a1013823a0 40 5883", refused BadAuthLength 9) ∷
    (hex "d28444a1013823a0 40 5885", refused BadAuthLength 9) ∷
    (hex "d28444a1013823a0 40 5880", refused BadAuthLength 9) ∷
    (hex "d28444a1013823a0 40 5860", refused BadAuthLength 9) ∷ [])
unfolding reading
auth_lengths = refl
