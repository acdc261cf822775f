-- The header buckets of messages, on examples, by computing (RFC 9052 section 3).
use Rattle.std.specs.Prelude.{pos, [], ◌∷◌, refl}
use Rattle.cose_head.specs.declared.reason.Reason.TheVariants.{Truncated, Reserved, Indefinite, BadSimple, TooDeep, PastRoom, WrongType, NotMap, BadLabel, DuplicateLabel, BothBuckets, BadValue, CritUnprotected, CritAbsent, CritUnknown, BothIvs, Trailing}
use Rattle.cose_map.specs.Label.{number}
use Rattle.cose_msg.specs.Answer.{refused}
use Rattle.cose_msg.proofs.WorkedMessages.{hex, Gives, reading, verdict, verdict_in, under, plain}

-- The head of the protected bucket: a byte string, of no more bytes than there is room for. Its type is looked at first.
protected_heads : Gives (verdict plain) (
    (hex "d184 00", refused WrongType 2) ∷
    (hex "d184 20", refused WrongType 2) ∷
    (hex "d184 60", refused WrongType 2) ∷
    (hex "d184 80", refused WrongType 2) ∷
    (hex "d184 a0", refused WrongType 2) ∷
    (hex "d184 c0", refused WrongType 2) ∷
    (hex "d184 f6", refused WrongType 2) ∷
    (hex "d184 5f", refused Indefinite 2) ∷
    (hex "d184 590400", refused Truncated 5) ∷
    (hex "d184 590401", refused PastRoom 2) ∷
    (hex "d184 5bffffffffffffffff", refused PastRoom 2) ∷
    (hex "d184 790401", refused WrongType 2) ∷ [])
unfolding reading
protected_heads = refl

-- The protected bucket. Its fault is answered with its last byte, before a byte of the unprotected one. An empty string
-- is an empty bucket.
protected_buckets : Gives (verdict plain) (
    (hex "d184 43a101", refused Truncated 5) ∷
    (hex "d184 40", refused Truncated 3) ∷
    (hex "d184 41a0", refused Truncated 4) ∷
    (hex "d184 44a1010500", refused Trailing 6) ∷
    (hex "d184 4180", refused NotMap 3) ∷
    (hex "d184 4180 1c", refused NotMap 3) ∷
    (hex "d184 43a20105", refused PastRoom 3) ∷
    (hex "d184 41ff", refused Indefinite 3) ∷
    (hex "d184 43a1011c", refused Reserved 5) ∷
    (hex "d184 43a14000", refused BadLabel 4) ∷
    (hex "d184 43a10140", refused BadValue 5) ∷
    (hex "d184 46a20105180105", refused DuplicateLabel 6) ∷
    (hex "d184 46a10a81818100", refused Truncated 9) ∷
    (hex "d184 47a10a8181818100", refused TooDeep 8) ∷ [])
unfolding reading
protected_buckets = refl

-- The unprotected bucket: an item, which is read to its end before its labels and values are looked at. It is no string.
unprotected_buckets : Gives (verdict plain) (
    (hex "d18443a10105", refused Truncated 6) ∷
    (hex "d18443a10105 a0", refused Truncated 7) ∷
    (hex "d18443a10105 a104", refused Truncated 8) ∷
    (hex "d18443a10105 1c", refused Reserved 6) ∷
    (hex "d18443a10105 bf", refused Indefinite 6) ∷
    (hex "d18443a10105 a10af81f", refused BadSimple 8) ∷
    (hex "d18443a10105 bbffffffffffffffff", refused PastRoom 6) ∷
    (hex "d18443a10105 a10a818181 00", refused Truncated 12) ∷
    (hex "d18443a10105 a10a818181 81", refused TooDeep 11) ∷
    (hex "d18443a10105 40", refused NotMap 6) ∷
    (hex "d18443a10105 80", refused NotMap 6) ∷
    (hex "d18443a10105 a14000", refused BadLabel 7) ∷
    (hex "d18443a10105 a10400", refused BadValue 8) ∷
    (hex "d18443a10105 a20a000a", refused Truncated 10) ∷
    (hex "d18443a10105 a20a000a00", refused DuplicateLabel 9) ∷ [])
unfolding reading
unprotected_buckets = refl

-- A bucket that is no map is read to its end before it is refused for that.
no_maps : Gives (verdict plain) (
    (hex "d184 42811c", refused Reserved 4) ∷
    (hex "d184 428000", refused Trailing 4) ∷
    (hex "d184 42c1a0", refused NotMap 3) ∷
    (hex "d18443a10105 81", refused Truncated 7) ∷
    (hex "d18443a10105 811c", refused Reserved 7) ∷
    (hex "d18443a10105 8100", refused NotMap 6) ∷
    (hex "d18443a10105 c1", refused Truncated 7) ∷
    (hex "d18443a10105 c1a0", refused NotMap 6) ∷ [])
unfolding reading
no_maps = refl

-- What crit lists is looked at with both buckets, so after every fault of the unprotected one, though crit precedes it.
crit_after_the_unprotected : Gives (verdict plain) (
    (hex "d18447a201050281182a", refused Truncated 10) ∷
    (hex "d18447a201050281182a a1", refused Truncated 11) ∷
    (hex "d18447a201050281182a 80", refused NotMap 10) ∷
    (hex "d18447a201050281182a a14000", refused BadLabel 11) ∷ [])
unfolding reading
crit_after_the_unprotected = refl

-- Both buckets together, once each alone has no fault.
both_buckets : Gives (verdict plain) (
    (hex "d18443a10105 a10105", refused BothBuckets 7) ∷
    (hex "d18443a10105 a301050a000a00", refused DuplicateLabel 11) ∷
    (hex "d18446a20105028101 a1028101", refused BothBuckets 10) ∷
    (hex "d18443a10105 a1028101", refused CritUnprotected 7) ∷
    (hex "d18447a201050281182a a0", refused CritAbsent 8) ∷
    (hex "d18447a201050281182a a10105", refused CritAbsent 8) ∷
    (hex "d1844aa301050281182a182a00 a0", refused CritUnknown 8) ∷
    (hex "d18448a301050281070700 a0", refused CritUnknown 8) ∷
    (hex "d18446a20105054100 a1064100", refused BothIvs 13) ∷ [])
unfolding reading
both_buckets = refl

-- Where the application understands label 42, and where there is no key at all: the faults of the buckets come first.
understanding_42 : Gives (verdict_in (record (under plain) { understood = number (pos 42) ∷ [] })) (
    (hex "d1844aa301050281182a182a00 a0", refused Truncated 14) ∷
    (hex "d18447a201050281182a a0", refused CritAbsent 8) ∷ [])
unfolding reading
understanding_42 = refl

before_the_key : Gives (verdict []) (
    (hex "d18443a10105 a10105", refused BothBuckets 7) ∷
    (hex "d18446a20105054100 a1064100", refused BothIvs 13) ∷ [])
unfolding reading
before_the_key = refl
