-- The numbers and names of the reasons, and the reasons that reading answers.
use Rattle.std.specs.Prelude.{ℕ, List, [], ◌∷◌, ◌++◌, codes}
use Rattle.cose_head.specs.declared.reason.Reason.{Reason}
use Rattle.cose_head.specs.declared.reason.Reason.TheVariants.{Truncated, Reserved, Indefinite, BadSimple, TooDeep, PastRoom, WrongTag, Encrypted, SeveralParties, NotFour, WrongType, NotMap, BadLabel, DuplicateLabel, BothBuckets, BadValue, CritUnprotected, CritAbsent, CritUnknown, BothIvs, NoAlg, UnknownAlg, AlgUnprotected, NoKey, AmbiguousKey, Detached, BadAuthLength, BadAuth, PayloadTooLong, CwtTagAlone, BadKeySet, UnknownKey, FloatDate, TaggedDate, Expired, NotYet, WrongAudience, EncryptedKey, PlainKey, BadConfirmation, NestedCwt, Trailing, Attached}

abbrev pub number_of : Reason → ℕ
number_of Truncated = 1
number_of Reserved = 2
number_of Indefinite = 3
number_of BadSimple = 4
number_of TooDeep = 5
number_of PastRoom = 6
number_of WrongTag = 7
number_of Encrypted = 8
number_of SeveralParties = 9
number_of NotFour = 10
number_of WrongType = 11
number_of NotMap = 12
number_of BadLabel = 13
number_of DuplicateLabel = 14
number_of BothBuckets = 15
number_of BadValue = 16
number_of CritUnprotected = 17
number_of CritAbsent = 18
number_of CritUnknown = 19
number_of BothIvs = 20
number_of NoAlg = 21
number_of UnknownAlg = 22
number_of AlgUnprotected = 23
number_of NoKey = 24
number_of AmbiguousKey = 25
number_of Detached = 26
number_of BadAuthLength = 27
number_of BadAuth = 28
number_of PayloadTooLong = 29
number_of CwtTagAlone = 30
number_of BadKeySet = 31
number_of UnknownKey = 32
number_of FloatDate = 33
number_of TaggedDate = 34
number_of Expired = 35
number_of NotYet = 36
number_of WrongAudience = 37
number_of EncryptedKey = 38
number_of PlainKey = 39
number_of BadConfirmation = 40
number_of NestedCwt = 41
number_of Trailing = 42
number_of Attached = 43

abbrev pub name_of : Reason → List ℕ
name_of Truncated = codes "Truncated"
name_of Reserved = codes "Reserved"
name_of Indefinite = codes "Indefinite"
name_of BadSimple = codes "BadSimple"
name_of TooDeep = codes "TooDeep"
name_of PastRoom = codes "PastRoom"
name_of WrongTag = codes "WrongTag"
name_of Encrypted = codes "Encrypted"
name_of SeveralParties = codes "SeveralParties"
name_of NotFour = codes "NotFour"
name_of WrongType = codes "WrongType"
name_of NotMap = codes "NotMap"
name_of BadLabel = codes "BadLabel"
name_of DuplicateLabel = codes "DuplicateLabel"
name_of BothBuckets = codes "BothBuckets"
name_of BadValue = codes "BadValue"
name_of CritUnprotected = codes "CritUnprotected"
name_of CritAbsent = codes "CritAbsent"
name_of CritUnknown = codes "CritUnknown"
name_of BothIvs = codes "BothIvs"
name_of NoAlg = codes "NoAlg"
name_of UnknownAlg = codes "UnknownAlg"
name_of AlgUnprotected = codes "AlgUnprotected"
name_of NoKey = codes "NoKey"
name_of AmbiguousKey = codes "AmbiguousKey"
name_of Detached = codes "Detached"
name_of BadAuthLength = codes "BadAuthLength"
name_of BadAuth = codes "BadAuth"
name_of PayloadTooLong = codes "PayloadTooLong"
name_of CwtTagAlone = codes "CwtTagAlone"
name_of BadKeySet = codes "BadKeySet"
name_of UnknownKey = codes "UnknownKey"
name_of FloatDate = codes "FloatDate"
name_of TaggedDate = codes "TaggedDate"
name_of Expired = codes "Expired"
name_of NotYet = codes "NotYet"
name_of WrongAudience = codes "WrongAudience"
name_of EncryptedKey = codes "EncryptedKey"
name_of PlainKey = codes "PlainKey"
name_of BadConfirmation = codes "BadConfirmation"
name_of NestedCwt = codes "NestedCwt"
name_of Trailing = codes "Trailing"
name_of Attached = codes "Attached"

-- The reasons for which a head outside an item is refused; those for which an item is refused; and those for which
-- bytes that should be exactly one item are refused, whose room is their number.
abbrev pub head_reasons : List Reason
head_reasons = Reserved ∷ Indefinite ∷ BadSimple ∷ []

abbrev pub item_reasons : List Reason
item_reasons = Truncated ∷ (head_reasons ++ TooDeep ∷ PastRoom ∷ [])

abbrev pub whole_reasons : List Reason
whole_reasons = head_reasons ++ TooDeep ∷ PastRoom ∷ Trailing ∷ []
