use Rattle.std.proofs.Common.{arith}
use Rattle.std.proofs.lemmas.Grind.{common_steps}
use Rattle.cose_head.proofs.reason.Reason.name.Goals as goal

pub returns-in-Truncated : goal.returns-in-Truncated
returns-in-Truncated c = grind (arith, common_steps)

pub returns-in-Reserved : goal.returns-in-Reserved
returns-in-Reserved c = grind (arith, common_steps)

pub returns-in-Indefinite : goal.returns-in-Indefinite
returns-in-Indefinite c = grind (arith, common_steps)

pub returns-in-BadSimple : goal.returns-in-BadSimple
returns-in-BadSimple c = grind (arith, common_steps)

pub returns-in-TooDeep : goal.returns-in-TooDeep
returns-in-TooDeep c = grind (arith, common_steps)

pub returns-in-PastRoom : goal.returns-in-PastRoom
returns-in-PastRoom c = grind (arith, common_steps)

pub returns-in-WrongTag : goal.returns-in-WrongTag
returns-in-WrongTag c = grind (arith, common_steps)

pub returns-in-Encrypted : goal.returns-in-Encrypted
returns-in-Encrypted c = grind (arith, common_steps)

pub returns-in-SeveralParties : goal.returns-in-SeveralParties
returns-in-SeveralParties c = grind (arith, common_steps)

pub returns-in-NotFour : goal.returns-in-NotFour
returns-in-NotFour c = grind (arith, common_steps)

pub returns-in-WrongType : goal.returns-in-WrongType
returns-in-WrongType c = grind (arith, common_steps)

pub returns-in-NotMap : goal.returns-in-NotMap
returns-in-NotMap c = grind (arith, common_steps)

pub returns-in-BadLabel : goal.returns-in-BadLabel
returns-in-BadLabel c = grind (arith, common_steps)

pub returns-in-DuplicateLabel : goal.returns-in-DuplicateLabel
returns-in-DuplicateLabel c = grind (arith, common_steps)

pub returns-in-BothBuckets : goal.returns-in-BothBuckets
returns-in-BothBuckets c = grind (arith, common_steps)

pub returns-in-BadValue : goal.returns-in-BadValue
returns-in-BadValue c = grind (arith, common_steps)

pub returns-in-CritUnprotected : goal.returns-in-CritUnprotected
returns-in-CritUnprotected c = grind (arith, common_steps)

pub returns-in-CritAbsent : goal.returns-in-CritAbsent
returns-in-CritAbsent c = grind (arith, common_steps)

pub returns-in-CritUnknown : goal.returns-in-CritUnknown
returns-in-CritUnknown c = grind (arith, common_steps)

pub returns-in-BothIvs : goal.returns-in-BothIvs
returns-in-BothIvs c = grind (arith, common_steps)

pub returns-in-NoAlg : goal.returns-in-NoAlg
returns-in-NoAlg c = grind (arith, common_steps)

pub returns-in-UnknownAlg : goal.returns-in-UnknownAlg
returns-in-UnknownAlg c = grind (arith, common_steps)

pub returns-in-AlgUnprotected : goal.returns-in-AlgUnprotected
returns-in-AlgUnprotected c = grind (arith, common_steps)

pub returns-in-NoKey : goal.returns-in-NoKey
returns-in-NoKey c = grind (arith, common_steps)

pub returns-in-AmbiguousKey : goal.returns-in-AmbiguousKey
returns-in-AmbiguousKey c = grind (arith, common_steps)

pub returns-in-Detached : goal.returns-in-Detached
returns-in-Detached c = grind (arith, common_steps)

pub returns-in-BadAuthLength : goal.returns-in-BadAuthLength
returns-in-BadAuthLength c = grind (arith, common_steps)

pub returns-in-BadAuth : goal.returns-in-BadAuth
returns-in-BadAuth c = grind (arith, common_steps)

pub returns-in-PayloadTooLong : goal.returns-in-PayloadTooLong
returns-in-PayloadTooLong c = grind (arith, common_steps)

pub returns-in-CwtTagAlone : goal.returns-in-CwtTagAlone
returns-in-CwtTagAlone c = grind (arith, common_steps)

pub returns-in-BadKeySet : goal.returns-in-BadKeySet
returns-in-BadKeySet c = grind (arith, common_steps)

pub returns-in-UnknownKey : goal.returns-in-UnknownKey
returns-in-UnknownKey c = grind (arith, common_steps)

pub returns-in-FloatDate : goal.returns-in-FloatDate
returns-in-FloatDate c = grind (arith, common_steps)

pub returns-in-TaggedDate : goal.returns-in-TaggedDate
returns-in-TaggedDate c = grind (arith, common_steps)

pub returns-in-Expired : goal.returns-in-Expired
returns-in-Expired c = grind (arith, common_steps)

pub returns-in-NotYet : goal.returns-in-NotYet
returns-in-NotYet c = grind (arith, common_steps)

pub returns-in-WrongAudience : goal.returns-in-WrongAudience
returns-in-WrongAudience c = grind (arith, common_steps)

pub returns-in-EncryptedKey : goal.returns-in-EncryptedKey
returns-in-EncryptedKey c = grind (arith, common_steps)

pub returns-in-PlainKey : goal.returns-in-PlainKey
returns-in-PlainKey c = grind (arith, common_steps)

pub returns-in-BadConfirmation : goal.returns-in-BadConfirmation
returns-in-BadConfirmation c = grind (arith, common_steps)

pub returns-in-NestedCwt : goal.returns-in-NestedCwt
returns-in-NestedCwt c = grind (arith, common_steps)

pub returns-in-Trailing : goal.returns-in-Trailing
returns-in-Trailing c = grind (arith, common_steps)

pub returns-in-Attached : goal.returns-in-Attached
returns-in-Attached c = grind (arith, common_steps)
