-- Bytes that end with an authentic message, bytes that go on after one, and bytes that are refused.
use Rattle.std.proofs.Common.{◌≡◌, Some, Ok, Err, refl}
use Rattle.cose_head.specs.declared.algorithm.Alg.TheVariants.{Hmac256}
use Rattle.cose_head.specs.declared.kind.Kind.TheVariants.{Mac0}
use Rattle.cose_head.specs.declared.reason.Reason.TheVariants.{BadAuth, Trailing}
use Rattle.cose_msg.specs.declared.verdict.Verdict.TheVariants.{Authentic, Refused}
use Rattle.cose_msg.specs.Answer.{decided}
use Rattle.cose_msg.specs.Slice.{outcome_of}

ends_with_them : outcome_of 44 (decided (Authentic Mac0 Hmac256 2 44)) ≡ Some (Ok (Mac0, Hmac256))
ends_with_them = refl

one_byte_more : outcome_of 45 (decided (Authentic Mac0 Hmac256 2 44)) ≡ Some (Err (record { reason = Trailing; place = 44 }))
one_byte_more = refl

-- What is refused is refused for that, whatever follows.
refused_before : outcome_of 45 (decided (Refused (record { reason = BadAuth; place = 10 }))) ≡ Some (Err (record { reason = BadAuth; place = 10 }))
refused_before = refl
