-- Messages that are authenticated elsewhere, on examples, by computing.
use Rattle.std.specs.Prelude.{◌≡◌, ℕ, true, false, List, [], ◌∷◌, ◌++◌, None, replicate, refl}
use Rattle.cose_head.specs.declared.kind.Kind.TheVariants.{Mac0, Sign1}
use Rattle.cose_head.specs.declared.reason.Reason.TheVariants.{BadAuth, BadAuthLength, NoKey}
use Rattle.cose_head.specs.declared.algorithm.Alg.TheVariants.{Hmac256, Es256}
use Rattle.cose_msg.specs.declared.verdict.Verdict.TheVariants.{Authentic}
use Rattle.cose_msg.specs.Answer.{Answer, decided, refused}
use Rattle.cose_msg.specs.Elsewhere.{Authenticates, stated_answer, stated_mac, then_authenticated}
use Rattle.cose_msg.specs.Message.{Setting, uncompared}
use Rattle.cose_msg.proofs.WorkedMessages.{hex, reading, under, plain, point}

-- The verdict where the caller states this.
abbrev stating : Authenticates → Setting → List ℕ → Answer
stating holds setting bytes = then_authenticated setting.aad holds (reading (uncompared 1024 4 setting) bytes).answer

abbrev mac0 : List ℕ → List ℕ
mac0 tag = hex "d18443a10105a0 426869 5820" ++ tag

abbrev sign1 : List ℕ
sign1 = hex "d28443a10126a0 40 5840" ++ replicate 64 0x5a

-- The bytes of the tag; the same without the last one; none; and others.
stated_macs : stating (stated_mac (replicate 32 0x2a)) (under plain) (mac0 (replicate 32 0x2a))
    ∷ stating (stated_mac (replicate 31 0x2a)) (under plain) (mac0 (replicate 32 0x2a))
    ∷ stating (stated_mac []) (under plain) (mac0 (replicate 32 0x2a))
    ∷ stating (stated_mac (replicate 32 0x2b)) (under plain) (mac0 (replicate 32 0x2a)) ∷ []
    ≡ decided (Authentic Mac0 Hmac256 2 44) ∷ refused BadAuth 10 ∷ refused BadAuth 10 ∷ refused BadAuth 10 ∷ []
unfolding reading
stated_macs = refl

stated_answers : stating (stated_answer true) (under (point None ∷ [])) sign1 ∷ stating (stated_answer false) (under (point None ∷ [])) sign1 ∷ []
    ≡ decided (Authentic Sign1 Es256 0 74) ∷ refused BadAuth 8 ∷ []
unfolding reading
stated_answers = refl

-- No MAC authenticates a COSE_Sign1, be it the bytes of its signature, and no answer about a signature a COSE_Mac0.
of_the_other_kind : stating (stated_mac (replicate 64 0x5a)) (under (point None ∷ [])) sign1 ∷ stating (stated_answer true) (under plain) (mac0 (replicate 32 0x2a)) ∷ []
    ≡ refused BadAuth 8 ∷ refused BadAuth 10 ∷ []
unfolding reading
of_the_other_kind = refl

-- A tag that is too short, and a message that no key fits, are refused whatever is stated.
refused_before : (holds : Authenticates) →
    stating holds (under plain) (hex "d18443a10105a0 426869 48 0102030405060708") ∷ stating holds (under []) (mac0 (replicate 32 0x2a)) ∷ []
    ≡ refused BadAuthLength 10 ∷ refused NoKey 7 ∷ []
unfolding reading
refused_before holds = refl
