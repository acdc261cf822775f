-- Laws of the reading of a message.
use Rattle.std.specs.Prelude.{◌≡◌, ◌≢◌, ◌↔◌, ℕ, ◌+◌, ◌-◌, ◌*◌, ◌^◌, ◌<◌, ◌≤◌, min, List, ◌++◌, length, true, false, Option, Ok, IfErr, ⊤}
use Rattle.cose_head.specs.declared.reason.Reason.{Reason}
use Rattle.cose_head.specs.declared.reason.Reason.TheVariants.{Truncated}
use Rattle.cose_msg.specs.declared.verdict.Verdict.TheVariants.{Authentic, Refused}
use Rattle.cose_msg.specs.Answer.{Answer, decided, complete, shaped, refused, Chosen, Headers, Whole}
use Rattle.cose_msg.specs.Message.{Decides, Setting, message, verdict_of, compared, verified, uncompared, comparing, verifying, inspecting}
use Rattle.cose_msg.specs.Reading.{Reading, Phase}
use Rattle.cose_msg.specs.Rules.{Rules}
use Rattle.cose_msg.specs.Source.{Source, attached, detached, is_detached_from, with_came}

-- A settled reading stays when bytes follow.
abbrev pub Stays : Phase → Type 0
Stays phase = (more : List ℕ) (place : ℕ) (bytes : List ℕ) → (phase place bytes).settled ≡ true → phase place (bytes ++ more) ≡ phase place bytes

-- Where the bytes end first, the answer is Truncated at their number.
abbrev pub EndsTruncated : Phase → Type 0
EndsTruncated phase = (place : ℕ) (bytes : List ℕ) → (phase place bytes).settled ≡ false → (phase place bytes).answer ≡ refused Truncated (place + length bytes)

abbrev pub MessageStays : Type 0
MessageStays = (rules : Rules) (bytes more : List ℕ) → (message rules bytes).settled ≡ true → message rules (bytes ++ more) ≡ message rules bytes

abbrev pub MessageEndsTruncated : Type 0
MessageEndsTruncated = (rules : Rules) (bytes : List ℕ) → (message rules bytes).settled ≡ false → (message rules bytes).answer ≡ refused Truncated (length bytes)

-- What isn't settled by all bytes wasn't settled by fewer.
abbrev pub OpenEarlier : Type 0
OpenEarlier = (rules : Rules) (bytes more : List ℕ) → (message rules (bytes ++ more)).settled ≡ false → (message rules bytes).settled ≡ false

-- So a settled verdict stays, whatever decides on signatures.
abbrev pub VerdictStays : Type 0
VerdictStays = (room nesting : ℕ) (setting : Setting) (decides : Decides) (bytes more : List ℕ) →
    (message (verifying room nesting setting decides) bytes).settled ≡ true →
    verdict_of room nesting setting decides (bytes ++ more) ≡ verdict_of room nesting setting decides bytes

-- The rules, where these bytes of a detached payload have come.
abbrev pub receiving : List ℕ → Rules → Rules
receiving came rules = record rules { source = with_came came rules.source }

-- Where no byte of a detached payload is wanted, none that comes changes anything; nor does it before the message is settled.
abbrev pub PayloadStays : Type 0
PayloadStays = (rules : Rules) (came more bytes : List ℕ) → (message (receiving came rules) bytes).payload_wanted ≡ 0 →
    message (receiving (came ++ more) rules) bytes ≡ message (receiving came rules) bytes

abbrev pub OpenStays : Type 0
OpenStays = (rules : Rules) (came more bytes : List ℕ) → (message (receiving came rules) bytes).settled ≡ false →
    message (receiving (came ++ more) rules) bytes ≡ message (receiving came rules) bytes

-- A refusal for a reason other than that bytes are missing, or no refusal.
abbrev pub IsDefinite : Answer → Type 0
IsDefinite (decided (Refused refusal)) = refusal.reason ≢ Truncated
IsDefinite (decided (Authentic kind alg payload taken)) = ⊤
IsDefinite (complete whole) = ⊤
IsDefinite (shaped kind payload auth taken) = ⊤

-- A refusal's place is at most this one, and a message ends no later.
abbrev pub PlacedBy : ℕ → Answer → Type 0
PlacedBy end (decided (Refused refusal)) = refusal.place ≤ end
PlacedBy end (decided (Authentic kind alg payload taken)) = taken ≤ end
PlacedBy end (complete whole) = whole.taken ≤ end
PlacedBy end (shaped kind payload auth taken) = taken ≤ end

-- A refusal's place is before this one.
abbrev pub PlacedBefore : ℕ → Answer → Type 0
PlacedBefore end (decided (Refused refusal)) = refusal.place < end
PlacedBefore end (decided (Authentic kind alg payload taken)) = taken < end
PlacedBefore end (complete whole) = whole.taken < end
PlacedBefore end (shaped kind payload auth taken) = taken < end

-- What the rules themselves answer is never Truncated, and its place is within the message.
pub record AreFair (rules : Rules) : Type 0 where
  pub choice : (headers : Headers) → IfErr (rules.choice headers) (λ reason. reason ≢ Truncated)
  pub definite : (whole : Whole) → IsDefinite (rules.finish whole)
  pub inside : (whole : Whole) → whole.auth_at ≤ whole.taken → PlacedBy whole.taken (rules.finish whole)

-- The rules of verifying and inspecting are such.
pub record AllAreFair : Type 0 where
  pub uncompared : (room nesting : ℕ) (setting : Setting) → AreFair (uncompared room nesting setting)
  pub comparing : (room nesting : ℕ) (setting : Setting) → AreFair (comparing room nesting setting)
  pub verifying : (room nesting : ℕ) (setting : Setting) (decides : Decides) → AreFair (verifying room nesting setting decides)
  pub inspecting : (room nesting : ℕ) (setting : Setting) → AreFair (inspecting room nesting setting)

-- Then of a settled reading nothing is Truncated, unless bytes of a detached payload are missing.
abbrev pub MessageIsDefinite : Type 0
MessageIsDefinite = (rules : Rules) → AreFair rules → (bytes : List ℕ) → (message rules bytes).settled ≡ true → (message rules bytes).payload_wanted ≡ 0 →
    IsDefinite (message rules bytes).answer

-- A message that has its payload awaits nothing of one from elsewhere. So once it is settled, nothing of it is Truncated.
abbrev pub AttachedAwaitsNothing : Type 0
AttachedAwaitsNothing = (rules : Rules) → is_detached_from rules.source ≡ false → (bytes : List ℕ) → (message rules bytes).payload_wanted ≡ 0

abbrev pub AttachedIsDefinite : Type 0
AttachedIsDefinite = (rules : Rules) → is_detached_from rules.source ≡ false → AreFair rules → (bytes : List ℕ) → (message rules bytes).settled ≡ true →
    IsDefinite (message rules bytes).answer

-- A reading isn't settled exactly where its answer is Truncated at the number of bytes. (One that awaits bytes of a detached
-- payload is settled, and Truncated before them.)
abbrev pub OpenIsTruncated : Type 0
OpenIsTruncated = (rules : Rules) → AreFair rules → (bytes : List ℕ) →
    ((message rules bytes).settled ≡ false) ↔ ((message rules bytes).answer ≡ refused Truncated (length bytes))

-- And no place of it is after the bytes.
abbrev pub MessageIsPlacedInside : Type 0
MessageIsPlacedInside = (rules : Rules) → AreFair rules → (bytes : List ℕ) → PlacedBy (length bytes) (message rules bytes).answer

-- The most bytes of a payload; and the most bytes of a tag or signature under the key that is chosen.
abbrev pub payload_at_most : ℕ → ℕ
payload_at_most payload_limit = min payload_limit (2 ^ 56 - 1)

-- The most bytes of it that are in the message: none of a detached one are.
abbrev pub payload_inside : Source → ℕ → ℕ
payload_inside attached payload_limit = payload_at_most payload_limit
payload_inside (detached came detached_length) payload_limit = 0

abbrev pub AuthIsAtMost : ℕ → Rules → Type 0
AuthIsAtMost most rules = (headers : Headers) (chosen : Option Chosen) (n : ℕ) → rules.choice headers ≡ Ok chosen →
    rules.auth_fits chosen n ≡ true → n ≤ most

-- This many bytes settle a message, whatever they are: 9 for each of its six heads, the room of both buckets, the
-- payload, and the tag or signature.
abbrev pub MessageIsBounded : Type 0
MessageIsBounded = (rules : Rules) (most : ℕ) → AuthIsAtMost most rules → (bytes : List ℕ) →
    2 * rules.room + 54 + payload_inside rules.source rules.payload_limit + most ≤ length bytes → (message rules bytes).settled ≡ true

-- A signature has at most 132 bytes (RFC 9053 section 2.1), and a tag fewer.
abbrev pub VerifiedWithin : (ℕ → ℕ → Setting → Rules) → Type 0
VerifiedWithin rules = (room nesting : ℕ) (setting : Setting) (bytes : List ℕ) →
    2 * room + 186 + payload_inside setting.source setting.payload_limit ≤ length bytes → (message (rules room nesting setting) bytes).settled ≡ true

abbrev pub MessageIsVerifiedWithin : Type 0
MessageIsVerifiedWithin = VerifiedWithin uncompared × VerifiedWithin comparing
    × ((decides : Decides) → VerifiedWithin (λ room nesting setting. verifying room nesting setting decides))

abbrev pub MessageIsInspectedWithin : Type 0
MessageIsInspectedWithin = (room nesting : ℕ) (setting : Setting) (bytes : List ℕ) →
    2 * room + 65589 + payload_inside setting.source setting.payload_limit ≤ length bytes → (message (inspecting room nesting setting) bytes).settled ≡ true

-- A reading whose answer is changed.
abbrev pub answered : (Answer → Answer) → Reading → Reading
answered change reading = record { answer = change reading.answer; settled = reading.settled; wanted = reading.wanted; payload_wanted = reading.payload_wanted; so_far = reading.so_far }

-- Where two rules differ only in the result for a whole message, so do the answers. Refusals before that are the same.
abbrev pub FinishGoesLast : Type 0
FinishGoesLast = (rules : Rules) (finish : Whole → Answer) (change : Answer → Answer) →
    ((reason : Reason) (place : ℕ) → change (refused reason place) ≡ refused reason place) →
    ((whole : Whole) → finish whole ≡ change (rules.finish whole)) →
    (bytes : List ℕ) → message (record rules { finish = finish }) bytes ≡ answered change (message rules bytes)

-- A whole message whose tag is compared then, or whose signature is decided on then.
abbrev pub then_compared : List ℕ → Answer → Answer
then_compared aad (complete whole) = compared aad whole.chosen whole
then_compared aad (decided verdict) = decided verdict
then_compared aad (shaped kind payload auth taken) = shaped kind payload auth taken

abbrev pub then_verified : List ℕ → Decides → Answer → Answer
then_verified aad decides (complete whole) = verified aad decides whole.chosen (complete whole)
then_verified aad decides (decided verdict) = decided verdict
then_verified aad decides (shaped kind payload auth taken) = shaped kind payload auth taken

-- Comparing is reading everything and then comparing, and verifying is that and then deciding on the signature.
abbrev pub ComparingGoesLast : Type 0
ComparingGoesLast = (room nesting : ℕ) (setting : Setting) (bytes : List ℕ) →
    message (comparing room nesting setting) bytes ≡ answered (then_compared setting.aad) (message (uncompared room nesting setting) bytes)

abbrev pub VerifyingGoesLast : Type 0
VerifyingGoesLast = (room nesting : ℕ) (setting : Setting) (decides : Decides) (bytes : List ℕ) →
    message (verifying room nesting setting decides) bytes ≡
    answered (then_verified setting.aad decides) (message (comparing room nesting setting) bytes)
