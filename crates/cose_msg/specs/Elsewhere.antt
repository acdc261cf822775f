-- The verdict where a message is authenticated elsewhere: the caller, who has the hash or the key, states what it found.
use Rattle.std.specs.Prelude.{◌≡◌, ◌≢◌, ◌&&◌, not, ◌++◌, ℕ, Bool, true, false, List, Option, Some, None, if◌then◌else◌}
use Rattle.std.specs.Str.{bytes_eq}
use Rattle.cose_head.specs.declared.reason.Reason.TheVariants.{BadAuth}
use Rattle.cose_head.specs.Algorithm.{is_mac_of}
use Rattle.cose_head.specs.declared.algorithm.Alg.{Alg}
use Rattle.cose_map.specs.declared.key.Key.{Key}
use Rattle.cose_map.specs.Key.View.{key_value}
use Rattle.cose_msg.specs.Reading.{Reading}
use Rattle.cose_msg.specs.declared.reader.stated.Stated.{Stated}
use Rattle.cose_msg.specs.declared.reader.stated.Stated.TheVariants as ways
use Rattle.cose_msg.specs.declared.verdict.Verdict.{Verdict}
use Rattle.cose_msg.specs.Answer.{Answer, Chosen, Whole, decided, complete, shaped, refused}
use Rattle.cose_msg.specs.Hashing.{authenticator}
use Rattle.cose_msg.specs.Message.{Decides, Setting, digest_signed, given, judged, message, structure, tag_of, uncompared, verdict_of}

-- Whether a tag or signature authenticates a structure (RFC 9052 sections 6.3 and 4.4) under the key that was chosen.
abbrev pub Authenticates : Type 0
Authenticates = Chosen → List ℕ → List ℕ → Bool

abbrev pub authenticated : List ℕ → Authenticates → Option Chosen → Whole → Answer
authenticated aad holds (Some found) whole = judged (holds found (structure aad whole.headers whole.payload) whole.auth) found whole
authenticated aad holds None whole = complete whole

abbrev pub then_authenticated : List ℕ → Authenticates → Answer → Answer
then_authenticated aad holds (complete whole) = authenticated aad holds whole.chosen whole
then_authenticated aad holds (decided verdict) = decided verdict
then_authenticated aad holds (shaped kind payload auth taken) = shaped kind payload auth taken

-- The verdict of all bytes of a message: it is read, its key is chosen, and then this says whether it is authentic.
abbrev pub verdict_by : ℕ → ℕ → Setting → Authenticates → List ℕ → Answer
verdict_by room nesting setting holds bytes = then_authenticated setting.aad holds (message (uncompared room nesting setting) bytes).answer

-- A tag is compared with what is computed of the structure, and a signature is decided on with it.
abbrev pub authenticates_by : (Chosen → List ℕ → List ℕ) → Decides → Authenticates
authenticates_by computed decides found message auth =
    if is_mac_of found.alg then bytes_eq auth (computed found message) else decides found.key (computed found message) auth

-- What the caller states: the MAC of the structure, with which the tag is compared; or whether the signature holds. No MAC
-- authenticates a COSE_Sign1, and no such answer a COSE_Mac0.
abbrev pub stated_mac : List ℕ → Authenticates
stated_mac mac found message auth = is_mac_of found.alg && bytes_eq auth mac

abbrev pub stated_answer : Bool → Authenticates
stated_answer holds found message auth = not (is_mac_of found.alg) && holds

abbrev pub stated_by : Stated → Authenticates
stated_by (ways.Mac mac) = stated_mac mac.now
stated_by (ways.Answer holds) = stated_answer holds

-- ---- what the caller is asked

-- These bytes, and then the payload, are the structure that is authenticated: however the message goes on, if it is read whole.
abbrev pub IsFrontOf : List ℕ → (List ℕ → Reading) → List ℕ → Type 0
IsFrontOf aad reading front = (more : List ℕ) (whole : Whole) → (reading more).answer ≡ complete whole → front ++ whole.payload ≡ structure aad whole.headers whole.payload

-- And this is its key.
abbrev pub AsksKey : (List ℕ → Reading) → Chosen → Type 0
AsksKey reading found = (more : List ℕ) (whole : Whole) → (reading more).answer ≡ complete whole → whole.chosen ≡ Some found

-- This is the tag or signature of a message that is read whole.
abbrev pub HasSignature : Answer → List ℕ → Type 0
HasSignature answer signature = (whole : Whole) → answer ≡ complete whole → signature ≡ whole.auth

-- The reading after these bytes of a message, and of its payload where that is detached, whatever bytes of either follow.
abbrev pub HoweverItGoesOn : ℕ → ℕ → Setting → List ℕ → List ℕ → ((List ℕ → Reading) → Type 0) → Type 0
HoweverItGoesOn room nesting setting taken payload_so_far fact =
    (come : List ℕ) → fact (λ more. message (uncompared room nesting (given (payload_so_far ++ come) setting)) (taken ++ more))

-- The key, and the algorithm, of the code.
abbrev pub key_asked : Key × Alg → Chosen
key_asked asked = record { key = key_value asked.0; alg = asked.1 }

-- ---- laws

-- The verdict is the one where the MAC or the digest of the structure is what is computed.
abbrev pub VerdictIsInstance : Type 0
VerdictIsInstance = (room nesting : ℕ) (setting : Setting) (decides : Decides) (bytes : List ℕ) →
    verdict_of room nesting setting decides bytes ≡ verdict_by room nesting setting (authenticates_by authenticator decides) bytes

-- The bytes are read as a message all of whose bytes are there, with this key.
pub record IsWhole (room nesting : ℕ) (setting : Setting) (bytes : List ℕ) (found : Chosen) (whole : Whole) : Type 0 where
  pub reads : (message (uncompared room nesting setting) bytes).answer ≡ complete whole
  pub chosen : whole.chosen ≡ Some found

-- Where the caller states the MAC of the structure under the chosen key, the verdict is that of the message.
abbrev pub StatedMacIsVerdict : Type 0
StatedMacIsVerdict = (room nesting : ℕ) (setting : Setting) (decides : Decides) (bytes mac : List ℕ) (found : Chosen) (whole : Whole) →
    IsWhole room nesting setting bytes found whole → is_mac_of found.alg ≡ true → mac ≡ tag_of setting.aad found whole →
    verdict_by room nesting setting (stated_mac mac) bytes ≡ verdict_of room nesting setting decides bytes

-- So it is where the caller's answer about the signature is right.
abbrev pub StatedAnswerIsVerdict : Type 0
StatedAnswerIsVerdict = (room nesting : ℕ) (setting : Setting) (decides : Decides) (bytes : List ℕ) (holds : Bool) (found : Chosen) (whole : Whole) →
    IsWhole room nesting setting bytes found whole → is_mac_of found.alg ≡ false → holds ≡ decides found.key (digest_signed setting.aad found whole) whole.auth →
    verdict_by room nesting setting (stated_answer holds) bytes ≡ verdict_of room nesting setting decides bytes

-- Any bytes but those of the tag are refused.
abbrev pub OtherMacIsRefused : Type 0
OtherMacIsRefused = (room nesting : ℕ) (setting : Setting) (bytes mac : List ℕ) (found : Chosen) (whole : Whole) →
    IsWhole room nesting setting bytes found whole → mac ≢ whole.auth →
    verdict_by room nesting setting (stated_mac mac) bytes ≡ refused BadAuth whole.auth_at

-- What is decided before the authentication is the same, whatever is stated.
abbrev pub DecidedBefore : Type 0
DecidedBefore = (room nesting : ℕ) (setting : Setting) (decides : Decides) (holds : Authenticates) (bytes : List ℕ) (verdict : Verdict) →
    (message (uncompared room nesting setting) bytes).answer ≡ decided verdict →
    (verdict_by room nesting setting holds bytes ≡ decided verdict) × (verdict_of room nesting setting decides bytes ≡ decided verdict)
