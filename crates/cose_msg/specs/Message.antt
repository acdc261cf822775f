-- The verdict of the bytes of a message, in a context (RFC 9052 sections 4.4 and 6.3).
use Rattle.std.specs.Prelude.{ℕ, ℤ, pos, Bool, List, [], length, Option, Some, None, Result, Ok, Err, nat_le, ◌==◌, if◌then◌else◌}
use Rattle.std.specs.Str.{bytes_eq}
use Rattle.cose_head.specs.declared.kind.Kind.{Kind}
use Rattle.cose_head.specs.declared.kind.Kind.TheVariants as kinds
use Rattle.cose_head.specs.declared.reason.Reason.{Reason}
use Rattle.cose_head.specs.declared.reason.Reason.TheVariants.{UnknownAlg, BadAuth}
use Rattle.cose_head.specs.declared.algorithm.Alg.{Alg}
use Rattle.cose_head.specs.Algorithm.{algorithm_numbered, auth_length_of, is_mac_of}
use Rattle.cose_mac.specs.Hmac.{mac}
use Rattle.cose_mac.specs.Hash.{digest_of}
use Rattle.cose_mac.specs.Structure.{structure_of}
use Rattle.cose_map.specs.Bucket.{alg_of, kid_of}
use Rattle.cose_map.specs.Choice.{Question, chosen}
use Rattle.cose_map.specs.Key.Value.{KeyValue, MaterialValue, symmetric, elliptic}
use Rattle.cose_map.specs.Label.{LabelValue}
use Rattle.cose_msg.specs.declared.context.Wanted.{Wanted}
use Rattle.cose_msg.specs.declared.verdict.Verdict.TheVariants.{Authentic}
use Rattle.cose_msg.specs.Answer.{Answer, decided, complete, shaped, refused, Chosen, Headers, Whole}
use Rattle.cose_msg.specs.Front.{first_head}
use Rattle.cose_msg.specs.Reading.{Reading}
use Rattle.cose_msg.specs.Rules.{Rules}
use Rattle.cose_msg.specs.Source.{Source, with_came}

-- The answer for the bytes, from the first on.
unfoldable pub message : Rules → List ℕ → Reading
message rules bytes = first_head rules 0 bytes

-- The setting of a verification: the usable keys, the externally supplied data, the kinds that are wanted, whether the
-- CWT tag may precede the message's own, the labels that the application understands, the most bytes of a payload,
-- where the payload is, and whether an inspection is one whose message is authenticated elsewhere.
pub record Setting : Type 0 where
  pub keys : List KeyValue
  pub aad : List ℕ
  pub wanted : Wanted
  pub cwt : Bool
  pub understood : List LabelValue
  pub payload_limit : ℕ
  pub source : Source
  pub elsewhere : Bool

-- The same, where these bytes of a detached payload have come.
abbrev pub given : List ℕ → Setting → Setting
given came setting = record setting { source = with_came came setting.source }

-- The operations that verify (RFC 9052 section 7.1, table 5): 10 a MAC, 2 a signature.
abbrev pub operation_of : Kind → ℤ
operation_of kinds.Mac0 = pos 10
operation_of kinds.Sign1 = pos 2

abbrev pub either : {A : Type 0} → Option A → Option A → Option A
either (Some x) other = Some x
either None other = other

-- What a message asks of its key.
abbrev pub question_of : Headers → Question
question_of headers = record {
  kind = headers.kind;
  operation = operation_of headers.kind;
  protected_alg = alg_of headers.protected_pairs;
  unprotected_alg = alg_of headers.unprotected_pairs;
  kid = either (kid_of headers.protected_pairs) (kid_of headers.unprotected_pairs);
}

abbrev pub with_algorithm : KeyValue → Option Alg → Result Chosen Reason
with_algorithm key (Some alg) = Ok (record { key = key; alg = alg })
with_algorithm key None = Err UnknownAlg

abbrev pub past_chosen : Result (KeyValue × ℤ) Reason → Result Chosen Reason
past_chosen (Ok found) = with_algorithm found.0 (algorithm_numbered found.1)
past_chosen (Err reason) = Err reason

-- The one key that fits, with its algorithm (RFC 9052 section 7.1).
abbrev pub found_key : List KeyValue → Headers → Result Chosen Reason
found_key keys headers = past_chosen (chosen (question_of headers) keys)

abbrev pub as_choice : Result Chosen Reason → Result (Option Chosen) Reason
as_choice (Ok found) = Ok (Some found)
as_choice (Err reason) = Err reason

abbrev pub key_choice_of : List KeyValue → Headers → Result (Option Chosen) Reason
key_choice_of keys headers = as_choice (found_key keys headers)

-- A tag or signature has the length of its algorithm (RFC 9053 sections 2.1 and 3.1). Of a message that is only inspected no
-- more is asked than that it isn't longer than 65,535 bytes.
abbrev pub has_auth_length : Option Chosen → ℕ → Bool
has_auth_length (Some found) n = n == auth_length_of found.alg
has_auth_length None n = nat_le n 65535

-- The protected header of the structure: its bytes as received, or none where the bucket is empty (RFC 9052 section 3).
abbrev pub protected_content : Headers → List ℕ
protected_content headers = if length headers.protected_pairs == 0 then [] else headers.protected

-- The bytes that are authenticated, of a payload and the externally supplied data.
unfoldable pub structure : List ℕ → Headers → List ℕ → List ℕ
structure aad headers payload = structure_of headers.kind (protected_content headers) aad payload

-- The secret of a symmetric key. (No other key is chosen for a MAC.)
abbrev pub secret_of : MaterialValue → List ℕ
secret_of (symmetric secret) = secret
secret_of (elliptic curve x y) = []

abbrev pub tag_of : List ℕ → Chosen → Whole → List ℕ
tag_of aad found whole = mac found.alg (secret_of found.key.material) (structure aad whole.headers whole.payload)

abbrev pub digest_signed : List ℕ → Chosen → Whole → List ℕ
digest_signed aad found whole = digest_of found.alg (structure aad whole.headers whole.payload)

-- The verdict on a message that is whole: authentic, or BadAuth at the head of the tag or signature.
abbrev pub judged : Bool → Chosen → Whole → Answer
judged holds found whole =
    if holds then decided (Authentic whole.headers.kind found.alg (length whole.payload) whole.taken) else
    refused BadAuth whole.auth_at

-- The decision on a signature: of a key, the digest that was signed and the signature.
abbrev pub Decides : Type 0
Decides = KeyValue → List ℕ → List ℕ → Bool

-- The tag of a COSE_Mac0 is compared with the MAC of the structure (RFC 9052 section 6.3).
abbrev pub compare_tag : List ℕ → Chosen → Whole → Answer
compare_tag aad found whole = judged (bytes_eq whole.auth (tag_of aad found whole)) found whole

-- The signature of a COSE_Sign1 is left to the `EcVerifier` (RFC 9052 section 4.4).
abbrev pub compared : List ℕ → Option Chosen → Whole → Answer
compared aad (Some found) whole = if is_mac_of found.alg then compare_tag aad found whole else complete whole
compared aad None whole = complete whole

abbrev pub verified : List ℕ → Decides → Option Chosen → Answer → Answer
verified aad decides (Some found) (complete whole) = judged (decides found.key (digest_signed aad found whole) whole.auth) found whole
verified aad decides None (complete whole) = complete whole
verified aad decides chosen (decided verdict) = decided verdict
verified aad decides chosen (shaped kind payload auth taken) = shaped kind payload auth taken

abbrev pub shape_of : Whole → Answer
shape_of whole = shaped whole.headers.kind (length whole.payload) (length whole.auth) whole.taken

abbrev pub rules_with : ℕ → ℕ → Setting → (Headers → Result (Option Chosen) Reason) → (Whole → Answer) → Rules
rules_with room nesting setting choice finish = record {
  room = room;
  nesting = nesting;
  wanted = setting.wanted;
  cwt = setting.cwt;
  understood = setting.understood;
  payload_limit = setting.payload_limit;
  source = setting.source;
  choice = choice;
  auth_fits = has_auth_length;
  finish = finish;
}

-- Reading without the comparison; with the tags compared and the signatures left; with both decided; and inspecting,
-- where no key is chosen.
abbrev pub uncompared : ℕ → ℕ → Setting → Rules
uncompared room nesting setting = rules_with room nesting setting (key_choice_of setting.keys) complete

abbrev pub comparing : ℕ → ℕ → Setting → Rules
comparing room nesting setting = rules_with room nesting setting (key_choice_of setting.keys) (λ whole. compared setting.aad whole.chosen whole)

abbrev pub verifying : ℕ → ℕ → Setting → Decides → Rules
verifying room nesting setting decides =
    rules_with room nesting setting (key_choice_of setting.keys) (λ whole. verified setting.aad decides whole.chosen (compared setting.aad whole.chosen whole))

abbrev pub inspecting : ℕ → ℕ → Setting → Rules
inspecting room nesting setting = rules_with room nesting setting (λ headers. Ok None) shape_of

-- The verdict of all bytes of a message.
abbrev pub verdict_of : ℕ → ℕ → Setting → Decides → List ℕ → Answer
verdict_of room nesting setting decides bytes = (message (verifying room nesting setting decides) bytes).answer
