-- Messages whose signature the caller verifies: EdDSA, over OKP keys (RFC 9053 section 2.2, RFC 9864 section 2.2).
use Rattle.std.specs.Prelude.{ℕ, Bool, List, length, Option, Some, None, Result, Ok, Err, nat_lt, ◌==◌, if◌then◌else◌, option_map}
use Rattle.cose_head.specs.declared.further.FurtherAlg.{FurtherAlg}
use Rattle.cose_head.specs.declared.reason.Reason.{Reason}
use Rattle.cose_head.specs.declared.reason.Reason.TheVariants.{BadAuth, BadAuthLength, Trailing}
use Rattle.cose_head.specs.declared.refusal.Refusal.{Refusal}
use Rattle.cose_head.specs.Further.{signature_length_of}
use Rattle.cose_map.specs.Choice.Further.{chosen}
use Rattle.cose_map.specs.Key.Okp.{OkpValue}
use Rattle.cose_msg.specs.declared.verdict.Verdict.TheVariants.{Authentic, Refused}
use Rattle.cose_msg.specs.Answer.{Answer, Chosen, Headers, Whole, decided, complete, shaped}
use Rattle.cose_msg.specs.Message.{Setting, message, question_of, rules_with, structure}
use Rattle.cose_msg.specs.Rules.{Rules}
use Rattle.cose_msg.specs.Source.{detached}

-- The decision on a signature (RFC 9052 section 4.4): of a key, the algorithm, the Sig_structure and the signature.
abbrev pub FurtherDecides : Type 0
FurtherDecides = OkpValue → FurtherAlg → List ℕ → List ℕ → Bool

-- The one OKP key that fits, with its algorithm (RFC 9052 section 7.1).
abbrev pub OkpChosen : Type 0
OkpChosen = OkpValue × FurtherAlg

abbrev pub okp_chosen : List OkpValue → Headers → Result OkpChosen Reason
okp_chosen keys headers = chosen (question_of headers) keys

-- No key of another type is chosen.
abbrev pub as_choice : Result OkpChosen Reason → Result (Option Chosen) Reason
as_choice (Ok found) = Ok None
as_choice (Err reason) = Err reason

abbrev pub okp_choice : List OkpValue → Headers → Result (Option Chosen) Reason
okp_choice keys headers = as_choice (okp_chosen keys headers)

-- Reading a message with these OKP keys, and without the decision.
abbrev pub further_rules : ℕ → ℕ → Setting → List OkpValue → Rules
further_rules room nesting setting keys = rules_with room nesting setting (okp_choice keys) complete

-- What is asked of a message that is whole: the key and the algorithm, the structure that is signed, and the signature, whose head
-- is at this place; its payload; and where a byte follows the message, if one does.
pub record Asked : Type 0 where
  pub key : OkpValue
  pub alg : FurtherAlg
  pub structure : List ℕ
  pub signature : List ℕ
  pub auth_at : ℕ
  pub payload : List ℕ
  pub trailing : Option ℕ

abbrev pub refuse : {A : Type 0} → Reason → ℕ → Result A Refusal
refuse reason place = Err (record { reason = reason; place = place })

abbrev pub trailing_of : ℕ → ℕ → Option ℕ
trailing_of count taken = if nat_lt taken count then Some taken else None

abbrev pub asked_with : ℕ → List ℕ → Whole → OkpChosen → Asked
asked_with count aad whole found = record {
  key = found.0;
  alg = found.1;
  structure = structure aad whole.headers whole.payload;
  signature = whole.auth;
  auth_at = whole.auth_at;
  payload = whole.payload;
  trailing = trailing_of count whole.taken;
}

-- A signature has the length that its curve says (RFC 8032 sections 5.1.6 and 5.2.6).
abbrev pub asked_of_whole : ℕ → List ℕ → Whole → OkpChosen → Result Asked Refusal
asked_of_whole count aad whole found =
    if length whole.auth == signature_length_of found.0.curve then Ok (asked_with count aad whole found) else refuse BadAuthLength whole.auth_at

-- (Of a message that is whole a key was chosen.)
abbrev pub asked_of_chosen : ℕ → List ℕ → Whole → Result OkpChosen Reason → Option (Result Asked Refusal)
asked_of_chosen count aad whole (Ok found) = Some (asked_of_whole count aad whole found)
asked_of_chosen count aad whole (Err reason) = None

abbrev pub asked_in : ℕ → List ℕ → List OkpValue → Answer → Option (Result Asked Refusal)
asked_in count aad keys (complete whole) = asked_of_chosen count aad whole (okp_chosen keys whole.headers)
asked_in count aad keys (decided (Refused refusal)) = Some (Err refusal)
asked_in count aad keys (decided (Authentic kind alg payload taken)) = None
asked_in count aad keys (shaped kind payload auth taken) = None

-- What is asked of the bytes, or why they are refused before that.
abbrev pub asked_of : ℕ → ℕ → Setting → List OkpValue → List ℕ → Option (Result Asked Refusal)
asked_of room nesting setting keys bytes =
    asked_in (length bytes) setting.aad keys (message (further_rules room nesting setting keys) bytes).answer

-- The algorithm and the payload of a message that is authentic. A byte after it is Trailing, at its place.
abbrev pub past_authentic : Asked → Option ℕ → Result (FurtherAlg × List ℕ) Refusal
past_authentic asked None = Ok (asked.alg, asked.payload)
past_authentic asked (Some place) = refuse Trailing place

-- By what the caller's verifier says: authentic, or BadAuth at the head of the signature.
abbrev pub answered : Asked → Bool → Result (FurtherAlg × List ℕ) Refusal
answered asked holds = if holds then past_authentic asked asked.trailing else refuse BadAuth asked.auth_at

abbrev pub decided_by : FurtherDecides → Result Asked Refusal → Result (FurtherAlg × List ℕ) Refusal
decided_by decides (Ok asked) = answered asked (decides asked.key asked.alg asked.structure asked.signature)
decided_by decides (Err refusal) = Err refusal

-- What the bytes are that should be one message: its algorithm and its payload, or why they are refused.
abbrev pub further_of : ℕ → ℕ → Setting → List OkpValue → FurtherDecides → List ℕ → Option (Result (FurtherAlg × List ℕ) Refusal)
further_of room nesting setting keys decides bytes = option_map (decided_by decides) (asked_of room nesting setting keys bytes)

-- The setting where the payload is detached and in memory: these bytes, all of them.
abbrev pub detached_setting : List ℕ → Setting → Setting
detached_setting payload setting = record setting { source = detached payload (length payload) }
