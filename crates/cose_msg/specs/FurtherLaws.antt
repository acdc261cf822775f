-- Laws of messages whose signature the caller verifies.
use Rattle.std.specs.Prelude.{◌≡◌, ◌≢◌, ◌↔◌, ℕ, Bool, true, false, List, length, Some, Ok, Err, is_some}
use Rattle.cose_head.specs.declared.algorithm.Alg.{Alg}
use Rattle.cose_head.specs.declared.further.FurtherAlg.{FurtherAlg}
use Rattle.cose_head.specs.declared.kind.Kind.{Kind}
use Rattle.cose_head.specs.declared.reason.Reason.TheVariants.{BadAuth}
use Rattle.cose_head.specs.declared.refusal.Refusal.{Refusal}
use Rattle.cose_head.specs.Further.{signature_length_of}
use Rattle.cose_map.specs.Bucket.{alg_of}
use Rattle.cose_map.specs.Key.Okp.{OkpValue}
use Rattle.cose_msg.specs.declared.verdict.Verdict.TheVariants.{Authentic}
use Rattle.cose_msg.specs.Answer.{Headers, Whole, decided}
use Rattle.cose_msg.specs.Further.{Asked, FurtherDecides, asked_of, further_of, further_rules, okp_chosen, refuse}
use Rattle.cose_msg.specs.Grammar.{IsMessage}
use Rattle.cose_msg.specs.Message.{Decides, Setting, either, structure, verdict_of}

-- The bytes are a message by the grammar, with this payload; this algorithm is that of the one OKP key that fits; the signature is as
-- long as its curve says, and the caller's verifier says that it is one of the Sig_structure (RFC 9052 section 4.4).
pub record IsSigned (room nesting : ℕ) (setting : Setting) (keys : List OkpValue) (decides : FurtherDecides) (bytes : List ℕ) (alg : FurtherAlg) (payload : List ℕ) : Type 0 where
  pub whole : Whole
  pub message : IsMessage (further_rules room nesting setting keys) bytes whole
  pub payload_is : payload ≡ whole.payload
  pub key : OkpValue
  pub chosen : okp_chosen keys whole.headers ≡ Ok (key, alg)
  pub auth_length : length whole.auth ≡ signature_length_of key.curve
  pub holds : decides key alg (structure setting.aad whole.headers whole.payload) whole.auth ≡ true

-- Exactly then they are authentic.
abbrev pub FurtherIsMessage : Type 0
FurtherIsMessage = (room nesting : ℕ) (setting : Setting) (keys : List OkpValue) (decides : FurtherDecides) (bytes : List ℕ) (alg : FurtherAlg) (payload : List ℕ) →
    (further_of room nesting setting keys decides bytes ≡ Some (Ok (alg, payload))) ↔ IsSigned room nesting setting keys decides bytes alg payload

-- Where the verifier says no, they are refused as BadAuth; and what is refused before it is asked, is refused whatever it would say.
abbrev pub NoIsRefused : Type 0
NoIsRefused = (room nesting : ℕ) (setting : Setting) (keys : List OkpValue) (decides : FurtherDecides) (bytes : List ℕ) (asked : Asked) →
    asked_of room nesting setting keys bytes ≡ Some (Ok asked) → decides asked.key asked.alg asked.structure asked.signature ≡ false →
    further_of room nesting setting keys decides bytes ≡ Some (refuse BadAuth asked.auth_at)

abbrev pub RefusedUnasked : Type 0
RefusedUnasked = (room nesting : ℕ) (setting : Setting) (keys : List OkpValue) (decides : FurtherDecides) (bytes : List ℕ) (refusal : Refusal) →
    asked_of room nesting setting keys bytes ≡ Some (Err refusal) → further_of room nesting setting keys decides bytes ≡ Some (Err refusal)

-- A message names its algorithm in either bucket, or leaves that to the key.
abbrev pub names_algorithm : Headers → Bool
names_algorithm headers = is_some (either (alg_of headers.protected_pairs) (alg_of headers.unprotected_pairs))

-- One that names it is authentic nowhere else, whatever the other keys are, and whatever decides on its signature there.
abbrev pub AuthenticNowhereElse : Type 0
AuthenticNowhereElse = (room nesting : ℕ) (setting : Setting) (keys : List OkpValue) (decides : FurtherDecides) (bytes : List ℕ) (alg : FurtherAlg) (payload : List ℕ) →
    (signed : IsSigned room nesting setting keys decides bytes alg payload) → names_algorithm signed.whole.headers ≡ true →
    (other : Decides) (kind : Kind) (known : Alg) (n taken : ℕ) → verdict_of room nesting setting other bytes ≢ decided (Authentic kind known n taken)
