-- What is made is authentic.
use Rattle.std.specs.Prelude.{◌≡◌, ℕ, ◌^◌, ◌<◌, ◌≤◌, true, List, ◌++◌, length, Option, Some, None, Ok}
use Rattle.cose_head.specs.Algorithm.{algorithm_number, auth_length_of}
use Rattle.cose_head.specs.Shortest.{shortest}
use Rattle.cose_head.specs.declared.algorithm.Alg.{Alg}
use Rattle.cose_head.specs.declared.kind.Kind.{Kind}
use Rattle.cose_head.specs.declared.kind.Kind.TheVariants.{Mac0, Sign1}
use Rattle.cose_map.specs.Choice.{Question, chosen}
use Rattle.cose_map.specs.Key.Value.{KeyValue}
use Rattle.cose_map.specs.Label.{number}
use Rattle.cose_msg.specs.declared.verdict.Verdict.TheVariants.{Authentic}
use Rattle.cose_msg.specs.Answer.{decided}
use Rattle.cose_msg.specs.Front.{wants_kind}
use Rattle.cose_msg.specs.Making.{made, unprotected_made}
use Rattle.cose_msg.specs.Message.{Decides, Setting, operation_of, secret_of, verdict_of}
use Rattle.cose_msg.specs.Signing.{digest_to_sign, signed}
use Rattle.cose_msg.specs.Source.{attached}

-- What the message that is made asks of the key that verifies it (RFC 9052 section 7.1): its algorithm is protected, and
-- its kid, if there is one, is not.
abbrev pub question_asked : Kind → Alg → Option (List ℕ) → Question
question_asked kind alg kid = record {
  kind = kind;
  operation = operation_of kind;
  protected_alg = Some (number (algorithm_number alg));
  unprotected_alg = None;
  kid = kid;
}

abbrev pub question_made : Alg → Option (List ℕ) → Question
question_made alg kid = question_asked Mac0 alg kid

-- The verifier accepts the message: it fits, its kind is wanted, and one key fits, with the same secret.
pub record Admits (room nesting : ℕ) (setting : Setting) (alg : Alg) (secret : List ℕ) (kid : Option (List ℕ)) (payload : List ℕ) : Type 0 where
  -- the sizes of any verifier; a bucket that is a map has a nesting of 1
  pub some_room : 16 ≤ room
  pub limit : room ≤ 65535
  pub nests : 1 ≤ nesting
  -- the unprotected header and the payload
  pub unprotected_fits : length (shortest (unprotected_made kid)) ≤ room
  pub payload_below : length payload < 2 ^ 56
  pub payload_within : length payload ≤ setting.payload_limit
  pub payload_inside : setting.source ≡ attached
  -- the kind and the key
  pub wanted : wants_kind setting.wanted Mac0 ≡ true
  pub key : KeyValue
  pub secret_is : secret_of key.material ≡ secret
  pub chosen : chosen (question_made alg kid) setting.keys ≡ Ok (key, algorithm_number alg)

-- What is made under the same external data is authentic there, whatever bytes follow it.
abbrev pub MadeIsAuthentic : Type 0
MadeIsAuthentic = (room nesting : ℕ) (setting : Setting) (decides : Decides) (alg : Alg) (secret : List ℕ) (kid : Option (List ℕ)) (payload more : List ℕ) →
    Admits room nesting setting alg secret kid payload →
    let message = made alg secret kid setting.aad payload in
    verdict_of room nesting setting decides (message ++ more) ≡ decided (Authentic Mac0 alg (length payload) (length message))

-- The verifier accepts the message that is made with this signature: it fits, its kind is wanted, one key fits, and the caller's verifier
-- answers that the signature of this length is good for the digest (RFC 9052 section 4.4).
pub record AdmitsSigned (room nesting : ℕ) (setting : Setting) (decides : Decides) (alg : Alg) (kid : Option (List ℕ)) (payload signature : List ℕ) : Type 0 where
  pub some_room : 16 ≤ room
  pub limit : room ≤ 65535
  pub nests : 1 ≤ nesting
  pub unprotected_fits : length (shortest (unprotected_made kid)) ≤ room
  pub payload_below : length payload < 2 ^ 56
  pub payload_within : length payload ≤ setting.payload_limit
  pub payload_inside : setting.source ≡ attached
  pub wanted : wants_kind setting.wanted Sign1 ≡ true
  pub key : KeyValue
  pub chosen : chosen (question_asked Sign1 alg kid) setting.keys ≡ Ok (key, algorithm_number alg)
  pub signature_length : length signature ≡ auth_length_of alg
  pub good : decides key (digest_to_sign alg setting.aad payload) signature ≡ true

-- What is made with a good signature is authentic under the same external data, whatever bytes follow it.
abbrev pub SignedIsAuthentic : Type 0
SignedIsAuthentic = (room nesting : ℕ) (setting : Setting) (decides : Decides) (alg : Alg) (kid : Option (List ℕ)) (payload signature more : List ℕ) →
    AdmitsSigned room nesting setting decides alg kid payload signature →
    let message = signed alg kid payload signature in
    verdict_of room nesting setting decides (message ++ more) ≡ decided (Authentic Sign1 alg (length payload) (length message))
