-- A token that is admitted (RFC 8392 section 7.2).
use Rattle.std.specs.Prelude.{◌≡◌, ℕ, ℤ, true, List, [], ◌∷◌, codes, length, Some, Ok, false}
use Rattle.cose_head.specs.declared.algorithm.Alg.{Alg}
use Rattle.cose_head.specs.declared.kind.Kind.{Kind}
use Rattle.cose_map.specs.Key.Value.{KeyValue}
use Rattle.cose_msg.specs.declared.context.Wanted.TheVariants.{Tagged}
use Rattle.cose_msg.specs.declared.verdict.Verdict.TheVariants.{Authentic}
use Rattle.cose_msg.specs.Answer.{decided}
use Rattle.cose_msg.specs.Message.{Setting, verdict_of}
use Rattle.cose_msg.specs.Source.{attached}
use Rattle.cose_cwt.specs.Admission.{PolicyValue, admitted_claims}
use Rattle.cose_cwt.specs.Claims.{ClaimsValue}
use Rattle.cose_cwt.specs.Token.{read_as}
use Rattle.cose_examples.specs.Memory.{never}

-- What tokens are verified under: the CWT tag may come first.
abbrev pub token_setting : List KeyValue → Setting
token_setting keys = record {
  keys = keys;
  aad = [];
  wanted = Tagged;
  cwt = true;
  understood = [];
  payload_limit = 4096;
  source = attached;
  elsewhere = false;
}

-- The conditions of admission: at this time, give or take 60 seconds, and for `coap://light.example.com`.
abbrev pub light : List ℕ
light = codes "coap://light.example.com"

abbrev pub policy_at : ℤ → PolicyValue
policy_at now = record { now = now; leeway = 60; mine = Some (light ∷ []) }

-- By definition the bytes are one token, authentic under one of the keys, and nothing follows it; and its claims are admitted by
-- the policy.
pub record IsAdmitted (keys : List KeyValue) (policy : PolicyValue) (token : List ℕ) (claims : ClaimsValue) : Type 0 where
  pub kind : Kind
  pub alg : Alg
  pub payload : ℕ
  pub judged : verdict_of 1024 8 (token_setting keys) never token ≡ decided (Authentic kind alg payload (length token))
  pub admitted : admitted_claims 8 policy (read_as 1024 8 (token_setting keys) never token).so_far.payload ≡ Ok claims
