-- The result for a token of which something is required: its claims, the kind of its message and the algorithm.
use Rattle.std.specs.Prelude.{◌≡◌, ℕ, List, Option, None, Result, Ok, Err}
use Rattle.cose_head.specs.declared.algorithm.Alg.{Alg}
use Rattle.cose_head.specs.declared.kind.Kind.{Kind}
use Rattle.cose_msg.specs.declared.verdict.Stop.{Stop}
use Rattle.cose_msg.specs.declared.verdict.Verdict.{Verdict}
use Rattle.cose_msg.specs.declared.verdict.Verdict.TheVariants.{Authentic, Refused}
use Rattle.cose_msg.specs.declared.verifier.Verifier.{Verifier}
use Rattle.cose_msg.specs.Answer.{decided}
use Rattle.cose_msg.specs.Change.{IntakeChange}
use Rattle.cose_msg.specs.Message.{Decides, Setting, verdict_of}
use Rattle.cose_cwt.specs.declared.required.Token.{Token}
use Rattle.cose_cwt.specs.declared.required.TokenStop.{TokenStop}
use Rattle.cose_cwt.specs.declared.required.TokenStop.TheVariants as stops
use Rattle.cose_cwt.specs.declared.requirements.Unmet.{Unmet}
use Rattle.cose_cwt.specs.declared.token.CwtStop.TheVariants as cwt_stops
use Rattle.cose_cwt.specs.Admission.{PolicyValue, admitted_claims}
use Rattle.cose_cwt.specs.Claims.{ClaimsValue}
use Rattle.cose_cwt.specs.Claims.View.{claims_value}
use Rattle.cose_cwt.specs.Requirements.{RequirementsValue, met}
use Rattle.cose_cwt.specs.Token.{IsRun, Outcome, UnlessStopped, of_claims, read_as, stop_in}

pub record TokenValue : Type 0 where
  pub claims : ClaimsValue
  pub kind : Kind
  pub alg : Alg

abbrev pub Required : Type 0
Required = Result TokenValue TokenStop

abbrev pub token_value : Token → TokenValue
token_value token = record { claims = claims_value token.claims; kind = token.kind; alg = token.alg }

abbrev pub token_seen : Result Token TokenStop → Required
token_seen (Ok token) = Ok (token_value token)
token_seen (Err stop) = Err stop

-- Admitted claims that meet the requirements.
abbrev pub if_met : TokenValue → Result (Unit {0}) Unmet → Required
if_met token (Ok done) = Ok token
if_met token (Err unmet) = Err (stops.Unmet unmet)

abbrev pub if_admitted : RequirementsValue → Kind → Alg → Outcome → Required
if_admitted requirements kind alg (Ok claims) = if_met (record { claims = claims; kind = kind; alg = alg }) (met requirements claims)
if_admitted requirements kind alg (Err stop) = Err (stops.Cwt stop)

-- The token of an authentic message, by its kind and algorithm, if its claims are admitted and meet the requirements.
abbrev pub required_of : ℕ → PolicyValue → RequirementsValue → Result Verdict Stop → List ℕ → Required
required_of depth policy requirements (Ok (Authentic kind alg length taken)) payload = if_admitted requirements kind alg (of_claims (admitted_claims depth policy payload))
required_of depth policy requirements (Ok (Refused refusal)) payload = Err (stops.Cwt (cwt_stops.Message refusal))
required_of depth policy requirements (Err stop) payload = Err (stops.Cwt (cwt_stops.Stopped stop))

-- The outcome is the result for the token that all these bytes are.
pub record IsRequiredToken (room nesting : ℕ) (setting : Setting) (decides : Decides) (policy : PolicyValue) (requirements : RequirementsValue) (bytes : List ℕ) (outcome : Required) : Type 0 where
  pub verdict : Verdict
  pub judged : verdict_of room nesting setting decides bytes ≡ decided verdict
  pub comes : outcome ≡ required_of nesting policy requirements (Ok verdict) (read_as room nesting setting decides bytes).so_far.payload

-- The same, unless the verifier stopped.
abbrev pub RequiredUnlessStopped : Required → Type 0 → Type 0
RequiredUnlessStopped (Ok token) says = says
RequiredUnlessStopped (Err (stops.Cwt stop)) says = UnlessStopped (Err stop) says
RequiredUnlessStopped (Err (stops.Unmet unmet)) says = says

-- Why a verifier stopped, if it did.
abbrev pub required_stop_in : Required → Option Stop
required_stop_in (Ok token) = None
required_stop_in (Err (stops.Cwt stop)) = stop_in (Err stop)
required_stop_in (Err (stops.Unmet unmet)) = None

-- The effect of a call: that of `verify_cwt`, with an outcome of its own, and the token by the same verdict and payload.
pub record IsRequiredRun {H D : ℕ} {S : Type 0} {K : _} (setting : Setting) (decides : Decides) (policy : PolicyValue) (requirements : RequirementsValue) (intake : IntakeChange) (v : Verifier H D S K) (outcome : Required) : Type 0 where
  pub cwt : Outcome
  pub run : IsRun setting decides policy intake v cwt
  pub comes : outcome ≡ required_of D policy requirements run.verdict run.payload
