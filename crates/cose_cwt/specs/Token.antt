-- The result for a token (RFC 8392 section 7.2): the verdict on the message, and then the claims of its payload.
use Rattle.std.specs.Prelude.{◌≡◌, ◌≤◌, ℕ, Bool, false, List, [], length, Option, Some, None, Result, Ok, Err, ⊤}
use Rattle.cose_head.specs.declared.refusal.Refusal.{Refusal}
use Rattle.cose_map.specs.Map.Read.{Read}
use Rattle.cose_msg.specs.declared.verdict.Stop.{Stop}
use Rattle.cose_msg.specs.declared.verdict.Verdict.{Verdict}
use Rattle.cose_msg.specs.declared.verdict.Verdict.TheVariants.{Authentic, Refused}
use Rattle.cose_msg.specs.declared.verifier.Verifier.{Verifier}
use Rattle.cose_msg.specs.Answer.{decided}
use Rattle.cose_msg.specs.Change.{IntakeChange, sink_from}
use Rattle.cose_msg.specs.Kept.{HasTaken, answered_again, bytes_taken, kept_answer}
use Rattle.cose_msg.specs.Message.{Decides, Setting, message, verdict_of, verifying}
use Rattle.cose_msg.specs.Reading.{Reading}
use Rattle.cose_msg.specs.Run.{Run, is_intake_stop, is_sink_stop}
use Rattle.cose_msg.specs.Shown.{ShowsReading}
use Rattle.cose_msg.specs.Status.{status_in, status_left}
use Rattle.cose_msg.specs.Task.{rules_of, to_verify}
use Rattle.cose_cwt.specs.declared.claims.Claims.{Claims}
use Rattle.cose_cwt.specs.declared.token.CwtStop.{CwtStop}
use Rattle.cose_cwt.specs.declared.token.CwtStop.TheVariants as stops
use Rattle.cose_cwt.specs.Admission.{PolicyValue, admitted_claims}
use Rattle.cose_cwt.specs.Claims.{ClaimsValue}
use Rattle.cose_cwt.specs.Claims.View.{claims_value}

-- The claims, or why there are none.
abbrev pub Outcome : Type 0
Outcome = Result ClaimsValue CwtStop

abbrev pub claims_seen : Result Claims CwtStop → Outcome
claims_seen (Ok claims) = Ok (claims_value claims)
claims_seen (Err stop) = Err stop

abbrev pub of_claims : Read ClaimsValue → Outcome
of_claims (Ok claims) = Ok claims
of_claims (Err refusal) = Err (stops.Claims refusal)

-- The claims of an authentic message, if they are admitted.
abbrev pub token_of : ℕ → PolicyValue → Result Verdict Stop → List ℕ → Outcome
token_of depth policy (Ok (Authentic kind alg length taken)) payload = of_claims (admitted_claims depth policy payload)
token_of depth policy (Ok (Refused refusal)) payload = Err (stops.Message refusal)
token_of depth policy (Err stop) payload = Err (stops.Stopped stop)

abbrev pub read_as : ℕ → ℕ → Setting → Decides → List ℕ → Reading
read_as room nesting setting decides bytes = message (verifying room nesting setting decides) bytes

-- The outcome is the result for the token that all these bytes are.
pub record IsToken (room nesting : ℕ) (setting : Setting) (decides : Decides) (policy : PolicyValue) (bytes : List ℕ) (outcome : Outcome) : Type 0 where
  pub verdict : Verdict
  pub judged : verdict_of room nesting setting decides bytes ≡ decided verdict
  pub comes : outcome ≡ token_of nesting policy (Ok verdict) (read_as room nesting setting decides bytes).so_far.payload

-- The same, unless the verifier stopped.
abbrev pub UnlessStopped : Outcome → Type 0 → Type 0
UnlessStopped (Ok claims) says = says
UnlessStopped (Err (stops.Stopped stop)) says = ⊤
UnlessStopped (Err (stops.Message refusal)) says = says
UnlessStopped (Err (stops.Claims refusal)) says = says

-- The effect of a call. A verifier that had taken nothing has taken these bytes. Its getters give what these bytes
-- give, its status is the one after these bytes, and it keeps its verdict. The outcome is the result for the token, by
-- this verdict and the payload among these bytes. The place of a refusal of the claims is in the payload, or at its end.
pub record IsRun {H D : ℕ} {S : Type 0} {K : _} (setting : Setting) (decides : Decides) (policy : PolicyValue) (intake : IntakeChange) (v : Verifier H D S K) (outcome : Outcome) : Type 0 where
  pub taken : List ℕ
  pub payload : List ℕ
  pub verdict : Result Verdict Stop
  pub run : Run (verifying H D setting decides) decided [] [] intake (sink_from (Some []) (Some payload)) verdict taken
  pub counted : bytes_taken v ≡ length taken
  pub shows : ShowsReading (to_verify setting) taken v
  pub current : status_in v ≡ status_left verdict (message (rules_of H D (to_verify setting)) taken)
  pub kept : kept_answer v ≡ Some (answered_again verdict)
  pub comes : outcome ≡ token_of D policy verdict payload
  pub within : (refusal : Refusal) → outcome ≡ Err (stops.Claims refusal) → refusal.place ≤ length payload

-- Why a verifier stopped, if it did.
abbrev pub stop_in : Outcome → Option Stop
stop_in (Ok claims) = None
stop_in (Err (stops.Stopped stop)) = Some stop
stop_in (Err (stops.Message refusal)) = None
stop_in (Err (stops.Claims refusal)) = None

abbrev pub is_for_intake : Option Stop → Bool
is_for_intake stop = is_intake_stop stop

abbrev pub is_for_store : Option Stop → Bool
is_for_store stop = is_sink_stop stop

-- ---- what the calls for tokens say alike

-- Of a verifier that has taken nothing: whatever its setting is, and whatever bytes are known to come.
abbrev pub WhateverSetting : {H D : ℕ} {S : Type 0} {K : _} → Verifier H D S K → (Setting → Type 0) → Type 0
WhateverSetting v fact = (setting : Setting) → HasTaken (to_verify setting) [] [] v → fact setting

abbrev pub WhateverBytes : {H D : ℕ} {S : Type 0} {K : _} → Verifier H D S K → Option (List ℕ) → (Setting → List ℕ → Type 0) → Type 0
WhateverBytes v come fact = (setting : Setting) (bytes : List ℕ) → HasTaken (to_verify setting) [] [] v → come ≡ Some bytes → fact setting bytes

-- Of a verifier that keeps an answer: this is said of the answer, the verifier and the intake are unchanged, and the call doesn't
-- stop for the intake.
abbrev pub AnswersAgain : {H D : ℕ} {S : Type 0} {K : _} {F : Type 0} → Verifier H D S K → Verifier H D S K → F → F → Option Stop → (Result Verdict Stop → Type 0) → Type 0
AnswersAgain v next intake intake_after stop said =
    (answer : Result Verdict Stop) → kept_answer v ≡ Some answer → said answer × (next ≡ v) × (intake_after ≡ intake) × (is_for_intake stop ≡ false)
