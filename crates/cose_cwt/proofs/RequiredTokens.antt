-- From a run of the verifier to the result for a token of which something is required, and that where an answer was kept.
use Rattle.std.proofs.Common.{◌≡◌, ◌∙◌, ℕ, ◌≤◌, Bool, false, List, [], length, Option, Some, None, Ok, Err, refl, sym, ap, subst}
use Rattle.std.specs.Prelude.{Result, ◌↔◌}
use Rattle.cose_head.specs.declared.algorithm.Alg.{Alg}
use Rattle.cose_head.specs.declared.kind.Kind.{Kind}
use Rattle.cose_head.specs.declared.refusal.Refusal.{Refusal}
use Rattle.cose_map.specs.Laws.Inside.{RefusedBy}
use Rattle.cose_map.specs.Map.Read.{Read}
use Rattle.cose_msg.specs.declared.verdict.Stop.{Stop}
use Rattle.cose_msg.specs.declared.verdict.Stop.TheVariants.{Again}
use Rattle.cose_msg.specs.declared.verdict.Verdict.{Verdict}
use Rattle.cose_msg.specs.declared.verdict.Verdict.TheVariants.{Authentic, Refused}
use Rattle.cose_msg.specs.Answer.{decided}
use Rattle.cose_msg.specs.Change.{intake_from, sink_from}
use Rattle.cose_msg.specs.Laws.{MessageStays}
use Rattle.cose_msg.specs.Message.{Decides, Setting, verifying}
use Rattle.cose_msg.specs.Kept.{answer_kept}
use Rattle.cose_msg.specs.Run.{Run, stops_for_intake, stops_for_sink}
use Rattle.cose_cwt.specs.declared.required.TokenStop.TheVariants as stops
use Rattle.cose_cwt.specs.declared.requirements.Unmet.{Unmet}
use Rattle.cose_cwt.specs.declared.token.CwtStop.TheVariants as cwt_stops
use Rattle.cose_cwt.specs.Admission.{PolicyValue, admitted_claims}
use Rattle.cose_cwt.specs.Claims.{ClaimsValue}
use Rattle.cose_cwt.specs.Requirements.{RequirementsValue, met}
use Rattle.cose_cwt.specs.Required.{IsRequiredToken, Required, RequiredUnlessStopped, TokenValue, if_admitted, if_met, required_of, required_stop_in}
use Rattle.cose_cwt.specs.Token.{Outcome, is_for_intake, is_for_store, of_claims, stop_in, token_of}
use Rattle.cose_cwt.proofs.Tokens.{kept_is_no_failure, read_whole, stops_for, store_suffices, token_stop, unless_stopped}

pub required_again : (depth : ℕ) (policy : PolicyValue) (requirements : RequirementsValue) (verdict answer : Result Verdict Stop) (payload : List ℕ) (outcome : Required) →
    outcome ≡ required_of depth policy requirements verdict payload → verdict ≡ answer → payload ≡ [] → outcome ≡ required_of depth policy requirements answer []
required_again depth policy requirements verdict answer payload outcome comes same none =
    comes ∙ ap (λ (v : Result Verdict Stop). required_of depth policy requirements v payload) same ∙ ap (required_of depth policy requirements answer) none

required_unless_stopped : {Says : Type 0} (outcome : Required) → Says → RequiredUnlessStopped outcome Says
required_unless_stopped (Ok token) says = says
required_unless_stopped (Err (stops.Cwt stop)) says = unless_stopped (Err stop) says
required_unless_stopped (Err (stops.Unmet unmet)) says = says

judged : MessageStays → (H D : ℕ) (setting : Setting) (decides : Decides) (policy : PolicyValue) (requirements : RequirementsValue) (come_after : Option (List ℕ)) (ended : Bool) (verdict : Verdict) (taken payload bytes : List ℕ) (outcome : Required) →
    Run (verifying H D setting decides) decided [] [] (intake_from (Some bytes) come_after ended) (sink_from (Some []) (Some payload)) (Ok verdict) taken → outcome ≡ required_of D policy requirements (Ok verdict) payload →
    IsRequiredToken H D setting decides policy requirements bytes outcome
judged stays H D setting decides policy requirements come_after ended verdict taken payload bytes outcome run comes =
    let read = read_whole stays H D setting decides come_after ended verdict taken payload bytes run in
    record {
      verdict = verdict;
      judged = read.0;
      comes = comes ∙ ap (required_of D policy requirements (Ok verdict)) (sym read.1);
    }

pub required_of_run : MessageStays → (H D : ℕ) (setting : Setting) (decides : Decides) (policy : PolicyValue) (requirements : RequirementsValue) (come come_after : Option (List ℕ)) (ended : Bool) (verdict : Result Verdict Stop) (taken payload bytes : List ℕ) (outcome : Required) →
    Run (verifying H D setting decides) decided [] [] (intake_from come come_after ended) (sink_from (Some []) (Some payload)) verdict taken → outcome ≡ required_of D policy requirements verdict payload → come ≡ Some bytes →
    RequiredUnlessStopped outcome (IsRequiredToken H D setting decides policy requirements bytes outcome)
required_of_run stays H D setting decides policy requirements come come_after ended (Ok verdict) taken payload bytes outcome run comes e =
    required_unless_stopped outcome (judged stays H D setting decides policy requirements come_after ended verdict taken payload bytes outcome
    (subst (λ (old : Option (List ℕ)). Run (verifying H D setting decides) decided [] [] (intake_from old come_after ended) (sink_from (Some []) (Some payload)) (Ok verdict) taken) e run) comes)
required_of_run stays H D setting decides policy requirements come come_after ended (Err stop) taken payload bytes outcome run comes e =
    subst (λ (o : Required). RequiredUnlessStopped o (IsRequiredToken H D setting decides policy requirements bytes outcome)) (sym comes) tt

-- What is required of a token stops nothing.
met_stop : (token : TokenValue) (met : Result (Unit {0}) Unmet) → required_stop_in (if_met token met) ≡ None
met_stop token (Ok done) = refl
met_stop token (Err unmet) = refl

admitted_stop : (requirements : RequirementsValue) (kind : Kind) (alg : Alg) (outcome : Outcome) → required_stop_in (if_admitted requirements kind alg outcome) ≡ stop_in outcome
admitted_stop requirements kind alg (Ok claims) = met_stop (record { claims = claims; kind = kind; alg = alg }) (met requirements claims)
admitted_stop requirements kind alg (Err stop) = refl

stop_stays : (depth : ℕ) (policy : PolicyValue) (requirements : RequirementsValue) (verdict : Result Verdict Stop) (payload : List ℕ) →
    required_stop_in (required_of depth policy requirements verdict payload) ≡ stop_in (token_of depth policy verdict payload)
stop_stays depth policy requirements (Ok (Authentic kind alg length taken)) payload = admitted_stop requirements kind alg (of_claims (admitted_claims depth policy payload))
stop_stays depth policy requirements (Ok (Refused refusal)) payload = refl
stop_stays depth policy requirements (Err stop) payload = refl

-- A token of which something is required stops for what the token stops for.
pub required_stop : (depth : ℕ) (policy : PolicyValue) (requirements : RequirementsValue) (verdict : Result Verdict Stop) (payload : List ℕ) (outcome : Required) →
    outcome ≡ required_of depth policy requirements verdict payload → required_stop_in outcome ≡ stop_in (token_of depth policy verdict payload)
required_stop depth policy requirements verdict payload outcome comes = ap required_stop_in comes ∙ stop_stays depth policy requirements verdict payload

-- A kept answer is no failure in this call.
pub required_is_no_failure : (depth : ℕ) (policy : PolicyValue) (requirements : RequirementsValue) (stopped : Bool) (known : Option Verdict) (verdict answer : Result Verdict Stop) (payload : List ℕ) (outcome : Required) →
    outcome ≡ required_of depth policy requirements verdict payload → answer_kept stopped known ≡ Some answer → verdict ≡ answer →
    (is_for_intake (required_stop_in outcome) ≡ false) × (is_for_store (required_stop_in outcome) ≡ false)
required_is_no_failure depth policy requirements stopped known verdict answer payload outcome comes kept same =
    subst (λ (stop : Option Stop). (is_for_intake stop ≡ false) × (is_for_store stop ≡ false)) (sym (required_stop depth policy requirements verdict payload outcome comes))
    (kept_is_no_failure depth policy payload stopped known verdict answer (token_of depth policy verdict payload) refl kept same)

pub required_store_suffices : (depth : ℕ) (policy : PolicyValue) (requirements : RequirementsValue) (verdict : Result Verdict Stop) (payload : List ℕ) (outcome : Required) →
    outcome ≡ required_of depth policy requirements verdict payload → stops_for_sink verdict ≡ false → is_for_store (required_stop_in outcome) ≡ false
required_store_suffices depth policy requirements verdict payload outcome comes e =
    ap is_for_store (required_stop depth policy requirements verdict payload outcome comes) ∙ store_suffices depth policy verdict payload (token_of depth policy verdict payload) refl e

pub required_intake_failure : (depth : ℕ) (policy : PolicyValue) (requirements : RequirementsValue) (verdict : Result Verdict Stop) (payload : List ℕ) (outcome : Required) →
    outcome ≡ required_of depth policy requirements verdict payload → stops_for_intake verdict ≡ is_for_intake (required_stop_in outcome)
required_intake_failure depth policy requirements verdict payload outcome comes =
    sym (ap is_for_intake (required_stop depth policy requirements verdict payload outcome comes ∙ token_stop depth policy verdict payload))

pub required_stopped : {P : Type 0} (depth : ℕ) (policy : PolicyValue) (requirements : RequirementsValue) (verdict : Result Verdict Stop) (payload : List ℕ) (outcome : Required) →
    outcome ≡ required_of depth policy requirements verdict payload → ((verdict ≡ Err Again) ↔ P) → ((outcome ≡ Err (stops.Cwt (cwt_stops.Stopped Again))) ↔ P)
required_stopped {P} depth policy requirements verdict payload outcome comes before = (
  λ e. before.0 (stops_for verdict Again (sym (required_stop depth policy requirements verdict payload outcome comes ∙ token_stop depth policy verdict payload) ∙ ap required_stop_in e)),
  λ p. comes ∙ ap (λ (v : Result Verdict Stop). required_of depth policy requirements v payload) (before.1 p),
)

-- The place of a refusal of the claims is in the payload, or at its end.
met_refuses_no_claims : (token : TokenValue) (met : Result (Unit {0}) Unmet) (refusal : Refusal) → if_met token met ≡ Err (stops.Cwt (cwt_stops.Claims refusal)) → ⊥
met_refuses_no_claims token (Ok done) refusal e = absurd cc
met_refuses_no_claims token (Err unmet) refusal e = absurd cc

admitted_placed : (requirements : RequirementsValue) (kind : Kind) (alg : Alg) (read : Read ClaimsValue) (end : ℕ) (refusal : Refusal) →
    if_admitted requirements kind alg (of_claims read) ≡ Err (stops.Cwt (cwt_stops.Claims refusal)) → RefusedBy end read → refusal.place ≤ end
admitted_placed requirements kind alg (Ok claims) end refusal e s =
    absurd (met_refuses_no_claims (record { claims = claims; kind = kind; alg = alg }) (met requirements claims) refusal e)
admitted_placed requirements kind alg (Err other) end refusal e s = let same : other ≡ refusal = cc in subst (λ (r : Refusal). r.place ≤ end) same s

pub required_placed : (depth : ℕ) (policy : PolicyValue) (requirements : RequirementsValue) (verdict : Result Verdict Stop) (payload : List ℕ) (outcome : Required) (refusal : Refusal) →
    outcome ≡ required_of depth policy requirements verdict payload → outcome ≡ Err (stops.Cwt (cwt_stops.Claims refusal)) → RefusedBy (length payload) (admitted_claims depth policy payload) → refusal.place ≤ length payload
required_placed depth policy requirements (Ok (Authentic kind alg n taken)) payload outcome refusal comes e s =
    admitted_placed requirements kind alg (admitted_claims depth policy payload) (length payload) refusal (sym comes ∙ e) s
required_placed depth policy requirements (Ok (Refused other)) payload outcome refusal comes e s =
    let clash : Err (stops.Cwt (cwt_stops.Message other)) ≡ Err (stops.Cwt (cwt_stops.Claims refusal)) = sym comes ∙ e in absurd cc
required_placed depth policy requirements (Err stop) payload outcome refusal comes e s =
    let clash : Err (stops.Cwt (cwt_stops.Stopped stop)) ≡ Err (stops.Cwt (cwt_stops.Claims refusal)) = sym comes ∙ e in absurd cc
