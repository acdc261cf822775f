use Rattle.std.proofs.Common.{◌≡◌, Ok, Err, sym, ap, subst, ◌∙◌}
use Rattle.cose_map.specs.Map.Read.{Read}
use Rattle.cose_map.specs.Map.View.{seen_by}
use Rattle.cose_cwt.specs.Admission.{PolicyValue, admitted_claims}
use Rattle.cose_cwt.specs.Claims.{ClaimsValue}
use Rattle.cose_cwt.specs.Claims.View.{claims_value}
use Rattle.cose_c.specs.Claims.{Gives, GivesAlone, without_payload}
use Rattle.cose_c.specs.CoseClaims.{no_claims}
use Rattle.cose_c.specs.Required.{if_meeting, policy_of, required_value}
use Rattle.cose_c.proofs.ClaimsForC.{was_read}
use Rattle.cose_c.proofs.admit.claims_meeting.Goals as goal

pub returns-in-Ok-clause-gives : goal.returns-in-Ok-clause-gives
returns-in-Ok-clause-gives c =
    let r = required_value c.args.required.now in
    let said : admitted_claims c.args.depth (policy_of r) c.args.payload.now ≡ Ok (claims_value c.in-Ok.claims) = ap (λ (p : PolicyValue). admitted_claims c.args.depth p c.args.payload.now) (sym c.policy.ensures) ∙ sym c.admitted.ensures ∙ ap (seen_by claims_value) c.in-Ok.is in
    subst (λ (read : Read ClaimsValue). Gives c.args.payload.now (if_meeting r read) c.claims_met.result) (sym said)
    (c.claims_met.ensures.gives c.args.depth c.requires (was_read (policy_of r) (claims_value c.in-Ok.claims) c.args.depth c.args.payload.now said))

pub returns-in-Ok-clause-alone : goal.returns-in-Ok-clause-alone
returns-in-Ok-clause-alone c =
    let r = required_value c.args.required.now in
    let said : admitted_claims c.args.depth (policy_of r) c.args.payload.now ≡ Ok (claims_value c.in-Ok.claims) = ap (λ (p : PolicyValue). admitted_claims c.args.depth p c.args.payload.now) (sym c.policy.ensures) ∙ sym c.admitted.ensures ∙ ap (seen_by claims_value) c.in-Ok.is in
    subst (λ (read : Read ClaimsValue). GivesAlone c.args.payload.now (if_meeting r read) c.claims_met.result) (sym said) c.claims_met.ensures.alone

pub returns-in-Err-clause-gives : goal.returns-in-Err-clause-gives
returns-in-Err-clause-gives c =
    let r = required_value c.args.required.now in
    let said : admitted_claims c.args.depth (policy_of r) c.args.payload.now ≡ Err c.in-Err.refusal = ap (λ (p : PolicyValue). admitted_claims c.args.depth p c.args.payload.now) (sym c.policy.ensures) ∙ sym c.admitted.ensures ∙ ap (seen_by claims_value) c.in-Err.is in
    subst (λ (read : Read ClaimsValue). Gives c.args.payload.now (if_meeting r read) c.no_claims.result) (sym said)
    (ap without_payload (c.no_claims.ensures ∙ ap no_claims c.refused_status.ensures))

pub returns-in-Err-clause-alone : goal.returns-in-Err-clause-alone
returns-in-Err-clause-alone c =
    let r = required_value c.args.required.now in
    let said : admitted_claims c.args.depth (policy_of r) c.args.payload.now ≡ Err c.in-Err.refusal = ap (λ (p : PolicyValue). admitted_claims c.args.depth p c.args.payload.now) (sym c.policy.ensures) ∙ sym c.admitted.ensures ∙ ap (seen_by claims_value) c.in-Err.is in
    subst (λ (read : Read ClaimsValue). GivesAlone c.args.payload.now (if_meeting r read) c.no_claims.result) (sym said)
    (c.no_claims.ensures ∙ ap no_claims c.refused_status.ensures)
