use Rattle.std.proofs.Common.{Result, sym, ap, ◌∙◌}
use Rattle.std.specs.Prelude.{option_map}
use Rattle.cose_cwt.specs.Admission.View.{policy_value}
use Rattle.cose_cwt.specs.Claims.{ClaimsValue}
use Rattle.cose_cwt.specs.Claims.Audience.{text_value}
use Rattle.cose_c.specs.declared.numbers.CoseStatus.{CoseStatus}
use Rattle.cose_c.specs.Claims.{Gives, GivesAlone, name_given, name_seen, without_payload}
use Rattle.cose_c.proofs.ClaimsForC.{of_no_policy, of_policy}
use Rattle.cose_c.proofs.claims.claims_under.Goals as goal

pub returns-in-Ok-clause-gives : goal.returns-in-Ok-clause-gives
returns-in-Ok-clause-gives c =
    of_policy (λ (r : Result ClaimsValue CoseStatus). Gives c.args.payload.now r c.claims_named.result) c.args.depth c.args.payload.now c.args.policy.now.now c.args.policy.now.leeway (name_given c.args.policy.now.has_audience c.args.policy.now.audience.now)
    (option_map text_value c.in-Ok.name) (policy_value c.policy_of.result) (sym c.name_of.ensures ∙ ap name_seen c.in-Ok.is) c.policy_of.ensures c.claims_named.ensures.gives

pub returns-in-Ok-clause-alone : goal.returns-in-Ok-clause-alone
returns-in-Ok-clause-alone c =
    of_policy (λ (r : Result ClaimsValue CoseStatus). GivesAlone c.args.payload.now r c.claims_named.result) c.args.depth c.args.payload.now c.args.policy.now.now c.args.policy.now.leeway (name_given c.args.policy.now.has_audience c.args.policy.now.audience.now)
    (option_map text_value c.in-Ok.name) (policy_value c.policy_of.result) (sym c.name_of.ensures ∙ ap name_seen c.in-Ok.is) c.policy_of.ensures c.claims_named.ensures.alone

pub returns-in-Err-clause-gives : goal.returns-in-Err-clause-gives
returns-in-Err-clause-gives c =
    of_no_policy (λ (r : Result ClaimsValue CoseStatus). Gives c.args.payload.now r c.no_claims.result) c.args.depth c.args.payload.now c.args.policy.now.now c.args.policy.now.leeway (name_given c.args.policy.now.has_audience c.args.policy.now.audience.now)
    c.in-Err.status (sym c.name_of.ensures ∙ ap name_seen c.in-Err.is) (ap without_payload c.no_claims.ensures)

pub returns-in-Err-clause-alone : goal.returns-in-Err-clause-alone
returns-in-Err-clause-alone c =
    of_no_policy (λ (r : Result ClaimsValue CoseStatus). GivesAlone c.args.payload.now r c.no_claims.result) c.args.depth c.args.payload.now c.args.policy.now.now c.args.policy.now.leeway (name_given c.args.policy.now.has_audience c.args.policy.now.audience.now)
    c.in-Err.status (sym c.name_of.ensures ∙ ap name_seen c.in-Err.is) c.no_claims.ensures
