use Rattle.std.proofs.Common.{◌≡◌, Ok, Err, length, sym, ap, subst, ◌∙◌}
use Rattle.cose_map.specs.Map.Read.{Read}
use Rattle.cose_map.specs.Map.View.{seen_by}
use Rattle.cose_cwt.specs.Admission.{admitted_claims}
use Rattle.cose_cwt.specs.Admission.View.{policy_value}
use Rattle.cose_cwt.specs.Claims.{ClaimsValue}
use Rattle.cose_cwt.specs.Claims.View.{claims_value}
use Rattle.cose_c.specs.declared.cose_claims.CoseClaims.{CoseClaims}
use Rattle.cose_c.specs.Claims.{Gives, GivesAlone, unless_refused, without_payload}
use Rattle.cose_c.specs.CoseClaims.{no_claims}
use Rattle.cose_c.proofs.ClaimsForC.{gives_at_any_place, was_read}
use Rattle.cose_c.proofs.claims.claims_named.Goals as goal

pub returns-in-Ok-clause-gives : goal.returns-in-Ok-clause-gives
returns-in-Ok-clause-gives c =
    let said : admitted_claims c.args.depth (policy_value c.args.policy.now) c.args.payload.now ≡ Ok (claims_value c.in-Ok.claims) = sym c.admitted.ensures ∙ ap (seen_by claims_value) c.in-Ok.is in
    subst (λ (r : Read ClaimsValue). Gives c.args.payload.now (unless_refused r) c.placed_claims.result) (sym said)
    (subst (λ (placed : CoseClaims). Gives c.args.payload.now (Ok (claims_value c.in-Ok.claims)) placed) (sym c.placed_claims.ensures)
    (gives_at_any_place c.args.payload.now (Ok (claims_value c.in-Ok.claims)) c.claims_for_c.result 0 (length c.args.payload.now)
    (c.claims_for_c.ensures c.args.depth c.requires (was_read (policy_value c.args.policy.now) (claims_value c.in-Ok.claims) c.args.depth c.args.payload.now said))))

pub returns-in-Ok-clause-alone : goal.returns-in-Ok-clause-alone
returns-in-Ok-clause-alone c =
    let said : admitted_claims c.args.depth (policy_value c.args.policy.now) c.args.payload.now ≡ Ok (claims_value c.in-Ok.claims) = sym c.admitted.ensures ∙ ap (seen_by claims_value) c.in-Ok.is in
    subst (λ (r : Read ClaimsValue). GivesAlone c.args.payload.now (unless_refused r) c.placed_claims.result) (sym said)
    (ap (λ (placed : CoseClaims). placed.payload_at) c.placed_claims.ensures, ap (λ (placed : CoseClaims). placed.payload_length) c.placed_claims.ensures)

pub returns-in-Err-clause-gives : goal.returns-in-Err-clause-gives
returns-in-Err-clause-gives c =
    let said : admitted_claims c.args.depth (policy_value c.args.policy.now) c.args.payload.now ≡ Err c.in-Err.refusal = sym c.admitted.ensures ∙ ap (seen_by claims_value) c.in-Err.is in
    subst (λ (r : Read ClaimsValue). Gives c.args.payload.now (unless_refused r) c.no_claims.result) (sym said)
    (ap without_payload (c.no_claims.ensures ∙ ap no_claims c.refused_status.ensures))

pub returns-in-Err-clause-alone : goal.returns-in-Err-clause-alone
returns-in-Err-clause-alone c =
    let said : admitted_claims c.args.depth (policy_value c.args.policy.now) c.args.payload.now ≡ Err c.in-Err.refusal = sym c.admitted.ensures ∙ ap (seen_by claims_value) c.in-Err.is in
    subst (λ (r : Read ClaimsValue). GivesAlone c.args.payload.now (unless_refused r) c.no_claims.result) (sym said)
    (c.no_claims.ensures ∙ ap no_claims c.refused_status.ensures)
