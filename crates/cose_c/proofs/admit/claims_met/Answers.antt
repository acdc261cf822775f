use Rattle.std.proofs.Common.{Ok, Result, length, sym, ap, subst, ◌∙◌}
use Rattle.cose_cwt.specs.declared.requirements.Unmet.{Unmet}
use Rattle.cose_cwt.specs.Claims.View.{claims_value}
use Rattle.cose_c.specs.declared.cose_claims.CoseClaims.{CoseClaims}
use Rattle.cose_c.specs.Claims.{Gives, GivesAlone, without_payload}
use Rattle.cose_c.specs.CoseClaims.{no_claims}
use Rattle.cose_c.specs.Required.{unless_unmet}
use Rattle.cose_c.proofs.ClaimsForC.{gives_at_any_place}
use Rattle.cose_c.proofs.admit.claims_met.Goals as goal

pub returns-in-Ok-clause-gives : goal.returns-in-Ok-clause-gives
returns-in-Ok-clause-gives c = λ depth shallow read.
    subst (λ (m : Result (Unit {0}) Unmet). Gives c.args.payload.now (unless_unmet (claims_value c.args.claims.now) m) c.placed_claims.result) (sym c.in-Ok.is ∙ c.met_by.ensures)
    (subst (λ (placed : CoseClaims). Gives c.args.payload.now (Ok (claims_value c.args.claims.now)) placed) (sym c.placed_claims.ensures)
    (gives_at_any_place c.args.payload.now (Ok (claims_value c.args.claims.now)) c.claims_for_c.result 0 (length c.args.payload.now) (c.claims_for_c.ensures depth shallow read)))

pub returns-in-Ok-clause-alone : goal.returns-in-Ok-clause-alone
returns-in-Ok-clause-alone c =
    subst (λ (m : Result (Unit {0}) Unmet). GivesAlone c.args.payload.now (unless_unmet (claims_value c.args.claims.now) m) c.placed_claims.result) (sym c.in-Ok.is ∙ c.met_by.ensures)
    (ap (λ (placed : CoseClaims). placed.payload_at) c.placed_claims.ensures, ap (λ (placed : CoseClaims). placed.payload_length) c.placed_claims.ensures)

pub returns-in-Err-clause-gives : goal.returns-in-Err-clause-gives
returns-in-Err-clause-gives c = λ depth shallow read.
    subst (λ (m : Result (Unit {0}) Unmet). Gives c.args.payload.now (unless_unmet (claims_value c.args.claims.now) m) c.no_claims.result) (sym c.in-Err.is ∙ c.met_by.ensures)
    (ap without_payload (c.no_claims.ensures ∙ ap no_claims c.unmet_status.ensures))

pub returns-in-Err-clause-alone : goal.returns-in-Err-clause-alone
returns-in-Err-clause-alone c =
    subst (λ (m : Result (Unit {0}) Unmet). GivesAlone c.args.payload.now (unless_unmet (claims_value c.args.claims.now) m) c.no_claims.result) (sym c.in-Err.is ∙ c.met_by.ensures)
    (c.no_claims.ensures ∙ ap no_claims c.unmet_status.ensures)
