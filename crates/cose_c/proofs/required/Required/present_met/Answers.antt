use Rattle.std.proofs.Common.{Err, ap, ◌∙◌}
use Rattle.std.proofs.lemmas.Result.{err_from_is_err_and}
use Rattle.cose_cwt.specs.Claims.View.{claims_value}
use Rattle.cose_cwt.specs.Requirements.{registered}
use Rattle.cose_c.specs.Required.{is_required}
use Rattle.cose_c.proofs.Requiring.{next_met, next_unmet}
use Rattle.cose_c.proofs.required.Required.present_met.Goals as goal

pub returns-in_err-one_met : goal.returns-in_err-one_met
returns-in_err-one_met c =
    let p = err_from_is_err_and c.from_residual.result c.from_residual.ensures.1 in
    p.1 ∙ ap Err p.2 ∙ next_unmet (is_required c.args.self.now.present c.args.self.now.permitted) (claims_value c.args.claims.now) registered c.claims.claim-index _ _ c.claims-test.true c.in_err-one_met.ensures
    ∙ c.claims.invariant

pub claims-preserved : goal.claims-preserved
claims-preserved c =
    next_met (is_required c.args.self.now.present c.args.self.now.permitted) (claims_value c.args.claims.now) registered c.claims.claim-index _ c.claims-test.true c.in_ok-one_met.ensures
    ∙ c.claims.invariant
