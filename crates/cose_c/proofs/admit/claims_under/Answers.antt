use Rattle.cose_c.specs.Required.{required_stated}
use Rattle.cose_c.specs.Stated.{setting_stated}
use Rattle.cose_c.proofs.TokensForC.{of_terms, required_after}
use Rattle.cose_c.proofs.admit.claims_under.Goals as goal

pub returns : goal.returns
returns g c =
    required_after g.row.H g.row.D c.args.token.now _ _ (setting_stated c.args.terms.now) (required_stated c.args.requirements.now) c.verdict_under-verdict.ensures.verdict c.verdict_under-verdict.ensures.payload
    (of_terms c.args.terms.now) c.claims_after.ensures
