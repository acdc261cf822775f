use Rattle.std.proofs.Common.{Result, subst}
use Rattle.cose_cwt.specs.Requirements.{RequirementsValue}
use Rattle.cose_c.specs.declared.numbers.CoseStatus.{CoseStatus}
use Rattle.cose_c.specs.Required.{GivesAfter}
use Rattle.cose_c.proofs.admit.claims_after.Goals as goal

pub returns-in-Ok : goal.returns-in-Ok
returns-in-Ok c =
    subst (λ (required : Result RequirementsValue CoseStatus). GivesAfter c.args.depth c.args.verdict required c.args.token.now c.claims_by.result) c.in-Ok.ensures
    (record { other = c.claims_by.ensures.other; admitted = c.claims_by.ensures.admitted; place = c.claims_by.ensures.place; count = c.claims_by.ensures.count })

pub returns-in-Err : goal.returns-in-Err
returns-in-Err c =
    subst (λ (required : Result RequirementsValue CoseStatus). GivesAfter c.args.depth c.args.verdict required c.args.token.now c.no_claims.result) c.in-Err.ensures c.no_claims.ensures
