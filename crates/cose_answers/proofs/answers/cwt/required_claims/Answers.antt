use Rattle.std.proofs.Common.{ap, ◌∙◌, Result}
use Rattle.cose_cwt.specs.declared.requirements.Unmet.{Unmet}
use Rattle.cose_cwt.specs.Claims.View.{claims_value}
use Rattle.cose_answers.specs.Admitted.{if_met, or_trailing}
use Rattle.cose_answers.specs.Printed.{trailing_refusal}
use Rattle.cose_answers.proofs.lemmas.Files.Failures.{not_failed}
use Rattle.cose_answers.proofs.answers.cwt.required_claims.Goals as goal

pub returns-in-Ok-clause-whole : goal.returns-in-Ok-clause-whole
returns-in-Ok-clause-whole g c = λ rest s none.
    c.unless_followed.ensures.whole rest s none
    ∙ ap (λ (m : Result (Unit {0}) Unmet). if_met m (or_trailing (trailing_refusal rest c.args.taken) (claims_value c.args.claims))) c.in-Ok.ensures

pub returns-in-Err-clause-whole : goal.returns-in-Err-clause-whole
returns-in-Err-clause-whole g c = λ rest s none.
    ap (λ (m : Result (Unit {0}) Unmet). if_met m (or_trailing (trailing_refusal rest c.args.taken) (claims_value c.args.claims))) c.in-Err.ensures

pub returns-in-Err-clause-failure : goal.returns-in-Err-clause-failure
returns-in-Err-clause-failure g c = not_failed _
