use Rattle.std.proofs.Common.{Err, option_map}
use Rattle.cose_map.specs.Key.View.{contents}
use Rattle.cose_cwt.specs.Admission.View.{policy_value}
use Rattle.cose_cwt.specs.Claims.View.{claims_value}
use Rattle.cose_cwt.specs.Requirements.View.{requirements_value}
use Rattle.cose_answers.specs.Vouch.{vouching}
use Rattle.cose_answers.proofs.lemmas.Messages.Admissions.{left_of_run, of_left, unless_admitted}
use Rattle.cose_answers.proofs.lemmas.Files.Failures.{then_failed, stopped_for_intake}
use Rattle.cose_answers.proofs.answers.cwt.whole_token.Goals as goal

pub returns-in-Ok-clause-whole : goal.returns-in-Ok-clause-whole
returns-in-Ok-clause-whole g c = λ setting bytes h e none.
    of_left g.row.H g.row.D setting (vouching (option_map contents c.args.vouch.now.word)) (policy_value c.args.policy.now) (requirements_value c.args.requirements.now) bytes _ _ (claims_value c.in-Ok.claims) _
    (left_of_run g.row.H g.row.D c.settled_stays.ensures.verdict setting (vouching (option_map contents c.args.vouch.now.word)) (policy_value c.args.policy.now) (requirements_value c.args.requirements.now) _ _ _ _ bytes (claims_value c.in-Ok.claims) _
    (c.in-Ok.ensures.run setting h) (c.in-Ok.ensures.token setting bytes h e) e c.taken.ensures.value)
    (λ rest s. c.required_claims.ensures.whole rest s none)

pub returns-in-Err-clause-whole : goal.returns-in-Err-clause-whole
returns-in-Err-clause-whole g c = λ setting bytes h e none.
    unless_admitted g.row.H g.row.D setting (vouching (option_map contents c.args.vouch.now.word)) (policy_value c.args.policy.now) (requirements_value c.args.requirements.now) bytes c.in-Err.stop
    (c.in-Err.ensures.token setting bytes h e) none

pub returns-in-Ok-clause-failure : goal.returns-in-Ok-clause-failure
returns-in-Ok-clause-failure g c = λ setting h. then_failed _ _ _ _ c.in-Ok.ensures.intake_failure c.required_claims.ensures.failure

pub returns-in-Err-clause-failure : goal.returns-in-Err-clause-failure
returns-in-Err-clause-failure g c = λ setting h.
    stopped_for_intake _ _ (Err c.in-Err.stop) _ c.in-Err.ensures.intake_failure c.in-Err.ensures.store_suffices c.in-Err.ensures.stopped h.goes_on
