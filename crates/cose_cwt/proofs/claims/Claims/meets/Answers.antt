use Rattle.std.proofs.Common.{◌∙◌, Err, ap}
use Rattle.std.proofs.lemmas.Result.{err_from_is_err_and}
use Rattle.cose_cwt.specs.declared.requirements.Requirement.TheVariants.{Issuer, Subject}
use Rattle.cose_cwt.specs.Requirements.{age_unmet, issued_unmet, lifetime_unmet, text_unmet, unmet}
use Rattle.cose_cwt.specs.Requirements.View.{requirements_value}
use Rattle.cose_cwt.proofs.FirstUnmet.{of_value, of_values, past, stays}
use Rattle.cose_cwt.proofs.claims.Claims.meets.Goals as goal

pub returns-in_err-present_met : goal.returns-in_err-present_met
unfolding unmet
returns-in_err-present_met c =
    let p = err_from_is_err_and c.from_residual.result c.from_residual.ensures.1 in
    p.1 ∙ ap Err p.2 ∙ stays _ _ _ c.in_err-present_met.ensures

pub returns-in_err-text_met : goal.returns-in_err-text_met
unfolding unmet
returns-in_err-text_met c =
    let p = err_from_is_err_and c.from_residual-in_err-text_met.result c.from_residual-in_err-text_met.ensures.1 in
    p.1 ∙ ap Err p.2 ∙ past _ _ _ c.in_ok-present_met.ensures
    (stays _ _ _ (of_value (text_unmet Issuer (requirements_value c.args.requirements.now).iss) _ _ _ c.in_err-text_met.ensures c.value.ensures))

pub returns-in_err-text_met-2 : goal.returns-in_err-text_met-2
unfolding unmet
returns-in_err-text_met-2 c =
    let p = err_from_is_err_and c.from_residual-in_err-text_met-2.result c.from_residual-in_err-text_met-2.ensures.1 in
    p.1 ∙ ap Err p.2 ∙ past _ _ _ c.in_ok-present_met.ensures
    (past _ _ _ (of_value (text_unmet Issuer (requirements_value c.args.requirements.now).iss) _ _ _ c.in_ok-text_met.ensures c.value.ensures)
    (stays _ _ _ (of_value (text_unmet Subject (requirements_value c.args.requirements.now).sub) _ _ _ c.in_err-text_met-2.ensures c.value-2.ensures)))

pub returns-in_err-audience_met : goal.returns-in_err-audience_met
unfolding unmet
returns-in_err-audience_met c =
    let p = err_from_is_err_and c.from_residual-in_err-audience_met.result c.from_residual-in_err-audience_met.ensures.1 in
    p.1 ∙ ap Err p.2 ∙ past _ _ _ c.in_ok-present_met.ensures
    (past _ _ _ (of_value (text_unmet Issuer (requirements_value c.args.requirements.now).iss) _ _ _ c.in_ok-text_met.ensures c.value.ensures)
    (past _ _ _ (of_value (text_unmet Subject (requirements_value c.args.requirements.now).sub) _ _ _ c.in_ok-text_met-2.ensures c.value-2.ensures)
    (stays _ _ _ c.in_err-audience_met.ensures)))

pub returns-in_err-lifetime_met : goal.returns-in_err-lifetime_met
unfolding unmet
returns-in_err-lifetime_met c =
    let p = err_from_is_err_and c.from_residual-in_err-lifetime_met.result c.from_residual-in_err-lifetime_met.ensures.1 in
    p.1 ∙ ap Err p.2 ∙ past _ _ _ c.in_ok-present_met.ensures
    (past _ _ _ (of_value (text_unmet Issuer (requirements_value c.args.requirements.now).iss) _ _ _ c.in_ok-text_met.ensures c.value.ensures)
    (past _ _ _ (of_value (text_unmet Subject (requirements_value c.args.requirements.now).sub) _ _ _ c.in_ok-text_met-2.ensures c.value-2.ensures)
    (past _ _ _ c.in_ok-audience_met.ensures
    (stays _ _ _ (of_values (lifetime_unmet (requirements_value c.args.requirements.now)) _ _ _ _ _ c.in_err-lifetime_met.ensures c.iat.ensures c.value-3.ensures)))))

pub returns-in_err-age_met : goal.returns-in_err-age_met
unfolding unmet
returns-in_err-age_met c =
    let p = err_from_is_err_and c.from_residual-in_err-age_met.result c.from_residual-in_err-age_met.ensures.1 in
    p.1 ∙ ap Err p.2 ∙ past _ _ _ c.in_ok-present_met.ensures
    (past _ _ _ (of_value (text_unmet Issuer (requirements_value c.args.requirements.now).iss) _ _ _ c.in_ok-text_met.ensures c.value.ensures)
    (past _ _ _ (of_value (text_unmet Subject (requirements_value c.args.requirements.now).sub) _ _ _ c.in_ok-text_met-2.ensures c.value-2.ensures)
    (past _ _ _ c.in_ok-audience_met.ensures
    (past _ _ _ (of_values (lifetime_unmet (requirements_value c.args.requirements.now)) _ _ _ _ _ c.in_ok-lifetime_met.ensures c.iat.ensures c.value-3.ensures)
    (stays _ _ _ (of_value (age_unmet (requirements_value c.args.requirements.now)) _ _ _ c.in_err-age_met.ensures c.value-4.ensures))))))

pub returns : goal.returns
unfolding unmet
returns c =
    past _ _ _ c.in_ok-present_met.ensures
    (past _ _ _ (of_value (text_unmet Issuer (requirements_value c.args.requirements.now).iss) _ _ _ c.in_ok-text_met.ensures c.value.ensures)
    (past _ _ _ (of_value (text_unmet Subject (requirements_value c.args.requirements.now).sub) _ _ _ c.in_ok-text_met-2.ensures c.value-2.ensures)
    (past _ _ _ c.in_ok-audience_met.ensures
    (past _ _ _ (of_values (lifetime_unmet (requirements_value c.args.requirements.now)) _ _ _ _ _ c.in_ok-lifetime_met.ensures c.iat.ensures c.value-3.ensures)
    (past _ _ _ (of_value (age_unmet (requirements_value c.args.requirements.now)) _ _ _ c.in_ok-age_met.ensures c.value-4.ensures)
    (of_value (issued_unmet (requirements_value c.args.requirements.now)) _ _ _ c.issued_met.ensures c.value-5.ensures))))))
