use Rattle.std.proofs.Common.{Err, ap, ◌∙◌}
use Rattle.std.proofs.lemmas.Result.{err_from_is_err_and}
use Rattle.cose_cwt.specs.Requirements.{unmet}
use Rattle.cose_cwt.proofs.FirstUnmet.{past, stays}
use Rattle.cose_c.proofs.required.Required.met_by.Goals as goal

pub returns-in_err-present_met : goal.returns-in_err-present_met
unfolding unmet
returns-in_err-present_met c =
    let p = err_from_is_err_and c.from_residual.result c.from_residual.ensures.1 in
    p.1 ∙ ap Err p.2 ∙ stays _ _ _ c.in_err-present_met.ensures

pub returns : goal.returns
unfolding unmet
returns c = past _ _ _ c.in_ok-present_met.ensures c.meets.ensures
