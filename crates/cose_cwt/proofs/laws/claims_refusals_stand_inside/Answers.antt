use Rattle.cose_cwt.proofs.Inside.{admission_inside, claims_inside, confirmation_inside}
use Rattle.cose_cwt.proofs.laws.claims_refusals_stand_inside.Goals as goal

pub returns-clause-confirmation : goal.returns-clause-confirmation
returns-clause-confirmation c = confirmation_inside c.whole_is_one_item.ensures.tree c.whole_is_one_item.ensures.inside c.refusals_stand_inside.ensures.map c.refusals_stand_inside.ensures.found

pub returns-clause-claims : goal.returns-clause-claims
returns-clause-claims c = claims_inside c.whole_is_one_item.ensures.tree c.whole_is_one_item.ensures.inside c.refusals_stand_inside.ensures.map c.refusals_stand_inside.ensures.found

pub returns-clause-admission : goal.returns-clause-admission
returns-clause-admission c = admission_inside c.whole_is_one_item.ensures.tree c.whole_is_one_item.ensures.inside c.refusals_stand_inside.ensures.map c.refusals_stand_inside.ensures.found
