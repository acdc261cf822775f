use Rattle.std.proofs.Common.{refl, ap, ◌∙◌, arith}
use Rattle.cose_map.specs.Label.View.{label_value}
use Rattle.cose_map.specs.Map.Read.{Read}
use Rattle.cose_cwt.specs.Claims.{ClaimsValue}
use Rattle.cose_c.specs.Item.{claim_in, item_numbers}
use Rattle.cose_c.proofs.Items.{claim_holds}
use Rattle.cose_c.proofs.item.claim.Goals as goal

pub returns-in-Ok-clause-holds : goal.returns-in-Ok-clause-holds
returns-in-Ok-clause-holds c =
    let label = label_value c.args.label.now in
    claim_holds c.claims_are_of_a_tree.ensures c.children_are_of_tree.ensures.inside 16 c.args.payload.now (omega arith) label c.numbers_of.result _ refl
    (c.numbers_of.ensures ∙ ap item_numbers c.value.ensures ∙ ap (λ (read : Read ClaimsValue). item_numbers (claim_in label read)) c.in-Ok.ensures.exact)
